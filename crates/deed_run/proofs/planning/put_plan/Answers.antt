use Rattle.std.proofs.Common.{◌≤◌, Err, length, refl, sym, ap, ◌∙◌, subst}
use Rattle.grid_model.specs.Digests.{HasDigest}
use Rattle.grid_model.specs.Rows.{Cat}
use Rattle.grid_model.specs.RowGrids.{user_name}
use Rattle.grid_headline.specs.Numbers.{leaf_count}
use Rattle.plan_object.specs.Writing.{FindsTargets, GoesOnlyTo, PlansWriting, Wanted}
use Rattle.plan_object.proofs.PutDeeds.{writes_put}
use Rattle.deed_run.proofs.planning.put_plan.Goals as goal

pub unreachable-requires : goal.unreachable-requires
unreachable-requires c =
    let cat = c.args.store.now.cat in
    let w : Wanted = record { path = c.args.path.now; resource = c.args.resource.now; mode = c.args.mode; size = length c.args.body.now } in
    let F : _ → Type 0 = λ r. FindsTargets cat (user_name cat c.args.user) w c.args.word r in
    let refused = subst F (c.in-Err-Refused.is ∙ ap Err c.in-Err-Refused.field-0-is) c.find_targets.ensures in
    let both = sym (refused c.args.body.now refl) ∙ c.requires.may.1 in
    cc

pub returns-clause-plans : goal.returns-clause-plans
returns-clause-plans c =
    let cat = c.args.store.now.cat in
    let user = c.args.user in
    let body = c.args.body.now in
    let plan = c.in_ok-plan.plan in
    let leaves = c.in-Ok.leaves in
    let digest = c.of-digest.result in
    let w : Wanted = record { path = c.args.path.now; resource = c.args.resource.now; mode = c.args.mode; size = length body } in
    let F : _ → Type 0 = λ r. FindsTargets cat (user_name cat user) w c.args.word r in
    let goes = subst F c.in-Ok.is c.find_targets.ensures in
    let P : Cat → Type 0 = λ x. PlansWriting x (user_name x user) c.args.path.now leaves (record { size = length body; digest = digest; now = c.args.now }) plan in
    let O : Cat → Type 0 = λ x. GoesOnlyTo x leaves plan in
    let has : HasDigest (length body) digest body = record { size = refl; digest = sym c.of-digest.ensures } in
    writes_put cat c.requires.made (user_name cat user) w c.args.word leaves goes digest c.args.now plan body has (subst P c.tables.ensures c.in_ok-plan.ensures.plan) (subst O c.tables.ensures c.in_ok-plan.ensures.slots)

pub returns-clause-leaves : goal.returns-clause-leaves
returns-clause-leaves c = let F : Cat → Type 0 = λ e. length c.in_ok-plan.plan.files ≤ leaf_count e in subst F c.tables.ensures c.in_ok-plan.ensures.few
