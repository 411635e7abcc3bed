use Rattle.std.proofs.Common.{sym, subst}
use Rattle.std.specs.Prelude.{◌≤◌, IsTrue, length}
use Rattle.grid_model.specs.Applying.{is_user}
use Rattle.grid_model.specs.Operations.Replicas.{copy_row}
use Rattle.grid_model.specs.RowGrids.{grid_of, user_name}
use Rattle.grid_model.specs.Rows.{Cat}
use Rattle.grid_model.specs.declared.plans.Plan.{Plan}
use Rattle.grid_headline.specs.Numbers.{leaf_count}
use Rattle.plan_object.specs.CopyPlans.{MayCopy}
use Rattle.plan_object.specs.ReplPlans.{CopiesFile}
use Rattle.service_run.proofs.DeedSteps.{if_same}
use Rattle.service_run.proofs.copying_objects.copy_plan.Goals as goal

pub plan_copy-requires-clause-user : goal.plan_copy-requires-clause-user
plan_copy-requires-clause-user c = let U : Cat → Type 0 = λ e. IsTrue (is_user e c.args.user) in subst U (sym c.tables.ensures) c.requires.user

pub plan_copy-requires-clause-may : goal.plan_copy-requires-clause-may
plan_copy-requires-clause-may c =
    let M : Cat → Type 0 = λ e. MayCopy e (user_name e c.args.user) c.requires.may.0 c.args.to.now c.args.resource.now c.args.file.now in
    (c.requires.may.0, subst M (sym c.tables.ensures) c.requires.may.1)

pub returns-clause-plans : goal.returns-clause-plans
returns-clause-plans c from may =
    let user = c.args.user in
    let cat = c.args.store.now.cat in
    let plan = c.in_ok-plan.plan in
    let M : Cat → Type 0 = λ e. MayCopy e (user_name e user) from c.args.to.now c.args.resource.now c.args.file.now in
    let P : Cat → Type 0 = λ e. CopiesFile e (copy_row (grid_of e) (user_name e user) from c.args.to.now c.args.resource.now) c.args.word c.args.now c.args.file.now plan in
    if_same (CopiesFile cat (copy_row (grid_of cat) (user_name cat user) from c.args.to.now c.args.resource.now) c.args.word c.args.now c.args.file.now) plan c.with_few_files.result c.with_few_files.ensures.is
    (subst P c.tables.ensures (c.in_ok-plan.ensures.copies from (subst M (sym c.tables.ensures) may)))

pub returns-clause-leaves : goal.returns-clause-leaves
returns-clause-leaves c =
    let L : Plan → Type 0 = λ p. length p.files ≤ leaf_count c.args.store.now.cat in
    let F : Cat → Type 0 = λ e. length c.in_ok-plan.plan.files ≤ leaf_count e in
    if_same L c.in_ok-plan.plan c.with_few_files.result c.with_few_files.ensures.is (subst F c.tables.ensures c.in_ok-plan.ensures.few)
