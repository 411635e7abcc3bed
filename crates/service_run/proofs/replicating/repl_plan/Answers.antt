use Rattle.std.proofs.Common.{sym, subst}
use Rattle.std.specs.Prelude.{◌≤◌, length}
use Rattle.grid_model.specs.Operations.Replicas.{repl_row}
use Rattle.grid_model.specs.RowGrids.{grid_of}
use Rattle.grid_model.specs.Rows.{Cat}
use Rattle.grid_model.specs.declared.plans.Plan.{Plan}
use Rattle.grid_headline.specs.Numbers.{leaf_count}
use Rattle.plan_object.specs.ReplPlans.{CopiesFile, MayRepl}
use Rattle.service_run.proofs.DeedSteps.{if_same}
use Rattle.service_run.proofs.replicating.repl_plan.Goals as goal

pub returns-clause-plans : goal.returns-clause-plans
returns-clause-plans c user from now may =
    let M : Cat → Type 0 = λ e. MayRepl e user c.args.path.now c.args.resource.now from in
    let P : Cat → Type 0 = λ e. CopiesFile e (repl_row (grid_of e) user c.args.path.now c.args.resource.now) c.args.word now from c.in_ok-plan.plan in
    if_same (CopiesFile c.args.store.now.cat (repl_row (grid_of c.args.store.now.cat) user c.args.path.now c.args.resource.now) c.args.word now from) c.in_ok-plan.plan c.with_few_files.result c.with_few_files.ensures.is
    (subst P c.tables.ensures (c.in_ok-plan.ensures.copies user from now (subst M (sym c.tables.ensures) may)))

pub returns-clause-leaves : goal.returns-clause-leaves
returns-clause-leaves c =
    let L : Plan → Type 0 = λ p. length p.files ≤ leaf_count c.args.store.now.cat in
    let F : Cat → Type 0 = λ e. length c.in_ok-plan.plan.files ≤ leaf_count e in
    if_same L c.in_ok-plan.plan c.with_few_files.result c.with_few_files.ensures.is (subst F c.tables.ensures c.in_ok-plan.ensures.few)
