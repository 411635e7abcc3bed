use Rattle.std.proofs.Common.{sym, ap, ◌∙◌, subst, List}
use Rattle.std.specs.Prelude.{is_ok}
use Rattle.grid_model.specs.Names.{Text}
use Rattle.grid_model.specs.Rows.{Cat}
use Rattle.grid_model.specs.Applying.{IsMade}
use Rattle.grid_model.specs.declared.plans.OldFile.{OldFile}
use Rattle.grid_journal.proofs.KeptDeltas.{plain_kept}
use Rattle.grid_deed.proofs.Keeping.{made_more}
use Rattle.plan_object.specs.ChksumPlans.{MayChksum}
use Rattle.service_run.proofs.SumSteps.{bad_plan, led_on}
use Rattle.service_run.proofs.summing.stale.Goals as goal

pub plan_chksum-requires-clause-made : goal.plan_chksum-requires-clause-made
plan_chksum-requires-clause-made g c =
    let store = c.args.store.now in
    subst IsMade (sym c.tables.ensures) (made_more c.requires.held.0 store.cat store.staged c.requires.held.1.made c.requires.held.1.staged)

pub plan_chksum-requires-clause-may : goal.plan_chksum-requires-clause-may
plan_chksum-requires-clause-may g c =
    let M : Cat → Type 0 = λ x. (user : Text) × (files : List OldFile) × MayChksum x user c.args.path.now files in
    subst M (sym c.tables.ensures) c.requires.may

pub stage-requires-clause-apply : goal.stage-requires-clause-apply
stage-requires-clause-apply g c =
    let may = c.requires.may in
    ap is_ok (bad_plan c.args.store.now.cat c.tables.result.now c.tables.ensures c.args.path.now c.as_slice.result.now c.in_ok-deltas.deltas c.args.bad.now (c.as_slice.ensures.value ∙ c.in_ok-numbers.ensures) c.in_ok-deltas.ensures may.0 may.1 may.2 0 0).applied

pub stage-requires-clause-spelled : goal.stage-requires-clause-spelled
stage-requires-clause-spelled g c =
    let may = c.requires.may in
    let plan = bad_plan c.args.store.now.cat c.tables.result.now c.tables.ensures c.args.path.now c.as_slice.result.now c.in_ok-deltas.deltas c.args.bad.now (c.as_slice.ensures.value ∙ c.in_ok-numbers.ensures) c.in_ok-deltas.ensures may.0 may.1 may.2 0 0 in
    plain_kept c.in_ok-deltas.deltas plan.spelled

pub returns : goal.returns
returns g c = λ kept user files word now held may.
    let cat = c.args.store.now.cat in
    let plan = bad_plan cat c.tables.result.now c.tables.ensures c.args.path.now c.as_slice.result.now c.in_ok-deltas.deltas c.args.bad.now (c.as_slice.ensures.value ∙ c.in_ok-numbers.ensures) c.in_ok-deltas.ensures user files may word now in
    led_on kept cat (may.of.ran word now c.args.bad.now) c.in_ok-deltas.deltas plan (g.D.Disk.disk c.args.outside.now.main) c.stage.new.store c.stage.result (c.stage.ensures kept plan.end held plan.applied)
