use Rattle.std.proofs.Common.{IsTrue, sym, ap, subst}
use Rattle.std.specs.Result.{is_ok}
use Rattle.grid_model.specs.declared.deltas.Delta.TheVariants as delta
use Rattle.grid_model.specs.declared.deltas.Pending.{Pending}
use Rattle.grid_journal.specs.Journal.{can_be_kept}
use Rattle.grid_journal.proofs.KeptDeltas.{plain_kept}
use Rattle.service_run.specs.Commands.{noted_in}
use Rattle.service_run.specs.Noting.{with_pending}
use Rattle.service_run.proofs.SameRows.{applied_noted}
use Rattle.service_run.proofs.noting.announce.Goals as goal

pub stage-requires-clause-apply : goal.stage-requires-clause-apply
stage-requires-clause-apply g c =
    ap is_ok (applied_noted c.args.store.now.cat (noted_in c.args.command.now c.args.call.now c.args.undo.now) c.requires.user c.in_ok-pending.pending c.in_ok-pending.ensures c.in_ok-deltas.deltas c.in_ok-deltas.ensures.is)

pub stage-requires-clause-spelled : goal.stage-requires-clause-spelled
stage-requires-clause-spelled g c =
    plain_kept c.in_ok-deltas.deltas (c.in_ok-deltas.ensures.spelled (subst (λ (p : Pending). IsTrue (can_be_kept (delta.Pending p))) (sym c.in_ok-pending.ensures) c.requires.spelled))

pub returns : goal.returns
returns g c kept held =
    let p = noted_in c.args.command.now c.args.call.now c.args.undo.now in
    c.stage.ensures kept (with_pending c.args.store.now.cat p) held (applied_noted c.args.store.now.cat p c.requires.user c.in_ok-pending.pending c.in_ok-pending.ensures c.in_ok-deltas.deltas c.in_ok-deltas.ensures.is)
