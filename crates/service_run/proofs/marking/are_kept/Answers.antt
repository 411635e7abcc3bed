use Rattle.std.proofs.Common.{Some, sym, ap, ◌∙◌}
use Rattle.std.proofs.lemmas.Option.{slice_get-get_or}
use Rattle.service_run.proofs.StillSteps.{one_more_fits}
use Rattle.service_run.proofs.marking.are_kept.Goals as goal

pub loop-replica-preserved : goal.loop-replica-preserved
loop-replica-preserved c =
    let bad = c.args.bad.now in
    let at = slice_get-get_or bad c.loop-replica.replica-index c.replica-item.result c.loop-replica-test.true ∙ ap Some (sym c.replica-item.is) in
    one_more_fits bad c.loop-replica.replica-index c.replica-item.result at c.loop-replica.invariant c.replica_is_kept.ensures
