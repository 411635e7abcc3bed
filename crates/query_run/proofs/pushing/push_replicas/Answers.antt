use Rattle.query_run.specs.Parts.{rows_with}
use Rattle.query_run.proofs.ListLemmas.{flat_turn}
use Rattle.query_run.proofs.pushing.push_replicas.Goals as goal

pub loop-replica-preserved : goal.loop-replica-preserved
loop-replica-preserved c = record {
  rows =
      flat_turn (rows_with c.args.tables.now c.args.query.now c.args.parts.now) c.args.replicas.now c.loop-replica.replica-index c.replica-item.result c.loop-replica.rows.items c.push_replica.new.rows.items _
      c.loop-replica-test.true c.replica-item.is c.loop-replica.invariant.rows c.in_ok-push_replica.ensures.rows;
  words = λ h. c.in_ok-push_replica.ensures.words (c.loop-replica.invariant.words h);
}
