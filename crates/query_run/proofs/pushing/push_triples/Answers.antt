use Rattle.query_run.specs.Parts.{row_with}
use Rattle.query_run.proofs.ListLemmas.{flat_turn}
use Rattle.query_run.proofs.pushing.push_triples.Goals as goal

pub loop-triple-preserved : goal.loop-triple-preserved
loop-triple-preserved c = record {
  rows =
      flat_turn (row_with c.args.tables.now c.args.query.now c.args.parts.now) c.args.triples.now c.loop-triple.triple-index c.triple-item.result c.loop-triple.rows.items c.push_row.new.rows.items _
      c.loop-triple-test.true c.triple-item.is c.loop-triple.invariant.rows c.in_ok-push_row.ensures.rows;
  words = λ h. c.in_ok-push_row.ensures.words (c.loop-triple.invariant.words h);
}
