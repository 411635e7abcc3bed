use Rattle.std.proofs.Common.{refl, sym, subst}
use Rattle.grid_model.specs.declared.queries.Cond.{Cond}
use Rattle.tables_laws.proofs.Rows.{IsIn}
use Rattle.query_run.proofs.ListLemmas.{in_at}
use Rattle.query_run.proofs.narrowing.literal_of.Goals as goal

pub returns-then-asks_for : goal.returns-then-asks_for
returns-then-asks_for c =
    let xs = c.args.conds.now in
    let its = c.asks_for.ensures c.if-asks_for.true in
    record {
      cond = c.cond-item.result;
      there = subst (λ (x : Cond). IsIn xs x) (sym c.cond-item.is) (in_at xs c.loop-cond.cond-index c.cond-item.result c.loop-cond-test.true);
      column_is = its.0;
      op_is = its.1;
      text_is = refl;
    }
