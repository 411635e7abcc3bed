use Rattle.std.proofs.Common.{List, sym, ap, ◌∙◌}
use Rattle.std.specs.Prelude.{filter, not}
use Rattle.std.specs.Ordering.{is_eq}
use Rattle.grid_tables.proofs.IndexKeys.{put_again, put_undone}
use Rattle.grid_tables.proofs.Outcomes.{none_so, some_so}
use Rattle.grid_tables.proofs.indexed.put_both.Goals as goal
use Rattle.grid_tables.proofs.indexed.put_both.Goals.{then-is_new-2, else-is_new-2}

pub returns-after-is_new-2-clause-kept : goal.returns-after-is_new-2-clause-kept
returns-after-is_new-2-clause-kept g c = elim c.if-is_new-2.branch [
  | then-is_new-2 w ↦
      w.keys-is ∙ w.remove.ensures
      ∙ ap (λ x. filter (λ k. not (is_eq (g.K.Key.order x k))) c.put.new.self) (ap g.K.IndexKey.of (w.new.ensures ∙ c.in-Err.ensures.back) ∙ sym c.requires.key)
      ∙ ap (λ (l : List g.row.K.Denot). filter (λ k. not (is_eq (g.K.Key.order c.args.key k))) l) c.in_ok-is_new.ensures.put
      ∙ put_undone g.K.Key.order g.met.K.Key.total c.args.key c.args.keys.now (none_so _ (sym c.in_ok-is_new.ensures.new ∙ w.if-is_new-2.true))
  | else-is_new-2 w ↦
      w.keys-is ∙ c.in_ok-is_new.ensures.put
      ∙ put_again g.K.Key.order g.met.K.Key.total g.met.K.IndexKey.whole c.args.key c.args.keys.now c.in_order.ensures (some_so _ (sym c.in_ok-is_new.ensures.new ∙ w.if-is_new-2.false))
]
