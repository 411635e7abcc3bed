use Rattle.std.proofs.Common.{List, sym, ap, ◌∙◌}
use Rattle.std.specs.Prelude.{filter, not}
use Rattle.std.specs.Ordering.{is_eq}
use Rattle.grid_tables.specs.declared.child_key.ChildKey.{ChildKey}
use Rattle.grid_tables.specs.ChildKeys.{child_cmp, child_of, child_total, child_whole}
use Rattle.grid_tables.proofs.IndexKeys.{put_again, put_undone}
use Rattle.grid_tables.proofs.Outcomes.{none_so, some_so}
use Rattle.grid_tables.proofs.named.put_both.Goals as goal
use Rattle.grid_tables.proofs.named.put_both.Goals.{then-is_new-2, else-is_new-2}

pub returns-after-is_new-2-clause-kept : goal.returns-after-is_new-2-clause-kept
returns-after-is_new-2-clause-kept g c = elim c.if-is_new-2.branch [
  | then-is_new-2 w ↦
      w.keys-is ∙ w.remove.ensures
      ∙ ap (λ (x : ChildKey). filter (λ k. not (is_eq (child_cmp x k))) c.put.new.self)
      (ap (child_of g.T.Numbered.number g.T.Placed.parent g.T.Placed.name) (w.new.ensures ∙ c.in-Err.ensures.back) ∙ sym c.requires.key)
      ∙ ap (λ (l : List ChildKey). filter (λ k. not (is_eq (child_cmp c.args.key k))) l) c.in_ok-is_new.ensures.put
      ∙ put_undone child_cmp child_total c.args.key c.args.keys.now (none_so _ (sym c.in_ok-is_new.ensures.new ∙ w.if-is_new-2.true))
  | else-is_new-2 w ↦
      w.keys-is ∙ c.in_ok-is_new.ensures.put
      ∙ put_again child_cmp child_total child_whole c.args.key c.args.keys.now c.in_order.ensures (some_so _ (sym c.in_ok-is_new.ensures.new ∙ w.if-is_new-2.false))
]
