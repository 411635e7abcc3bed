use Rattle.std.proofs.Common.{List, sym, ap, ◌∙◌, subst}
use Rattle.std.specs.Prelude.{filter, not}
use Rattle.std.specs.Ordering.{is_eq}
use Rattle.grid_tables.specs.ChildKeys.{AreNamed, child_cmp, child_of}
use Rattle.grid_tables.proofs.Children.{named_same, named_without}
use Rattle.grid_tables.proofs.named.Named.remove.Goals as goal

pub invariant_of-self : goal.invariant_of-self
invariant_of-self g c =
    let left = c.remove-in-Some.ensures ∙ ap (λ x. filter (λ k. not (is_eq (child_cmp (child_of g.T.Numbered.number g.T.Placed.parent g.T.Placed.name x) k))) c.self.inside.keys) c.new.ensures in
    subst (λ (l : List g.row.T.Denot). AreNamed g.T.Numbered.number g.T.Placed.parent g.T.Placed.name l c.remove-in-Some.new.self) (sym c.in-Some.ensures.left)
    (named_without g.T.Numbered.number g.T.Placed.parent g.T.Placed.name g.T.Row.row_cmp g.met.T.Row.total g.met.T.Numbered.by_number c.self.inside.rows c.len-count.ensures.table.ordered
    c.self.inside.keys c.self.invariant
    c.args.id c.in-Some.row c.in-Some.ensures.gone c.remove-in-Some.new.self left)

pub invariant_of-self-in-None : goal.invariant_of-self-in-None
invariant_of-self-in-None g c =
    subst (λ (l : List g.row.T.Denot). AreNamed g.T.Numbered.number g.T.Placed.parent g.T.Placed.name l c.self.inside.keys) (sym c.in-None.ensures.left)
    (named_same g.T.Numbered.number g.T.Placed.parent g.T.Placed.name g.T.Row.row_cmp g.met.T.Row.total g.met.T.Numbered.by_number c.self.inside.rows c.len-count.ensures.table.ordered
    c.self.inside.keys c.self.invariant
    c.args.id c.in-None.ensures.gone)
