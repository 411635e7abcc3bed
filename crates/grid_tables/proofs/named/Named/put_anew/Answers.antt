use Rattle.std.proofs.Common.{◌==◌, List, sym, ap, ◌∙◌, subst}
use Rattle.std.specs.Prelude.{filter, not, ◌&&◌}
use Rattle.std.specs.List.{list_any}
use Rattle.std.specs.Ordering.{is_eq}
use Rattle.grid_tables.specs.ChildKeys.{AreNamed, child_cmp, child_of}
use Rattle.grid_tables.specs.Indexes.{is_placed}
use Rattle.grid_tables.proofs.Children.{named_moved, named_put}
use Rattle.grid_tables.proofs.named.Named.put_anew.Goals as goal

pub invariant_of-self-in-Some : goal.invariant_of-self-in-Some
invariant_of-self-in-Some g c =
    let free = ap (λ (l : List g.row.T.Denot). list_any (λ o. is_placed g.T.Placed.parent g.T.Placed.name (g.T.Placed.parent c.args.row) (g.T.Placed.name c.args.row) o && not (g.T.Numbered.number o == g.T.Numbered.number c.args.row)) l)
    c.self.view_is ∙ c.requires.free in
    let left = c.remove.ensures ∙ ap (λ x. filter (λ k. not (is_eq (child_cmp (child_of g.T.Numbered.number g.T.Placed.parent g.T.Placed.name x) k))) c.put_both.new.keys) c.new.ensures in
    subst (λ (l : List g.row.T.Denot). AreNamed g.T.Numbered.number g.T.Placed.parent g.T.Placed.name l c.remove.new.self) (sym c.in_ok-old.ensures.put)
    (named_moved g.T.Numbered.number g.T.Placed.parent g.T.Placed.name g.T.Row.row_cmp g.met.T.Row.total g.met.T.Numbered.by_number c.self.inside.rows c.len-count.ensures.table.ordered
    c.self.inside.keys c.self.invariant
    c.args.row free c.in_ok-key.key c.in_ok-key.ensures c.put_both.new.keys c.in_ok-old.ensures.keys
    c.in-Some.old (sym c.in-Some.is ∙ c.in_ok-old.ensures.replaced) c.remove.new.self left)

pub invariant_of-self-in-None : goal.invariant_of-self-in-None
invariant_of-self-in-None g c =
    let free = ap (λ (l : List g.row.T.Denot). list_any (λ o. is_placed g.T.Placed.parent g.T.Placed.name (g.T.Placed.parent c.args.row) (g.T.Placed.name c.args.row) o && not (g.T.Numbered.number o == g.T.Numbered.number c.args.row)) l)
    c.self.view_is ∙ c.requires.free in
    subst (λ (l : List g.row.T.Denot). AreNamed g.T.Numbered.number g.T.Placed.parent g.T.Placed.name l c.put_both.new.keys) (sym c.in_ok-old.ensures.put)
    (named_put g.T.Numbered.number g.T.Placed.parent g.T.Placed.name g.T.Row.row_cmp g.met.T.Row.total g.met.T.Numbered.by_number c.self.inside.rows c.len-count.ensures.table.ordered
    c.self.inside.keys c.self.invariant
    c.args.row free c.in_ok-key.key c.in_ok-key.ensures c.put_both.new.keys c.in_ok-old.ensures.keys
    (sym c.in-None.is ∙ c.in_ok-old.ensures.replaced))
