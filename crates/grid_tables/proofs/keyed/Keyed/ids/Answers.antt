use Rattle.std.proofs.Common.{◌≡◌, List, ℕ, sym, ap, ◌∙◌, subst}
use Rattle.std.specs.Prelude.{map}
use Rattle.std.specs.List.Sorted.{IsStrictlyIncreasing}
use Rattle.grid_model.proofs.RowOrders.{lower_id}
use Rattle.grid_model.proofs.TableLemmas.{IsStrictlyIncreasing-map}
use Rattle.grid_tables.proofs.Trees.{keys_are}
use Rattle.grid_tables.proofs.keyed.Keyed.ids.Goals as goal

numbers : (g : _) (c : goal.In_ok-ids g) → c.in_ok-ids.ids.items ≡ map g.T.Numbered.number c.args.self.now
numbers g c = c.in_ok-ids.ensures ∙ keys_are g.T.Numbered.number c.self.inside.rows.entries c.self.invariant.keys ∙ ap (λ (l : List g.row.T.Denot). map g.T.Numbered.number l) c.self.view_is

pub returns-clause-ids : goal.returns-clause-ids
returns-clause-ids g c = numbers g c

pub returns-clause-rising : goal.returns-clause-rising
returns-clause-rising g c =
    subst (λ (ids : List ℕ). IsStrictlyIncreasing ids) (sym (c.in_ok-ids.ensures ∙ keys_are g.T.Numbered.number c.self.inside.rows.entries c.self.invariant.keys))
    (IsStrictlyIncreasing-map g.T.Row.row_cmp g.T.Numbered.number (λ a b less. lower_id _ _ (sym (g.met.T.Numbered.by_number a b) ∙ less)) _ c.self.invariant.table.ordered)
