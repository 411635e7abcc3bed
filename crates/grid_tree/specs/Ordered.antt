-- The children of a resource in the order of their places, by the rows.
use Rattle.std.specs.Prelude.{ℕ, List, map, filter}
use Rattle.std.specs.List.Sorted.{IsNonDecreasingBy, IsPermutation}
use Rattle.grid_model.specs.Rows.{Cat}
use Rattle.grid_model.specs.declared.deltas.ResourceRow.{ResourceRow}
use Rattle.grid_tree.specs.Steps.{lies_below}
use Rattle.grid_tree.specs.declared.siblings.Child.{Child}

-- what is kept of a row
abbrev pub child_of : ResourceRow → Child
child_of r = record { place = r.place; id = r.id }

-- these are the children of the resource with this id, and their places rise
pub record AreByPlace (c : Cat) (parent : ℕ) (kids : List Child) : Type 0 where
  pub are : IsPermutation (map child_of (filter (lies_below parent) c.resources)) kids
  pub rise : IsNonDecreasingBy (λ (k : Child). k.place) kids
