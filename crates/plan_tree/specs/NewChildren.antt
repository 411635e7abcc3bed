-- The changes that make a resource the last child of another one, by the rows.
use Rattle.std.specs.Prelude.{◌≡◌, ◌==◌, ℕ, ◌+◌, ◌-◌, true, false, List, [], ◌∷◌, ◌++◌, length, Option, Some, None, slice_get}
use Rattle.grid_model.specs.Rows.{Cat, resource}
use Rattle.grid_model.specs.declared.deltas.Delta.{Delta}
use Rattle.grid_model.specs.declared.deltas.Delta.TheVariants as delta
use Rattle.grid_model.specs.declared.deltas.ResourceRow.{ResourceRow}
use Rattle.grid_tree.specs.declared.siblings.Child.{Child}

-- the place behind the last child, if there may be one
abbrev pub place_after : Option Child → Option ℕ
place_after None = Some 0
place_after (Some k) = elim (k.place == 4294967295) [ true ↦ None | false ↦ Some (k.place + 1) ]

-- the place behind these
abbrev pub place_behind : List Child → Option ℕ
place_behind kids = place_after (slice_get kids (length kids - 1))

-- the row of a resource at this place of its parent
pub record IsMovedRow (c : Cat) (id place : ℕ) (r : ResourceRow) : Type 0 where
  pub old : ResourceRow
  pub found : resource c id ≡ Some old
  pub row_is : r ≡ record old { place = place }

-- the change that puts a resource at this place of its parent
abbrev pub row_moved : ℕ → Option ResourceRow → List Delta
row_moved place None = []
row_moved place (Some r) = delta.Resource (record r { place = place }) ∷ []

-- these have the places from this one on
abbrev pub numbered_anew : Cat → ℕ → List Child → List Delta
numbered_anew c place [] = []
numbered_anew c place (k ∷ kids) = row_moved place (resource c k.id) ++ numbered_anew c (place + 1) kids

-- a resource is put behind these children of another one, which are numbered anew first where there is no place behind them
abbrev pub child_put : Cat → ℕ → ResourceRow → List Child → List Delta
child_put c parent x kids = elim (place_behind kids) [
  | Some place ↦ delta.Resource (record x { parent = parent; place = place }) ∷ []
  | None ↦ numbered_anew c 0 kids ++ delta.Resource (record x { parent = parent; place = length kids }) ∷ []
]
