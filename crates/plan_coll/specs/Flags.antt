-- The row of a collection that hands its access on from now on, or no longer does.
use Rattle.std.specs.Prelude.{◌≡◌, ◌≢◌, ℕ, Bool, [], Some}
use Rattle.grid_model.specs.Rows.{Cat, collection}
use Rattle.grid_model.specs.declared.deltas.CollectionRow.{CollectionRow}

-- that of `/`, or that of another collection with this flag
pub data IsFlagged (c : Cat) (id : ℕ) (on : Bool) (r : CollectionRow) : Type 0 where
  root : id ≡ 0 → r ≡ record { id = 0; parent = 0; name = []; inherit = on } → IsFlagged c id on r
  inner : id ≢ 0 → (old : CollectionRow) → collection c id ≡ Some old → r ≡ record old { inherit = on } → IsFlagged c id on r
