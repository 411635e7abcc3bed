-- What the rows have at a path.
use Rattle.std.specs.Prelude.{◌≡◌, ℕ, find, option_map, Option, None, Some, Result, Ok, Err}
use Rattle.grid_model.specs.Names.{Path, parent}
use Rattle.grid_model.specs.Rows.{Cat}
use Rattle.grid_model.specs.RowPaths.{collection_at, object_at}
use Rattle.grid_model.specs.RowGrids.{grid_of}
use Rattle.grid_model.specs.Applying.{is_entry}
use Rattle.grid_model.specs.Operations.Common.{collection_above}
use Rattle.grid_model.specs.declared.deltas.Item.{Item}
use Rattle.grid_model.specs.declared.deltas.Item.TheVariants as item
use Rattle.grid_model.specs.declared.grid.ItemKind.{ItemKind}
use Rattle.grid_model.specs.declared.grid.Level.{Level}
use Rattle.grid_model.specs.declared.plans.PlanError.{PlanError}
use Rattle.grid_model.specs.declared.plans.PlanError.TheVariants.{Refused, Memory}

-- nothing is at the path
pub record IsFree (c : Cat) (p : Path) : Type 0 where
  pub no_collection : collection_at c p ≡ None
  pub no_object : object_at c p ≡ None

-- the object or the collection is at the path
abbrev pub IsAt : Cat → Path → Item → Type 0
IsAt c p (item.Object id) = object_at c p ≡ Some id
IsAt c p (item.Collection id) = collection_at c p ≡ Some id
IsAt c p other = ⊥

-- what is at the path lies in the collection with this id
pub record LiesIn (c : Cat) (p : Path) (id : ℕ) : Type 0 where
  -- the path of the collection
  pub above : Path
  pub parent_is : parent p ≡ Some above
  pub is_above : collection_above (grid_of c) p ≡ Ok above
  pub at : collection_at c above ≡ Some id

-- what looking for the collection above a path gives
abbrev pub FindsAbove : Cat → Path → Result ℕ PlanError → Type 0
FindsAbove c p (Ok id) = LiesIn c p id
FindsAbove c p (Err (Refused r)) = collection_above (grid_of c) p ≡ Err r
FindsAbove c p (Err Memory) = Unit {0}

-- the level that an item gives a user or a group by an entry of its own
abbrev pub entry_level : Cat → ItemKind → ℕ → ℕ → Option Level
entry_level c k id user = option_map (λ e. e.level) (find (is_entry k id user) c.entries)
