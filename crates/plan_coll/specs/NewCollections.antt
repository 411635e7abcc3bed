-- The changes that make a collection.
use Rattle.std.specs.Prelude.{◌≡◌, ◌≢◌, ℕ, false, List, [], ◌∷◌, ◌++◌, IsTrue}
use Rattle.std.specs.List.{list_all}
use Rattle.grid_model.specs.Names.{Path, is_name}
use Rattle.grid_model.specs.Rows.{Cat, has_collection}
use Rattle.grid_model.specs.declared.deltas.Delta.{Delta}
use Rattle.grid_model.specs.declared.deltas.Delta.TheVariants as delta
use Rattle.grid_model.specs.declared.deltas.CollectionRow.{CollectionRow}
use Rattle.grid_model.specs.declared.grid.ItemKind.TheVariants as kind
use Rattle.grid_journal.specs.Journal.{can_be_kept}
use Rattle.plan_base.specs.NewItems.{hands_on, new_entries}

-- a row of a new collection with the last name of the path in its parent, which hands its access on where that does
pub record IsRowFor (c : Cat) (parent : ℕ) (p : Path) (r : CollectionRow) : Type 0 where
  -- the names before the last one
  pub front : Path
  pub path_is : p ≡ front ++ r.name ∷ []
  pub named : IsTrue (is_name r.name)
  pub parent_is : r.parent ≡ parent
  pub some_id : r.id ≢ 0
  pub fresh : has_collection c r.id ≡ false
  pub inherit_is : r.inherit ≡ hands_on c parent
  pub spelled : IsTrue (can_be_kept (delta.Collection r))

-- the row is put, and then the access of the user who makes it and what is handed on
pub record MakesCollection (c : Cat) (user parent : ℕ) (p : Path) (deltas : List Delta) : Type 0 where
  pub row : CollectionRow
  pub is_row : IsRowFor c parent p row
  pub deltas_are : deltas ≡ delta.Collection row ∷ new_entries c user parent kind.Collection row.id
  pub spelled : IsTrue (list_all can_be_kept deltas)
