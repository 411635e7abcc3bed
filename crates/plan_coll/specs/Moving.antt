-- The rows of what is moved.
use Rattle.std.specs.Prelude.{◌≡◌, ℕ, Some, List, [], ◌∷◌, ◌++◌, IsTrue}
use Rattle.std.specs.List.{list_all}
use Rattle.grid_model.specs.Names.{Text, Path, is_name}
use Rattle.grid_model.specs.Rows.{Cat, collection, object}
use Rattle.grid_model.specs.declared.deltas.Delta.{Delta}
use Rattle.grid_model.specs.declared.deltas.Delta.TheVariants as delta
use Rattle.grid_model.specs.declared.deltas.CollectionRow.{CollectionRow}
use Rattle.grid_model.specs.declared.deltas.ObjectRow.{ObjectRow}
use Rattle.grid_journal.specs.Journal.{can_be_kept}

-- the last name of the path
pub record IsLastName (p : Path) (name : Text) : Type 0 where
  -- the names before it
  pub front : Path
  pub path_is : p ≡ front ++ name ∷ []
  pub named : IsTrue (is_name name)

-- the row of the collection with this id is put with this parent, under the last name of the path
pub record MovesCollection (c : Cat) (id parent : ℕ) (p : Path) (deltas : List Delta) : Type 0 where
  pub name : Text
  pub last : IsLastName p name
  pub old : CollectionRow
  pub found : collection c id ≡ Some old
  pub deltas_are : deltas ≡ delta.Collection (record { id = id; parent = parent; name = name; inherit = old.inherit }) ∷ []
  pub spelled : IsTrue (list_all can_be_kept deltas)

-- the same of an object, with what was last written
pub record MovesObject (c : Cat) (id parent : ℕ) (p : Path) (deltas : List Delta) : Type 0 where
  pub name : Text
  pub last : IsLastName p name
  pub old : ObjectRow
  pub found : object c id ≡ Some old
  pub deltas_are : deltas ≡ delta.Object (record old { collection = parent; name = name }) ∷ []
  pub spelled : IsTrue (list_all can_be_kept deltas)
