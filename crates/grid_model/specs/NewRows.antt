-- Rows that are new to a catalogue, by the path at which they stand.
use Rattle.std.specs.Prelude.{◌≡◌, ◌≢◌, ℕ, false, Some, None, [], ◌∷◌, ◌++◌, is_some, IsTrue}
use Rattle.std.specs.List.{AllByRecursion}
use Rattle.grid_model.specs.Names.{Text, Path, is_name}
use Rattle.grid_model.specs.Rows.{Cat, has_collection, has_object, collection_cmp, with_row}
use Rattle.grid_model.specs.RowPaths.{names_up, collection_at, object_at}
use Rattle.grid_model.specs.declared.deltas.CollectionRow.{CollectionRow}
use Rattle.grid_model.specs.declared.deltas.ObjectRow.{ObjectRow}

-- Each collection has a path, and each object lies in one that is there.
pub record HasPaths (c : Cat) : Type 0 where
  pub collections : (id : ℕ) → IsTrue (has_collection c id) → IsTrue (is_some (names_up c id))
  pub objects : AllByRecursion (λ o. IsTrue (has_collection c o.collection)) c.objects

-- the catalogue with one more collection
abbrev pub with_collection_row : Cat → CollectionRow → Cat
with_collection_row c r = record c { collections = with_row collection_cmp c.collections r }

-- Nothing has the path, which is that of this name in a collection that is there.
pub record IsFreeAt (c : Cat) (collection : ℕ) (name : Text) (p : Path) : Type 0 where
  pub above : Path
  pub parent : collection_at c above ≡ Some collection
  pub path_is : p ≡ above ++ name ∷ []
  pub named : IsTrue (is_name name)
  pub no_collection : collection_at c p ≡ None
  pub no_object : object_at c p ≡ None

-- The row is that of a new collection with this path, which does not hand its access on.
pub record IsNewAt (c : Cat) (r : CollectionRow) (p : Path) : Type 0 where
  pub some_id : r.id ≢ 0
  pub fresh : has_collection c r.id ≡ false
  pub free : IsFreeAt c r.parent r.name p
  pub plain : r.inherit ≡ false

-- The row is that of a new object with this path.
pub record IsNewObjectAt (c : Cat) (r : ObjectRow) (p : Path) : Type 0 where
  pub fresh : has_object c r.id ≡ false
  pub free : IsFreeAt c r.collection r.name p
