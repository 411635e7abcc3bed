-- What holds of each catalogue that deltas make of the empty one: its collections are a tree with the objects in it, and
-- its other rows speak of rows that are there.
use Rattle.std.specs.Prelude.{◌≡◌, ℕ, ◌<◌, ◌==◌, ◌||◌, false, IsTrue, Some, is_some}
use Rattle.std.specs.List.{list_any, AllByRecursion}
use Rattle.grid_model.specs.Names.{Path, parent}
use Rattle.grid_model.specs.Rows.{Cat, user, resource, item_there, kind_of, id_of}
use Rattle.grid_model.specs.RowPaths.{collection_path, item_path, collection_at, object_at}
use Rattle.grid_model.specs.Applying.{gives_access, can_join, replica_fits, entry_fits, is_user, is_node, slot_fits}
use Rattle.grid_model.specs.declared.deltas.Item.{Item}
use Rattle.grid_model.specs.declared.deltas.Item.TheVariants as item
use Rattle.grid_model.specs.declared.deltas.UserRow.{UserRow}
use Rattle.grid_model.specs.declared.deltas.ResourceRow.{ResourceRow}
use Rattle.grid_model.specs.declared.deltas.OrphanRow.{OrphanRow}
use Rattle.grid_model.specs.declared.deltas.Pending.{Pending}

-- each collection and each object has one path, which is of nothing else; and all but `/` lie in a collection
pub record IsTree (c : Cat) : Type 0 where
  -- an object or a collection has a path where it is there, and only there
  pub placed : (x : Item) → IsTrue (gives_access (kind_of x)) → is_some (item_path c x) ≡ item_there c (kind_of x) (id_of x)
  -- no two of them have one path
  pub apart : (x y : Item) (path : Path) → item_path c x ≡ Some path → item_path c y ≡ Some path → x ≡ y
  -- the path above one is that of a collection
  pub inside : (x : Item) (path above : Path) → item_path c x ≡ Some path → parent path ≡ Some above → (id : ℕ) × (collection_path c id ≡ Some above)
  -- what has a path is found there
  pub collections_found : (id : ℕ) (path : Path) → collection_path c id ≡ Some path → collection_at c path ≡ Some id
  pub objects_found : (id : ℕ) (path : Path) → item_path c (item.Object id) ≡ Some path → object_at c path ≡ Some id
  -- and what is found there has it
  pub collections_only : (id : ℕ) (path : Path) → collection_at c path ≡ Some id → collection_path c id ≡ Some path
  pub objects_only : (id : ℕ) (path : Path) → object_at c path ≡ Some id → item_path c (item.Object id) ≡ Some path

-- its vault number was drawn and no replica has it, and there is a store at its slot
abbrev pub OrphanStands : Cat → OrphanRow → Type 0
OrphanStands c o = (0 < o.vault) × (o.vault < c.numbers.next_vault) × (list_any (λ r. r.vault == o.vault) c.replicas ≡ false) × (o.slot < c.stores)

-- a leaf is at the slot of a store, and a parent is a resource that is no leaf
abbrev pub ResourceStands : Cat → ResourceRow → Type 0
ResourceStands c r = IsTrue (slot_fits c r.kind r.slot) × IsTrue ((r.parent == 0) || is_node c r.parent)

-- what rows speak of is there, no two rows have one vault number, and no two users or resources one name
pub record IsTied (c : Cat) : Type 0 where
  -- of a group and a user
  pub members : AllByRecursion (λ m. IsTrue (can_join c m)) c.members
  -- each replica could be put again: its object and its leaf are there, no other one of the object is on the leaf, and no
  -- other row has its vault number, which was drawn
  pub replicas : AllByRecursion (λ r. IsTrue (replica_fits c r)) c.replicas
  -- of an item
  pub triples : AllByRecursion (λ t. IsTrue (item_there c t.kind t.id)) c.triples
  -- each could be put again: its item, which gives access, and its user are there
  pub entries : AllByRecursion (λ e. IsTrue (entry_fits c e)) c.entries
  pub resources : AllByRecursion (ResourceStands c) c.resources
  pub orphans : AllByRecursion (OrphanStands c) c.orphans
  pub user_names : (a b : ℕ) (u v : UserRow) → user c a ≡ Some u → user c b ≡ Some v → u.name ≡ v.name → a ≡ b
  pub resource_names : (a b : ℕ) (r s : ResourceRow) → resource c a ≡ Some r → resource c b ≡ Some s → r.name ≡ s.name → a ≡ b
  -- who gave the command that is not done is a user
  pub pending : (p : Pending) → c.pending ≡ Some p → IsTrue (is_user c p.user)
