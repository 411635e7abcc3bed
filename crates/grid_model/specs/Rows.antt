-- The catalogue as rows (iRODS Primer, the iCAT metadata catalogue). Which tables there are, and what their rows have, is
-- this project's own. A table is the list of its rows in rising order of their keys, so that it is a finite map from key
-- to row, written out; the key of a row is part of it.
use Rattle.std.specs.Prelude.{ℕ, Bool, true, ◌&&◌, ◌||◌, ◌==◌, IsTrue, List, [], ◌∷◌, Option, None, find, filter}
use Rattle.std.specs.List.{list_any, AllByRecursion}
use Rattle.std.specs.List.Sorted.{IsStrictlySortedBy}
use Rattle.std.specs.declared.cmp.Ordering.{Ordering}
use Rattle.std.specs.declared.cmp.Ordering.TheVariants.{Less, Equal, Greater}
use Rattle.std.specs.Ordering.{nat_cmp, ordering_then}
use Rattle.grid_model.specs.Names.{Text, text_cmp, is_name}
use Rattle.grid_model.specs.declared.deltas.UserRow.{UserRow}
use Rattle.grid_model.specs.declared.deltas.MemberRow.{MemberRow}
use Rattle.grid_model.specs.declared.deltas.CollectionRow.{CollectionRow}
use Rattle.grid_model.specs.declared.deltas.ObjectRow.{ObjectRow}
use Rattle.grid_model.specs.declared.deltas.ReplicaRow.{ReplicaRow}
use Rattle.grid_model.specs.declared.deltas.TripleRow.{TripleRow}
use Rattle.grid_model.specs.declared.deltas.EntryRow.{EntryRow}
use Rattle.grid_model.specs.declared.deltas.ResourceRow.{ResourceRow}
use Rattle.grid_model.specs.declared.deltas.OrphanRow.{OrphanRow}
use Rattle.grid_model.specs.declared.deltas.Numbers.{Numbers}
use Rattle.grid_model.specs.declared.deltas.Pending.{Pending}
use Rattle.grid_model.specs.declared.deltas.Item.{Item}
use Rattle.grid_model.specs.declared.deltas.Item.TheVariants as item
use Rattle.grid_model.specs.declared.grid.ItemKind.{ItemKind}
use Rattle.grid_model.specs.declared.grid.ItemKind.TheVariants as kind

-- ---- keys

-- the kinds of items as their numbers, by which their rows are ordered
abbrev pub item_number : ItemKind → ℕ
item_number kind.Object = 1
item_number kind.Collection = 2
item_number kind.Resource = 3
item_number kind.User = 4

-- users and groups by the id
abbrev pub user_cmp : UserRow → UserRow → Ordering
user_cmp a b = nat_cmp a.id b.id

-- memberships by the group, and then by the user
abbrev pub member_cmp : MemberRow → MemberRow → Ordering
member_cmp a b = ordering_then (nat_cmp a.group b.group) (nat_cmp a.user b.user)

-- collections by the id
abbrev pub collection_cmp : CollectionRow → CollectionRow → Ordering
collection_cmp a b = nat_cmp a.id b.id

-- objects by the id
abbrev pub object_cmp : ObjectRow → ObjectRow → Ordering
object_cmp a b = nat_cmp a.id b.id

-- replicas by the object, and then by the number
abbrev pub replica_cmp : ReplicaRow → ReplicaRow → Ordering
replica_cmp a b = ordering_then (nat_cmp a.object b.object) (nat_cmp a.number b.number)

-- metadata by the item, and then by the three texts
abbrev pub triple_cmp : TripleRow → TripleRow → Ordering
triple_cmp a b =
    ordering_then (nat_cmp (item_number a.kind) (item_number b.kind))
    (ordering_then (nat_cmp a.id b.id)
    (ordering_then (text_cmp a.attribute b.attribute)
    (ordering_then (text_cmp a.value b.value) (text_cmp a.unit b.unit))))

-- access by the item, and then by the user
abbrev pub entry_cmp : EntryRow → EntryRow → Ordering
entry_cmp a b =
    ordering_then (nat_cmp (item_number a.kind) (item_number b.kind))
    (ordering_then (nat_cmp a.id b.id) (nat_cmp a.user b.user))

-- resources by the id
abbrev pub resource_cmp : ResourceRow → ResourceRow → Ordering
resource_cmp a b = nat_cmp a.id b.id

-- orphans by the vault number
abbrev pub orphan_cmp : OrphanRow → OrphanRow → Ordering
orphan_cmp a b = nat_cmp a.vault b.vault

-- ---- rows by themselves

-- a user or a group has a name
abbrev pub is_named_user : UserRow → Bool
is_named_user r = is_name r.name

-- `/` alone has no name
abbrev pub is_named_collection : CollectionRow → Bool
is_named_collection r = (r.id == 0) || is_name r.name

-- an object has a name
abbrev pub is_named_object : ObjectRow → Bool
is_named_object r = is_name r.name

-- a resource has a name
abbrev pub is_named_resource : ResourceRow → Bool
is_named_resource r = is_name r.name

-- ---- tables

-- the table with this row, which takes the place of the one with its key
abbrev pub with_row : {X : Type 0} → (X → X → Ordering) → List X → X → List X
with_row cmp [] row = row ∷ []
with_row cmp (r ∷ rows) row = elim (cmp row r) [ Less ↦ row ∷ r ∷ rows | Equal ↦ row ∷ rows | Greater ↦ r ∷ with_row cmp rows row ]

-- rows whose keys strictly rise, each of which passes a test
pub record IsTable {X : Type 0} (cmp : X → X → Ordering) (fits : X → Bool) (rows : List X) : Type 0 where
  -- no two rows have one key
  pub ordered : IsStrictlySortedBy cmp rows
  pub fit : AllByRecursion (λ r. IsTrue (fits r)) rows

-- ---- the catalogue

-- The tables, and what there is one of.
pub record Cat : Type 0 where
  -- the name of the zone, once it has one
  pub zone : Option Text
  -- how many stores there are: 0 without a zone
  pub stores : ℕ
  pub users : List UserRow
  pub members : List MemberRow
  pub collections : List CollectionRow
  pub objects : List ObjectRow
  pub replicas : List ReplicaRow
  pub triples : List TripleRow
  pub entries : List EntryRow
  pub resources : List ResourceRow
  -- the text of the rules, as it is printed
  pub rules : Text
  pub orphans : List OrphanRow
  pub numbers : Numbers
  pub pending : Option Pending

-- no rows, and the numbers at their starts
abbrev pub empty_cat : Cat
empty_cat = record {
  zone = None;
  stores = 0;
  users = [];
  members = [];
  collections = [];
  objects = [];
  replicas = [];
  triples = [];
  entries = [];
  resources = [];
  rules = [];
  orphans = [];
  numbers = record { next_vault = 1; run = 0; last = 0 };
  pending = None;
}

-- each table is one, and what has a name has one
pub record IsCat (c : Cat) : Type 0 where
  pub users : IsTable user_cmp is_named_user c.users
  pub members : IsTable member_cmp (λ _. true) c.members
  pub collections : IsTable collection_cmp is_named_collection c.collections
  pub objects : IsTable object_cmp is_named_object c.objects
  pub replicas : IsTable replica_cmp (λ _. true) c.replicas
  pub triples : IsTable triple_cmp (λ _. true) c.triples
  pub entries : IsTable entry_cmp (λ _. true) c.entries
  pub resources : IsTable resource_cmp is_named_resource c.resources
  pub orphans : IsTable orphan_cmp (λ _. true) c.orphans

-- ---- rows by their ids

-- the user or group with this id
abbrev pub user : Cat → ℕ → Option UserRow
user c id = find (λ r. r.id == id) c.users

-- the collection with this id
abbrev pub collection : Cat → ℕ → Option CollectionRow
collection c id = find (λ r. r.id == id) c.collections

-- the object with this id
abbrev pub object : Cat → ℕ → Option ObjectRow
object c id = find (λ r. r.id == id) c.objects

-- the resource with this id
abbrev pub resource : Cat → ℕ → Option ResourceRow
resource c id = find (λ r. r.id == id) c.resources

-- there is a user or a group with this id
abbrev pub has_user : Cat → ℕ → Bool
has_user c id = list_any (λ r. r.id == id) c.users

-- there is a collection with this id
abbrev pub has_collection : Cat → ℕ → Bool
has_collection c id = list_any (λ r. r.id == id) c.collections

-- there is an object with this id
abbrev pub has_object : Cat → ℕ → Bool
has_object c id = list_any (λ r. r.id == id) c.objects

-- there is a resource with this id
abbrev pub has_resource : Cat → ℕ → Bool
has_resource c id = list_any (λ r. r.id == id) c.resources

-- whether there is an item of this kind with this id
abbrev pub item_there : Cat → ItemKind → ℕ → Bool
item_there c kind.Object id = has_object c id
item_there c kind.Collection id = has_collection c id
item_there c kind.Resource id = has_resource c id
item_there c kind.User id = has_user c id

-- whether a user is in a group
abbrev pub is_member : Cat → ℕ → ℕ → Bool
is_member c group user = list_any (λ m. (m.group == group) && (m.user == user)) c.members

-- ---- what belongs to an item

-- whether this is the item of that kind and id
abbrev pub same_item : ItemKind → ℕ → ItemKind → ℕ → Bool
same_item k id kind id' = (item_number k == item_number kind) && (id == id')

-- the replicas of an object, by number
abbrev pub replicas_of : Cat → ℕ → List ReplicaRow
replicas_of c id = filter (λ r. r.object == id) c.replicas

-- the metadata of an item, in order
abbrev pub triples_of : Cat → ItemKind → ℕ → List TripleRow
triples_of c k id = filter (λ t. same_item t.kind t.id k id) c.triples

-- the access that an item gives, by user
abbrev pub access_of : Cat → ItemKind → ℕ → List EntryRow
access_of c k id = filter (λ e. same_item e.kind e.id k id) c.entries

-- what an item is
abbrev pub kind_of : Item → ItemKind
kind_of (item.Object id) = kind.Object
kind_of (item.Collection id) = kind.Collection
kind_of (item.Resource id) = kind.Resource
kind_of (item.User id) = kind.User

-- the id that it has in its table
abbrev pub id_of : Item → ℕ
id_of (item.Object id) = id
id_of (item.Collection id) = id
id_of (item.Resource id) = id
id_of (item.User id) = id
