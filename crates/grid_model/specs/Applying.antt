-- What a delta makes of the catalogue, or why it is refused: the cause is the number of the delta's kind, its tag. Which
-- deltas there are and when they are refused is this project's own; that a resource is a leaf that stores or a node
-- above others is of iRODS (iRODS documentation, composable resources).
use Rattle.std.specs.Prelude.{◌≡◌, ℕ, zero, suc, Bool, true, false, not, ◌&&◌, ◌||◌, ◌==◌, nat_lt, nat_le, List, [], ◌∷◌, length, None}
use Rattle.std.specs.Prelude.{Some, Result, Ok, Err, is_some, is_none, filter}
use Rattle.std.specs.List.{list_any}
use Rattle.std.specs.Ordering.{eq_by_cmp}
use Rattle.grid_model.specs.Names.{Text, is_name, same_text}
use Rattle.grid_model.specs.Rows.{Cat, empty_cat, user_cmp, member_cmp, collection_cmp, object_cmp, replica_cmp, triple_cmp, entry_cmp}
use Rattle.grid_model.specs.Rows.{resource_cmp, orphan_cmp, with_row, collection, resource, has_user, has_collection, has_object}
use Rattle.grid_model.specs.Rows.{item_there, is_member, same_item}
use Rattle.grid_model.specs.declared.deltas.Delta.{Delta}
use Rattle.grid_model.specs.declared.deltas.Delta.TheVariants as delta
use Rattle.grid_model.specs.declared.deltas.UserRow.{UserRow}
use Rattle.grid_model.specs.declared.deltas.MemberRow.{MemberRow}
use Rattle.grid_model.specs.declared.deltas.CollectionRow.{CollectionRow}
use Rattle.grid_model.specs.declared.deltas.ObjectRow.{ObjectRow}
use Rattle.grid_model.specs.declared.deltas.ReplicaRow.{ReplicaRow}
use Rattle.grid_model.specs.declared.deltas.TripleRow.{TripleRow}
use Rattle.grid_model.specs.declared.deltas.EntryRow.{EntryRow}
use Rattle.grid_model.specs.declared.deltas.ResourceRow.{ResourceRow}
use Rattle.grid_model.specs.declared.deltas.OrphanRow.{OrphanRow}
use Rattle.grid_model.specs.declared.deltas.Numbers.{Numbers}
use Rattle.grid_model.specs.declared.grid.UserKind.{UserKind}
use Rattle.grid_model.specs.declared.grid.UserKind.TheVariants.{Rodsadmin, Rodsuser, Rodsgroup}
use Rattle.grid_model.specs.declared.grid.ResourceKind.{ResourceKind}
use Rattle.grid_model.specs.declared.grid.ResourceKind.TheVariants.{Storage, Passthru, Random, Replication}
use Rattle.grid_model.specs.declared.grid.Level.{Level}
use Rattle.grid_model.specs.declared.grid.Level.TheVariants.{Null, Read, Write, Own}
use Rattle.grid_model.specs.declared.grid.ItemKind.{ItemKind}
use Rattle.grid_model.specs.declared.grid.ItemKind.TheVariants as kind

-- ---- the zone, users and groups

-- there is no zone yet, and this is one of 1 to 16 stores
abbrev pub zone_fits : Cat → Text → ℕ → Bool
zone_fits c name stores = is_none c.zone && is_name name && nat_lt 0 stores && nat_le stores 16

-- neither the id nor the name is taken
abbrev pub user_fits : Cat → UserRow → Bool
user_fits c r = is_name r.name && not (list_any (λ u. (u.id == r.id) || same_text u.name r.name) c.users)

-- a group, and no user
abbrev pub is_group_kind : UserKind → Bool
is_group_kind Rodsadmin = false
is_group_kind Rodsuser = false
is_group_kind Rodsgroup = true

-- there is a group with this id
abbrev pub has_group : Cat → ℕ → Bool
has_group c id = list_any (λ u. (u.id == id) && is_group_kind u.kind) c.users

-- there is a user with this id, who is no group
abbrev pub is_user : Cat → ℕ → Bool
is_user c id = list_any (λ u. (u.id == id) && not (is_group_kind u.kind)) c.users

-- the one is a group, and the other a user, who may be in it
abbrev pub can_join : Cat → MemberRow → Bool
can_join c m = has_group c m.group && is_user c m.user

-- ---- collections and objects

-- at most so far up, whether a collection is the upper one or lies below it
abbrev pub lies_within : ℕ → Cat → ℕ → ℕ → Bool
lies_within zero c upper id = false
lies_within (suc steps) c upper id =
    elim (id == upper) [
      | true ↦ true
      | false ↦
          elim (id == 0) [
            | true ↦ false
            | false ↦
                elim (collection c id) [ None ↦ false | Some r ↦ lies_within steps c upper r.parent ]
          ]
    ]

-- whether a collection is the upper one or lies below it
abbrev pub lies_in : Cat → ℕ → ℕ → Bool
lies_in c upper id = lies_within (length c.collections) c upper id

-- a collection lies in a parent. `/` lies in none
abbrev pub is_child : ℕ → CollectionRow → Bool
is_child parent r = (r.parent == parent) && not (r.id == 0)

-- a collection in a parent has this name
abbrev pub is_child_named : ℕ → Text → CollectionRow → Bool
is_child_named parent name r = is_child parent r && same_text r.name name

-- an object in a collection has this name
abbrev pub is_object_named : ℕ → Text → ObjectRow → Bool
is_object_named parent name r = (r.collection == parent) && same_text r.name name

-- no collection but that of this id, and no object, has the name in the parent
abbrev pub free_for_collection : Cat → ℕ → ℕ → Text → Bool
free_for_collection c id parent name =
    not (list_any (λ o. not (o.id == id) && is_child_named parent name o) c.collections)
    && not (list_any (λ o. is_object_named parent name o) c.objects)

-- no collection, and no object but that of this id, has the name in the parent
abbrev pub free_for_object : Cat → ℕ → ℕ → Text → Bool
free_for_object c id parent name =
    not (list_any (λ o. is_child_named parent name o) c.collections)
    && not (list_any (λ o. not (o.id == id) && is_object_named parent name o) c.objects)

-- `/` is its own parent and has no name. Another collection has its name alone in a parent that is not below it
abbrev pub collection_fits : Cat → CollectionRow → Bool
collection_fits c r = elim (r.id == 0) [
  | true ↦ (r.parent == 0) && (length r.name == 0)
  | false ↦ has_collection c r.parent && not (lies_in c r.id r.parent) && is_name r.name && free_for_collection c r.id r.parent r.name
]

-- it has metadata or gives access
abbrev pub is_told_of : Cat → ItemKind → ℕ → Bool
is_told_of c k id = list_any (λ t. same_item t.kind t.id k id) c.triples || list_any (λ e. same_item e.kind e.id k id) c.entries

-- nothing lies in the collection
abbrev pub is_empty_collection : Cat → ℕ → Bool
is_empty_collection c id = not (list_any (λ r. is_child id r) c.collections) && not (list_any (λ r. r.collection == id) c.objects)

-- it is there, nothing lies in it, and it has no metadata and gives no access
abbrev pub may_drop_collection : Cat → ℕ → Bool
may_drop_collection c id = has_collection c id && is_empty_collection c id && not (is_told_of c kind.Collection id)

-- it has its name alone in a collection that is there
abbrev pub object_fits : Cat → ObjectRow → Bool
object_fits c r = has_collection c r.collection && is_name r.name && free_for_object c r.id r.collection r.name

-- it is there, without replicas, metadata and access
abbrev pub may_drop_object : Cat → ℕ → Bool
may_drop_object c id = has_object c id && not (list_any (λ r. r.object == id) c.replicas) && not (is_told_of c kind.Object id)

-- ---- replicas, orphans and the numbers

-- a leaf of the tree, which keeps files; the others choose among their children
abbrev pub is_storage : ResourceKind → Bool
is_storage Storage = true
is_storage Passthru = false
is_storage Random = false
is_storage Replication = false

-- there is a leaf with this id
abbrev pub is_leaf : Cat → ℕ → Bool
is_leaf c id = list_any (λ r. (r.id == id) && is_storage r.kind) c.resources

-- this is the replica with that number of an object
abbrev pub is_replica : ℕ → ℕ → ReplicaRow → Bool
is_replica object number r = (r.object == object) && (r.number == number)

-- a vault number was drawn, and no orphan has it
abbrev pub is_drawn : Cat → ℕ → Bool
is_drawn c vault = nat_lt 0 vault && nat_lt vault c.numbers.next_vault && not (list_any (λ o. o.vault == vault) c.orphans)

-- object and leaf are there, and no other replica of the object has the leaf, and no other row the vault number
abbrev pub replica_fits : Cat → ReplicaRow → Bool
replica_fits c r = has_object c r.object && is_leaf c r.leaf
    && not (list_any (λ o. (o.object == r.object) && not (o.number == r.number) && (o.leaf == r.leaf)) c.replicas)
    && is_drawn c r.vault && not (list_any (λ o. (o.vault == r.vault) && not (is_replica r.object r.number o)) c.replicas)

-- an object has a replica with that number
abbrev pub has_replica : Cat → ℕ → ℕ → Bool
has_replica c object number = list_any (λ r. is_replica object number r) c.replicas

-- no row has the vault number, which was drawn, and there is a store at the slot
abbrev pub orphan_fits : Cat → OrphanRow → Bool
orphan_fits c r = is_drawn c r.vault && not (list_any (λ o. o.vault == r.vault) c.replicas) && nat_lt r.slot c.stores

-- an orphan has the vault number
abbrev pub has_orphan : Cat → ℕ → Bool
has_orphan c vault = list_any (λ o. o.vault == vault) c.orphans

-- the next vault number is above 0 and never falls
abbrev pub numbers_fit : Cat → Numbers → Bool
numbers_fit c n = nat_lt 0 n.next_vault && nat_le c.numbers.next_vault n.next_vault

-- ---- metadata and access

-- the very triple is there
abbrev pub has_triple : Cat → TripleRow → Bool
has_triple c t = list_any (λ o. eq_by_cmp triple_cmp o t) c.triples

-- objects and collections alone give access
abbrev pub gives_access : ItemKind → Bool
gives_access kind.Object = true
gives_access kind.Collection = true
gives_access kind.Resource = false
gives_access kind.User = false

-- null is no level that is given
abbrev pub is_given : Level → Bool
is_given Null = false
is_given Read = true
is_given Write = true
is_given Own = true

-- a level above null, at an object or a collection that is there, for a user or a group that is there
abbrev pub entry_fits : Cat → EntryRow → Bool
entry_fits c e = gives_access e.kind && is_given e.level && item_there c e.kind e.id && has_user c e.user

-- this is the access of that item for a user
abbrev pub is_entry : ItemKind → ℕ → ℕ → EntryRow → Bool
is_entry k id user e = same_item e.kind e.id k id && (e.user == user)

-- an item gives a user access
abbrev pub has_entry : Cat → ItemKind → ℕ → ℕ → Bool
has_entry c k id user = list_any (λ e. is_entry k id user e) c.entries

-- ---- resources

-- at most so far up, whether a resource is the upper one or stands below it
abbrev pub stands_within : ℕ → Cat → ℕ → ℕ → Bool
stands_within zero c upper id = false
stands_within (suc steps) c upper id =
    elim (id == upper) [
      | true ↦ true
      | false ↦
          elim (resource c id) [ None ↦ false | Some r ↦ stands_within steps c upper r.parent ]
    ]

-- whether a resource is the upper one or stands below it
abbrev pub stands_in : Cat → ℕ → ℕ → Bool
stands_in c upper id = stands_within (length c.resources) c upper id

-- a leaf is at the slot of a store, and what is no leaf has the slot 0
abbrev pub slot_fits : Cat → ResourceKind → ℕ → Bool
slot_fits c k slot = elim (is_storage k) [ true ↦ nat_lt slot c.stores | false ↦ slot == 0 ]

-- there is a resource with this id that is no leaf
abbrev pub is_node : Cat → ℕ → Bool
is_node c id = list_any (λ r. (r.id == id) && not (is_storage r.kind)) c.resources

-- without a parent the place is 0. A parent is no leaf and not below it, and no other child of it has the place
abbrev pub parent_fits : Cat → ResourceRow → Bool
parent_fits c r = elim (r.parent == 0) [
  | true ↦ r.place == 0
  | false ↦ is_node c r.parent && not (stands_in c r.id r.parent)
      && not (list_any (λ o. not (o.id == r.id) && (o.parent == r.parent) && (o.place == r.place)) c.resources)
]

-- whether two resources do the same
abbrev pub same_kind : ResourceKind → ResourceKind → Bool
same_kind Storage Storage = true
same_kind Passthru Passthru = true
same_kind Random Random = true
same_kind Replication Replication = true
same_kind a b = false

-- the id is not 0, no other resource has the name, a row that it replaces has its kind, and slot and parent fit
abbrev pub resource_fits : Cat → ResourceRow → Bool
resource_fits c r = nat_lt 0 r.id && is_name r.name
    && not (list_any (λ o. not (o.id == r.id) && same_text o.name r.name) c.resources)
    && not (list_any (λ o. (o.id == r.id) && not (same_kind o.kind r.kind)) c.resources)
    && slot_fits c r.kind r.slot && parent_fits c r

-- ---- deltas

-- the new catalogue where the test passes, and else the cause of the refusal
abbrev pub where_fits : Bool → ℕ → Cat → Result Cat ℕ
where_fits true cause c = Ok c
where_fits false cause c = Err cause

-- the catalogue with this delta. Whether a text of rules is one is not looked at here
abbrev pub apply : Cat → Delta → Result Cat ℕ
apply c (delta.Zone name stores) = where_fits (zone_fits c name stores) 1 (record c { zone = Some name; stores = stores })
apply c (delta.User r) = where_fits (user_fits c r) 2 (record c { users = with_row user_cmp c.users r })
apply c (delta.Member m) = where_fits (can_join c m && not (is_member c m.group m.user)) 3 (record c { members = with_row member_cmp c.members m })
apply c (delta.NoMember m) =
    where_fits (can_join c m && is_member c m.group m.user) 4
    (record c { members = filter (λ o. not ((o.group == m.group) && (o.user == m.user))) c.members })
apply c (delta.Collection r) = where_fits (collection_fits c r) 5 (record c { collections = with_row collection_cmp c.collections r })
apply c (delta.NoCollection id) = where_fits (may_drop_collection c id) 6 (record c { collections = filter (λ r. not (r.id == id)) c.collections })
apply c (delta.Object r) = where_fits (object_fits c r) 7 (record c { objects = with_row object_cmp c.objects r })
apply c (delta.NoObject id) = where_fits (may_drop_object c id) 8 (record c { objects = filter (λ r. not (r.id == id)) c.objects })
apply c (delta.Replica r) = where_fits (replica_fits c r) 9 (record c { replicas = with_row replica_cmp c.replicas r })
apply c (delta.NoReplica object number) =
    where_fits (has_replica c object number) 10 (record c { replicas = filter (λ r. not (is_replica object number r)) c.replicas })
apply c (delta.Triple t) = where_fits (item_there c t.kind t.id && not (has_triple c t)) 11 (record c { triples = with_row triple_cmp c.triples t })
apply c (delta.NoTriple t) =
    where_fits (item_there c t.kind t.id && has_triple c t) 12 (record c { triples = filter (λ o. not (eq_by_cmp triple_cmp o t)) c.triples })
apply c (delta.Entry e) = where_fits (entry_fits c e) 13 (record c { entries = with_row entry_cmp c.entries e })
apply c (delta.NoEntry k id user) =
    where_fits (has_entry c k id user) 14 (record c { entries = filter (λ e. not (is_entry k id user e)) c.entries })
apply c (delta.Resource r) = where_fits (resource_fits c r) 15 (record c { resources = with_row resource_cmp c.resources r })
apply c (delta.Rules text) = Ok (record c { rules = text })
apply c (delta.Orphan r) = where_fits (orphan_fits c r) 17 (record c { orphans = with_row orphan_cmp c.orphans r })
apply c (delta.NoOrphan vault) = where_fits (has_orphan c vault) 18 (record c { orphans = filter (λ o. not (o.vault == vault)) c.orphans })
apply c (delta.Numbers n) = where_fits (numbers_fit c n) 19 (record c { numbers = n })
apply c (delta.Pending p) = where_fits (is_user c p.user) 20 (record c { pending = Some p })
apply c delta.NoPending = where_fits (is_some c.pending) 21 (record c { pending = None })

-- the catalogue with these deltas, one after another, where none is refused
abbrev pub apply_all : Cat → List Delta → Result Cat ℕ
apply_all c [] = Ok c
apply_all c (d ∷ deltas) = elim (apply c d) [ Ok next ↦ apply_all next deltas | Err cause ↦ Err cause ]

-- changes make the catalogue of the one without rows
abbrev pub IsMade : Cat → Type 0
IsMade c = (deltas : List Delta) × (apply_all empty_cat deltas ≡ Ok c)
