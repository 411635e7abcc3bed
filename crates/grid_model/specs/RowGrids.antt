-- The grid that a catalogue stands for: full paths and names in the place of ids.
use Rattle.std.specs.Prelude.{ℕ, [], ◌∷◌, ◌++◌, ◌==◌, ◌&&◌, Bool, true, false, Option, None, Some, option_map, unwrap_or, map, filter, length, nat_lt}
use Rattle.grid_model.specs.Maps.{from_list}
use Rattle.grid_model.specs.Names.{Text, Path}
use Rattle.grid_model.specs.Rows.{Cat, user, object, resource, replicas_of}
use Rattle.grid_model.specs.RowPaths.{collection_path}
use Rattle.grid_model.specs.Grid.{Grid, Object, Replica, Resource, Thing, Triple, object_at, collection_at, resource_named, user_named}
use Rattle.grid_model.specs.declared.grid.ItemKind.{ItemKind}
use Rattle.grid_model.specs.declared.grid.ItemKind.TheVariants as kind
use Rattle.grid_model.specs.declared.deltas.Delta.{Delta}
use Rattle.grid_model.specs.declared.deltas.Delta.TheVariants as delta
use Rattle.grid_model.specs.declared.deltas.ObjectRow.{ObjectRow}
use Rattle.grid_model.specs.declared.deltas.ReplicaRow.{ReplicaRow}
use Rattle.grid_model.specs.declared.deltas.ResourceRow.{ResourceRow}
use Rattle.grid_model.specs.declared.deltas.TripleRow.{TripleRow}

-- the name of the user or group with this id; no bytes where there is none
abbrev pub user_name : Cat → ℕ → Text
user_name c id = unwrap_or (option_map (λ r. r.name) (user c id)) []

-- the name of the resource with this id; no bytes where there is none
abbrev pub resource_name : Cat → ℕ → Text
resource_name c id = unwrap_or (option_map (λ r. r.name) (resource c id)) []

-- how many of its parent's children stand before a resource: 0 without a parent
abbrev pub place_of : Cat → ResourceRow → ℕ
place_of c r = elim (r.parent == 0) [ true ↦ 0 | false ↦ length (filter (λ o. (o.parent == r.parent) && nat_lt o.place r.place) c.resources) ]

-- a resource by the name of its parent
abbrev pub resource_of : Cat → ResourceRow → Resource
resource_of c r = record {
  kind = r.kind;
  slot = r.slot;
  up = r.up;
  parent = elim (r.parent == 0) [ true ↦ None | false ↦ Some (resource_name c r.parent) ];
  place = place_of c r;
}

-- a replica by the name of its leaf, without the number of its file
abbrev pub replica_of : Cat → ReplicaRow → Replica
replica_of c r = record { leaf = resource_name c r.leaf; good = r.good; size = r.size; digest = r.digest }

-- an object with its replicas by their numbers
abbrev pub object_of : Cat → ObjectRow → Object
object_of c r = record {
  size = r.size;
  digest = r.digest;
  time = r.time;
  replicas = from_list (map (λ x. (x.number, replica_of c x)) (replicas_of c r.id));
}

-- ---- paths, where the paths of collections are given

-- the path of each collection, by its id
abbrev pub CollectionPaths : Type 0
CollectionPaths = ℕ → Option Path

-- the path of the collection with this id; `/` where there is none
abbrev pub collection_place : CollectionPaths → ℕ → Path
collection_place paths id = unwrap_or (paths id) []

-- the path of an object: its name in its collection
abbrev pub object_place : CollectionPaths → ObjectRow → Path
object_place paths r = collection_place paths r.collection ++ r.name ∷ []

-- the path of the object or the collection with this id
abbrev pub item_place : Cat → CollectionPaths → ItemKind → ℕ → Path
item_place c paths kind.Object id = unwrap_or (option_map (object_place paths) (object c id)) []
item_place c paths k id = collection_place paths id

-- what metadata is of, by paths and names for ids
abbrev pub thing_of : Cat → CollectionPaths → ItemKind → ℕ → Thing
thing_of c paths kind.Object id = object_at (item_place c paths kind.Object id)
thing_of c paths kind.Collection id = collection_at (collection_place paths id)
thing_of c paths kind.Resource id = resource_named (resource_name c id)
thing_of c paths kind.User id = user_named (user_name c id)

-- metadata, by paths and names for ids
abbrev pub triple_of : Cat → CollectionPaths → TripleRow → Triple
triple_of c paths t = record { of = thing_of c paths t.kind t.id; attribute = t.attribute; value = t.value; unit = t.unit }

-- the grid of these rows, whose collections are at these paths
abbrev pub grid_at : Cat → CollectionPaths → Grid
grid_at c paths = record {
  zone = unwrap_or c.zone [];
  stores = c.stores;
  users = from_list (map (λ r. (r.name, r.kind)) c.users);
  members = from_list (map (λ m. ((user_name c m.group, user_name c m.user), tt)) c.members);
  collections = from_list (map (λ r. (collection_place paths r.id, r.inherit)) c.collections);
  objects = from_list (map (λ r. (object_place paths r, object_of c r)) c.objects);
  triples = from_list (map (λ t. (triple_of c paths t, tt)) c.triples);
  access = from_list (map (λ e. ((item_place c paths e.kind e.id, user_name c e.user), e.level)) c.entries);
  resources = from_list (map (λ r. (r.name, resource_of c r)) c.resources);
}

-- the grid that a catalogue stands for
abbrev pub grid_of : Cat → Grid
grid_of c = grid_at c (collection_path c)

-- Whether a delta counts as one of what the grid shows. Orphans, numbers and the command that is not done are never in it;
-- rules will be, and are not yet.
abbrev pub is_seen : Delta → Bool
is_seen (delta.Orphan r) = false
is_seen (delta.NoOrphan vault) = false
is_seen (delta.Numbers n) = false
is_seen (delta.Pending p) = false
is_seen delta.NoPending = false
is_seen other = true
