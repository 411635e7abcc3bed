-- Worked deltas on the rows of the catalogue, by computation.
use Rattle.std.proofs.Common.{◌≡◌, ℕ, refl}
use Rattle.std.specs.Prelude.{true, false, List, [], ◌∷◌, ◌++◌, Some, None, Result, Ok, Err, codes, map, replicate}
use Rattle.grid_model.specs.Rows.{Cat, empty_cat, replicas_of, triples_of, access_of, is_member, item_there}
use Rattle.grid_model.specs.RowPaths.{collection_path, item_path, collection_at, object_at}
use Rattle.grid_model.specs.Applying.{apply, apply_all}
use Rattle.grid_model.specs.declared.deltas.Delta.{Delta}
use Rattle.grid_model.specs.declared.deltas.Delta.TheVariants as delta
use Rattle.grid_model.specs.declared.deltas.Item.TheVariants as item
use Rattle.grid_model.specs.declared.grid.UserKind.TheVariants.{Rodsadmin, Rodsgroup}
use Rattle.grid_model.specs.declared.grid.ResourceKind.TheVariants.{Storage, Replication}
use Rattle.grid_model.specs.declared.grid.Level.TheVariants.{Null, Read, Own}
use Rattle.grid_model.specs.declared.grid.ItemKind.TheVariants as kind

-- a zone with its administrator and the group of everybody, four collections, a replication node with a leaf, and an
-- object with a replica
abbrev first_deltas : List Delta
first_deltas =
    delta.Zone (codes "z") 2
    ∷ delta.Numbers (record { next_vault = 3; run = 0; last = 0 })
    ∷ delta.User (record { id = 2; kind = Rodsgroup; name = codes "public" })
    ∷ delta.User (record { id = 1; kind = Rodsadmin; name = codes "rods" })
    ∷ delta.Member (record { group = 2; user = 1 })
    ∷ delta.Collection (record { id = 0; parent = 0; name = []; inherit = false })
    ∷ delta.Collection (record { id = 3; parent = 0; name = codes "z"; inherit = false })
    ∷ delta.Collection (record { id = 1; parent = 3; name = codes "home"; inherit = false })
    ∷ delta.Resource (record { id = 1; name = codes "top"; kind = Replication; slot = 0; up = true; parent = 0; place = 0 })
    ∷ delta.Resource (record { id = 2; name = codes "d0"; kind = Storage; slot = 1; up = true; parent = 1; place = 0 })
    ∷ delta.Object (record { id = 7; collection = 1; name = codes "o"; size = 0; digest = replicate 32 0; time = 0 })
    ∷ delta.Replica (record { object = 7; number = 0; leaf = 2; good = true; size = 0; digest = replicate 32 0; vault = 1 })
    ∷ delta.Entry (record { kind = kind.Object; id = 7; user = 1; level = Own })
    ∷ delta.Triple (record { kind = kind.Object; id = 7; attribute = codes "a"; value = codes "b"; unit = [] })
    ∷ []

-- what a function tells of the catalogue that these deltas make
abbrev told : {A : Type 0} → (Cat → A) → List Delta → Result A ℕ
told f deltas = elim (apply_all empty_cat deltas) [ Ok c ↦ Ok (f c) | Err cause ↦ Err cause ]

-- rows stand by their ids
users_by_id : told (λ c. map (λ r. r.id) c.users) first_deltas ≡ Ok (1 ∷ 2 ∷ [])
users_by_id = refl

collections_by_id : told (λ c. map (λ r. r.id) c.collections) first_deltas ≡ Ok (0 ∷ 1 ∷ 3 ∷ [])
collections_by_id = refl

-- paths from `/` down, and back
path_of_home : told (λ c. collection_path c 1) first_deltas ≡ Ok (Some (codes "z" ∷ codes "home" ∷ []))
path_of_home = refl

path_of_object : told (λ c. item_path c (item.Object 7)) first_deltas ≡ Ok (Some (codes "z" ∷ codes "home" ∷ codes "o" ∷ []))
path_of_object = refl

home_at_path : told (λ c. collection_at c (codes "z" ∷ codes "home" ∷ [])) first_deltas ≡ Ok (Some 1)
home_at_path = refl

root_at_path : told (λ c. collection_at c []) first_deltas ≡ Ok (Some 0)
root_at_path = refl

object_at_path : told (λ c. object_at c (codes "z" ∷ codes "home" ∷ codes "o" ∷ [])) first_deltas ≡ Ok (Some 7)
object_at_path = refl

no_object_at_home : told (λ c. object_at c (codes "z" ∷ codes "home" ∷ [])) first_deltas ≡ Ok None
no_object_at_home = refl

replicas_of_object : told (λ c. map (λ r. r.leaf) (replicas_of c 7)) first_deltas ≡ Ok (2 ∷ [])
replicas_of_object = refl

triples_of_object : told (λ c. map (λ t. t.attribute) (triples_of c kind.Object 7)) first_deltas ≡ Ok (codes "a" ∷ [])
triples_of_object = refl

-- a collection of the same id has none
triples_of_collection : told (λ c. map (λ t. t.attribute) (triples_of c kind.Collection 7)) first_deltas ≡ Ok []
triples_of_collection = refl

access_of_object : told (λ c. map (λ e. e.user) (access_of c kind.Object 7)) first_deltas ≡ Ok (1 ∷ [])
access_of_object = refl

member_of_group : told (λ c. is_member c 2 1) first_deltas ≡ Ok true
member_of_group = refl

no_such_collection : told (λ c. item_there c kind.Collection 7) first_deltas ≡ Ok false
no_such_collection = refl

-- a row that replaces one
moved : told (λ c. map (λ r. r.parent) c.collections) (first_deltas ++ delta.Collection (record { id = 1; parent = 0; name = codes "h"; inherit = true }) ∷ [])
    ≡ Ok (0 ∷ 0 ∷ 0 ∷ [])
moved = refl

-- rows that go
less_access : told (λ c. map (λ e. e.user) c.entries) (first_deltas ++ delta.NoEntry kind.Object 7 1 ∷ []) ≡ Ok []
less_access = refl

less_metadata : told (λ c. map (λ t. t.attribute) c.triples)
    (first_deltas ++ delta.NoTriple (record { kind = kind.Object; id = 7; attribute = codes "a"; value = codes "b"; unit = [] }) ∷ []) ≡ Ok []
less_metadata = refl

fewer_replicas : told (λ c. map (λ r. r.leaf) c.replicas) (first_deltas ++ delta.NoReplica 7 0 ∷ []) ≡ Ok []
fewer_replicas = refl

fewer_members : told (λ c. is_member c 2 1) (first_deltas ++ delta.NoMember (record { group = 2; user = 1 }) ∷ []) ≡ Ok false
fewer_members = refl

an_orphan_and_none : told (λ c. map (λ o. o.vault) c.orphans)
    (first_deltas ++ delta.Orphan (record { vault = 2; slot = 1 }) ∷ delta.NoOrphan 2 ∷ []) ≡ Ok []
an_orphan_and_none = refl

new_rules : told (λ c. c.rules) (first_deltas ++ delta.Rules (codes "x") ∷ []) ≡ Ok (codes "x")
new_rules = refl

-- refusals
second_zone : told (λ c. c.stores) (first_deltas ++ delta.Zone (codes "y") 2 ∷ []) ≡ Err 1
second_zone = refl

below_itself : told (λ c. c.stores) (first_deltas ++ delta.Collection (record { id = 3; parent = 1; name = codes "z"; inherit = false }) ∷ []) ≡ Err 5
below_itself = refl

root_with_a_name : told (λ c. c.stores) (first_deltas ++ delta.Collection (record { id = 0; parent = 0; name = codes "r"; inherit = false }) ∷ []) ≡ Err 5
root_with_a_name = refl

name_of_an_object : told (λ c. c.stores) (first_deltas ++ delta.Collection (record { id = 9; parent = 1; name = codes "o"; inherit = false }) ∷ []) ≡ Err 5
name_of_an_object = refl

not_empty : told (λ c. c.stores) (first_deltas ++ delta.NoCollection 1 ∷ []) ≡ Err 6
not_empty = refl

name_of_a_group : told (λ c. c.stores) (first_deltas ++ delta.User (record { id = 9; kind = Rodsadmin; name = codes "public" }) ∷ []) ≡ Err 2
name_of_a_group = refl

group_in_a_group : told (λ c. c.stores) (first_deltas ++ delta.Member (record { group = 2; user = 2 }) ∷ []) ≡ Err 3
group_in_a_group = refl

member_twice : told (λ c. c.stores) (first_deltas ++ delta.Member (record { group = 2; user = 1 }) ∷ []) ≡ Err 3
member_twice = refl

no_member : told (λ c. c.stores) (first_deltas ++ delta.NoMember (record { group = 2; user = 9 }) ∷ []) ≡ Err 4
no_member = refl

name_of_a_collection : told (λ c. c.stores) (first_deltas ++ delta.Object (record { id = 8; collection = 3; name = codes "home"; size = 0; digest = replicate 32 0; time = 0 }) ∷ []) ≡ Err 7
name_of_a_collection = refl

no_replica : told (λ c. c.stores) (first_deltas ++ delta.NoReplica 7 1 ∷ []) ≡ Err 10
no_replica = refl

triple_twice : told (λ c. c.stores) (first_deltas ++ delta.Triple (record { kind = kind.Object; id = 7; attribute = codes "a"; value = codes "b"; unit = [] }) ∷ []) ≡ Err 11
triple_twice = refl

no_triple : told (λ c. c.stores) (first_deltas ++ delta.NoTriple (record { kind = kind.Object; id = 7; attribute = codes "a"; value = codes "b"; unit = codes "u" }) ∷ []) ≡ Err 12
no_triple = refl

no_entry : told (λ c. c.stores) (first_deltas ++ delta.NoEntry kind.Collection 7 1 ∷ []) ≡ Err 14
no_entry = refl

no_orphan : told (λ c. c.stores) (first_deltas ++ delta.NoOrphan 1 ∷ []) ≡ Err 18
no_orphan = refl

has_a_replica : told (λ c. c.stores) (first_deltas ++ delta.NoObject 7 ∷ []) ≡ Err 8
has_a_replica = refl

no_leaf : told (λ c. c.stores) (first_deltas ++ delta.Replica (record { object = 7; number = 1; leaf = 1; good = true; size = 0; digest = replicate 32 0; vault = 2 }) ∷ []) ≡ Err 9
no_leaf = refl

not_drawn : told (λ c. c.stores) (first_deltas ++ delta.Orphan (record { vault = 3; slot = 0 }) ∷ []) ≡ Err 17
not_drawn = refl

a_level_of_null : told (λ c. c.stores) (first_deltas ++ delta.Entry (record { kind = kind.Object; id = 7; user = 1; level = Null }) ∷ []) ≡ Err 13
a_level_of_null = refl

access_of_a_resource : told (λ c. c.stores) (first_deltas ++ delta.Entry (record { kind = kind.Resource; id = 1; user = 1; level = Read }) ∷ []) ≡ Err 13
access_of_a_resource = refl

below_a_leaf : told (λ c. c.stores) (first_deltas ++ delta.Resource (record { id = 3; name = codes "d1"; kind = Storage; slot = 0; up = true; parent = 2; place = 0 }) ∷ []) ≡ Err 15
below_a_leaf = refl

never_back : told (λ c. c.stores) (first_deltas ++ delta.Numbers (record { next_vault = 2; run = 9; last = 9 }) ∷ []) ≡ Err 19
never_back = refl

nothing_pending : apply empty_cat delta.NoPending ≡ Err 21
nothing_pending = refl
