-- The grid: what its users see, by full paths and names, without ids, vault files or what is not done. Zones, users, groups,
-- collections, resources, metadata and access are those of iRODS (iRODS Primer); which collections there are from the
-- start is this project's own. Its rules are not in it yet.
use Rattle.std.specs.Prelude.{ℕ, Bool, true, false, List, [], ◌∷◌, Option, None}
use Rattle.std.specs.declared.cmp.Ordering.{Ordering}
use Rattle.std.specs.Ordering.{nat_cmp, ordering_then}
use Rattle.grid_model.specs.Maps.{Map, Set, empty, from_list}
use Rattle.grid_model.specs.Names.{Text, Path, text_cmp, path_cmp}
use Rattle.grid_model.specs.declared.grid.Level.{Level}
use Rattle.grid_model.specs.declared.grid.Level.TheVariants.{Read, Own}
use Rattle.grid_model.specs.declared.grid.UserKind.{UserKind}
use Rattle.grid_model.specs.declared.grid.UserKind.TheVariants.{Rodsadmin, Rodsgroup}
use Rattle.grid_model.specs.declared.grid.ResourceKind.{ResourceKind}
use Rattle.grid_model.specs.declared.grid.ResourceKind.TheVariants.{Storage}

-- a file of an object, on the leaf of this name
pub record Replica : Type 0 where
  pub leaf : Text
  pub good : Bool
  pub size : ℕ
  pub digest : List ℕ

-- what was last written, and its replicas by their numbers
pub record Object : Type 0 where
  pub size : ℕ
  pub digest : List ℕ
  pub time : ℕ
  pub replicas : Map nat_cmp Replica

-- a leaf or a node, below the one of the parent's name; `place` is how many of its parent's children stand before it
pub record Resource : Type 0 where
  pub kind : ResourceKind
  pub slot : ℕ
  pub up : Bool
  pub parent : Option Text
  pub place : ℕ

-- what metadata is of
pub data Thing : Type 0 where
  object_at : Path → Thing
  collection_at : Path → Thing
  resource_named : Text → Thing
  user_named : Text → Thing

-- the kind of a thing as a number, by which things are ordered
abbrev pub thing_number : Thing → ℕ
thing_number (object_at p) = 1
thing_number (collection_at p) = 2
thing_number (resource_named n) = 3
thing_number (user_named n) = 4

-- its path, or its name as one
abbrev pub thing_names : Thing → Path
thing_names (object_at p) = p
thing_names (collection_at p) = p
thing_names (resource_named n) = n ∷ []
thing_names (user_named n) = n ∷ []

-- by kind, and then by path or name
abbrev pub thing_cmp : Thing → Thing → Ordering
thing_cmp a b = ordering_then (nat_cmp (thing_number a) (thing_number b)) (path_cmp (thing_names a) (thing_names b))

-- one piece of metadata (iRODS: attribute, value and unit)
pub record Triple : Type 0 where
  pub of : Thing
  pub attribute : Text
  pub value : Text
  pub unit : Text

-- thing by thing, and then word by word
abbrev pub thing_triple_cmp : Triple → Triple → Ordering
thing_triple_cmp a b = ordering_then (thing_cmp a.of b.of) (path_cmp (a.attribute ∷ a.value ∷ a.unit ∷ []) (b.attribute ∷ b.value ∷ b.unit ∷ []))

-- a group and who is in it
abbrev pub group_member_cmp : Text × Text → Text × Text → Ordering
group_member_cmp a b = ordering_then (text_cmp a.0 b.0) (text_cmp a.1 b.1)

-- the path of an object or a collection, and the name of a user or a group
abbrev pub access_cmp : Path × Text → Path × Text → Ordering
access_cmp a b = ordering_then (path_cmp a.0 b.0) (text_cmp a.1 b.1)

-- All that users see. A map has each name or path once.
pub record Grid : Type 0 where
  -- no name and no stores before there is a zone
  pub zone : Text
  pub stores : ℕ
  pub users : Map text_cmp UserKind
  pub members : Set group_member_cmp
  -- whether what is made in it gets its access
  pub collections : Map path_cmp Bool
  pub objects : Map path_cmp Object
  pub triples : Set thing_triple_cmp
  pub access : Map access_cmp Level
  pub resources : Map text_cmp Resource

-- ---- a new grid

-- `home` in ASCII
abbrev pub home : Text
home = 0x68 ∷ 0x6F ∷ 0x6D ∷ 0x65 ∷ []

-- `/<zone>/home`
abbrev pub homes : Text → Path
homes zone = zone ∷ home ∷ []

-- `/<zone>/home/<name>`
abbrev pub home_of : Text → Text → Path
home_of zone name = zone ∷ home ∷ name ∷ []

-- the group of all users, `public` in ASCII
abbrev pub everybody : Text
everybody = 0x70 ∷ 0x75 ∷ 0x62 ∷ 0x6C ∷ 0x69 ∷ 0x63 ∷ []

-- what `init` leaves: the administrator and the group of all, and the collections down to the administrator's home,
-- which everybody reads but for the home itself; there is no resource yet
abbrev pub start_grid : Text → Text → ℕ → Grid
start_grid zone admin stores = record {
  zone = zone;
  stores = stores;
  users = from_list ((admin, Rodsadmin) ∷ (everybody, Rodsgroup) ∷ []);
  members = empty;
  collections = from_list (([], false) ∷ (zone ∷ [], false) ∷ (homes zone, false) ∷ (home_of zone admin, false) ∷ []);
  objects = empty;
  triples = empty;
  access = from_list ((([], everybody), Read) ∷ ((zone ∷ [], everybody), Read) ∷ ((homes zone, everybody), Read) ∷ ((home_of zone admin, admin), Own) ∷ []);
  resources = empty;
}
