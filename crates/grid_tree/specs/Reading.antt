-- Which replicas are read, by the rows.
use Rattle.std.specs.Prelude.{◌≡◌, ℕ, zero, suc, Bool, true, false, ◌&&◌, ◌==◌, List, [], ◌∷◌, Option, Some, None, length}
use Rattle.std.specs.List.{Contains}
use Rattle.grid_model.specs.Grid.{Replica}
use Rattle.grid_model.specs.RowGrids.{replica_of}
use Rattle.grid_model.specs.Rows.{Cat, resource}
use Rattle.grid_model.specs.declared.deltas.ReplicaRow.{ReplicaRow}
use Rattle.grid_model.specs.declared.deltas.ResourceRow.{ResourceRow}

-- the id of the parent, if there is one
abbrev pub parent_by : Option ResourceRow → Option ℕ
parent_by None = None
parent_by (Some r) = elim (r.parent == 0) [ true ↦ None | false ↦ Some r.parent ]

-- at most so many resources up, whether one is the upper one or stands below it
abbrev pub in_within : ℕ → Cat → ℕ → ℕ → Bool
in_within zero c upper id = false
in_within (suc steps) c upper id = elim (id == upper) [
  | true ↦ true
  | false ↦ elim (parent_by (resource c id)) [ None ↦ false | Some parent ↦ in_within steps c upper parent ]
]

-- whether a resource is the upper one or stands below it
abbrev pub stands_at : Cat → ℕ → ℕ → Bool
stands_at c upper id = in_within (suc (length c.resources)) c upper id

-- the resource is there and up
abbrev pub up_by : Option ResourceRow → Bool
up_by None = false
up_by (Some r) = r.up

-- it is at or below the asked resource, if one is asked
abbrev pub is_asked : Cat → Option ℕ → ℕ → Bool
is_asked c None leaf = true
is_asked c (Some upper) leaf = stands_at c upper leaf

-- the replica can be read: it is good, and its leaf is up and asked
abbrev pub reads : Cat → Option ℕ → ReplicaRow → Bool
reads c asked x = x.good && up_by (resource c x.leaf) && is_asked c asked x.leaf

-- the row that stands there has this number and is this replica of the object, which can be read
pub record IsReplica (c : Cat) (object : ℕ) (e : ℕ × Replica) (row : ReplicaRow) : Type 0 where
  pub there : Contains c.replicas row
  pub object_is : row.object ≡ object
  pub is : e ≡ (row.number, replica_of c row)
  pub good : row.good ≡ true
  pub up : up_by (resource c row.leaf) ≡ true

-- the row is that of the first of these replicas of an object, and there is none where there are none
abbrev pub FirstOf : Cat → ℕ → List (ℕ × Replica) → Option ReplicaRow → Type 0
FirstOf c object found None = found ≡ []
FirstOf c object [] (Some row) = ⊥
FirstOf c object (e ∷ es) (Some row) = IsReplica c object e row
