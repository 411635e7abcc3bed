-- Replicas with the slots of their files, by the rows.
use Rattle.std.specs.Prelude.{ℕ, Bool, List, map, unwrap_or}
use Rattle.grid_model.specs.Rows.{Cat}
use Rattle.grid_model.specs.RowGrids.{grid_of, resource_name}
use Rattle.grid_model.specs.Trees.{is_in}
use Rattle.grid_model.specs.Whole.{leaf_slot}
use Rattle.grid_model.specs.declared.deltas.ReplicaRow.{ReplicaRow}
use Rattle.file_laws.specs.Rewriting.{StoredReplica}

-- the slot of the store behind the leaf with this id; 0 where there is none
abbrev pub slot_behind : Cat → ℕ → ℕ
slot_behind c leaf = unwrap_or (leaf_slot c leaf) 0

-- these replicas with the slots of their files
abbrev pub stored_rows : Cat → List ReplicaRow → List StoredReplica
stored_rows c rows = map (λ r. record { row = r; slot = slot_behind c r.leaf }) rows

-- the replica is at or below the resource with this id
abbrev pub is_row_in : Cat → ℕ → ReplicaRow → Bool
is_row_in c upper r = is_in (grid_of c).resources (resource_name c upper) (resource_name c r.leaf)
