use Rattle.std.proofs.Common.{◌≡◌, ◌++◌, drop}
use Rattle.std.specs.Prelude.{flat_map}
use Rattle.query_run.specs.Parts.{KeepsWords, rows_with}
use Rattle.query_run.proofs.pushing.push_replicas.Given as goal

-- the rows so far and those with the other replicas come to those with all
abbrev pub invariant-loop-replica : goal.invariant-loop-replica
invariant-loop-replica l = record {
  rows : l.rows.items ++ flat_map (rows_with l.tables l.query l.parts) (drop l.replica-index l.replicas) ≡ l.initial.rows.items ++ flat_map (rows_with l.tables l.query l.parts) l.replicas;
  words : KeepsWords l.initial.rows.items l.rows.items;
}
