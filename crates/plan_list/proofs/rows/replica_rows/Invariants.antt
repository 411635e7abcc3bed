use Rattle.std.proofs.Common.{◌≡◌, ◌++◌, map, drop, IsTrue}
use Rattle.std.specs.List.{AllByRecursion, list_all}
use Rattle.grid_model.specs.Listings.{replica_listing}
use Rattle.grid_model.specs.RowGrids.{grid_of}
use Rattle.grid_model.specs.Rows.{has_resource}
use Rattle.grid_model.specs.Writable.{is_word}
use Rattle.plan_list.specs.Listing.{numbered}
use Rattle.plan_list.proofs.rows.replica_rows.Given as goal

-- the rows so far and those of the other replicas come to those of all
abbrev pub invariant-loop-replica : goal.invariant-loop-replica
invariant-loop-replica l = record {
  rows : l.rows.items ++ map (λ x. replica_listing (grid_of l.tables) l.path (numbered l.tables x)) (drop l.replica-index l.replicas) ≡ map (λ x. replica_listing (grid_of l.tables) l.path (numbered l.tables x)) l.replicas;
  later : AllByRecursion (λ x. IsTrue (has_resource l.tables x.leaf)) (drop l.replica-index l.replicas);
  words : IsTrue (list_all (list_all is_word) l.rows.items);
}
