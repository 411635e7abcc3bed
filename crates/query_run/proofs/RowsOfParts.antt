-- What is shown of parts with an object, with each of its triples and each of its replicas.
use Rattle.std.proofs.Common.{◌≡◌, ℕ, Bool, true, List, Option, Some, Bor, map, sym, ap, ◌∙◌}
use Rattle.std.specs.Prelude.{flat_map, option_copied}
use Rattle.std.specs.List.{list_any}
use Rattle.grid_model.specs.Grid.{Replica, Triple}
use Rattle.grid_model.specs.Names.{Text}
use Rattle.grid_model.specs.QueryRows.{choices, columns_named}
use Rattle.grid_model.specs.Rows.{Cat, replicas_of, triples_of}
use Rattle.grid_model.specs.RowPaths.{collection_path}
use Rattle.grid_model.specs.RowGrids.{grid_of, triple_of}
use Rattle.grid_model.specs.declared.deltas.ObjectRow.{ObjectRow}
use Rattle.grid_model.specs.declared.deltas.ReplicaRow.{ReplicaRow}
use Rattle.grid_model.specs.declared.deltas.TripleRow.{TripleRow}
use Rattle.grid_model.specs.declared.grid.ItemKind.TheVariants as kind
use Rattle.grid_model.specs.declared.queries.Query.{Query}
use Rattle.plan_list.specs.Listing.{numbered}
use Rattle.query_run.specs.Stages.{is_of_stage, meets_stage}
use Rattle.query_run.specs.Shown.{replica_choices, triple_choices, shown_replica, shown_triple}
use Rattle.query_run.specs.Parts.{all_rows_of, combination_of, row_with, rows_of, rows_with}
use Rattle.query_run.specs.declared.parts.Parts.{Parts}
use Rattle.query_run.specs.declared.stages.Stage.TheVariants.{OfItem, OfReplica, OfTriple}
use Rattle.query_run.proofs.Pushed.{all_added, many_triples, many_replicas}

module _ (c : Cat) (q : Query) (p : Parts) (o : Bor ObjectRow) (is : p.object ≡ Some o) where
  pub rows_with_triples : meets_stage (grid_of c) OfReplica q (combination_of c p) ≡ true → list_any (is_of_stage OfTriple) (columns_named q) ≡ true
      → (ts : List TripleRow) → ts ≡ triples_of c kind.Object o.now.id → flat_map (row_with c q p) ts ≡ rows_of c q p
  rows_with_triples holds named ts ts_are =
      let at : TripleRow → Triple = triple_of c (collection_path c) in
      let row : Option Triple → List (List Text) = λ t. shown_triple (grid_of c) q (record (combination_of c p) { triple = t }) in
      ap (flat_map (row_with c q p)) ts_are
      ∙ many_triples (grid_of c) q (combination_of c p) at (triples_of c kind.Object o.now.id)
      ∙ ap (λ (b : Bool). flat_map row (choices b (map at (triples_of c kind.Object o.now.id)))) (sym named)
      ∙ ap (λ (found : Option (Bor ObjectRow)). flat_map row (triple_choices c q (option_copied found))) (sym is)
      ∙ all_added (meets_stage (grid_of c) OfReplica q (combination_of c p)) (flat_map row (triple_choices c q (option_copied p.object))) holds

  pub rows_with_replicas : meets_stage (grid_of c) OfItem q (combination_of c p) ≡ true → list_any (is_of_stage OfReplica) (columns_named q) ≡ true
      → (rs : List ReplicaRow) → rs ≡ replicas_of c o.now.id → flat_map (rows_with c q p) rs ≡ all_rows_of c q p
  rows_with_replicas holds named rs rs_are =
      let ts : List (Option Triple) = triple_choices c q (option_copied p.object) in
      let row : Option (ℕ × Replica) → List (List Text) = λ r. shown_replica (grid_of c) q ts (record (combination_of c p) { replica = r }) in
      ap (flat_map (rows_with c q p)) rs_are
      ∙ many_replicas (grid_of c) q (combination_of c p) ts (numbered c) (replicas_of c o.now.id)
      ∙ ap (λ (b : Bool). flat_map row (choices b (map (numbered c) (replicas_of c o.now.id)))) (sym named)
      ∙ ap (λ (found : Option (Bor ObjectRow)). flat_map row (replica_choices c q (option_copied found))) (sym is)
      ∙ all_added (meets_stage (grid_of c) OfItem q (combination_of c p)) (flat_map row (replica_choices c q (option_copied p.object))) holds
