-- What is shown step by step is what the user may read and meets all conditions.
use Rattle.std.proofs.Common.{◌≡◌, ℕ, Bool, List, [], ◌∷◌, Option, map, ap, ◌∙◌}
use Rattle.std.specs.Prelude.{flat_map, ◌&&◌}
use Rattle.std.specs.List.{list_all}
use Rattle.grid_model.specs.Names.{Text}
use Rattle.grid_model.specs.Grid.{Grid, Replica, Triple}
use Rattle.grid_model.specs.QueryRows.{Combination, is_readable, meets}
use Rattle.grid_model.specs.declared.queries.Query.{Query}
use Rattle.query_run.specs.Stages.{meets_stage}
use Rattle.query_run.specs.Shown.{rows_if, cells, shown_triple, shown_replica, shown_readable}
use Rattle.query_run.specs.declared.stages.Stage.TheVariants.{OfItem, OfReplica, OfTriple}
use Rattle.query_run.proofs.ListLemmas.{kept, kept-flat, kept-map, only-and, flat-rows_if}
use Rattle.query_run.proofs.ConditionStages.{all_stages, items_conditions, replicas_conditions}

module _ (g : Grid) (user : Text) (q : Query) where
  -- it passes the query
  abbrev pub passes : Combination → Bool
  passes c = is_readable g user c && list_all (meets g c) q.conds

  -- with each of these replicas and each of these triples
  abbrev pub with_each : List (Option (ℕ × Replica)) → List (Option Triple) → Combination → List Combination
  with_each rs ts c = flat_map (λ r. map (λ t. record c { replica = r; triple = t }) ts) rs

  module _ (c : Combination) where
    one : (r : Option (ℕ × Replica)) (t : Option Triple) (rows : List (List Text))
        → rows_if (passes (record c { replica = r; triple = t })) rows
        ≡ rows_if (is_readable g user c) (rows_if (meets_stage g OfItem q c) (rows_if (meets_stage g OfReplica q (record c { replica = r })) (rows_if (meets_stage g OfTriple q (record c { replica = r; triple = t })) rows)))
    one r t rows =
        let x : Combination = record c { replica = r; triple = t } in
        ap (λ (b : Bool). rows_if (is_readable g user c && b) rows) (all_stages g x q.conds)
        ∙ only-and (is_readable g user c) (meets_stage g OfItem q x && (meets_stage g OfReplica q x && meets_stage g OfTriple q x)) rows
        ∙ ap (rows_if (is_readable g user c)) (
        only-and (meets_stage g OfItem q x) (meets_stage g OfReplica q x && meets_stage g OfTriple q x) rows
        ∙ ap (rows_if (meets_stage g OfItem q x)) (only-and (meets_stage g OfReplica q x) (meets_stage g OfTriple q x) rows)
        ∙ (λ i. rows_if (items_conditions g q c r t i) (rows_if (replicas_conditions g q (record c { replica = r }) t i) (rows_if (meets_stage g OfTriple q x) rows))))

    with_triples : (r : Option (ℕ × Replica)) (ts : List (Option Triple))
        → kept passes (cells g q) (map (λ t. record c { replica = r; triple = t }) ts)
        ≡ rows_if (is_readable g user c) (rows_if (meets_stage g OfItem q c) (shown_replica g q ts (record c { replica = r })))
    with_triples r ts =
        let a : Bool = is_readable g user c in
        let b : Bool = meets_stage g OfItem q c in
        let d : Bool = meets_stage g OfReplica q (record c { replica = r }) in
        let row : Option Triple → List (List Text) = λ t. shown_triple g q (record c { replica = r; triple = t }) in
        kept-map passes (cells g q) (λ t. record c { replica = r; triple = t }) ts
        ∙ (λ i. flat_map (λ t. one r t (cells g q (record c { replica = r; triple = t }) ∷ []) i) ts)
        ∙ flat-rows_if a (λ t. rows_if b (rows_if d (row t))) ts
        ∙ ap (rows_if a) (flat-rows_if b (λ t. rows_if d (row t)) ts ∙ ap (rows_if b) (flat-rows_if d row ts))

    -- what passes of these is what is shown
    pub kept_are : (rs : List (Option (ℕ × Replica))) (ts : List (Option Triple)) → kept passes (cells g q) (with_each rs ts c) ≡ shown_readable g user q rs ts c
    kept_are rs ts =
        let a : Bool = is_readable g user c in
        let b : Bool = meets_stage g OfItem q c in
        let row : Option (ℕ × Replica) → List (List Text) = λ r. shown_replica g q ts (record c { replica = r }) in
        kept-flat passes (cells g q) (λ r. map (λ t. record c { replica = r; triple = t }) ts) rs
        ∙ (λ i. flat_map (λ r. with_triples r ts i) rs)
        ∙ flat-rows_if a (λ r. rows_if b (row r)) rs
        ∙ ap (rows_if a) (flat-rows_if b row rs)
