-- An object of which a query shows something has what the conditions with `=` ask for.
use Rattle.std.proofs.Common.{◌≡◌, ℕ, Bool, true, false, List, [], ◌∷◌, Option, map, inl, inr, refl, sym, ap, ◌∙◌}
use Rattle.std.specs.Prelude.{flat_map, not, ◌||◌}
use Rattle.std.specs.List.{list_all}
use Rattle.std.proofs.lemmas.Bool.{and_parts}
use Rattle.grid_model.specs.Names.{Text}
use Rattle.grid_model.specs.Grid.{Grid, Replica, Triple}
use Rattle.grid_model.specs.Queries.{is_number}
use Rattle.grid_model.specs.QueryRows.{Combination, cell, is_readable, passes_op}
use Rattle.grid_model.specs.declared.queries.Query.{Query}
use Rattle.grid_model.specs.declared.queries.Cond.{Cond}
use Rattle.grid_model.specs.declared.queries.Column.{Column}
use Rattle.grid_model.specs.declared.queries.Op.TheVariants.{Equal}
use Rattle.grid_model.proofs.Comparing.{same_text-Decides}
use Rattle.tables_laws.proofs.Rows.{IsIn}
use Rattle.query_run.specs.Stages.{is_of_stage, meets_at, meets_stage}
use Rattle.query_run.specs.Shown.{rows_if, shown_item, shown_readable, shown_replica, shown_triple}
use Rattle.query_run.specs.Narrowing.{WantsText}
use Rattle.query_run.specs.declared.stages.Stage.{Stage}
use Rattle.query_run.specs.declared.stages.Stage.TheVariants.{OfItem, OfReplica, OfTriple}
use Rattle.query_run.proofs.ListLemmas.{in_from_flat}

in_only : (b : Bool) (rows : List (List Text)) (row : List Text) → IsIn (rows_if b rows) row → (b ≡ true) × IsIn rows row
in_only true rows row here = (refl, here)
in_only false rows row here = absurd here

-- a condition with `=` that all of a stage meet
module _ (g : Grid) (q : Query) (x : Combination) where
  at_once : (s : Stage) (cond : Cond) (conds : List Cond) → IsIn conds cond → list_all (meets_at g s x) conds ≡ true → meets_at g s x cond ≡ true
  at_once s cond [] here all = absurd here
  at_once s cond (d ∷ conds) (inl is) all = ap (meets_at g s x) (sym is) ∙ (and_parts (meets_at g s x d) (list_all (meets_at g s x) conds) all).0
  at_once s cond (d ∷ conds) (inr later) all = at_once s cond conds later (and_parts (meets_at g s x d) (list_all (meets_at g s x) conds) all).1

  pub equal_cell : (s : Stage) (col : Column) (text : Text) → is_of_stage s col ≡ true → WantsText q.conds col text → meets_stage g s q x ≡ true → cell g x col ≡ text
  equal_cell s col text of_it asks all =
      (same_text-Decides (cell g x col) text).0
      (sym (λ i. not (of_it i) || passes_op Equal (is_number col) (cell g x col) text)
      ∙ sym (λ i. not (is_of_stage s (asks.column_is i)) || passes_op (asks.op_is i) (is_number (asks.column_is i)) (cell g x (asks.column_is i)) (asks.text_is i))
      ∙ at_once s asks.cond q.conds asks.there all)

-- ---- what is shown of an item

pub record ShownBy (g : Grid) (q : Query) (ts : List (Option Triple)) (c : Combination) : Type 0 where
  pub item : meets_stage g OfItem q c ≡ true
  pub replica : Option (ℕ × Replica)
  pub triple : Option Triple
  pub chosen : IsIn ts triple
  pub meets : meets_stage g OfTriple q (record c { replica = replica; triple = triple }) ≡ true

pub shown_by : (g : Grid) (user : Text) (q : Query) (rs : List (Option (ℕ × Replica))) (ts : List (Option Triple)) (c : Combination) (row : List Text) → IsIn (shown_readable g user q rs ts c) row → ShownBy g q ts c
shown_by g user q rs ts c row here =
    let item = in_only (is_readable g user c) (shown_item g q rs ts c) row here in
    let replicas = in_only (meets_stage g OfItem q c) (flat_map (λ r. shown_replica g q ts (record c { replica = r })) rs) row item.1 in
    let r = in_from_flat (λ (r : Option (ℕ × Replica)). shown_replica g q ts (record c { replica = r })) rs row replicas.1 in
    let triples = in_only (meets_stage g OfReplica q (record c { replica = r.0 })) (flat_map (λ t. shown_triple g q (record c { replica = r.0; triple = t })) ts) row r.2 in
    let t = in_from_flat (λ (t : Option Triple). shown_triple g q (record c { replica = r.0; triple = t })) ts row triples.1 in
    let one = in_only (meets_stage g OfTriple q (record c { replica = r.0; triple = t.0 })) (cells_of r.0 t.0) row t.2 in
    record { item = replicas.0; replica = r.0; triple = t.0; chosen = t.1; meets = one.0 }
  where
    cells_of : Option (ℕ × Replica) → Option Triple → List (List Text)
    cells_of r t = map (cell g (record c { replica = r; triple = t })) q.columns ∷ []
