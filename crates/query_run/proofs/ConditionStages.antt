-- All conditions hold where those of each stage do, and those of a stage look at no more than is chosen by then.
use Rattle.std.proofs.Common.{◌≡◌, ℕ, Bool, true, false, List, [], ◌∷◌, Option, refl, ◌∙◌}
use Rattle.std.specs.Prelude.{not, ◌&&◌, ◌||◌}
use Rattle.std.specs.List.{list_all}
use Rattle.grid_model.specs.Names.{Text}
use Rattle.grid_model.specs.Grid.{Grid, Replica, Triple}
use Rattle.grid_model.specs.Queries.{is_number}
use Rattle.grid_model.specs.QueryRows.{Combination, cell, is_of_replica, is_of_triple, meets, passes_op}
use Rattle.grid_model.specs.declared.queries.Query.{Query}
use Rattle.grid_model.specs.declared.queries.Cond.{Cond}
use Rattle.grid_model.specs.declared.queries.Column.{Column}
use Rattle.grid_model.specs.declared.queries.Column.TheVariants as column
use Rattle.grid_model.specs.declared.queries.Op.{Op}
use Rattle.query_run.specs.Stages.{is_of_stage, meets_at, meets_stage}
use Rattle.query_run.specs.declared.stages.Stage.{Stage}
use Rattle.query_run.specs.declared.stages.Stage.TheVariants.{OfItem, OfReplica, OfTriple}

-- ---- all conditions

one_of_three : (r t m : Bool) → m ≡ ((not (not r && not t) || m) && ((not r || m) && (not t || m)))
one_of_three true true true = refl
one_of_three true true false = refl
one_of_three true false true = refl
one_of_three true false false = refl
one_of_three false true true = refl
one_of_three false true false = refl
one_of_three false false true = refl
one_of_three false false false = refl

both_lists : (a b d e f h : Bool) → ((a && (b && d)) && (e && (f && h))) ≡ ((a && e) && ((b && f) && (d && h)))
both_lists true true true e f h = refl
both_lists true true false true true h = refl
both_lists true true false true false h = refl
both_lists true true false false f h = refl
both_lists true false d true f h = refl
both_lists true false d false f h = refl
both_lists false b d e f h = refl

pub all_stages : (g : Grid) (c : Combination) (conds : List Cond)
    → list_all (meets g c) conds ≡ (list_all (meets_at g OfItem c) conds && (list_all (meets_at g OfReplica c) conds && list_all (meets_at g OfTriple c) conds))
all_stages g c [] = refl
all_stages g c (cond ∷ conds) =
    (λ i. one_of_three (is_of_replica cond.column) (is_of_triple cond.column) (meets g c cond) i && all_stages g c conds i)
    ∙ both_lists (meets_at g OfItem c cond) (meets_at g OfReplica c cond) (meets_at g OfTriple c cond)
    (list_all (meets_at g OfItem c) conds) (list_all (meets_at g OfReplica c) conds) (list_all (meets_at g OfTriple c) conds)

-- ---- what they look at

abbrev tested : Grid → Stage → Combination → Op → Text → Column → Bool
tested g s c op literal col = not (is_of_stage s col) || passes_op op (is_number col) (cell g c col) literal

-- the conditions on an item, at no replica and no triple
item_alone : (g : Grid) (c : Combination) (r : Option (ℕ × Replica)) (t : Option Triple) (op : Op) (literal : Text) (col : Column)
    → tested g OfItem (record c { replica = r; triple = t }) op literal col ≡ tested g OfItem c op literal col
item_alone g c r t op literal column.CollName = refl
item_alone g c r t op literal column.DataName = refl
item_alone g c r t op literal column.DataModifyTime = refl
item_alone g c r t op literal _ = refl

-- those on a replica, at no triple
replica_alone : (g : Grid) (c : Combination) (t : Option Triple) (op : Op) (literal : Text) (col : Column)
    → tested g OfReplica (record c { triple = t }) op literal col ≡ tested g OfReplica c op literal col
replica_alone g c t op literal column.CollName = refl
replica_alone g c t op literal _ = refl

pub items_conditions : (g : Grid) (q : Query) (c : Combination) (r : Option (ℕ × Replica)) (t : Option Triple) → meets_stage g OfItem q (record c { replica = r; triple = t }) ≡ meets_stage g OfItem q c
items_conditions g q c r t i = list_all (λ (cond : Cond). item_alone g c r t cond.op cond.literal cond.column i) q.conds

pub replicas_conditions : (g : Grid) (q : Query) (c : Combination) (t : Option Triple) → meets_stage g OfReplica q (record c { triple = t }) ≡ meets_stage g OfReplica q c
replicas_conditions g q c t i = list_all (λ (cond : Cond). replica_alone g c t cond.op cond.literal cond.column i) q.conds
