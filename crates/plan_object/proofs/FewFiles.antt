-- A plan makes one file on each of its leaves, which differ, so no more files than there are leaves.
use Rattle.std.proofs.Common.{◌≡◌, ℕ, ◌≤◌, List, [], ◌∷◌, length, map, Result, Ok, Err, IsTrue, refl, ap, ◌∙◌, arith}
use Rattle.std.specs.Prelude.{IfOk}
use Rattle.std.specs.List.{AllByRecursion}
use Rattle.std.proofs.lemmas.List.{length-map}
use Rattle.grid_model.specs.Names.{Path}
use Rattle.grid_model.specs.Rows.{Cat}
use Rattle.grid_model.specs.Applying.{is_leaf}
use Rattle.grid_model.specs.declared.deltas.ObjectRow.{ObjectRow}
use Rattle.grid_model.specs.declared.plans.Plan.{Plan}
use Rattle.file_laws.specs.Puts.{files_from}
use Rattle.grid_headline.specs.Numbers.{leaf_count}
use Rattle.count_laws.proofs.DistinctLeaves.{few_leaves}
use Rattle.count_laws.proofs.Fewer.{AreApart}
use Rattle.plan_object.specs.OverPlans.{WritesOver}
use Rattle.plan_object.specs.PutPlans.{AreTargets, WritesNew, law_target, with_leaves}
use Rattle.plan_object.specs.ReplPlans.{IsReplPlan}
use Rattle.plan_object.specs.Writing.{Recorded}
use Rattle.plan_object.specs.declared.placing.Target.{Target}
use Rattle.plan_object.proofs.Leaves.{Distinct, all_leaves, distinct_leaves, length-files}

apart_of : (ns : List ℕ) → Distinct ns → AreApart ns
apart_of [] distinct = tt
apart_of (n ∷ ns) distinct = (λ here. distinct.0 n here refl, apart_of ns distinct.1)

module _ (c : Cat) (leaves : List ℕ) (all : AllByRecursion (λ id. IsTrue (is_leaf c id)) leaves) (ts : List Target) (are : AreTargets c leaves ts) where
  few_targets : length ts ≤ leaf_count c
  few_targets =
      let few = few_leaves c (with_leaves [] leaves) (all_leaves (λ id. IsTrue (is_leaf c id)) [] leaves tt all)
      (apart_of (with_leaves [] leaves) (distinct_leaves [] leaves tt)) in
      omega (arith, few, ap length are.leaves_are, length-map ts (λ (t : Target). t.leaf))

  few_files : (plan : Plan) (first : ℕ) → plan.files ≡ files_from first (map law_target ts) → length plan.files ≤ leaf_count c
  few_files plan first is = omega (arith, few_targets, ap length is, length-files (map law_target ts) first, length-map ts law_target)

  pub few_new : {E : Type 0} (user : ℕ) (p : Path) (rec : Recorded) (r : Result Plan E) → IfOk r (WritesNew c user p rec ts)
      → IfOk r (λ plan. length plan.files ≤ leaf_count c)
  few_new user p rec (Err e) is = tt
  few_new user p rec (Ok plan) is = few_files plan c.numbers.next_vault is.is_new.files

  pub few_over : {E : Type 0} (id : ℕ) (rec : Recorded) (r : Result Plan E) → IfOk r (WritesOver c id rec ts)
      → IfOk r (λ plan. length plan.files ≤ leaf_count c)
  few_over id rec (Err e) is = tt
  few_over id rec (Ok plan) is = few_files plan c.numbers.next_vault is.is_over.files

  few_of_repl : (some : List Target) → some ≡ ts → (o : ObjectRow) (plan : Plan) → IsReplPlan c o some plan → length plan.files ≤ leaf_count c
  few_of_repl [] same o plan is = omega (arith, ap length is.files)
  few_of_repl (t ∷ some) same o plan is =
      few_files plan c.numbers.next_vault (is.files ∙ ap (λ us. files_from c.numbers.next_vault (map law_target us)) same)

  pub few_repl : {E : Type 0} (o : ObjectRow) (r : Result Plan E) → IfOk r (IsReplPlan c o ts) → IfOk r (λ plan. length plan.files ≤ leaf_count c)
  few_repl o (Err e) is = tt
  few_repl o (Ok plan) is = few_of_repl ts refl o plan is
