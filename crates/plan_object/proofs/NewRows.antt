-- The row of a new object, and its plan.
use Rattle.std.proofs.Common.{◌≡◌, ℕ, false, List, [], ◌∷◌, ◌++◌, Some, Result, Ok, Err, IsTrue, refl, sym, ap, ◌∙◌, subst}
use Rattle.std.specs.Prelude.{IfOk}
use Rattle.grid_model.specs.Names.{Text, Path, is_name, parent}
use Rattle.grid_model.specs.Deltas.{text}
use Rattle.grid_model.specs.Rows.{Cat, has_object}
use Rattle.grid_model.specs.RowPaths.{collection_at}
use Rattle.grid_model.specs.declared.deltas.ObjectRow.{ObjectRow}
use Rattle.grid_model.specs.declared.plans.Plan.{Plan}
use Rattle.grid_model.proofs.Below.{parent-push}
use Rattle.plan_base.specs.Found.{LiesIn}
use Rattle.plan_object.specs.PutPlans.{IsNewPlan, IsObjectFor, WritesNew}
use Rattle.plan_object.specs.Writing.{Recorded}
use Rattle.plan_object.specs.declared.placing.Target.{Target}

pub row_for : (c : Cat) (p : Path) (r : Recorded) (id collection : ℕ) → LiesIn c p collection → has_object c id ≡ false → (name kept : Text) (front : Path) → p ≡ front ++ name ∷ [] → kept ≡ name → IsTrue (is_name name) → IsTrue (text name).fits
    → IsObjectFor c p r (record { id = id; collection = collection; name = kept; size = r.size; digest = r.digest; time = r.now })
row_for c p r id collection inside fresh name kept front path_is same named fits =
    let up : Some front ≡ Some inside.above = sym (parent-push front name) ∙ ap parent (sym path_is) ∙ inside.parent_is in
    let front_is : front ≡ inside.above = cc in
    record {
      above = front;
      path_is = path_is ∙ ap (λ (n : Text). front ++ n ∷ []) (sym same);
      named = subst (λ (n : Text). IsTrue (is_name n)) (sym same) named;
      at = ap (collection_at c) front_is ∙ inside.at;
      fresh = fresh;
      size = refl;
      digest = refl;
      time = refl;
      fits = subst (λ (n : Text). IsTrue (text n).fits) (sym same) fits;
    }

-- the plan of such a row
pub writes_new : {E : Type 0} (c : Cat) (user : ℕ) (p : Path) (r : Recorded) (ts : List Target) (o : ObjectRow) → IsObjectFor c p r o → (result : Result Plan E) → IfOk result (IsNewPlan c user o ts) → IfOk result (WritesNew c user p r ts)
writes_new c user p r ts o is_row (Err e) is = tt
writes_new c user p r ts o is_row (Ok plan) is = record { row = o; is_row = is_row; is_new = is }
