-- The plan of a put over an object that is there, and what becomes of its replicas.
use Rattle.std.specs.Prelude.{◌≡◌, ℕ, not, ◌&&◌, ◌==◌, List, [], ◌∷◌, ◌++◌, map, filter, find, Option, None, Some, option_map, IsTrue}
use Rattle.std.specs.List.{list_all, list_any}
use Rattle.grid_model.specs.Rows.{Cat, object, replicas_of}
use Rattle.grid_model.specs.declared.deltas.Delta.TheVariants as delta
use Rattle.grid_model.specs.declared.deltas.ObjectRow.{ObjectRow}
use Rattle.grid_model.specs.declared.deltas.ReplicaRow.{ReplicaRow}
use Rattle.grid_model.specs.declared.plans.Plan.{Plan}
use Rattle.grid_journal.specs.Journal.{can_be_kept}
use Rattle.file_laws.specs.Puts as laws
use Rattle.file_laws.specs.Rewriting.{StoredReplica, replicas_dropped, replicas_placed, replicas_staled}
use Rattle.plan_object.specs.LeafNumbers.{leaf_number_of, with_numbers}
use Rattle.plan_object.specs.PutPlans.{law_target}
use Rattle.plan_object.specs.Writing.{Recorded}
use Rattle.plan_object.specs.declared.placing.Target.{Target}

-- ---- the replicas that are there

-- the slot of the target that is this leaf
abbrev pub slot_on : List Target → ℕ → Option ℕ
slot_on ts leaf = option_map (λ (t : Target). t.slot) (find (λ (t : Target). t.leaf == leaf) ts)

-- a replica on a target goes
abbrev pub replaced_by : ReplicaRow → Option ℕ → List StoredReplica
replaced_by r None = []
replaced_by r (Some slot) = record { row = r; slot = slot } ∷ []

-- those on the targets
abbrev pub replaced : List Target → List ReplicaRow → List StoredReplica
replaced ts [] = []
replaced ts (r ∷ rows) = replaced_by r (slot_on ts r.leaf) ++ replaced ts rows

-- the good ones that are on none
abbrev pub outdated : List Target → List ReplicaRow → List ReplicaRow
outdated ts rows = filter (λ r. r.good && not (list_any (λ (t : Target). t.leaf == r.leaf) ts)) rows

-- ---- the plan

-- the object's row with what is recorded
abbrev pub rewritten : ObjectRow → Recorded → ObjectRow
rewritten o r = record o { size = r.size; digest = r.digest; time = r.now }

-- The plan writes this row of an object that is there, and its replicas on these leaves. Those on them go, and the other ones are stale.
pub record IsOverPlan (c : Cat) (o : ObjectRow) (ts : List Target) (plan : Plan) : Type 0 where
  pub before : plan.before ≡ laws.put_before c (map law_target ts)
  pub files : plan.files ≡ laws.files_from c.numbers.next_vault (map law_target ts)
  pub after : plan.after
      ≡ replicas_dropped (replaced ts (replicas_of c o.id)) ++ (replicas_staled (outdated ts (replicas_of c o.id)) ++ (delta.Object o
      ∷ replicas_placed o c.numbers.next_vault (with_numbers (map leaf_number_of (replicas_of c o.id)) (map law_target ts))))
  pub spelled_first : IsTrue (list_all can_be_kept plan.before)
  pub spelled_then : IsTrue (list_all can_be_kept plan.after)

-- the plan writes this over the object with the id
pub record WritesOver (c : Cat) (id : ℕ) (r : Recorded) (ts : List Target) (plan : Plan) : Type 0 where
  pub old : ObjectRow
  pub found : object c id ≡ Some old
  pub is_over : IsOverPlan c (rewritten old r) ts plan
