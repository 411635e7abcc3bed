-- The changes that go with a new object that is put on several leaves.
use Rattle.std.specs.Prelude.{◌≡◌, ℕ, ◌+◌, true, List, [], ◌∷◌, ◌++◌, length, Some, IsTrue}
use Rattle.std.specs.List.{AllByRecursion, list_all}
use Rattle.grid_model.specs.Rows.{Cat}
use Rattle.grid_model.specs.Whole.{leaf_slot}
use Rattle.grid_model.specs.declared.deltas.Delta.{Delta}
use Rattle.grid_model.specs.declared.deltas.Delta.TheVariants as delta
use Rattle.grid_model.specs.declared.deltas.ObjectRow.{ObjectRow}
use Rattle.grid_model.specs.declared.plans.NewFile.{NewFile}
use Rattle.grid_model.specs.declared.plans.Plan.{Plan}
use Rattle.grid_journal.specs.Journal.{can_be_kept}

-- a leaf and the slot of its store
pub record Target : Type 0 where
  pub leaf : ℕ
  pub slot : ℕ

-- they are leaves of these slots
abbrev pub AreLeaves : Cat → List Target → Type 0
AreLeaves c ts = AllByRecursion (λ t. leaf_slot c t.leaf ≡ Some t.slot) ts

-- the files, numbered from this one on
abbrev pub files_from : ℕ → List Target → List NewFile
files_from v [] = []
files_from v (t ∷ ts) = record { slot = t.slot; name = v } ∷ files_from (v + 1) ts

-- they are orphans
abbrev pub orphans_from : ℕ → List Target → List Delta
orphans_from v [] = []
orphans_from v (t ∷ ts) = delta.Orphan (record { vault = v; slot = t.slot }) ∷ orphans_from (v + 1) ts

-- they are the object's
abbrev pub replicas_from : ObjectRow → ℕ → ℕ → List Target → List Delta
replicas_from o number v [] = []
replicas_from o number v (t ∷ ts) =
    delta.NoOrphan v
    ∷ delta.Replica (record { object = o.id; number = number; leaf = t.leaf; good = true; size = o.size; digest = o.digest; vault = v })
    ∷ replicas_from o (number + 1) (v + 1) ts

-- before the stores are asked: the numbers of the files are drawn, and the files are orphans
abbrev pub put_before : Cat → List Target → List Delta
put_before c ts = delta.Numbers (record c.numbers { next_vault = c.numbers.next_vault + length ts }) ∷ orphans_from c.numbers.next_vault ts

-- after they were made: the object is there, and they are its replicas, as put by the command of this number
abbrev pub put_after : Cat → ObjectRow → List Target → ℕ → List Delta
put_after c o ts n =
    delta.Object o
    ∷ (replicas_from o 0 c.numbers.next_vault ts
    ++ delta.Numbers (record { next_vault = c.numbers.next_vault + length ts; run = c.numbers.run; last = n }) ∷ [])

-- the plan is the putting of this object on these leaves, by the command of this number
pub record IsPut (c : Cat) (o : ObjectRow) (ts : List Target) (n : ℕ) (plan : Plan) : Type 0 where
  pub before : plan.before ≡ put_before c ts
  pub files : plan.files ≡ files_from c.numbers.next_vault ts
  pub after : plan.after ≡ put_after c o ts n
  pub spelled_first : IsTrue (list_all can_be_kept plan.before)
  pub spelled_then : IsTrue (list_all can_be_kept plan.after)
