-- The changes that go with an object that is written over, and with replicas that go, become stale or come.
use Rattle.std.specs.Prelude.{◌≡◌, ◌≢◌, ◌⊎◌, ℕ, ◌+◌, true, false, List, [], ◌∷◌, ◌++◌, map, Some, IsTrue}
use Rattle.std.specs.List.{AllByRecursion, Contains, list_all}
use Rattle.grid_model.specs.Rows.{Cat, resource}
use Rattle.grid_model.specs.Whole.{leaf_slot}
use Rattle.grid_model.specs.declared.deltas.Delta.{Delta}
use Rattle.grid_model.specs.declared.deltas.Delta.TheVariants as delta
use Rattle.grid_model.specs.declared.deltas.ObjectRow.{ObjectRow}
use Rattle.grid_model.specs.declared.deltas.ReplicaRow.{ReplicaRow}
use Rattle.grid_model.specs.declared.deltas.ResourceRow.{ResourceRow}
use Rattle.grid_model.specs.declared.plans.Plan.{Plan}
use Rattle.grid_journal.specs.Journal.{can_be_kept}
use Rattle.file_laws.specs.Plans.{names_no_file}
use Rattle.file_laws.specs.Puts.{Target, files_from, put_before}

-- ---- replicas that go

-- a replica, and the slot of the store that has its file
pub record StoredReplica : Type 0 where
  pub row : ReplicaRow
  pub slot : ℕ

-- they are replicas on leaves of these slots
abbrev pub AreStored : Cat → List StoredReplica → Type 0
AreStored c stored = AllByRecursion (λ s. Contains c.replicas s.row × (leaf_slot c s.row.leaf ≡ Some s.slot)) stored

-- their rows are taken away, and their files become orphans
abbrev pub replicas_dropped : List StoredReplica → List Delta
replicas_dropped [] = []
replicas_dropped (s ∷ stored) =
    delta.NoReplica s.row.object s.row.number
    ∷ delta.Orphan (record { vault = s.row.vault; slot = s.slot })
    ∷ replicas_dropped stored

-- ---- replicas that are no longer good

-- they are replicas
abbrev pub AreReplicas : Cat → List ReplicaRow → Type 0
AreReplicas c rows = AllByRecursion (λ r. Contains c.replicas r) rows

-- they are as they were, but not good
abbrev pub replicas_staled : List ReplicaRow → List Delta
replicas_staled [] = []
replicas_staled (r ∷ rows) = delta.Replica (record r { good = false }) ∷ replicas_staled rows

-- ---- replicas that come

-- a leaf, the slot of its store, and the number of the replica that comes there
pub record NumberedTarget : Type 0 where
  pub target : Target
  pub number : ℕ

-- the leaves and slots
abbrev pub targets_of : List NumberedTarget → List Target
targets_of ts = map (λ (t : NumberedTarget). t.target) ts

-- they are leaves of these slots, and no two have one number
abbrev pub AreNumbered : Cat → List NumberedTarget → Type 0
AreNumbered c [] = Unit {0}
AreNumbered c (t ∷ ts) =
    (leaf_slot c t.target.leaf ≡ Some t.target.slot) × AllByRecursion (λ (u : NumberedTarget). u.number ≢ t.number) ts × AreNumbered c ts

-- the files, numbered from this one on, are no longer orphans but the object's
abbrev pub replicas_placed : ObjectRow → ℕ → List NumberedTarget → List Delta
replicas_placed o v [] = []
replicas_placed o v (t ∷ ts) =
    delta.NoOrphan v
    ∷ delta.Replica (record { object = o.id; number = t.number; leaf = t.target.leaf; good = true; size = o.size; digest = o.digest; vault = v })
    ∷ replicas_placed o (v + 1) ts

-- ---- the plan

-- what an object's new bytes do to its replicas, with changes that name no file in between
pub record Rewriting : Type 0 where
  -- those that go
  pub dropped : List StoredReplica
  -- those that are no longer good
  pub staled : List ReplicaRow
  -- where new ones come
  pub targets : List NumberedTarget
  -- the changes that name no file: before the stores are asked, before the new replicas, and last
  pub early : List Delta
  pub between : List Delta
  pub late : List Delta

-- the replica goes
abbrev pub IsDropped : Rewriting → ReplicaRow → Type 0
IsDropped w r = Contains (map (λ (s : StoredReplica). s.row) w.dropped) r

-- The replicas that go and those that become stale are replicas, and the new ones come to leaves, under numbers that no replica of
-- the object has that stays.
pub record MayRewrite (c : Cat) (o : ObjectRow) (w : Rewriting) : Type 0 where
  pub dropped : AreStored c w.dropped
  pub staled : AreReplicas c w.staled
  pub targets : AreNumbered c w.targets
  pub free : AllByRecursion (λ r. r.object ≡ o.id → IsDropped w r ⊎ AllByRecursion (λ (t : NumberedTarget). t.number ≢ r.number) w.targets) c.replicas
  pub early : IsTrue (list_all names_no_file w.early)
  pub between : IsTrue (list_all names_no_file w.between)
  pub late : IsTrue (list_all names_no_file w.late)

-- each good replica of the object goes or becomes stale
abbrev pub LeavesNoneGood : Cat → ObjectRow → Rewriting → Type 0
LeavesNoneGood c o w = AllByRecursion (λ r. r.object ≡ o.id → IsTrue r.good → IsDropped w r ⊎ Contains w.staled r) c.replicas

-- The plan draws the numbers of the new files, makes them orphans and then replicas of the object, behind these changes of its own row.
pub record IsRewriting (c : Cat) (o : ObjectRow) (row : List Delta) (w : Rewriting) (plan : Plan) : Type 0 where
  pub before : plan.before ≡ put_before c (targets_of w.targets) ++ w.early
  pub files : plan.files ≡ files_from c.numbers.next_vault (targets_of w.targets)
  pub after : plan.after
      ≡ replicas_dropped w.dropped ++ (replicas_staled w.staled ++ (row ++ (w.between ++ (replicas_placed o c.numbers.next_vault w.targets ++ w.late))))
  pub spelled_first : IsTrue (list_all can_be_kept plan.before)
  pub spelled_then : IsTrue (list_all can_be_kept plan.after)

-- ---- resources

-- a resource that has the id has the slot
abbrev pub KeepsSlot : Cat → ResourceRow → Type 0
KeepsSlot c r = (old : ResourceRow) → resource c r.id ≡ Some old → old.slot ≡ r.slot
