-- Plans of deeds that copy a file: a repl, and what else copies one.
use Rattle.std.specs.Prelude.{◌≡◌, ◌≢◌, ℕ, ◌<◌, Bool, true, not, ◌&&◌, ◌==◌, List, [], ◌∷◌, ◌++◌, map, filter, length, None, Some, Result, Ok, Err, IsTrue}
use Rattle.std.specs.List.{list_all, list_any}
use Rattle.grid_model.specs.Digests.{Digest}
use Rattle.grid_model.specs.Names.{Text, Path}
use Rattle.grid_model.specs.Grid.{Grid}
use Rattle.grid_model.specs.Rows.{Cat, object, replicas_of}
use Rattle.grid_model.specs.RowGrids.{grid_of}
use Rattle.grid_model.specs.Refusing.{Or}
use Rattle.grid_model.specs.Trees.{is_any, possible}
use Rattle.grid_model.specs.Deeds.{Act, Deed, deed, bad_fits, differs, fault_fits, fits}
use Rattle.grid_model.specs.Operations.Common.{resource_there}
use Rattle.grid_model.specs.Operations.Replicas.{repl_row}
use Rattle.grid_model.specs.declared.deltas.ObjectRow.{ObjectRow}
use Rattle.grid_model.specs.declared.deltas.ReplicaRow.{ReplicaRow}
use Rattle.grid_model.specs.declared.grid.Level.TheVariants.{Write}
use Rattle.grid_model.specs.declared.marks.Mark.TheVariants.{Ran}
use Rattle.grid_model.specs.declared.plans.OldFile.{OldFile}
use Rattle.grid_model.specs.declared.plans.Plan.{Plan}
use Rattle.grid_model.specs.declared.plans.PlanError.{PlanError}
use Rattle.grid_model.specs.declared.plans.PlanError.TheVariants.{Refused, Memory}
use Rattle.grid_journal.specs.Journal.{can_be_kept}
use Rattle.grid_vault.specs.Vault.{HasSlot}
use Rattle.file_laws.specs.Plans.{IsCopyPlan}
use Rattle.file_laws.specs.Puts as laws
use Rattle.file_laws.specs.Rewriting.{replicas_dropped, replicas_placed}
use Rattle.plan_object.specs.Allowing.{IsAllowed}
use Rattle.plan_object.specs.LeafNumbers.{leaf_number_of, with_numbers}
use Rattle.plan_object.specs.OverPlans.{replaced}
use Rattle.plan_object.specs.PutPlans.{law_target}
use Rattle.plan_object.specs.Sending.{ReadsFirst}
use Rattle.plan_object.specs.Writing.{Draws}
use Rattle.plan_object.specs.declared.placing.Target.{Target}

-- ---- what is read

-- What is found of a repl before its word is drawn: the user may write the object, the resource is there and has a leaf that new
-- data may go to, and the file is that of the first replica that can be read, in a slot of a store.
pub record MayRepl (c : Cat) (user : Text) (p : Path) (resource : Text) (file : OldFile) : Type 0 where
  pub object_row : ObjectRow
  pub found : object c object_row.id ≡ Some object_row
  pub may : IsAllowed c user p Write object_row.id
  pub known : resource_there (grid_of c) resource ≡ Ok tt
  pub any : is_any (possible (grid_of c).resources resource) ≡ true
  pub reads : ReadsFirst c object_row None file
  pub within : file.slot < c.stores

-- what looking for the source of a repl gives: its file, or why the repl is refused
abbrev pub FindsRepl : Cat → Text → Path → Text → Result OldFile PlanError → Type 0
FindsRepl c user p resource (Ok file) = MayRepl c user p resource file
FindsRepl c user p resource (Err (Refused r)) = repl_row (grid_of c) user p resource ≡ Err r
FindsRepl c user p resource (Err Memory) = Unit {0}

-- ---- the plan

-- one of these replicas is good and on the leaf
abbrev pub has_good_replica : List ReplicaRow → ℕ → Bool
has_good_replica rows leaf = list_any (λ r. r.good && r.leaf == leaf) rows

-- the leaves on which none of them is good
abbrev pub lacking_leaves : List ReplicaRow → List ℕ → List ℕ
lacking_leaves rows leaves = filter (λ leaf. not (has_good_replica rows leaf)) leaves

-- The plan does nothing.
pub record IsIdle (plan : Plan) : Type 0 where
  pub before : plan.before ≡ []
  pub files : plan.files ≡ []
  pub after : plan.after ≡ []

-- The plan puts new replicas of an object that is there on these leaves. Those that are on them go.
pub record PutsReplicas (c : Cat) (o : ObjectRow) (ts : List Target) (plan : Plan) : Type 0 where
  pub before : plan.before ≡ laws.put_before c (map law_target ts)
  pub files : plan.files ≡ laws.files_from c.numbers.next_vault (map law_target ts)
  pub after : plan.after
      ≡ replicas_dropped (replaced ts (replicas_of c o.id))
      ++ replicas_placed o c.numbers.next_vault (with_numbers (map leaf_number_of (replicas_of c o.id)) (map law_target ts))
  pub spelled_first : IsTrue (list_all can_be_kept plan.before)
  pub spelled_then : IsTrue (list_all can_be_kept plan.after)

-- and does nothing where there is no leaf
abbrev pub IsReplPlan : Cat → ObjectRow → List Target → Plan → Type 0
IsReplPlan c o [] plan = IsIdle plan
IsReplPlan c o (t ∷ ts) plan = PutsReplicas c o (t ∷ ts) plan

-- ---- the deed

-- The plan may be carried out with this file and makes this grid: before the files are there nothing is seen of it.
pub record CopiesGrid (c : Cat) (g : Grid) (from : OldFile) (plan : Plan) : Type 0 where
  pub is_plan : IsCopyPlan c c c.stores plan from
  pub before : grid_of is_plan.mid ≡ grid_of c
  pub ran : grid_of is_plan.end ≡ g
  pub drawn_first : Draws c (length plan.files) is_plan.mid
  pub drawn : Draws c (length plan.files) is_plan.end

-- A plan of a deed that copies a file: what it makes of the rows is what the row says of the grid, and what its calls of the stores may
-- come to fits.
pub record CopiesFile (c : Cat) (row : Or Act) (word now : ℕ) (from : OldFile) (plan : Plan) : Type 0 where
  pub of : Deed
  pub row_is : row ≡ Ok (deed of)
  pub size : of.size ≡ from.size
  pub digest : of.digest ≡ from.digest
  pub makes : CopiesGrid c (of.ran word now []) from plan
  pub ran : IsTrue (fits of (Ran word now []))
  pub slots : (slot : ℕ) → HasSlot plan.files slot → IsTrue (fault_fits of.touch of.size slot 0)
  pub source : plan.files ≢ [] → IsTrue (fault_fits of.touch of.size from.slot 0)
  pub bad : plan.files ≢ [] → (len : ℕ) (found : Digest) → IsTrue (differs len found of.size of.digest)
      → IsTrue (bad_fits of.touch of.size of.digest from.slot len found 0)
