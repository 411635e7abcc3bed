-- The plan of a chksum: the files that it reads, and the replicas that are stale from then on.
use Rattle.std.specs.Prelude.{◌≡◌, ℕ, ◌<◌, true, false, ◌&&◌, List, [], ◌∷◌, map, filter, Option, None, Some, Result, Ok, Err, IsTrue}
use Rattle.std.specs.List.{AllByRecursion, Contains, list_all}
use Rattle.grid_model.specs.Names.{Text, Path}
use Rattle.grid_model.specs.Grid.{Grid, Replica}
use Rattle.grid_model.specs.Rows.{Cat, resource}
use Rattle.grid_model.specs.RowGrids.{grid_of, replica_of}
use Rattle.grid_model.specs.Applying.{apply_all}
use Rattle.grid_model.specs.Whole.{leaf_slot}
use Rattle.grid_model.specs.Deeds.{Deed, deed, differs, fault_fits, fits, is_among, reading}
use Rattle.grid_model.specs.Operations.Replicas.{chksum_row}
use Rattle.grid_model.specs.declared.deltas.Delta.{Delta}
use Rattle.grid_model.specs.declared.deltas.ReplicaRow.{ReplicaRow}
use Rattle.grid_model.specs.declared.deltas.ResourceRow.{ResourceRow}
use Rattle.grid_model.specs.declared.marks.BadReplica.{BadReplica}
use Rattle.grid_model.specs.declared.marks.Mark.TheVariants.{Ran}
use Rattle.grid_model.specs.declared.plans.OldFile.{OldFile}
use Rattle.grid_model.specs.declared.plans.PlanError.{PlanError}
use Rattle.grid_model.specs.declared.plans.PlanError.TheVariants.{Refused, Memory}
use Rattle.grid_journal.specs.Journal.{can_be_kept}
use Rattle.file_laws.specs.Plans.{Turns}
use Rattle.plan_object.specs.Writing.{Draws}

-- ---- what is read

-- the file of a replica, if its leaf is there and up
abbrev pub file_on : ReplicaRow → Option ResourceRow → Option OldFile
file_on r None = None
file_on r (Some leaf) = elim leaf.up [
  | true ↦ Some (record { slot = leaf.slot; name = r.vault; number = r.number; size = r.size; digest = r.digest })
  | false ↦ None
]

-- the file of a replica that can be read
abbrev pub read_file : Cat → ReplicaRow → Option OldFile
read_file c r = elim r.good [ true ↦ file_on r (resource c r.leaf) | false ↦ None ]

-- with these behind it, if there is one
abbrev pub and_files : Option OldFile → List OldFile → List OldFile
and_files None files = files
and_files (Some file) files = file ∷ files

-- the files of those that can be read
abbrev pub read_files : Cat → List ReplicaRow → List OldFile
read_files c [] = []
read_files c (r ∷ rows) = and_files (read_file c r) (read_files c rows)

-- the file is that of the replica, which the rows name
pub record IsFileOf (c : Cat) (e : ℕ × Replica) (file : OldFile) : Type 0 where
  pub row : ReplicaRow
  pub there : Contains c.replicas row
  pub is : e ≡ (row.number, replica_of c row)
  pub file_is : file ≡ record { slot = file.slot; name = row.vault; number = row.number; size = row.size; digest = row.digest }
  pub good : IsTrue row.good
  pub slot_is : leaf_slot c row.leaf ≡ Some file.slot
  pub within : file.slot < c.stores

-- they are the files of these replicas, in their order
abbrev pub AreFilesOf : Cat → List (ℕ × Replica) → List OldFile → Type 0
AreFilesOf c [] [] = Unit {0}
AreFilesOf c (e ∷ es) (file ∷ files) = IsFileOf c e file × AreFilesOf c es files
AreFilesOf c es files = ⊥

-- Some of the files were found bad, in their order: what was read of each of these differs from what is recorded.
pub data AreFound : List OldFile → List BadReplica → Type 0 where
  found_none : AreFound [] []
  found_whole : {files : List OldFile} {bad : List BadReplica} (file : OldFile) → AreFound files bad → AreFound (file ∷ files) bad
  found_bad : {files : List OldFile} {bad : List BadReplica} (file : OldFile) (b : BadReplica) → b.number ≡ file.number
      → IsTrue (differs b.len b.found file.size file.digest) → AreFound files bad → AreFound (file ∷ files) (b ∷ bad)

-- The chksum is the deed of reading these files, those of all replicas that can be read; a call of the store of each may fail, and some
-- may be found bad.
pub record MayChksum (c : Cat) (user : Text) (p : Path) (files : List OldFile) : Type 0 where
  pub of : Deed
  pub row_is : chksum_row (grid_of c) user p ≡ Ok (deed of)
  pub read : List (ℕ × Replica)
  pub touch_is : of.touch ≡ reading read (map (λ (file : OldFile). file.slot) files)
  pub files_are : AreFilesOf c read files
  pub faults : AllByRecursion (λ (file : OldFile). IsTrue (fault_fits of.touch of.size file.slot 0)) files
  pub ran : (word now : ℕ) (bad : List BadReplica) → AreFound files bad → IsTrue (fits of (Ran word now bad))

-- what looking for the files of a chksum gives, or why it is refused
abbrev pub FindsChksum : Cat → Text → Path → Result (List OldFile) PlanError → Type 0
FindsChksum c user p (Ok files) = MayChksum c user p files
FindsChksum c user p (Err (Refused r)) = chksum_row (grid_of c) user p ≡ Err r
FindsChksum c user p (Err Memory) = Unit {0}

-- ---- the plan

-- the good replicas that have one of these numbers
abbrev pub named_bad : List ℕ → List ReplicaRow → List ReplicaRow
named_bad numbers rows = filter (λ r. r.good && is_among numbers r.number) rows

-- The changes make this grid, and name each file that was named: no number is drawn.
pub record MarksBad (c : Cat) (g : Grid) (changes : List Delta) : Type 0 where
  pub end : Cat
  pub applied : apply_all c changes ≡ Ok end
  pub spelled : IsTrue (list_all can_be_kept changes)
  pub grid : grid_of end ≡ g
  pub turns : Turns [] [] c end
  pub drawn : Draws c 0 end
