-- What looking at the files of an object's replicas gives.
use Rattle.std.specs.Prelude.{◌≡◌, ℕ, ◌+◌, ◌≤◌, List, [], ◌∷◌, ◌++◌, length, slice_get, Some, Result, Ok, Err, IsTrue}
use Rattle.grid_outside.specs.Disk.{DiskState}
use Rattle.grid_outside.specs.Files.{StoreState}
use Rattle.grid_model.specs.Rows.{Cat}
use Rattle.grid_model.specs.Deeds.{Deed}
use Rattle.grid_model.specs.declared.marks.BadReplica.{BadReplica}
use Rattle.grid_model.specs.declared.marks.Mark.TheVariants as mark
use Rattle.grid_model.specs.declared.refusal.Failure.{Failure}
use Rattle.grid_model.specs.declared.refusal.Failure.TheVariants.{Refused}
use Rattle.grid_model.specs.declared.refusal.Refusal.TheVariants as refusal
use Rattle.grid_model.specs.declared.plans.OldFile.{OldFile}
use Rattle.grid_journal.specs.Journal.{Journal}
use Rattle.grid_vault.specs.Reading.{Differs, IsAsRecorded}
use Rattle.grid_vault.specs.Sending.{IsReadOf}
use Rattle.grid_vault.specs.Vault.{RoseAt}
use Rattle.service_run.specs.declared.command.Command.{Command}
use Rattle.service_run.specs.declared.looking.Looked.{Looked}
use Rattle.service_run.specs.declared.looking.Looked.TheVariants as looked
use Rattle.service_run.specs.Changes.{LedOn, mark_fits, with_mark}

module _ {B : Type 0} (plugin : B → StoreState) (stores : List B) where
  -- These bytes of the file were read in its store, at most one past the recorded size, and they are not what is recorded.
  pub record ReadsOther (file : OldFile) (b : BadReplica) : Type 0 where
    pub store : B
    pub is : slice_get stores file.slot ≡ Some store
    pub number : b.number ≡ file.number
    pub bytes : List ℕ
    pub one_more : length bytes ≤ file.size + 1
    pub of_file : IsTrue (plugin store).tells → IsReadOf file bytes (plugin store).holds
    pub is_other : Differs file bytes (record { len = b.len; digest = b.found })

  -- What is recorded of the file was read in its store.
  pub record ReadsWhole (file : OldFile) : Type 0 where
    pub store : B
    pub is : slice_get stores file.slot ≡ Some store
    pub bytes : List ℕ
    pub of_file : IsTrue (plugin store).tells → IsReadOf file bytes (plugin store).holds
    pub as_recorded : IsAsRecorded file bytes

  -- each of the files was read, in their order: these were found to be other than recorded, and all others to be as recorded
  pub data AreSeen : List OldFile → List BadReplica → Type 0 where
    seen_none : AreSeen [] []
    seen_whole : {files : List OldFile} {bad : List BadReplica} (file : OldFile) → ReadsWhole file → AreSeen files bad → AreSeen (file ∷ files) bad
    seen_bad : {files : List OldFile} {bad : List BadReplica} (file : OldFile) (b : BadReplica) → ReadsOther file b → AreSeen files bad
        → AreSeen (file ∷ files) (b ∷ bad)

-- the file was read, and what was found is behind the bad ones
abbrev pub SawFile : {B : Type 0} → (B → StoreState) → List B → OldFile → List BadReplica → List BadReplica → Type 0
SawFile plugin stores file old new = (added : List BadReplica) × AreSeen plugin stores (file ∷ []) added × (new ≡ old ++ added)

-- one of the files is in this slot
pub record IsFileIn (files : List OldFile) (slot : ℕ) : Type 0 where
  pub place : ℕ
  pub file : OldFile
  pub is : slice_get files place ≡ Some file
  pub slot_is : file.slot ≡ slot

-- how the looking at these files ended: a call of the slot of one failed, or all were read
abbrev pub LooksSay : {B : Type 0} → (B → StoreState) → List OldFile → List B → List B → Looked → Type 0
LooksSay plugin files old new (looked.Fault slot) = IsFileIn files slot × RoseAt plugin slot old new
LooksSay plugin files old new (looked.Found bad) = AreSeen plugin old files bad

-- ---- what is taken of it

-- a word and a time that were drawn
pub record Drawn : Type 0 where
  pub word : ℕ
  pub now : ℕ

module _ (kept : Cat) (main : DiskState) (rows : Journal) (x y : Command) (after : Journal) (of : Deed) (drawn : Drawn) where
  -- The command took the mark of that, which may be kept, and failed where it tells of a fault. Else the grid is that of the deed, by
  -- changes that are staged.
  abbrev pub TookLooked : Looked → Result Unit Failure → Type 0
  TookLooked (looked.Fault slot) ran =
      (ran ≡ Err (Refused (refusal.Fault slot))) × (y ≡ with_mark x (mark.Fault slot 0)) × (after ≡ rows) × IsTrue (mark_fits (mark.Fault slot 0))
  TookLooked (looked.Found bad) ran =
      (ran ≡ Ok tt) × (y ≡ with_mark x (mark.Ran drawn.word drawn.now bad)) × LedOn kept rows.cat (of.ran drawn.word drawn.now bad) main after
      × IsTrue (mark_fits (mark.Ran drawn.word drawn.now bad))
