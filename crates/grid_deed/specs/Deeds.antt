-- What the carrying out of a plan leaves.
use Rattle.std.specs.Prelude.{◌≡◌, ◌≢◌, ◌⊎◌, ℕ, ◌+◌, ◌*◌, ◌^◌, ◌<◌, List, [], length, Option, None, Some, Result, Ok, Err, IsTrue, IfOk}
use Rattle.grid_outside.specs.Device.{IsSettled, Leaves}
use Rattle.grid_outside.specs.Disk.{DiskState}
use Rattle.grid_outside.specs.Files.{StoreState}
use Rattle.grid_outside.specs.declared.outside.Outside.{Outside}
use Rattle.grid_outside.specs.declared.outside.Wear.TheVariants.{Log}
use Rattle.grid_model.specs.DataLines.{parts}
use Rattle.grid_model.specs.Digests.{HasDigest}
use Rattle.grid_model.specs.Names.{Text}
use Rattle.grid_model.specs.Rows.{Cat}
use Rattle.grid_model.specs.Applying.{apply_all}
use Rattle.grid_model.specs.declared.plans.NewFile.{NewFile}
use Rattle.grid_model.specs.declared.plans.OldFile.{OldFile}
use Rattle.grid_model.specs.declared.plans.Plan.{Plan}
use Rattle.grid_journal.specs.Journal.{Journal, ClosesAt}
use Rattle.grid_journal.specs.Stands.{StandsEither, StandsFor}
use Rattle.grid_journal.specs.declared.error.JournalError.{JournalError}
use Rattle.grid_journal.specs.declared.error.JournalError.TheVariants as journal
use Rattle.grid_vault.specs.Copying.{Copies}
use Rattle.grid_vault.specs.Vault.{HasSlot, RoseAt}
use Rattle.grid_vault.specs.declared.fault.Fault.{Fault}
use Rattle.grid_vault.specs.Removal.{SplitInto, FewerThanFaults}
use Rattle.file_laws.specs.Plans.{IsCopyPlan, Turns}
use Rattle.file_laws.specs.Removals.{no_orphans}
use Rattle.grid_deed.specs.declared.copying.Copied.{Copied}
use Rattle.grid_deed.specs.declared.copying.Copied.TheVariants.{Done, Bad}
use Rattle.grid_deed.specs.declared.copying.Copied.TheVariants as copied
use Rattle.grid_deed.specs.Held.{IsHeld, IsKept, CommitEnds}

-- how many moments are drawn at most where so many files are made, each of so many bytes
abbrev pub moments_of : List NewFile → ℕ → ℕ
moments_of files size = length files * (2 + parts size) + 8

-- the same of a body
abbrev pub moments_for : List NewFile → Text → ℕ
moments_for files body = moments_of files (length body)

-- main stands for the one, the other or the third
abbrev pub StandsOne : Cat → Cat → Cat → Text → Type 0
StandsOne kept mid end main = StandsEither kept mid main ⊎ StandsFor main end

-- what a stop leaves of main: after a fault and where memory or room ran out, nothing of the last changes
abbrev pub DeedLeaves : Cat → Cat → Cat → Result (Option Fault) JournalError → Text → Type 0
DeedLeaves kept mid end (Ok None) main = StandsOne kept mid end main
DeedLeaves kept mid end (Err journal.DiskFault) main = StandsOne kept mid end main
DeedLeaves kept mid end other main = StandsEither kept mid main

-- how it ended
abbrev pub DeedEnds : {B : Type 0} → (B → StoreState) → List B → List B → Cat → Cat → Cat → List NewFile → DiskState → DiskState
    → Result (Option Fault) JournalError → Journal → Type 0
DeedEnds plugin stores_old stores_new kept mid end files main_old main_new (Ok None) new = IsKept end main_old main_new new
DeedEnds plugin stores_old stores_new kept mid end files main_old main_new (Ok (Some fault)) new =
    HasSlot files fault.slot × RoseAt plugin fault.slot stores_old stores_new × IsKept mid main_old main_new new
DeedEnds plugin stores_old stores_new kept mid end files main_old main_new (Err journal.DiskFault) new = Unit {0}
DeedEnds plugin stores_old stores_new kept mid end files main_old main_new (Err journal.Memory) new =
    IsTrue main_old.tells → StandsEither kept mid main_new.holds
DeedEnds plugin stores_old stores_new kept mid end files main_old main_new (Err (journal.Worn what place)) new =
    (what ≡ Log) × (2 ^ 62 < place) × (IsTrue main_old.tells → ClosesAt main_new.holds place × StandsEither kept mid main_new.holds)
DeedEnds plugin stores_old stores_new kept mid end files main_old main_new (Err other) new = ⊥

-- A plan was carried out that leads from the first catalogue over the second to the third, or how far that came, from so many
-- moments on.
pub record IsDone {B : Type 0} (plugin : B → StoreState) (kept mid end : Cat) (files : List NewFile) (from : ℕ) (main_old main_new : DiskState)
    (stores_old stores_new : List B) (result : Result (Option Fault) JournalError) (new : Journal) : Type 0 where
  pub ends : DeedEnds plugin stores_old stores_new kept mid end files main_old main_new result new
  pub leaves : IsTrue main_old.tells → IsSettled main_old → Leaves from (DeedLeaves kept mid end result) main_new

-- ---- the copying of a file

-- What an answer says of what was read: each file has the recorded bytes, or a call of one of these slots failed, or other bytes
-- were found. Where there are no files nothing was read.
abbrev pub CopySays : {B : Type 0} → (B → StoreState) → List NewFile → OldFile → List B → List B → Copied → Type 0
CopySays plugin files from stores_old stores_new Done = (files ≡ []) ⊎ Copies plugin from files stores_old stores_new None
CopySays plugin files from stores_old stores_new (copied.Fault fault) =
    (files ≢ []) × (HasSlot files fault.slot ⊎ (fault.slot ≡ from.slot)) × RoseAt plugin fault.slot stores_old stores_new
CopySays plugin files from stores_old stores_new (Bad found) = (files ≢ []) × Copies plugin from files stores_old stores_new (Some found)

-- the rows take these files for copies of that one, where there are any
abbrev pub TakesAsCopied : List NewFile → OldFile → Cat → Cat → Type 0
TakesAsCopied files from before after = (body : Text) → (files ≢ [] → HasDigest from.size from.digest body) → Turns files body before after

-- what a stop leaves of main: nothing of the last changes, unless the files were made
abbrev pub CopyLeaves : Cat → Cat → Cat → Result Copied JournalError → Text → Type 0
CopyLeaves kept mid end (Ok Done) main = StandsOne kept mid end main
CopyLeaves kept mid end (Ok other) main = StandsEither kept mid main
CopyLeaves kept mid end (Err e) main = DeedLeaves kept mid end (Err e) main

module _ {D A P : Type 0} (disk : D → DiskState) (plugin : P → StoreState) {kept cat : Cat} {stores : ℕ} {plan : Plan} {from : OldFile}
    (p : IsCopyPlan kept cat stores plan from) (old new : Outside D A P) where
  -- how it ended: with the last changes, or with the first ones alone
  abbrev pub CopyEnds : Result Copied JournalError → Journal → Type 0
  CopyEnds (Ok Done) journal = IsKept p.end (disk old.main) (disk new.main) journal
  CopyEnds (Ok other) journal = IsKept p.mid (disk old.main) (disk new.main) journal
  CopyEnds (Err e) journal =
      DeedEnds plugin old.stores.items new.stores.items kept p.mid p.end plan.files (disk old.main) (disk new.main) (Err e) journal

  -- A plan was carried out whose files were copied from this one, or how far that came.
  pub record IsCopied (result : Result Copied JournalError) (journal : Journal) : Type 0 where
    pub ends : CopyEnds result journal
    pub says : IfOk result (CopySays plugin plan.files from old.stores.items new.stores.items)
    pub leaves : IsTrue (disk old.main).tells → IsSettled (disk old.main) → Leaves old.moments (CopyLeaves kept p.mid p.end result) (disk new.main)
    -- the last changes were not asked for, or they are in order for some body
    pub turned : (IsTrue (disk old.main).tells → IsSettled (disk old.main) → Leaves old.moments (StandsEither kept p.mid) (disk new.main))
        ⊎ ((body : Text) × Turns plan.files body p.mid p.end)

-- ---- the removal of an orphan's file

-- how it ended: where a store failed, nothing else was done
abbrev pub DiscardEnds : {B : Type 0} → (B → StoreState) → List B → List B → Cat → Cat → ℕ → DiskState → DiskState → Journal
    → Result (Option Fault) JournalError → Journal → Type 0
DiscardEnds plugin stores_old stores_new kept after slot main_old main_new old (Ok None) new = IsKept after main_old main_new new
DiscardEnds plugin stores_old stores_new kept after slot main_old main_new old (Ok (Some fault)) new =
    (fault.slot ≡ slot) × RoseAt plugin slot stores_old stores_new × (new ≡ old)
DiscardEnds plugin stores_old stores_new kept after slot main_old main_new old (Err e) new = CommitEnds kept after old main_old main_new (Err e) new

-- The file is gone and its row too, or how far that came, from so many moments on.
pub record IsDiscarded {B : Type 0} (plugin : B → StoreState) (kept after : Cat) (slot from : ℕ) (main_old main_new : DiskState)
    (stores_old stores_new : List B) (old : Journal) (result : Result (Option Fault) JournalError) (new : Journal) : Type 0 where
  pub ends : DiscardEnds plugin stores_old stores_new kept after slot main_old main_new old result new
  pub leaves : IsTrue main_old.tells → IsSettled main_old → Leaves from (StandsEither kept after) main_new

-- ---- the removal of many orphans' files

-- how it ended: the files that are left are answered, and where some are gone their rows were taken away; else main is as it was
abbrev pub DiscardAllEnds : {D B : Type 0} → (D → DiskState) → (B → StoreState) → List B → List B → Cat → Cat → List NewFile → List NewFile
    → D → D → Journal → Result (List NewFile) JournalError → Journal → Type 0
DiscardAllEnds disk plugin stores_old stores_new kept after gone left main_old main_new old (Ok answered) new =
    (answered ≡ left) × FewerThanFaults plugin left stores_old stores_new
    × (((gone ≡ []) × (new ≡ old) × IsHeld kept (disk main_new) new × (main_new ≡ main_old))
    ⊎ ((gone ≢ []) × IsKept after (disk main_old) (disk main_new) new))
DiscardAllEnds disk plugin stores_old stores_new kept after gone left main_old main_new old (Err e) new =
    CommitEnds kept after old (disk main_old) (disk main_new) (Err e) new

-- Each file is gone or left, and the rows of those that are gone were taken away, or how far that came, from so many moments on.
pub record AreDiscarded {D B : Type 0} (disk : D → DiskState) (plugin : B → StoreState) (kept : Cat) (files : List NewFile) (from : ℕ) (main_old main_new : D)
    (stores_old stores_new : List B) (old : Journal) (result : Result (List NewFile) JournalError) (new : Journal) : Type 0 where
  pub gone : List NewFile
  pub left : List NewFile
  pub after : Cat
  pub split : SplitInto files gone left
  pub applied : apply_all kept (no_orphans gone) ≡ Ok after
  pub ends : DiscardAllEnds disk plugin stores_old stores_new kept after gone left main_old main_new old result new
  pub leaves : IsTrue (disk main_old).tells → IsSettled (disk main_old) → Leaves from (StandsEither kept after) (disk main_new)
