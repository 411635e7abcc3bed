-- What the carrying out of a plan leaves that writes files for a command that is noted.
use Rattle.std.specs.Prelude.{◌≡◌, ℕ, ◌<◌, ◌++◌, List, [], Option, None, Some, Result, Ok, Err, IsTrue}
use Rattle.grid_outside.specs.Device.{IsSettled}
use Rattle.grid_outside.specs.Disk.{DiskState}
use Rattle.grid_outside.specs.Files.{StoreState}
use Rattle.grid_outside.specs.Sink.{SinkState}
use Rattle.grid_model.specs.Names.{Text}
use Rattle.grid_model.specs.Rows.{Cat}
use Rattle.grid_model.specs.declared.marks.Mark.{Mark}
use Rattle.grid_model.specs.declared.marks.Mark.TheVariants as mark
use Rattle.grid_model.specs.declared.plans.NewFile.{NewFile}
use Rattle.grid_model.specs.declared.plans.Plan.{Plan}
use Rattle.grid_model.specs.declared.refusal.Failure.{Failure}
use Rattle.grid_model.specs.declared.refusal.Failure.TheVariants.{Refused}
use Rattle.grid_model.specs.declared.refusal.Refusal.TheVariants as refusal
use Rattle.grid_journal.specs.Journal.{Journal}
use Rattle.grid_vault.specs.Vault.{HasSlot, RoseAt}
use Rattle.grid_vault.specs.declared.fault.Fault.{Fault}
use Rattle.file_laws.specs.Plans.{IsPlan}
use Rattle.grid_deed.specs.Held.{IsHeld}
use Rattle.grid_deed.specs.Safe.{AreWhole}
use Rattle.run_laws.specs.Passes.{Seen}
use Rattle.service_run.specs.declared.command.Command.{Command}
use Rattle.service_run.specs.declared.ending.Ending.{Ending}
use Rattle.service_run.specs.Changes.{mark_fits, with_mark}
use Rattle.service_run.specs.Noting.{IsOutOfRoom, NoteLeaves}
use Rattle.service_run.specs.Sums.{Drawn}

-- the mark of a deed that wrote files, of this word and this time: where a call of a store failed, of its slot
abbrev pub written_mark : ℕ → ℕ → Option Fault → Mark
written_mark word now None = mark.Ran word now []
written_mark word now (Some fault) = mark.Fault fault.slot 0

-- it ran, or failed so
abbrev pub written_ran : Option Fault → Result Unit Failure
written_ran None = Ok tt
written_ran (Some fault) = Err (Refused (refusal.Fault fault.slot))

-- what an answer says: a call of the slot of one of the files failed
abbrev pub WriteSays : {B : Type 0} → (B → StoreState) → List NewFile → List B → List B → Option Fault → Type 0
WriteSays plugin files stores_old stores_new None = Unit {0}
WriteSays plugin files stores_old stores_new (Some fault) = HasSlot files fault.slot × RoseAt plugin fault.slot stores_old stores_new

module _ {D A P K : Type 0} (disk : D → DiskState) (plugin : P → StoreState) (sink : K → SinkState) {cat : Cat} {stores : ℕ} {plan : Plan} {body : Text}
    (p : IsPlan cat cat stores plan body) (text : Text) (old new : Seen D A P K) where
  -- the rows behind it: with the last changes only where all was written
  abbrev pub rows_behind : Option Fault → Cat
  rows_behind None = p.end
  rows_behind (Some fault) = p.mid

  -- The first changes were kept and the text was told. The files were written as the answer says, and where all were the last changes are
  -- staged.
  pub record IsWriteStaged (answer : Option Fault) (journal : Journal) : Type 0 where
    pub held : IsHeld p.mid (disk new.outside.main) journal
    pub cat_is : journal.cat ≡ rows_behind answer
    pub settled : IsTrue (disk old.outside.main).tells → IsSettled (disk new.outside.main)
    pub told : IsTrue (sink old.sink).tells → (sink new.sink).holds ≡ (sink old.sink).holds ++ text
    pub sink_settled : IsTrue (sink old.sink).tells → IsSettled (sink old.sink) → IsSettled (sink new.sink)
    pub says : WriteSays plugin plan.files old.outside.stores.items new.outside.stores.items answer
    -- files are whole by the rows behind it, where they were so by those before it
    pub whole : ((t : ℕ) → old.outside.moments < t → AreWhole plugin t cat old.outside.stores.items)
        → IsTrue (disk old.outside.main).tells → (t : ℕ) → new.outside.moments < t → AreWhole plugin t journal.cat new.outside.stores.items

  -- how it ended
  abbrev pub StagedEnds : Result (Option Fault) Ending → Journal → Type 0
  StagedEnds (Ok answer) journal = IsWriteStaged answer journal
  StagedEnds (Err e) journal = IsOutOfRoom (disk old.outside.main) (disk new.outside.main) (sink old.sink) (sink new.sink) e

  -- what was shown and what a stop leaves, where main has this catalogue
  abbrev pub WriteLeaves : Cat → Type 0
  WriteLeaves kept = NoteLeaves (disk old.outside.main) (disk new.outside.main) (sink old.sink) (sink new.sink) kept p.mid old.outside.moments text

  -- It was carried out, or how far that came, where main has this catalogue.
  pub record IsWrittenNoted (kept : Cat) (result : Result (Option Fault) Ending) (journal : Journal) : Type 0 where
    pub ends : StagedEnds result journal
    pub leaves : WriteLeaves kept

  -- ---- its mark

  -- The command told what it had to tell, and took the mark of how the writing ended, which may be kept.
  pub record TookWritten (x : Command) (drawn : Drawn) (ran : Result Unit Failure) (y : Command) (journal : Journal) : Type 0 where
    pub answer : Option Fault
    pub staged : IsWriteStaged answer journal
    pub ran_is : ran ≡ written_ran answer
    pub command : y ≡ with_mark (record x { untold = [] }) (written_mark drawn.word drawn.now answer)
    pub spelled : IsTrue (mark_fits (written_mark drawn.word drawn.now answer))

  -- how it ended
  abbrev pub MarkedEnds : Command → Drawn → Result (Result Unit Failure) Ending → Command → Journal → Type 0
  MarkedEnds x drawn (Ok ran) y journal = TookWritten x drawn ran y journal
  MarkedEnds x drawn (Err e) y journal = IsOutOfRoom (disk old.outside.main) (disk new.outside.main) (sink old.sink) (sink new.sink) e

  -- It was carried out for the command, which took its mark, or how far that came.
  pub record IsWrittenMarked (kept : Cat) (x : Command) (drawn : Drawn) (result : Result (Result Unit Failure) Ending)
      (y : Command) (journal : Journal) : Type 0 where
    pub ends : MarkedEnds x drawn result y journal
    pub leaves : WriteLeaves kept
