-- What the carrying out of a plan leaves that copies a file for a command that is noted.
use Rattle.std.specs.Prelude.{◌≡◌, ℕ, ◌<◌, ◌++◌, [], Result, Ok, Err, IsTrue}
use Rattle.grid_outside.specs.Device.{IsSettled}
use Rattle.grid_outside.specs.Disk.{DiskState}
use Rattle.grid_outside.specs.Files.{StoreState}
use Rattle.grid_outside.specs.Sink.{SinkState}
use Rattle.grid_model.specs.Names.{Text}
use Rattle.grid_model.specs.Rows.{Cat}
use Rattle.grid_model.specs.declared.marks.Mark.{Mark}
use Rattle.grid_model.specs.declared.marks.Mark.TheVariants as mark
use Rattle.grid_model.specs.declared.plans.OldFile.{OldFile}
use Rattle.grid_model.specs.declared.plans.Plan.{Plan}
use Rattle.grid_model.specs.declared.refusal.Failure.{Failure}
use Rattle.grid_model.specs.declared.refusal.Failure.TheVariants.{Refused}
use Rattle.grid_model.specs.declared.refusal.Refusal.TheVariants as refusal
use Rattle.grid_journal.specs.Journal.{Journal}
use Rattle.file_laws.specs.Plans.{IsCopyPlan}
use Rattle.grid_deed.specs.Deeds.{CopySays}
use Rattle.grid_deed.specs.Held.{IsHeld}
use Rattle.grid_deed.specs.Safe.{AreWhole}
use Rattle.grid_deed.specs.declared.copying.Copied.{Copied}
use Rattle.grid_deed.specs.declared.copying.Copied.TheVariants.{Done, Bad}
use Rattle.grid_deed.specs.declared.copying.Copied.TheVariants as copied
use Rattle.run_laws.specs.Passes.{Seen}
use Rattle.service_run.specs.declared.command.Command.{Command}
use Rattle.service_run.specs.declared.ending.Ending.{Ending}
use Rattle.service_run.specs.Changes.{mark_fits, with_mark}
use Rattle.service_run.specs.Noting.{IsOutOfRoom, NoteLeaves}
use Rattle.service_run.specs.Sums.{Drawn}

-- the mark of a deed that copied this file, of this word and this time
abbrev pub copied_mark : ℕ → ℕ → OldFile → Copied → Mark
copied_mark word now from Done = mark.Ran word now []
copied_mark word now from (copied.Fault fault) = mark.Fault fault.slot 0
copied_mark word now from (Bad found) = mark.Bad from.slot found.len found.digest 0

-- it ran, or failed so
abbrev pub copied_ran : OldFile → Copied → Result Unit Failure
copied_ran from Done = Ok tt
copied_ran from (copied.Fault fault) = Err (Refused (refusal.Fault fault.slot))
copied_ran from (Bad found) = Err (Refused (refusal.Damaged from.slot from.size from.digest found.len found.digest))

module _ {D A P K : Type 0} (disk : D → DiskState) (plugin : P → StoreState) (sink : K → SinkState) {cat : Cat} {stores : ℕ} {plan : Plan} {from : OldFile}
    (p : IsCopyPlan cat cat stores plan from) (text : Text) (old new : Seen D A P K) where
  -- the rows behind it: with the last changes only where all was made
  abbrev pub rows_behind : Copied → Cat
  rows_behind Done = p.end
  rows_behind other = p.mid

  -- The first changes were kept and the text was told. The file was copied as the answer says, and where all was made the last changes are
  -- staged.
  pub record IsCopyStaged (answer : Copied) (journal : Journal) : Type 0 where
    pub held : IsHeld p.mid (disk new.outside.main) journal
    pub cat_is : journal.cat ≡ rows_behind answer
    pub settled : IsTrue (disk old.outside.main).tells → IsSettled (disk new.outside.main)
    pub told : IsTrue (sink old.sink).tells → (sink new.sink).holds ≡ (sink old.sink).holds ++ text
    pub sink_settled : IsTrue (sink old.sink).tells → IsSettled (sink old.sink) → IsSettled (sink new.sink)
    pub says : CopySays plugin plan.files from old.outside.stores.items new.outside.stores.items answer
    -- files are whole by the rows behind it, where they were so by those before it
    pub whole : ((t : ℕ) → old.outside.moments < t → AreWhole plugin t cat old.outside.stores.items)
        → IsTrue (disk old.outside.main).tells → (t : ℕ) → new.outside.moments < t → AreWhole plugin t journal.cat new.outside.stores.items

  -- how it ended
  abbrev pub CopyEnds : Result Copied Ending → Journal → Type 0
  CopyEnds (Ok answer) journal = IsCopyStaged answer journal
  CopyEnds (Err e) journal = IsOutOfRoom (disk old.outside.main) (disk new.outside.main) (sink old.sink) (sink new.sink) e

  -- what was shown and what a stop leaves, where main has this catalogue
  abbrev pub CopyLeaves : Cat → Type 0
  CopyLeaves kept = NoteLeaves (disk old.outside.main) (disk new.outside.main) (sink old.sink) (sink new.sink) kept p.mid old.outside.moments text

  -- It was carried out, or how far that came, where main has this catalogue.
  pub record IsCopiedNoted (kept : Cat) (result : Result Copied Ending) (journal : Journal) : Type 0 where
    pub ends : CopyEnds result journal
    pub leaves : CopyLeaves kept

  -- ---- its mark

  -- The command told what it had to tell, and took the mark of how the copying ended, which may be kept.
  pub record TookCopied (x : Command) (drawn : Drawn) (ran : Result Unit Failure) (y : Command) (journal : Journal) : Type 0 where
    pub answer : Copied
    pub staged : IsCopyStaged answer journal
    pub ran_is : ran ≡ copied_ran from answer
    pub command : y ≡ with_mark (record x { untold = [] }) (copied_mark drawn.word drawn.now from answer)
    pub spelled : IsTrue (mark_fits (copied_mark drawn.word drawn.now from answer))

  -- how it ended
  abbrev pub MarkEnds : Command → Drawn → Result (Result Unit Failure) Ending → Command → Journal → Type 0
  MarkEnds x drawn (Ok ran) y journal = TookCopied x drawn ran y journal
  MarkEnds x drawn (Err e) y journal = IsOutOfRoom (disk old.outside.main) (disk new.outside.main) (sink old.sink) (sink new.sink) e

  -- It was carried out for the command, which took its mark, or how far that came.
  pub record IsCopiedMarked (kept : Cat) (x : Command) (drawn : Drawn) (result : Result (Result Unit Failure) Ending)
      (y : Command) (journal : Journal) : Type 0 where
    pub ends : MarkEnds x drawn result y journal
    pub leaves : CopyLeaves kept
