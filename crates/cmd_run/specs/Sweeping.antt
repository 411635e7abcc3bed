-- The removal of orphans' files, and of their rows.
use Rattle.std.specs.Prelude.{◌≡◌, ℕ, List, [], Result, Ok, Err, OnOk, IsTrue, map, ⊤}
use Rattle.grid_outside.specs.Device.{IsSettled, Leaves}
use Rattle.grid_outside.specs.Disk.{DiskState}
use Rattle.grid_model.specs.Rows.{Cat}
use Rattle.grid_model.specs.Applying.{apply_all}
use Rattle.grid_model.specs.Meanings.{gives}
use Rattle.grid_model.specs.Runs.{Request, does}
use Rattle.grid_model.specs.Working.{Done}
use Rattle.grid_model.specs.declared.deltas.OrphanRow.{OrphanRow}
use Rattle.grid_model.specs.declared.marks.Mark.{Mark}
use Rattle.grid_model.specs.declared.plans.NewFile.{NewFile}
use Rattle.grid_journal.specs.Stands.{StandsEither}
use Rattle.file_laws.specs.Removals.{no_orphans}
use Rattle.grid_deed.specs.Held.{IsHeld}
use Rattle.grid_headline.specs.Files.{KeepsReplicas}
use Rattle.grid_headline.specs.Worlds.{World}
use Rattle.count_laws.specs.GivenNumbers.{GivesNone}
use Rattle.run_laws.specs.Silent.{LeavesFew}
use Rattle.run_laws.specs.Steps.{IsLike}
use Rattle.cmd_run.specs.declared.server.Server.{Server}
use Rattle.cmd_run.specs.declared.server.Ending.{Ending}
use Rattle.cmd_run.specs.Fits.{state_of, FitsMain}
use Rattle.cmd_run.specs.Keeps.{KeepEnds}

-- the files of the orphans, in the order of their numbers
abbrev pub orphan_files : Cat → List NewFile
orphan_files c = map (λ (o : OrphanRow). record { slot = o.slot; name = o.vault }) c.orphans

-- how it ended: memory has these rows, with nothing staged
abbrev pub ForgetEnds : Cat → DiskState → DiskState → Result ⊤ Ending → Server → Type 0
ForgetEnds after main_old main_new (Ok done) new =
    IsHeld after main_new new.store × (new.store.cat ≡ after) × (new.store.staged ≡ [])
    × (IsTrue main_old.tells → IsSettled main_old → IsSettled main_new)
ForgetEnds after main_old main_new (Err e) new = KeepEnds after after main_old main_new (Err e) new

-- The rows of some orphans were taken away, or how far that came: main has the rows before, or those without them.
pub record ForgetsOrphans (kept : Cat) (from : ℕ) (main_old main_new : DiskState) (result : Result ⊤ Ending) (new : Server) : Type 0 where
  pub gone : List NewFile
  pub after : Cat
  pub applied : apply_all kept (no_orphans gone) ≡ Ok after
  pub ends : ForgetEnds after main_old main_new result new
  pub leaves : IsTrue main_old.tells → IsSettled main_old → Leaves from (StandsEither kept after) main_new

-- A sweep: main has the catalogue before it, or that behind it, which memory has where it was done. Nothing of this is seen to be other, no number
-- was given, and each file of a replica that was named is named.
pub record SweepsMain (before : Cat) (from : ℕ) (old new : DiskState) (result : Result ⊤ Ending) (now : Cat) : Type 0 where
  pub after : Cat
  pub like : IsLike before after
  pub gives : GivesNone before after
  pub keeps : KeepsReplicas before after
  pub is_now : OnOk result (after ≡ now)
  pub leaves : IsTrue old.tells → IsSettled old → Leaves from (StandsEither before after) new

-- Main and memory have a catalogue of which nothing is seen to be other than before, and the server stands for the same state.
pub record StandsAsBefore (main_old main_new : DiskState) (before after : Server) : Type 0 where
  pub like : IsLike before.store.cat after.store.cat
  pub state : state_of after ≡ state_of before
  pub fits : FitsMain main_new after
  pub settled : IsTrue main_old.tells → IsSettled main_old → IsSettled main_new

-- A request that is a sweep and was answered ok leaves few orphans, whatever its marks are.
abbrev pub SweepLeavesFew : {B : Type 0} → World B → World B → Server → Request → Result ⊤ Ending → Server → Type 0
SweepLeavesFew old new before request (Ok done) after = (marks : List Mark) (d : Done) → does (state_of before) request marks ≡ gives d
    → LeavesFew old new request d after.store.cat
SweepLeavesFew old new before request (Err e) after = Unit {0}
