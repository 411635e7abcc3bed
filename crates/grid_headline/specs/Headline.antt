-- What a run of `serve` over a catalogue is, whatever disks and stores refuse and wherever the server stops.
use Rattle.std.specs.Prelude.{◌≡◌, ℕ, ◌+◌, ◌^◌, ◌<◌, ◌≤◌, ◌++◌, Ok, length, take, IsTrue}
use Rattle.std.specs.List.{AllByRecursion}
use Rattle.grid_outside.specs.Device.{IsSettled}
use Rattle.grid_model.specs.Names.{Text}
use Rattle.grid_model.specs.Rows.{Cat}
use Rattle.grid_model.specs.Completing.{AreClean, AllEndByRows}
use Rattle.grid_journal.specs.Stands.{Stands}
use Rattle.grid_headline.specs.Worlds.{World, DevicesImage, LeavesImage}
use Rattle.grid_headline.specs.Served.{Run, NoneSweeps, report_of, sure_text, acknowledged, marks_of}
use Rattle.grid_headline.specs.Stops.{OneImage}
use Rattle.grid_headline.specs.Files.{IsKnown, IsOfUnknown, DisksAreSettled, AreSettled, WereWhole, AllStayWhole, ReplicasStayNamed}
use Rattle.grid_headline.specs.Silence.{NoneIsSilent}
use Rattle.grid_headline.specs.Moments.{TakesFew}
use Rattle.grid_headline.specs.Causes.{AreCaused, NoneFailed, AllTell}
use Rattle.grid_headline.specs.Draws.{DrawsMarks, shown_marks}
use Rattle.grid_headline.specs.Ends.{RunEnd, read_all, no_memory, worn, HasRecovery, SaysOfEnd, HadNumbers, LeavesFewOrphans}

-- The run begins on this catalogue, of as many stores as there are: main, spare and source tell.
pub record BeginsOn {B : Type 0} (old : World B) (found : Cat) : Type 0 where
  pub main_tells : IsTrue old.main.tells
  pub spare_tells : IsTrue old.spare.tells
  pub source_tells : IsTrue old.source.tells
  pub stands : Stands old.main.holds old.spare.holds (Ok found)
  pub stores : found.stores ≡ length old.stores

-- all was read, or numbers, room or memory ran out
abbrev pub IsGoodEnd : RunEnd → Type 0
IsGoodEnd read_all = Unit {0}
IsGoodEnd (worn what place) = Unit {0}
IsGoodEnd no_memory = Unit {0}
IsGoodEnd other = ⊥

module _ {B : Type 0} {found : Cat} (old new : World B) (run : Run (IsKnown old found) found old.source.left) where
  -- This is what the sink shows: a front of what is sure of all that the run has to write, with at least all but the last text of it.
  pub record Shows : Type 0 where
    pub part : Text
    pub more : Text
    pub sink : new.sink.holds ≡ old.sink.holds ++ part
    pub split : sure_text run ≡ part ++ more
    -- at most one request, or the report, is not shown whole
    pub report_first : 0 < length run.begun → length (report_of run) ≤ length part
    pub all_but_one : length run.begun ≤ acknowledged run (length part) + 1
    -- times and words were given by the ambient
    pub drawn : IsTrue new.ambient.tells → DrawsMarks run (length part) old.ambient new.ambient

  -- Where no device failed, each mark that is shown is clean, and what is not answered ok is so by a rule of its row or of a step.
  pub record Completes (shows : Shows) (end : RunEnd) : Type 0 where
    pub good_end : IsGoodEnd end
    pub clean : AreClean (shown_marks run (length shows.part))
    pub by_rows : AllEndByRows (take (acknowledged run (length shows.part)) run.done)

-- A run over this catalogue that ended so.
pub record Serves {B : Type 0} (old new : World B) (found : Cat) (end : RunEnd) : Type 0 where
  pub run : Run (IsKnown old found) found old.source.left
  pub shown : IsTrue old.sink.tells → Shows old new run
  pub says : SaysOfEnd run old new end
  -- whatever a stop at any moment leaves of the disks and the sink
  pub images : IsTrue old.sink.tells → AreSettled old → (t : ℕ) (i : DevicesImage) → old.moments < t → LeavesImage new t i → OneImage run old.sink.holds i
  -- the files of stores that tell stay whole
  pub whole : DisksAreSettled old → WereWhole old old.moments found → AllStayWhole new old.moments
  -- no file of a replica is lost track of, on stores that tell nothing too, where no sweep is asked for and no recovery is to be done; what has
  -- no replica is removed when the run is begun
  pub named : NoneSweeps old.source.left → ¬ HasRecovery found.pending → IsSettled old.main → ReplicasStayNamed new old.moments found
  -- no row is committed in silence, and no number is given past the last one
  pub silent : IsTrue old.sink.tells → AreSettled old → NoneIsSilent run old new
  pub numbers : IsTrue old.sink.tells → AreSettled old → HadNumbers run old new
  -- it takes few moments
  pub takes_few : TakesFew run old new
  -- few files without a replica are left
  pub orphans : end ≡ read_all → LeavesFewOrphans run old new
  -- no mark tells that a known file is not what is recorded
  pub unharmed : AllByRecursion (IsOfUnknown (IsKnown old found) (length old.stores)) (marks_of run.begun)
  -- each fault that is told was counted
  pub caused : AreCaused old new (run.report ++ marks_of run.begun)
  pub completes : (tells : IsTrue old.sink.tells) → NoneFailed old new → AllTell old → DisksAreSettled old → WereWhole old old.moments found
      → length old.source.left ≤ 2 ^ 48 → Completes old new run (shown tells) end
