-- How a run is opened: what was pending is told and undone, recovery by recovery, one commit makes the catalogue that of the next run, and the
-- rest of the report is told.
use Rattle.std.specs.Prelude.{◌≡◌, ℕ, ◌<◌, ◌++◌, List, None, length, IsTrue}
use Rattle.std.specs.List.{AllByRecursion}
use Rattle.grid_outside.specs.Device.{IsSettled}
use Rattle.grid_outside.specs.Sink.{AddsPart}
use Rattle.grid_model.specs.Names.{Text}
use Rattle.grid_model.specs.Rows.{Cat}
use Rattle.grid_model.specs.RowGrids.{grid_of}
use Rattle.grid_model.specs.Whole.{Names, by_replica}
use Rattle.grid_model.specs.declared.deltas.ReplicaRow.{ReplicaRow}
use Rattle.grid_model.specs.declared.marks.Mark.{Mark}
use Rattle.grid_journal.specs.Stands.{StandsFor}
use Rattle.grid_headline.specs.Causes.{AreCaused}
use Rattle.grid_headline.specs.Ends.{HasOneMore, HasRecovery}
use Rattle.grid_headline.specs.Numbers.{KeepsNumbers}
use Rattle.grid_headline.specs.Files.{AllStayWhole, DisksAreSettled, IsKnown, KeepsNamed, ReplicasStayNamed, WereWhole}
use Rattle.grid_headline.specs.Reads.{HasRules}
use Rattle.grid_headline.specs.Stops.{AreFirst}
use Rattle.grid_headline.specs.Worlds.{World}
use Rattle.count_laws.specs.GivenNumbers.{GivesFew}
use Rattle.run_laws.specs.Handled.{IsOfRun, IsUnbegun}
use Rattle.run_laws.specs.Steps.{Gave, IsToldOf}
use Rattle.run_laws.specs.Undone.{Undone, report_begun, whole_report, recoveries_told}
use Rattle.run_laws.specs.Went.{Went}

module _ (found : Cat) (u : Undone found) where
  -- It is the catalogue of the run that was begun, before any request: it has the grid that recoveries left, and no file is lost track of.
  pub record IsBegunWith (c : Cat) : Type 0 where
    pub of_run : IsOfRun found c
    pub last : c.numbers.last ≡ 0
    pub grid : grid_of c ≡ u.opened.grid
    pub rules : HasRules c u.rules
    -- few numbers were given for the marks of recoveries
    pub few : GivesFew found c (length u.report)
    pub named : KeepsNamed found c
    -- where no recovery was to be done the replicas are those that there were
    pub replicas : ¬ HasRecovery found.pending → (slot name : ℕ) (r : ReplicaRow) → Names found slot name (by_replica r) → Names c slot name (by_replica r)

  -- What a stop while a run is opened leaves of main, and of the sink that had these bytes before: the run is not begun and no more is shown
  -- than what is told until then, or it is begun, with this catalogue, and a front of the report is shown.
  pub data OneOfOpening (first : Cat) (old_sink main sink : Text) : Type 0 where
    not_begun : (c : Cat) → StandsFor main c → (part : AddsPart (report_begun found u) old_sink sink) → IsUnbegun found u c part.count
        → OneOfOpening first old_sink main sink
    begun : IsBegunWith first → StandsFor main first → AddsPart (whole_report found u) old_sink sink → OneOfOpening first old_sink main sink

  -- a part of the report is shown, which tells the first of these marks of recoveries and no others
  pub record ShowsReport (taken : List Mark) (before after : Text) : Type 0 where
    pub part : AddsPart (whole_report found u) before after
    pub told : AreFirst (recoveries_told found u part.count) taken

module _ {B : Type 0} (old now : World B) (found : Cat) where
  -- What was pending was undone, and the run begun, or how far that came.
  pub record Opens : Type 0 where
    pub undone : Undone found
    -- the marks that recoveries took; where that was cut short the others are what they would have taken
    pub taken : List Mark
    pub first : AreFirst taken undone.report
    pub told_of : AllByRecursion (IsToldOf (IsKnown old found) (length old.stores)) undone.report
    pub went : Went old now
    pub caused : AreCaused old now undone.report
    pub gave : IsTrue now.ambient.tells → Gave taken old.ambient now.ambient
    -- the catalogue with which the run is begun, where it comes so far
    pub begins : Cat
    pub keeps : KeepsNumbers found begins
    pub few : GivesFew found begins (length undone.report)
    pub shown : IsTrue old.sink.tells → ShowsReport found undone taken old.sink.holds now.sink.holds
    pub whole : DisksAreSettled old → WereWhole old old.moments found → AllStayWhole now old.moments
    pub named : ¬ HasRecovery found.pending → IsSettled old.main → ReplicasStayNamed now old.moments found
    pub images : IsTrue old.sink.tells → IsSettled old.main → IsSettled old.sink → (t : ℕ) (main sink : Text) → old.moments < t → now.main.left t main
        → now.sink.left t sink → OneOfOpening found undone begins old.sink.holds main sink

  -- It was done: this is the catalogue of the run.
  pub record Opened (c : Cat) : Type 0 where
    pub opens : Opens
    pub all : opens.taken ≡ opens.undone.report
    pub text : IsTrue old.sink.tells → now.sink.holds ≡ old.sink.holds ++ whole_report found opens.undone
    pub begins_is : opens.begins ≡ c
    pub begun : IsBegunWith found opens.undone c
    pub stands : StandsFor now.main.holds c
    pub settled : IsSettled old.main → IsSettled now.main
    pub sink_settled : IsTrue old.sink.tells → IsSettled old.sink → IsSettled now.sink
    -- where nothing was pending, one record was added, and orphans are those that there were
    pub one : found.pending ≡ None → HasOneMore old.main.holds now.main.holds
    pub orphans : found.pending ≡ None → c.orphans ≡ found.orphans
