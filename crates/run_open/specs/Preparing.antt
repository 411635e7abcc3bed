-- What is done before a run is begun: what is pending is told and undone.
use Rattle.std.specs.Prelude.{◌≡◌, ◌≢◌, ℕ, ◌-◌, ◌^◌, ◌<◌, ◌≤◌, ◌++◌, List, None, Result, Ok, Err, IsTrue, length}
use Rattle.grid_outside.specs.Device.{IsSettled}
use Rattle.grid_outside.specs.Disk.{DiskState}
use Rattle.grid_outside.specs.Sink.{AddsPart}
use Rattle.grid_model.specs.Names.{Text}
use Rattle.grid_model.specs.Rows.{Cat}
use Rattle.grid_model.specs.RuleText.{Rule}
use Rattle.grid_model.specs.RowGrids.{grid_of}
use Rattle.grid_model.specs.Whole.{Names, by_replica}
use Rattle.grid_model.specs.declared.deltas.ReplicaRow.{ReplicaRow}
use Rattle.grid_journal.specs.Journal.{Journal, ClosesAt}
use Rattle.grid_journal.specs.Stands.{StandsFor}
use Rattle.grid_deed.specs.Held.{IsHeld}
use Rattle.grid_deed.specs.Safe.{AreWhole}
use Rattle.grid_headline.specs.Ends.{HasRecovery}
use Rattle.grid_headline.specs.Files.{DisksAreSettled, KeepsNamed, WereWhole}
use Rattle.grid_headline.specs.Numbers.{KeepsNumbers, last_vault}
use Rattle.grid_headline.specs.Worlds.{World}
use Rattle.count_laws.specs.GivenNumbers.{GivesFew}
use Rattle.run_laws.specs.Handled.{IsUnbegun}
use Rattle.run_laws.specs.Opening.{Opens}
use Rattle.run_laws.specs.Undone.{report_begun, whole_report}
use Rattle.run_open.specs.Beginning.{run_begun}
use Rattle.run_open.specs.declared.error.OpenError.{OpenError}
use Rattle.run_open.specs.declared.error.OpenError.TheVariants as error

-- there is a number for the next run, and room behind the log
abbrev pub HasRoom : Cat → DiskState → Type 0
HasRoom found main = (found.numbers.run ≢ 2 ^ 64 - 1) × (IsTrue main.tells → (place : ℕ) → ClosesAt main.holds place → place ≤ 2 ^ 62)

module _ {B : Type 0} (old now : World B) (found : Cat) (these : List Rule) where
  -- how far the opening came, over a catalogue with these rules
  abbrev pub OpensOver : Type 0
  OpensOver = (opens : Opens old now found) × (opens.undone.rules ≡ these)

  -- All of it was done: this is what memory has now, and this text is still to be told once the run is begun.
  pub record Prepared (after : Journal) (rest : Text) : Type 0 where
    pub opens : Opens old now found
    pub rules_are : opens.undone.rules ≡ these
    pub all : opens.taken ≡ opens.undone.report
    -- with these rows the run is to be begun
    pub begins_is : opens.begins ≡ run_begun after.cat
    pub kept : Cat
    pub held : IsHeld kept now.main after
    -- what main has is before the run is begun
    pub unbegun : IsTrue old.sink.tells → IsSettled old.main → IsSettled old.sink
        → (part : AddsPart (report_begun found opens.undone) old.sink.holds now.sink.holds) × IsUnbegun found opens.undone kept part.count
    -- the rows
    pub grid : grid_of after.cat ≡ opens.undone.opened.grid
    pub run : after.cat.numbers.run ≡ found.numbers.run
    pub rules : after.cat.rules ≡ found.rules
    pub stores : after.cat.stores ≡ found.stores
    pub keeps : KeepsNumbers found after.cat
    pub few : GivesFew found after.cat (length opens.undone.report)
    pub named : KeepsNamed found after.cat
    pub replicas : ¬ HasRecovery found.pending → (slot name : ℕ) (r : ReplicaRow) → Names found slot name (by_replica r)
        → Names after.cat slot name (by_replica r)
    pub whole_now : DisksAreSettled old → WereWhole old old.moments found → (t : ℕ) → now.moments < t → AreWhole now.plugin t after.cat now.stores
    -- main and the sink
    pub settled : IsSettled old.main → IsSettled now.main
    pub sink_settled : IsTrue old.sink.tells → IsSettled old.sink → IsSettled now.sink
    pub text : IsTrue old.sink.tells → now.sink.holds ++ rest ≡ old.sink.holds ++ whole_report found opens.undone
    -- where nothing was pending, nothing was done
    pub none : found.pending ≡ None → (after.cat ≡ found) × (now.main.holds ≡ old.main.holds)

  -- how that ended
  abbrev pub Prepares : Result Text OpenError → Journal → Type 0
  Prepares (Ok rest) after = Prepared after rest
  Prepares (Err e) after = OpensOver

-- What has run out: the number of runs, before anything was done; that of vault files, where a recovery was to be done; or the room of the
-- log.
abbrev pub OpenStops : Cat → DiskState → DiskState → OpenError → Type 0
OpenStops found main_old main_new (error.Runs place) = (place ≡ found.numbers.run) × (place ≡ 2 ^ 64 - 1)
OpenStops found main_old main_new (error.Vaults place) =
    HasRecovery found.pending × (last_vault < place) × (IsTrue main_old.tells → (c : Cat) × StandsFor main_new.holds c × (c.numbers.next_vault ≡ place))
OpenStops found main_old main_new (error.Log place) = (2 ^ 62 < place) × (IsTrue main_old.tells → ClosesAt main_new.holds place)
OpenStops found main_old main_new other = Unit {0}
