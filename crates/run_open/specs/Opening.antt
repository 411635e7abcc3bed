-- How a run is opened over a catalogue.
use Rattle.std.specs.Prelude.{◌≡◌, List, [], None, Result, Ok, Err, ⊤}
use Rattle.grid_outside.specs.Disk.{DiskState}
use Rattle.grid_model.specs.Rows.{Cat}
use Rattle.grid_model.specs.RuleText.{Rule}
use Rattle.grid_journal.specs.Journal.{Journal}
use Rattle.grid_deed.specs.Held.{IsHeld}
use Rattle.grid_headline.specs.Worlds.{World}
use Rattle.run_laws.specs.Opening.{Opened}
use Rattle.run_open.specs.Preparing.{OpensOver}
use Rattle.run_open.specs.declared.error.OpenError.{OpenError}

-- main and memory have the catalogue of a run: nothing is staged, no command is pending, and the rules are those that there were
pub record HoldsRun (found : Cat) (main : DiskState) (s : Journal) : Type 0 where
  pub held : IsHeld s.cat main s
  pub staged : s.staged ≡ []
  pub pending : s.cat.pending ≡ None
  pub rules : s.cat.rules ≡ found.rules
  pub stores : s.cat.stores ≡ found.stores

-- the run was opened, with this catalogue and these rules, or how far that came
abbrev pub OpenEnds : {B : Type 0} → World B → World B → Cat → List Rule → Result ⊤ OpenError → Journal → Type 0
OpenEnds old new found rules (Ok done) after = (opened : Opened old new found after.cat) × (opened.opens.undone.rules ≡ rules)
OpenEnds old new found rules (Err e) after = OpensOver old new found rules
