-- How far a command has come whose calls are made one after another, and what a stop leaves of it until then.
use Rattle.std.specs.Prelude.{◌≡◌, ℕ, ◌<◌, List, [], ◌++◌, IsTrue, length}
use Rattle.std.specs.List.{AllByRecursion}
use Rattle.grid_outside.specs.Ambient.{AmbientState}
use Rattle.grid_outside.specs.Device.{IsSettled}
use Rattle.grid_outside.specs.Disk.{DiskState}
use Rattle.grid_outside.specs.Files.{StoreState}
use Rattle.grid_outside.specs.Sink.{AddsPart, SinkState}
use Rattle.grid_outside.specs.Source.{SourceState}
use Rattle.grid_model.specs.Applying.{is_user}
use Rattle.grid_model.specs.Names.{Text}
use Rattle.grid_model.specs.Rows.{Cat}
use Rattle.grid_model.specs.Meanings.{Meaning}
use Rattle.grid_model.specs.Doing.{Course, Did}
use Rattle.grid_model.specs.declared.calls.Call.{Call}
use Rattle.grid_model.specs.declared.marks.Mark.{Mark}
use Rattle.grid_model.specs.declared.marks.Mark.TheVariants.{Ran}
use Rattle.grid_journal.specs.Journal.{Journal}
use Rattle.grid_journal.specs.Stands.{StandsFor}
use Rattle.grid_deed.specs.Held.{IsHeld}
use Rattle.grid_deed.specs.Safe.{AreWhole, StayWhole}
use Rattle.grid_headline.specs.Causes.{AreCaused}
use Rattle.grid_headline.specs.Stops.{AreFirst}
use Rattle.grid_headline.specs.Worlds.{World}
use Rattle.run_laws.specs.Around.{around}
use Rattle.run_laws.specs.Passes.{CallsPass, Seen}
use Rattle.run_laws.specs.Steps.{Gave, IsToldOf}
use Rattle.service_run.specs.Commands.{IsNoted, KeepsBeside, WaitsAt, place_by}
use Rattle.service_run.specs.Steps.{IsKnownBy, lines_of}
use Rattle.service_run.specs.declared.command.Command.{Command}

-- ---- what the calls are for

-- The catalogue that main has before the calls, and the command; the text that tells marks, with what is sent in front of one of them; what main
-- may have of it, once these marks are told and at any moment; and, for each way in which it may end, marks that it has so, and what a stop
-- leaves of main and of the sink, which had these bytes before.
pub record Setting (F : Type 0) : Type 1 where
  pub found : Cat
  pub start : Command
  pub text_of : List Mark → Text
  pub OnMain : Cat → List Mark → Type 0
  pub OnWay : Cat → Type 0
  pub marks_of : F → List Mark
  pub OneOf : F → Text → Text → Text → Type 0

-- What is to be known of it: the user is there, nothing is to be told yet, and what main may have, with a part of the text of marks, is what
-- a stop leaves.
pub record IsSetting {F : Type 0} (s : Setting F) : Type 0 where
  pub user : IsTrue (is_user s.found s.start.user)
  pub untold : s.start.untold ≡ []
  pub on_way : (c : Cat) (told : List Mark) → s.OnMain c told → s.OnWay c
  pub one_image : (f : F) (told : List Mark) → AreFirst told (s.marks_of f) → (c : Cat) → s.OnMain c told → (shown main sink : Text)
      → StandsFor main c → AddsPart (s.text_of told) shown sink → s.OneOf f shown main sink

-- The call, which does this, may be made of the command with these rows, behind these marks: where it is noted main may have that.
pub record MayCall {F : Type 0} (s : Setting F) (rows : Cat) (y : Command) (taken : List Mark) (does : Course → Meaning Did) (call : Call)
    (undo : List Call) : Type 0 where
  pub on_noted : (c : Cat) → IsNoted rows y call undo c → WaitsAt does (place_by rows y) call → s.OnMain c taken
  pub way_noted : (c : Cat) → IsNoted rows y call undo c → s.OnWay c

-- each of the marks says that a deed ran, and no more
abbrev pub AreRan : List Mark → Type 0
AreRan marks = AllByRecursion (λ m. m ≡ Ran 0 0 []) marks

-- all was whole by this catalogue
abbrev pub WereAllWhole : {B : Type 0} → World B → Cat → Type 0
WereAllWhole old c = (t : ℕ) → old.moments < t → AreWhole old.plugin t c old.stores

-- ---- how far it has come

module _ {D A P K : Type 0} (disk : D → DiskState) (ambient : A → AmbientState) (plugin : P → StoreState) (sink : K → SinkState)
    (source : SourceState) where
  -- what is around
  abbrev pub world : Seen D A P K → World P
  world at = around disk ambient plugin at.outside (sink at.sink) source

  module _ {F : Type 0} (s : Setting F) (from : Seen D A P K) where
    abbrev pub old : World P
    old = world from

    -- What a stop leaves at any moment so far, where calls took these marks at most.
    pub record IsSafe (at : Seen D A P K) (taken : List Mark) : Type 0 where
      pub main : IsTrue old.main.tells → IsSettled old.main → (t : ℕ) (main : Text) (c : Cat) → old.moments < t → (disk at.outside.main).left t main
          → StandsFor main c → s.OnWay c
      pub whole : WereAllWhole old s.found → IsTrue old.main.tells → IsSettled old.main
          → StayWhole plugin old.moments (disk at.outside.main) at.outside.stores.items
      pub images : (f : F) → AreFirst taken (s.marks_of f) → IsTrue old.main.tells → IsTrue old.sink.tells → IsSettled old.main → IsSettled old.sink
          → (t : ℕ) (main shown : Text) → old.moments < t → (disk at.outside.main).left t main → (sink at.sink).left t shown
          → s.OneOf f old.sink.holds main shown

    -- What main and the sink hold, where calls took these marks: the text of the first ones was told, and the lines of the others, which are all
    -- that tells them, are still to be.
    pub record HoldsSo (at : Seen D A P K) (untold : Text) (rows : Journal) (taken : List Mark) : Type 0 where
      pub told : List Mark
      pub fresh : List Mark
      pub taken_are : taken ≡ told ++ fresh
      pub untold_is : untold ≡ lines_of s.start.number fresh
      pub cat : Cat
      pub on_main : s.OnMain cat told
      pub held : IsHeld cat (disk at.outside.main) rows
      pub numbers : rows.cat.numbers ≡ cat.numbers
      pub plain : (more : List Mark) → s.text_of (told ++ more) ≡ s.text_of told ++ lines_of s.start.number more
      pub shown : IsTrue old.sink.tells → (sink at.sink).holds ≡ old.sink.holds ++ s.text_of told
      pub settled : IsTrue old.main.tells → IsSettled old.main → IsSettled (disk at.outside.main)
      pub sink_settled : IsTrue old.sink.tells → IsSettled old.sink → IsSettled (sink at.sink)

    -- What is true of marks that were taken.
    pub record AreTaken (at : Seen D A P K) (taken : List Mark) : Type 0 where
      pub told_of : IsTrue old.main.tells → AllByRecursion (IsToldOf (IsKnownBy old s.found) (length old.stores)) taken
      pub caused : AreCaused old (world at) taken
      pub gave : IsTrue (ambient at.outside.ambient).tells → Gave taken old.ambient (ambient at.outside.ambient)

    -- What the calls did so far that took these marks.
    pub record IsAmid (at : Seen D A P K) (y : Command) (rows : Journal) (taken : List Mark) : Type 0 where
      pub command : y ≡ record s.start { marks = s.start.marks ++ taken; passed = y.passed; untold = y.untold }
      pub beside : KeepsBeside s.found rows.cat (length taken)
      pub holds : HoldsSo at y.untold rows taken
      pub marks : AreTaken at taken
      pub whole_now : WereAllWhole old s.found → IsTrue old.main.tells → IsSettled old.main → (t : ℕ) → at.outside.moments < t
          → AreWhole plugin t rows.cat at.outside.stores.items
      pub safe : IsSafe at taken
      pub passes : CallsPass disk plugin sink ⊥ ⊥ from at

    -- The calls took these marks, and the last of them was cut short.
    pub record IsCutShort (at : Seen D A P K) (taken : List Mark) : Type 0 where
      pub marks : AreTaken at taken
      pub shown : IsTrue old.sink.tells → AddsPart (s.text_of taken) old.sink.holds (sink at.sink).holds
      pub safe : IsSafe at taken
