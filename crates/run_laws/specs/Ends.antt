-- How a run ends, by the requests that were handled.
use Rattle.std.specs.Prelude.{◌≡◌, ◌≢◌, ◌⊎◌, ℕ, ◌+◌, ◌^◌, ◌≤◌, List, [], ◌∷◌, ◌++◌, None, Ok, length, IsTrue}
use Rattle.grid_outside.specs.Source.{SourceState}
use Rattle.grid_outside.specs.declared.outside.Wear.{Wear}
use Rattle.grid_outside.specs.declared.outside.Wear.TheVariants as wear
use Rattle.grid_model.specs.Names.{Text}
use Rattle.grid_model.specs.Rows.{Cat}
use Rattle.grid_model.specs.RowGrids.{grid_of}
use Rattle.grid_model.specs.Inputs.{Asked}
use Rattle.grid_model.specs.Orders.{Order, works, closes, executes}
use Rattle.grid_model.specs.Operations.Table.{put, repl}
use Rattle.grid_model.specs.Sessions.{State}
use Rattle.grid_journal.specs.Stands.{StandsFor}
use Rattle.grid_headline.specs.Worlds.{World}
use Rattle.grid_headline.specs.Reads.{HasRules, MeansRequest}
use Rattle.grid_headline.specs.Causes.{NoneFailed}
use Rattle.grid_headline.specs.Files.{IsKnown}
use Rattle.grid_headline.specs.Served.{AllPieces, BeginsWithRequests, joined_texts}
use Rattle.grid_headline.specs.Ends.{RunEnd, read_all, source_failed, too_long, worn, no_memory, disk_failed, sink_failed}
use Rattle.grid_headline.specs.Ends.{EndsInRequest, EndsAtEnd, ReadsEnded, ReadsMost, HasRecovery, HasRunOut, AllStill, HasOneMore, HasFewOrphans, EndsSwept}
use Rattle.grid_headline.specs.Headline.{IsGoodEnd}
use Rattle.run_laws.specs.Handled.{Handled, replies_of, state_behind, IsOfRun}
use Rattle.run_laws.specs.Undone.{Undone, whole_report}

-- ---- the input was read

-- how far it was read where all that was asked is answered
abbrev pub ReadsSo : List Asked → SourceState → SourceState → RunEnd → Type 0
ReadsSo asked from to read_all = EndsAtEnd asked from to ⊎ EndsInRequest asked from to
ReadsSo asked from to source_failed = ReadsEnded asked from to
ReadsSo asked from to (too_long taken) = ReadsMost asked from to × (taken ≡ 2 ^ 48 + 1)
ReadsSo asked from to other = ⊥

-- The report and all replies are shown, and main stands for what the requests left.
pub record IsAnswered {B : Type 0} (old new : World B) (found : Cat) (at : State) (u : Undone found) (h : Handled) : Type 0 where
  pub all : AllPieces (IsKnown old found) 1 h.done h.pieces
  pub text : IsTrue old.sink.tells → new.sink.holds ≡ (old.sink.holds ++ whole_report found u) ++ joined_texts (replies_of h)
  pub cat : Cat
  pub stands : StandsFor new.main.holds cat
  pub of_run : IsOfRun found cat
  pub grid : grid_of cat ≡ at.grid
  pub rules : HasRules cat at.rules
  pub still : u.rules ≡ [] → found.pending ≡ None → found.orphans ≡ [] → AllStill (grid_of found) h.begun h.done → HasOneMore old.main.holds new.main.holds
  pub few : EndsSwept (state_behind found u h) h.begun h.done (length h.begun) → HasFewOrphans old new cat

-- ---- something ran out or failed

-- what may make a file
abbrev pub MakesFile : Order → Type 0
MakesFile (works (put p r mode body) count) = Unit {0}
MakesFile (works (repl p r) count) = Unit {0}
MakesFile closes = Unit {0}
MakesFile (executes call) = Unit {0}
MakesFile other = ⊥

-- the request behind those that were handled may make a file, by itself or by a rule
pub record NextMakesFile (input : Text) (at : State) (asked : List Asked) : Type 0 where
  pub next : Asked
  pub first : BeginsWithRequests input (asked ++ next ∷ [])
  pub session : ℕ
  pub order : Order
  pub asks : MeansRequest at next (Ok (session, order))
  pub makes : MakesFile order ⊎ (at.rules ≢ [])

-- why the run needed what had run out
abbrev pub NeedsSo : Cat → Text → State → List Asked → Wear → Type 0
NeedsSo found input at asked wear.Runs = asked ≡ []
NeedsSo found input at asked wear.Vaults = NextMakesFile input at asked ⊎ HasRecovery found.pending
NeedsSo found input at asked wear.Log = Unit {0}

module _ {B : Type 0} (old new : World B) where
  -- an end at which not all is answered
  abbrev pub StopsSo : Cat → State → List Asked → RunEnd → Type 0
  StopsSo found at asked (worn what place) = HasRunOut found new.main.holds new.spare.holds place what × NeedsSo found old.source.left at asked what
  StopsSo found at asked no_memory = Unit {0}
  StopsSo found at asked disk_failed = Unit {0}
  StopsSo found at asked sink_failed = Unit {0}
  StopsSo found at asked other = ⊥

  -- the end is a good one where no device failed
  abbrev pub IsGoodIfNoneFailed : RunEnd → Type 0
  IsGoodIfNoneFailed end = NoneFailed old new → length old.source.left ≤ 2 ^ 48 → IsGoodEnd end
