-- The requests of a run that were handled so far.
use Rattle.std.specs.Prelude.{◌≡◌, ℕ, ◌+◌, ◌*◌, ◌<◌, ◌≤◌, List, [], ◌∷◌, ◌++◌, Some, None, length, slice_get, IsTrue}
use Rattle.std.specs.List.{AllByRecursion}
use Rattle.grid_outside.specs.Device.{IsSettled}
use Rattle.grid_model.specs.Names.{Text}
use Rattle.grid_model.specs.Rows.{Cat}
use Rattle.grid_model.specs.RowGrids.{grid_of}
use Rattle.grid_model.specs.Sessions.{State}
use Rattle.grid_model.specs.Working.{Done}
use Rattle.grid_model.specs.Beginning.{begins}
use Rattle.grid_model.specs.Inputs.{Asked}
use Rattle.grid_model.specs.Runs.{Marked, After}
use Rattle.grid_model.specs.Completing.{AreClean, EndsByRows}
use Rattle.grid_model.specs.declared.marks.Mark.{Mark}
use Rattle.grid_journal.specs.Stands.{StandsFor}
use Rattle.grid_headline.specs.Worlds.{World}
use Rattle.grid_headline.specs.Reads.{HasRules, MeansRequest, EndsInput}
use Rattle.grid_headline.specs.Served.{AllPieces, AreSure, NoneSweeps, joined_texts, marks_of, asked_of}
use Rattle.grid_headline.specs.Files.{IsKnown, AreSettled, DisksAreSettled, WereWhole, AllStayWhole, StayNamed, ReplicasStayNamed}
use Rattle.grid_headline.specs.Causes.{AreCaused}
use Rattle.grid_headline.specs.Ends.{AllStill, HasOneMore, HasFewOrphans, HasRecovery, EndsSwept}
use Rattle.grid_headline.specs.Stops.{AreFirst}
use Rattle.grid_headline.specs.Moments.{IsWithinLimits, most_moments}
use Rattle.grid_headline.specs.Numbers.{KeepsNumbers}
use Rattle.count_laws.specs.GivenNumbers.{GivesFew}
use Rattle.run_laws.specs.Handled.{AllGaveFew, Handled, LastHadNumbers, cats_of, replies_of, marks_told, state_behind, IsOfRun, OneOfRun, ShowsMost}
use Rattle.run_laws.specs.Moments.{GoesOnInFew}
use Rattle.run_laws.specs.Steps.{Gave, IsToldOf}
use Rattle.run_laws.specs.Undone.{Undone, whole_report}
use Rattle.run_laws.specs.Went.{Went, AreInOrder}

-- each of them ends by rows where its marks are clean
abbrev pub AllByRows : List Marked → List Done → Type 0
AllByRows (m ∷ ms) (d ∷ ds) = (AreClean m.marks → EndsByRows d.reply.end) × AllByRows ms ds
AllByRows ms ds = Unit {0}

-- Where nothing was pending on the disks and all was whole by this catalogue, it stays so from there on.
abbrev pub KeepsWhole : {B : Type 0} → World B → World B → Cat → Type 0
KeepsWhole mid new c = DisksAreSettled mid → WereWhole mid mid.moments c → AllStayWhole new mid.moments

-- Where nothing was pending on main, what one row of this catalogue named is named by one from there on.
abbrev pub KeepsNames : {B : Type 0} → World B → World B → Cat → Type 0
KeepsNames mid new c = IsTrue mid.main.tells → IsSettled mid.main → StayNamed new mid.moments c

-- Calls go on from a world in order, few of them, and the files that were whole by this catalogue stay so, and those that were named where no
-- request of the input asks for a sweep.
pub record CallsGoOn {B : Type 0} (input : Text) (mid new : World B) (c : Cat) : Type 0 where
  pub order : AreInOrder mid
  pub went : Went mid new
  pub few : GoesOnInFew mid new c
  pub whole : KeepsWhole mid new c
  pub names : NoneSweeps input → KeepsNames mid new c

-- A run from the first world to the second: what was undone, the requests that were begun, what they did,
-- what is shown of all, what a stop leaves, and that what marks tell has its cause.
pub record Ran {B : Type 0} (old now : World B) (found : Cat) (at : State) (asked : List Asked) : Type 0 where
  pub undone : Undone found
  pub handled : Handled
  pub asked_are : asked_of handled.begun ≡ asked
  pub after : After MeansRequest (begins undone.opened.grid undone.rules) handled.begun handled.done at
  pub are_sure : AreSure (IsKnown old found) handled.done handled.pieces handled.sure
  pub told_of : AllByRecursion (IsToldOf (IsKnown old found) (length old.stores)) (undone.report ++ marks_of handled.begun)
  pub by_rows : AllByRows handled.begun handled.done
  -- few numbers were given before the requests and for each of them
  pub few_before : KeepsNumbers found handled.first × GivesFew found handled.first (length undone.report)
  pub all_few : AllGaveFew handled.first handled.begun handled.behind
  -- few moments were taken
  pub moments : IsWithinLimits found → now.moments ≤ old.moments + (length handled.begun + 2) * most_moments
  pub went : Went old now
  pub shown : IsTrue old.sink.tells → ShowsMost (whole_report found undone) handled old.sink.holds now.sink.holds
  pub caused : AreCaused old now (undone.report ++ marks_of handled.begun)
  -- the marks that were come to; those that are told are the first of them
  pub drawn : List Mark
  pub gave : IsTrue now.ambient.tells → Gave drawn old.ambient now.ambient
  pub told_drawn : (tells : IsTrue old.sink.tells) → AreFirst (marks_told found undone handled (length (shown tells).part)) drawn
  pub whole : DisksAreSettled old → WereWhole old old.moments found → AllStayWhole now old.moments
  pub named : NoneSweeps old.source.left → ¬ HasRecovery found.pending → IsSettled old.main → ReplicasStayNamed now old.moments found
  pub images : IsTrue old.sink.tells → AreSettled old → (t : ℕ) (main sink : Text) → old.moments < t → now.main.left t main → now.sink.left t sink
      → OneOfRun found undone handled old.sink.holds main sink

-- The same where all was undone and each was handled whole, and none of them ended the input: the catalogue now, and the state.
pub record Sofar {B : Type 0} (old now : World B) (found c : Cat) (at : State) (asked : List Asked) : Type 0 where
  pub ran : Ran old now found at asked
  pub none_end : AllByRecursion (λ a. ¬ EndsInput a) asked
  pub all_drawn : ran.drawn ≡ ran.undone.report ++ marks_of ran.handled.begun
  -- few moments were taken, and none for what came to nothing
  pub moments : IsWithinLimits found → now.moments ≤ old.moments + (length ran.handled.begun + 1) * most_moments
  pub pieces_are : AllPieces (IsKnown old found) 1 ran.handled.done ran.handled.pieces
  pub all_sure : ran.handled.sure ≡ joined_texts (replies_of ran.handled)
  pub text : IsTrue old.sink.tells → now.sink.holds ≡ (old.sink.holds ++ whole_report found ran.undone) ++ joined_texts (replies_of ran.handled)
  -- the catalogue
  pub of_run : IsOfRun found c
  pub last : c.numbers.last ≤ length asked
  pub is_last : slice_get (cats_of ran.handled) (length asked) ≡ Some c
  pub had_numbers : LastHadNumbers ran.handled (length asked)
  pub grid : grid_of c ≡ at.grid
  pub rules : HasRules c at.rules
  -- where there were no rules, nothing was pending, no orphan was found, and all left the grid and the rules as they were and told no mark, main
  -- has the record with which the run was begun more
  pub still : ran.undone.rules ≡ [] → found.pending ≡ None → found.orphans ≡ [] → AllStill (grid_of found) ran.handled.begun ran.handled.done
      → HasOneMore old.main.holds now.main.holds × (grid_of c ≡ grid_of found) × (at.rules ≡ [])
  -- behind a sweep, or where nothing was asked, few orphans are left
  pub few : EndsSwept (state_behind found ran.undone ran.handled) ran.handled.begun ran.handled.done (length ran.handled.begun) → HasFewOrphans old now c
  -- the disks and the sink
  pub stands : StandsFor now.main.holds c
  pub main_settled : IsSettled old.main → IsSettled now.main
  pub sink_settled : IsTrue old.sink.tells → IsSettled old.sink → IsSettled now.sink
