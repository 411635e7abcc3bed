-- What the handling of one request leaves.
use Rattle.std.specs.Prelude.{◌≡◌, ◌≢◌, ◌⊎◌, ℕ, ◌^◌, ◌<◌, List, [], Option, None, Result, Ok, Err, IsTrue, ⊤}
use Rattle.grid_outside.specs.Device.{IsSettled}
use Rattle.grid_outside.specs.Disk.{DiskState}
use Rattle.grid_outside.specs.declared.outside.Wear.{Wear}
use Rattle.grid_outside.specs.declared.outside.Wear.TheVariants as wear
use Rattle.grid_model.specs.Names.{Text}
use Rattle.grid_model.specs.Rows.{Cat}
use Rattle.grid_model.specs.Meanings.{gives}
use Rattle.grid_model.specs.Sessions.{State}
use Rattle.grid_model.specs.Working.{Done}
use Rattle.grid_model.specs.Completing.{EndsByRows}
use Rattle.grid_model.specs.Runs.{Request, does}
use Rattle.grid_model.specs.declared.deltas.Pending.{Pending}
use Rattle.grid_model.specs.declared.refusal.Refusal.{Refusal}
use Rattle.grid_model.specs.declared.replies.End.{End}
use Rattle.grid_model.specs.declared.replies.End.TheVariants as end
use Rattle.grid_journal.specs.Journal.{ClosesAt}
use Rattle.grid_journal.specs.Stands.{StandsFor}
use Rattle.grid_headline.specs.Files.{NamesCall, KeepsNamed}
use Rattle.grid_headline.specs.Worlds.{World}
use Rattle.grid_headline.specs.Numbers.{last_vault}
use Rattle.run_laws.specs.Ends.{MakesFile}
use Rattle.run_laws.specs.Steps.{RequestStep, IsHandledWhole, IsQuiet, HasLine}
use Rattle.cmd_run.specs.Fits.{state_of, FitsMain}
use Rattle.cmd_run.specs.declared.server.Server.{Server}
use Rattle.cmd_run.specs.declared.server.Ending.{Ending}
use Rattle.cmd_run.specs.declared.server.Ending.TheVariants.{Worn}

-- how it ended: it was handled whole, or the run ends in it
abbrev pub ObeyEnds : {B : Type 0} (old new : World B) (before : Server) (n : ℕ) (request : Request)
    → RequestStep old new (state_of before) before.store.cat n request
    → Result ⊤ Ending → Server → Type 0
ObeyEnds old new before n request step (Ok done) after =
    IsHandledWhole old new (state_of before) before.store.cat n request step after.store.cat (state_of after) × FitsMain new.main after
ObeyEnds old new before n request step (Err ending) after = Unit {0}

-- The request of this number was handled, or how far that came; or nothing is seen of it.
pub data Obeys {B : Type 0} (old new : World B) (before : Server) (n : ℕ) (request : Request) (result : Result ⊤ Ending) (after : Server) : Type 0 where
  handled : (step : RequestStep old new (state_of before) before.store.cat n request) → ObeyEnds old new before n request step result after
      → Obeys old new before n request result after
  quiet : (ending : Ending) → result ≡ Err ending → IsQuiet old new before.store.cat → Obeys old new before n request result after

-- In a catalogue that main stands for at a moment after so many no command is pending.
abbrev pub HasNoneWaiting : ℕ → DiskState → DiskState → Type 0
HasNoneWaiting from old new = IsTrue old.tells → IsSettled old → (t : ℕ) (main : Text) (c : Cat)
    → from < t → new.left t main → StandsFor main c → c.pending ≡ None

-- The same, and it names what one row of this one named.
abbrev pub Remembers : Cat → ℕ → DiskState → DiskState → Type 0
Remembers before from old new = IsTrue old.tells → IsSettled old → (t : ℕ) (main : Text) (c : Cat)
    → from < t → new.left t main → StandsFor main c → (c.pending ≡ None) × KeepsNamed before c

-- a pending command names its call, and has this line
abbrev pub IsNoted : Text → Option Pending → Type 0
IsNoted line p = NamesCall p × HasLine line p

-- A catalogue that main stands for at a moment after so many names the call and this line of a command that is pending.
abbrev pub NamesItsCall : Text → ℕ → DiskState → DiskState → Type 0
NamesItsCall line from old new = IsTrue old.tells → IsSettled old → (t : ℕ) (main : Text) (c : Cat)
    → from < t → new.left t main → StandsFor main c → IsNoted line c.pending

-- The same, and it names what one row of this one named.
abbrev pub RemembersDeed : Text → Cat → ℕ → DiskState → DiskState → Type 0
RemembersDeed line before from old new = IsTrue old.tells → IsSettled old → (t : ℕ) (main : Text) (c : Cat)
    → from < t → new.left t main → StandsFor main c → IsNoted line c.pending × KeepsNamed before c

-- the request, or a rule that it has run, may make files
abbrev pub MayMakeFile : State → Request → Type 0
MayMakeFile at (Ok (session, order)) = MakesFile order ⊎ (at.rules ≢ [])
MayMakeFile at (Err r) = ⊥

-- what has run out: the numbers of vault files, in the catalogue on main, where the request or a rule may make files, or the room behind the log
abbrev pub IsWornAt : {B : Type 0} → World B → Server → Request → ℕ → Wear → Type 0
IsWornAt new before request place wear.Runs = ⊥
IsWornAt new before request place wear.Vaults =
    (last_vault < place) × (IsTrue new.main.tells → (c : Cat) × StandsFor new.main.holds c × (c.numbers.next_vault ≡ place))
    × MayMakeFile (state_of before) request
IsWornAt new before request place wear.Log = (2 ^ 62 < place) × (IsTrue new.main.tells → ClosesAt new.main.holds place)

-- a run that ended for that has run out of it
abbrev pub IsWorn : {B : Type 0} → World B → Server → Request → Result ⊤ Ending → Type 0
IsWorn new before request result = (what : Wear) (place : ℕ) → result ≡ Err (Worn what place) → IsWornAt new before request place what

-- a run does not end for want of numbers or room
abbrev pub LacksNothing : Result ⊤ Ending → Type 0
LacksNothing result = (what : Wear) (place : ℕ) → result ≡ Err (Worn what place) → ⊥

-- or it ends for want of room behind the log alone
abbrev pub LacksRoomAlone : DiskState → DiskState → Result ⊤ Ending → Type 0
LacksRoomAlone old new result = (what : Wear) (place : ℕ) → result ≡ Err (Worn what place)
    → (what ≡ wear.Log) × (2 ^ 62 < place) × (IsTrue old.tells → ClosesAt new.holds place)

-- A request is refused without a mark.
pub record IsRefusedAtOnce (at : State) (request : Request) : Type 0 where
  pub d : Done
  pub why : Refusal
  pub does_so : does at request [] ≡ gives d
  pub reply_is : d.reply ≡ record { marks = []; shown = []; passed = []; rows = []; end = end.Refused why }

-- A request is answered with this text, these rows and this end alone, and leaves this state with the same grid.
pub record Says (at : State) (request : Request) (shown : Text) (rows : List (List Text)) (e : End) (after : State) : Type 0 where
  pub d : Done
  pub does_so : does at request [] ≡ gives d
  pub reply_is : d.reply ≡ record { marks = []; shown = shown; passed = []; rows = rows; end = e }
  pub all : d.left ≡ []
  pub state : d.state ≡ after
  pub grid : d.state.grid ≡ at.grid
  pub by_rows : EndsByRows e

-- the same without a text
abbrev pub SaysRows : State → Request → List (List Text) → End → State → Type 0
SaysRows at request rows e after = Says at request [] rows e after

-- and with neither
abbrev pub SaysOnly : State → Request → End → State → Type 0
SaysOnly at request e after = Says at request [] [] e after
