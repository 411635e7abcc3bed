-- One request of a run: what it did, what it wrote, and what a stop at any moment of it leaves.
use Rattle.std.specs.Prelude.{◌≡◌, ◌≢◌, ℕ, ◌+◌, ◌<◌, ◌≤◌, List, [], ◌∷◌, ◌++◌, Option, Some, None, Ok, length, IsTrue}
use Rattle.std.specs.List.{AllByRecursion}
use Rattle.grid_outside.specs.Device.{IsSettled}
use Rattle.grid_outside.specs.Ambient.{AmbientState}
use Rattle.grid_outside.specs.Sink.{AddsPart}
use Rattle.grid_model.specs.Maps.{get}
use Rattle.grid_model.specs.Names.{Text}
use Rattle.grid_model.specs.Rows.{Cat}
use Rattle.grid_model.specs.RowGrids.{grid_of, user_name}
use Rattle.grid_model.specs.Meanings.{Waiting, gives, waits}
use Rattle.grid_model.specs.Sessions.{Session, State}
use Rattle.grid_model.specs.Working.{Done}
use Rattle.grid_model.specs.ReplyTexts.{ArePieces, reply_text}
use Rattle.grid_model.specs.Orders.{Order, executes, sweeps}
use Rattle.grid_model.specs.Obeying.{command}
use Rattle.grid_model.specs.Runs.{Request, does}
use Rattle.grid_model.specs.Completing.{AreClean, EndsByRows}
use Rattle.grid_model.specs.declared.deltas.Pending.{Pending}
use Rattle.grid_model.specs.declared.marks.Mark.{Mark}
use Rattle.grid_model.specs.declared.marks.Mark.TheVariants.{Ran, Fault, Bad, Stop}
use Rattle.grid_journal.specs.Stands.{StandsFor}
use Rattle.grid_headline.specs.Worlds.{World}
use Rattle.grid_headline.specs.Files.{IsKnown}
use Rattle.grid_headline.specs.Numbers.{KeepsNumbers, last_vault}
use Rattle.grid_headline.specs.Ends.{MakesFiles, WasDone}
use Rattle.count_laws.specs.GivenNumbers.{GivesFew, GivesNone}
use Rattle.grid_headline.specs.Causes.{AreCaused}
use Rattle.grid_headline.specs.Draws.{AreSomeOf, told_words, times_of}
use Rattle.grid_headline.specs.Reads.{HasRules}
use Rattle.grid_headline.specs.Served.{IsSure, whole_in}
use Rattle.grid_headline.specs.Stops.{AreFirst}

-- ---- the catalogue

-- nothing of it is seen to be other than before: orphans may be others, and more numbers may be given
pub record IsLike (before c : Cat) : Type 0 where
  pub grid : grid_of c ≡ grid_of before
  pub run : c.numbers.run ≡ before.numbers.run
  pub last : c.numbers.last ≡ before.numbers.last
  pub rules : c.rules ≡ before.rules
  pub stores : c.stores ≡ before.stores
  pub pending : c.pending ≡ before.pending
  pub keeps : KeepsNumbers before c

-- it is that behind the request of this number, which did this
pub record IsLeftBehind (before : Cat) (n : ℕ) (d : Done) (c : Cat) : Type 0 where
  pub grid : grid_of c ≡ d.state.grid
  pub run : c.numbers.run ≡ before.numbers.run
  pub last : c.numbers.last ≡ n
  pub rules : HasRules c d.state.rules
  pub stores : c.stores ≡ before.stores
  pub pending : c.pending ≡ before.pending
  pub keeps : KeepsNumbers before c

-- the request asks for a sweep
abbrev pub IsSweep : Request → Type 0
IsSweep (Ok (session, sweeps)) = Unit {0}
IsSweep other = ⊥

-- what makes files was done with a mark only where there was a number for them before it
abbrev pub HadNumbersFor : Cat → Request → Done → Type 0
HadNumbersFor before request d = (session : ℕ) (order : Order) → request ≡ Ok (session, order) → MakesFiles order → d.reply.marks ≢ []
    → WasDone d.reply.end → before.numbers.next_vault ≤ last_vault

-- the request was kept, or there was nothing to keep: it told no mark, and nothing is seen of it, though a sweep may have removed rows of orphans
pub data ComesAfter (before : Cat) (n : ℕ) (request : Request) (d : Done) : Cat → Type 0 where
  kept : {c : Cat} → IsLeftBehind before n d c → HadNumbersFor before request d → ComesAfter before n request d c
  unseen : {c : Cat} → c ≡ before → d.reply.marks ≡ [] → d.state.grid ≡ grid_of before → HasRules before d.state.rules → ComesAfter before n request d c
  swept : {c : Cat} → IsSweep request → IsLike before c → GivesNone before c → d.reply.marks ≡ [] → d.state.grid ≡ grid_of before
      → HasRules before d.state.rules → ComesAfter before n request d c

-- ---- a command under way

-- It is a catalogue amid a command: what it has beside the grid and the pending command is as before.
pub record IsAmid (before c : Cat) : Type 0 where
  pub run : c.numbers.run ≡ before.numbers.run
  pub last : c.numbers.last ≡ before.numbers.last
  pub rules : c.rules ≡ before.rules
  pub stores : c.stores ≡ before.stores
  pub keeps : KeepsNumbers before c

-- The request of this number is pending in the catalogue. Its order waits where it comes to by the kept marks, which are the first of all
-- its marks: in the call that is noted as running, on this grid, with the refused recoveries and the list of recoveries that are noted.
pub record WaitsInDeed (at : State) (n : ℕ) (request : Request) (marks : List Mark) (c : Cat) (p : Pending) : Type 0 where
  pub is : c.pending ≡ Some p
  pub of_run : p.run ≡ c.numbers.run
  pub number : p.number ≡ n
  pub session : ℕ
  pub order : Order
  pub asks : request ≡ Ok (session, order)
  pub of : Session
  pub logged_in : get at.sessions session ≡ Some of
  pub name : user_name c p.user ≡ of.user
  pub waiting : Waiting
  pub waits_there : command at session order p.marks ≡ waits waiting
  pub running : p.running ≡ Some waiting.call
  pub grid : grid_of c ≡ waiting.grid
  pub taken : waiting.taken ≡ p.marks
  pub passed : p.passed ≡ waiting.passed
  pub undo : p.undo ≡ waiting.undo
  pub kept : AreFirst p.marks marks

-- a command that is pending has this line
abbrev pub HasLine : Text → Option Pending → Type 0
HasLine line None = Unit {0}
HasLine line (Some p) = p.line ≡ line

-- what a stop leaves of main from there on has no other command pending than one of this line
abbrev pub NotesLine : {B : Type 0} → Text → World B → World B → Type 0
NotesLine line old new = IsTrue old.main.tells → IsSettled old.main → (t : ℕ) (main : Text) (c : Cat) → old.moments < t → new.main.left t main
    → StandsFor main c → HasLine line c.pending

-- ---- images

-- the texts of marks of a reply, and what is sure of it
pub record SureTexts : Type 0 where
  pub pieces : List Text
  pub sure : Text

-- so many bytes of a reply with these pieces tell no mark and are not all of it
abbrev pub IsUntold : List Text → ℕ → Type 0
IsUntold [] count = count ≡ 0
IsUntold (piece ∷ pieces) count = count < length piece

-- so many bytes of a reply of that length with these pieces are not all of it, and tell at most so many marks
pub record TellsFew (pieces : List Text) (whole marks count : ℕ) : Type 0 where
  pub cut : count < whole
  pub few : whole_in pieces count ≤ marks

-- What a stop leaves of main and of the sink: nothing is changed and no mark is told, or the request is pending and no more marks are told than
-- are kept, or main stands for the catalogue behind the request.
pub data OneOf (at : State) (before next : Cat) (n : ℕ) (request : Request) (d : Done) (texts : SureTexts) (shown main sink : Text) : Type 0 where
  not_kept : StandsFor main before → (part : AddsPart texts.sure shown sink) → IsUntold texts.pieces part.count
      → OneOf at before next n request d texts shown main sink
  in_deed_so : (c : Cat) (p : Pending) → IsAmid before c → GivesFew before c (length p.marks + 1) → WaitsInDeed at n request d.reply.marks c p
      → StandsFor main c → (part : AddsPart texts.sure shown sink)
      → TellsFew texts.pieces (length (reply_text n d.reply texts.pieces)) (length p.marks) part.count
      → OneOf at before next n request d texts shown main sink
  kept_so : ComesAfter before n request d next → StandsFor main next → AddsPart texts.sure shown sink → OneOf at before next n request d texts shown main sink

-- ---- marks

-- the mark is clean, or tells of a fault, or of a file of one of so many stores, which is not known, or of several of which one is of such
-- a store
abbrev pub IsToldOf : (ℕ → Type 0) → ℕ → Mark → Type 0
IsToldOf known stores (Ran word now []) = Unit {0}
IsToldOf known stores (Ran word now (b ∷ bad)) = (slot : ℕ) × (slot < stores) × ¬ known slot
IsToldOf known stores (Fault slot sent) = Unit {0}
IsToldOf known stores (Bad slot len found sent) = (slot < stores) × ¬ known slot
IsToldOf known stores Stop = ⊥

-- the ambient gave these words and times between the two states, and what the marks tell is some of them, in order
pub record Gave (marks : List Mark) (old new : AmbientState) : Type 0 where
  pub told : IsTrue old.tells
  pub words : List ℕ
  pub words_are : new.words ≡ old.words ++ words
  pub words_told : AreSomeOf (told_words marks) words
  pub times : List ℕ
  pub times_are : new.times ≡ old.times ++ times
  pub times_told : AreSomeOf (times_of marks) times

-- a part of a reply with these pieces is shown, which tells at most so many marks
pub record ShowsFew (pieces : List Text) (text : Text) (marks : ℕ) (before after : Text) : Type 0 where
  pub part : AddsPart text before after
  pub few : whole_in pieces part.count ≤ marks

-- ---- one request

-- The request of this number was handled or how far that came, from the state and the catalogue before it.
pub record RequestStep {B : Type 0} (old new : World B) (at : State) (before : Cat) (n : ℕ) (request : Request) : Type 0 where
  pub marks : List Mark
  pub d : Done
  pub does_so : does at request marks ≡ gives d
  pub all : d.left ≡ []
  pub marks_are : d.reply.marks ≡ marks
  -- those that it came to; where it was cut short the others are what it would have come to
  pub taken : List Mark
  pub first : AreFirst taken marks
  pub told_of : IsTrue old.main.tells → AllByRecursion (IsToldOf (IsKnown old before) (length old.stores)) marks
  pub by_rows : AreClean marks → EndsByRows d.reply.end
  -- the texts of all of them, or of the first ones, and what is sure of the reply by these
  pub texts : SureTexts
  pub are_sure : IsSure (IsKnown old before) n d texts.pieces texts.sure
  pub shown : IsTrue old.sink.tells → ShowsFew texts.pieces texts.sure (length taken) old.sink.holds new.sink.holds
  pub caused : AreCaused old new marks
  pub gave : IsTrue new.ambient.tells → Gave taken old.ambient new.ambient
  -- the catalogue behind it, where it comes so far: few numbers were given
  pub next : Cat
  pub keeps : KeepsNumbers before next
  pub few : GivesFew before next (length marks)
  pub images : IsTrue old.main.tells → IsTrue old.sink.tells → IsSettled old.main → IsSettled old.sink → (t : ℕ) (main sink : Text)
      → old.moments < t → new.main.left t main → new.sink.left t sink → OneOf at before next n request d texts old.sink.holds main sink

-- the request asks for no sweep
abbrev pub RemovesNoFile : Request → Type 0
RemovesNoFile (Ok (session, sweeps)) = ⊥
RemovesNoFile other = Unit {0}

-- the request is no call by itself
abbrev pub IsNoCall : Request → Type 0
IsNoCall (Ok (session, executes call)) = ⊥
IsNoCall other = Unit {0}

-- the request calls no rules: it is no call by itself, and there are no rules
abbrev pub CallsNoRules : State → Request → Type 0
CallsNoRules at request = IsNoCall request × (at.rules ≡ [])

-- It was handled whole: this is the catalogue behind it, and this the state.
pub record IsHandledWhole {B : Type 0} (old new : World B) (at : State) (before : Cat) (n : ℕ) (request : Request)
    (step : RequestStep old new at before n request)
    (after : Cat) (end : State) : Type 0 where
  pub state : step.d.state ≡ end
  pub grid : grid_of after ≡ end.grid
  pub all_taken : step.taken ≡ step.marks
  pub is_next : step.next ≡ after
  pub pieces_are : ArePieces (IsKnown old before) n step.d.sent 0 step.d.reply.marks step.texts.pieces
  pub follows : ComesAfter before n request step.d after
  pub stands : IsTrue old.main.tells → StandsFor new.main.holds after
  pub text : IsTrue old.sink.tells → new.sink.holds ≡ old.sink.holds ++ reply_text n step.d.reply step.texts.pieces
  -- where it told no mark, left the grid as it was, was no sweep and no call of rules, and there were none and are none, main is as it was
  pub still : RemovesNoFile request → CallsNoRules at request → step.marks ≡ [] → step.d.state.grid ≡ grid_of before → step.d.state.rules ≡ []
      → IsTrue old.main.tells → new.main.holds ≡ old.main.holds
  pub main_settled : IsTrue old.main.tells → IsSettled old.main → IsSettled new.main
  pub sink_settled : IsTrue old.sink.tells → IsSettled old.sink → IsSettled new.sink

-- Nothing is seen of a request, though times and words may have been given for it.
pub record IsQuiet {B : Type 0} (old new : World B) (before : Cat) : Type 0 where
  pub sink : IsTrue old.sink.tells → new.sink.holds ≡ old.sink.holds
  pub gave : IsTrue new.ambient.tells → Gave [] old.ambient new.ambient
  pub images : IsTrue old.main.tells → IsTrue old.sink.tells → IsSettled old.main → IsSettled old.sink → (t : ℕ) (main sink : Text)
      → old.moments < t → new.main.left t main → new.sink.left t sink → StandsFor main before × (sink ≡ old.sink.holds)
