-- A request whose calls are made one after another: what main may have of it, and what a stop leaves.
use Rattle.std.specs.Prelude.{◌≡◌, ℕ, ◌+◌, ◌<◌, ◌≤◌, true, false, List, [], ◌++◌, Some, None, Ok, IsTrue, drop, length, map, nat_le, take}
use Rattle.grid_model.specs.Applying.{is_user}
use Rattle.grid_model.specs.Maps.{get}
use Rattle.grid_model.specs.Names.{Text}
use Rattle.grid_model.specs.Rows.{Cat}
use Rattle.grid_model.specs.RowGrids.{grid_of, user_name}
use Rattle.grid_model.specs.Meanings.{gives}
use Rattle.grid_model.specs.Replies.{mark_line}
use Rattle.grid_model.specs.ReplyTexts.{reply_text}
use Rattle.grid_model.specs.Sessions.{Session, State}
use Rattle.grid_model.specs.Working.{Done}
use Rattle.grid_model.specs.Orders.{Order}
use Rattle.grid_model.specs.Runs.{Request, does}
use Rattle.grid_model.specs.declared.deltas.Pending.{Pending}
use Rattle.grid_model.specs.declared.marks.Mark.{Mark}
use Rattle.grid_headline.specs.Files.{KeepsNamed, NamesCall}
use Rattle.grid_headline.specs.Stops.{AreFirst}
use Rattle.grid_headline.specs.Reads.{HasRules}
use Rattle.grid_headline.specs.Served.{whole_in}
use Rattle.count_laws.specs.GivenNumbers.{GivesFew}
use Rattle.run_laws.specs.Steps.{HasLine, IsAmid as IsAmidCommand, IsUntold, OneOf, SureTexts, WaitsInDeed}
use Rattle.service_run.specs.Steps.{lines_of}
use Rattle.service_run.specs.declared.command.Command.{Command}
use Rattle.call_laws.specs.Amid.{Setting}

-- The request is an order of a session that is logged in, whose user this is, and its command begins on these rows.
pub record IsAsked (at : State) (request : Request) (before : Cat) (x : Command) : Type 0 where
  pub session : ℕ
  pub order : Order
  pub asks : request ≡ Ok (session, order)
  pub of : Session
  pub logged_in : get at.sessions session ≡ Some of
  pub user : IsTrue (is_user before x.user)
  pub name : user_name before x.user ≡ of.user
  pub grid : grid_of before ≡ at.grid
  pub rules : HasRules before at.rules
  pub run : x.run ≡ before.numbers.run
  pub begun : x ≡ record x { marks = []; passed = []; untold = [] }
  pub none : before.pending ≡ None

-- The text is a front of what is sure of the reply to the request of this number, it tells at most these marks, and the reply does not end in it.
pub record IsFrontOfReply (n : ℕ) (d : Done) (texts : SureTexts) (told : List Mark) (text : Text) : Type 0 where
  pub rest : Text
  pub sure_is : texts.sure ≡ text ++ rest
  pub few : (count : ℕ) → count ≤ length text → whole_in texts.pieces count ≤ length told
  pub cut : (count : ℕ) → count ≤ length text → count < length (reply_text n d.reply texts.pieces)
  pub untold : told ≡ [] → (count : ℕ) → count ≤ length text → IsUntold texts.pieces count

-- What the request of this number may come to: all its marks, what it did with them, and texts of its reply, of which what tells the first marks
-- so is a front; and the catalogue behind it, where it comes so far.
pub record EndOf (n : ℕ) (text_of : List Mark → Text) (at : State) (request : Request) : Type 0 where
  pub marks : List Mark
  pub d : Done
  pub does_so : does at request marks ≡ gives d
  pub all : d.left ≡ []
  pub marks_are : d.reply.marks ≡ marks
  pub texts : SureTexts
  -- those of its marks that are told so
  pub reach : List Mark
  pub reach_first : AreFirst reach marks
  pub fronts : (told : List Mark) → AreFirst told reach → IsFrontOfReply n d texts told (text_of told)
  pub next : Cat

-- main has what it had before and no mark is told, or the request is pending with the marks that are told, and numbers were given for these and
-- one more
pub data IsOnMain (at : State) (request : Request) (before : Cat) (x : Command) (c : Cat) (told : List Mark) : Type 0 where
  not_noted : c ≡ before → told ≡ [] → IsOnMain at request before x c told
  noted : (p : Pending) → IsAmidCommand before c → GivesFew before c (length p.marks + 1) → c.pending ≡ Some p → p.line ≡ x.line → p.marks ≡ told
      → NamesCall c.pending → KeepsNamed before c
      → ((marks : List Mark) → AreFirst told marks → WaitsInDeed at x.number request marks c p) → IsOnMain at request before x c told

-- a command that is pending names its call and has this line, and no file is lost track of
pub record IsOnWay (before : Cat) (line : Text) (c : Cat) : Type 0 where
  pub call : NamesCall c.pending
  pub line_is : HasLine line c.pending
  pub named : KeepsNamed before c

-- the texts of marks that send no bytes
abbrev pub mark_lines : ℕ → List Mark → List Text
mark_lines n marks = map (mark_line n) marks

-- the text that tells these marks, where behind the first so many of them that data were sent
abbrev pub text_with : ℕ → ℕ → Text → List Mark → Text
text_with n count sent marks = elim (nat_le count (length marks)) [
  | true ↦ lines_of n (take count marks) ++ (sent ++ lines_of n (drop count marks))
  | false ↦ lines_of n marks
]

-- the request as a setting of calls, with the text that tells marks
abbrev pub asked_setting : (at : State) (request : Request) → Cat → (x : Command) → (text_of : List Mark → Text) → Setting (EndOf x.number text_of at request)
asked_setting at request before x text_of = record {
  found = before;
  start = x;
  text_of = text_of;
  OnMain = IsOnMain at request before x;
  OnWay = IsOnWay before x.line;
  marks_of = λ e. e.reach;
  OneOf = λ e shown main sink. OneOf at before e.next x.number request e.d e.texts shown main sink;
}
