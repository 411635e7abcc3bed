-- The rules that a request sets, and the text of those that there are.
use Rattle.std.specs.Prelude.{◌≡◌, ℕ, ◌≤◌, Bool, true, ◌||◌, ◌==◌, List, [], Ok, length, nat_le}
use Rattle.grid_model.specs.Limits.{object_size}
use Rattle.grid_model.specs.Meanings.{gives}
use Rattle.grid_model.specs.Names.{Text}
use Rattle.grid_model.specs.Orders.{sets_rules}
use Rattle.grid_model.specs.Refusing.{Or}
use Rattle.grid_model.specs.Rows.{Cat}
use Rattle.grid_model.specs.RuleText.{Rule}
use Rattle.grid_model.specs.Runs.{Request, does}
use Rattle.grid_model.specs.Sessions.{State}
use Rattle.grid_model.specs.Working.{Done, well}
use Rattle.grid_model.specs.Words.{is_word_byte}
use Rattle.rule_parse.specs.RuleOrders.{ReadsRules}

-- a byte of a line of printed rules, or its newline
abbrev pub is_line_byte : ℕ → Bool
is_line_byte b = is_word_byte b || b == 0x0A

-- these rows with this text of rules, as the command of this number left them
abbrev pub ruled : ℕ → Text → Cat → Cat
ruled n text c = record c { rules = text; numbers = record c.numbers { last = n } }

-- The request sets in the session the rules of a text with as many bytes as its line promised, of which this is held: all of it, where no
-- more were promised than an object may have.
pub record SetsRules (session count : ℕ) (held : Text) (request : Request) : Type 0 where
  pub text : Text
  pub rules : Or (List Rule)
  pub reads : ReadsRules text rules
  pub is : request ≡ Ok (session, sets_rules rules)
  pub all : nat_le count object_size ≡ true → text ≡ held
  pub promised : count ≤ length text

-- The request sets these rules where the state is so, and is answered ok.
pub record BeginsToSet (at : State) (request : Request) (rules : List Rule) : Type 0 where
  pub d : Done
  pub does_so : does at request [] ≡ gives d
  pub reply_is : d.reply ≡ record { marks = []; shown = []; passed = []; rows = []; end = well }
  pub all : d.left ≡ []
  pub state : d.state ≡ record at { rules = rules }
