-- What the code has read, without where it lies in memory, and what its private functions answer.
use Rattle.std.specs.Prelude.{◌≡◌, ℕ, Bool, true, false, List, [], ◌∷◌, ◌++◌, Option, Some, None, map, flat_map, reverse, option_map}
use Rattle.grid_model.specs.Names.{Text}
use Rattle.grid_model.specs.RuleText.{Rule}
use Rattle.grid_model.specs.declared.rules.Step.{Step}
use Rattle.grid_model.specs.Parsed.{Term, plain, plain_step, term_of, call_of, step_of, rule_of}
use Rattle.grid_model.specs.declared.rules.Expr.{Expr}
use Rattle.grid_model.specs.declared.rules.Operator.{Operator}
use Rattle.grid_model.specs.declared.rules.Operator.TheVariants as operator
use Rattle.rule_lex.specs.declared.token.Symbol.{Symbol}
use Rattle.rule_lex.specs.declared.token.Symbol.TheVariants as sign
use Rattle.grid_model.specs.declared.refusal.RuleCause.{RuleCause}
use Rattle.grid_model.specs.declared.refusal.RuleCause.TheVariants as cause
use Rattle.rule_lex.specs.Tokens.{PlacedToken, RuleToken, named, param, symbol}
use Rattle.rule_parse.specs.Printed.{print_token, expr_tokens, step_tokens, body_tokens, in_parentheses, with_commas}
use Rattle.rule_parse.specs.Grammar.{Tokens}
use Rattle.rule_parse.specs.RuleTexts.{RulesStopAt}
use Rattle.rule_parse.specs.Readers.{Level, Enclosing, enclosing, TermReader, level_with, TermRead, refused, goes, at_comma, at_close}
use Rattle.rule_parse.specs.Readers.{Calling, calling, Draft, new_draft, RuleRead, ends, Progress, progress}
use Rattle.rule_parse.specs.declared.calling.Calling.{Calling as CallingSeen}
use Rattle.rule_parse.specs.declared.drafts.Draft.{Draft as DraftSeen}
use Rattle.rule_parse.specs.declared.drafts.RuleTaken.{RuleTaken}
use Rattle.rule_parse.specs.declared.drafts.RuleTaken.TheVariants as ruled
use Rattle.rule_parse.specs.declared.reading.Reading.{Reading as ReadingSeen}
use Rattle.rule_parse.specs.declared.levels.Level.{Level as LevelSeen}
use Rattle.rule_parse.specs.declared.expressions.Enclosing.{Enclosing as EnclosingSeen}
use Rattle.rule_parse.specs.declared.expressions.Reader.{Reader as ReaderSeen}
use Rattle.rule_parse.specs.declared.expressions.Taken.{Taken}
use Rattle.rule_parse.specs.declared.expressions.Taken.TheVariants as taken

-- the comparison of a word or a sign
abbrev pub comparison_of : Symbol → Option Operator
comparison_of sign.Equal = Some operator.Equal
comparison_of sign.NotEqual = Some operator.NotEqual
comparison_of sign.Less = Some operator.Less
comparison_of sign.Greater = Some operator.Greater
comparison_of sign.AtMost = Some operator.AtMost
comparison_of sign.AtLeast = Some operator.AtLeast
comparison_of sign.Like = Some operator.Like
comparison_of _ = None

abbrev pub with_term : Operator × Expr → Operator × Term
with_term (op, e) = (op, term_of e)

abbrev pub level_of : LevelSeen → Level
level_of l =
    level_with (option_map term_of l.or_left) (option_map term_of l.and_left) l.nots.items (option_map with_term l.compared) (option_map term_of l.join_left)

abbrev pub enclosing_of : EnclosingSeen → Enclosing
enclosing_of e = enclosing e.at (level_of e.level)

-- the innermost first
abbrev pub outer_of : List EnclosingSeen → List Enclosing
outer_of os = reverse (map enclosing_of os)

abbrev pub reader_of : ReaderSeen → TermReader
reader_of r = record { outer = outer_of r.outer.items; inner = level_of r.level; count = r.count; operand = option_map term_of r.operand }

-- what a token did to an expression, and how it left the reader
abbrev pub TakesTerm : TermRead → Taken → TermReader → Type 0
TakesTerm read taken.Refused after = read ≡ refused
TakesTerm read taken.Goes after = read ≡ goes after
TakesTerm read (taken.Comma e) after = read ≡ at_comma (term_of e)
TakesTerm read (taken.Close e) after = read ≡ at_close (term_of e)

abbrev pub calling_of : CallingSeen → Calling
calling_of c = calling c.stage c.at c.name (map term_of c.args.items) (reader_of c.reader)

-- whether a token was taken, and how it left the reader
abbrev pub TakesToken : {S : Type 0} → Option S → Bool → S → Type 0
TakesToken o true after = o ≡ Some after
TakesToken o false after = o ≡ None

abbrev pub draft_of : DraftSeen → Draft
draft_of d = record {
  stage = d.stage;
  place = d.at;
  name = d.name;
  params = d.params.items;
  cond = option_map term_of d.cond;
  steps = map step_of d.steps.items;
  reader = reader_of d.reader;
  first = option_map call_of d.first;
  calling = calling_of d.calling;
}

-- what a token did to a rule, and what is read of the next
abbrev pub TakesRule : RuleRead → RuleTaken → Draft → Type 0
TakesRule read ruled.Refused after = read ≡ RuleRead.refused
TakesRule read ruled.Goes after = read ≡ RuleRead.goes after
TakesRule read (ruled.Ends r) after = (read ≡ ends (rule_of r)) × (after ≡ new_draft)

abbrev pub progress_of : ReadingSeen → Progress
progress_of r = progress (map rule_of r.rules.items) (draft_of r.draft)

-- the tokens stop here, by their grammar
pub record IsStop {A : Type 0} (Spells : Tokens → A → Type 0) (ts : List PlacedToken) (end place : ℕ) (c : RuleCause) : Type 0 where
  pub cause_is : c ≡ cause.Grammar
  pub stops : RulesStopAt Spells ts end place

-- the printed tokens with a space behind each
abbrev pub spread : List RuleToken → List ℕ
spread ts = flat_map (λ t. print_token t ++ 0x20 ∷ []) ts

-- the tokens of each of the code's arguments, of its parameters and of its steps
abbrev pub arg_tokens : List Expr → List (List RuleToken)
arg_tokens es = map expr_tokens (map plain (map term_of es))

abbrev pub param_tokens : List Text → List (List RuleToken)
param_tokens ns = map (λ n. param n ∷ []) ns

abbrev pub steps_tokens : List Step → List RuleToken
steps_tokens ss = flat_map step_tokens (map plain_step (map step_of ss))

-- those of a rule up to the brace that ends it
abbrev pub open_tokens : Rule → List RuleToken
open_tokens r = named r.name ∷ in_parentheses (with_commas (param_tokens r.params)) ++ (symbol sign.OpenBrace ∷ body_tokens r.cond r.steps)
