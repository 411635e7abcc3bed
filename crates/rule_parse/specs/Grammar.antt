-- The grammar of rules, between tokens with their places and what they spell.
use Rattle.std.specs.Prelude.{◌≡◌, ℕ, suc, ◌+◌, ◌≤◌, Bool, true, false, List, [], ◌∷◌, ◌++◌, Option, Some, None, IsTrue, codes}
use Rattle.std.specs.List.{list_any}
use Rattle.grid_model.specs.Names.{Text, same_text}
use Rattle.grid_model.specs.Parsed.{Shape, literal, number, truth, parameter, session, negated, applied, Term, CallAt, StepAt, RuleAt}
use Rattle.grid_model.specs.declared.rules.Operator.{Operator}
use Rattle.grid_model.specs.declared.rules.Operator.TheVariants as operator
use Rattle.rule_lex.specs.Tokens.{RuleToken, named, param, session as session_token, number as number_token, text, symbol}
use Rattle.rule_lex.specs.declared.token.Symbol.{Symbol}
use Rattle.rule_lex.specs.declared.token.Symbol.TheVariants as sign

-- tokens with their places
abbrev pub Tokens : Type 0
Tokens = List (ℕ × RuleToken)

-- ---- expressions

-- the word or the sign of an operator
abbrev pub sign_of : Operator → Symbol
sign_of operator.Or = sign.Or
sign_of operator.And = sign.And
sign_of operator.Equal = sign.Equal
sign_of operator.NotEqual = sign.NotEqual
sign_of operator.Less = sign.Less
sign_of operator.Greater = sign.Greater
sign_of operator.AtMost = sign.AtMost
sign_of operator.AtLeast = sign.AtLeast
sign_of operator.Like = sign.Like
sign_of operator.Join = sign.Join

-- `==`, `!=`, `<`, `>`, `<=`, `>=` and `like`
abbrev pub is_comparing : Operator → Bool
is_comparing operator.Or = false
is_comparing operator.And = false
is_comparing operator.Join = false
is_comparing _ = true

-- from the operators that bind least to those that bind most
pub data Rank : Type 0 where
  disjunction : Rank
  conjunction : Rank
  negation : Rank
  comparison : Rank
  joining : Rank
  atom : Rank

abbrev pub placed_term : ℕ → Shape → Term
placed_term p e = record { place = p; shape = e }

-- an operator with its two operands
abbrev pub applied_term : Operator → Term → Term → Term
applied_term op x y = placed_term x.place (applied op x.place x.shape y.place y.shape)

-- `!` at this place, with its operand
abbrev pub not_at : ℕ → Term → Term
not_at p e = placed_term p (negated e.place e.shape)

-- Terms of a rank, with parentheses at most so deep. Operators of one rank group to the left, and two comparisons do not
-- follow one another.
pub data SpellsTerm : Rank → ℕ → Tokens → Term → Type 0 where
  one_and : {d : ℕ} {ts : Tokens} {e : Term} → SpellsTerm conjunction d ts e → SpellsTerm disjunction d ts e
  ors : {d : ℕ} {all left right : Tokens} {x y : Term} (place : ℕ) → SpellsTerm disjunction d left x → SpellsTerm conjunction d right y
      → all ≡ left ++ (place, symbol sign.Or) ∷ right → SpellsTerm disjunction d all (applied_term operator.Or x y)
  one_not : {d : ℕ} {ts : Tokens} {e : Term} → SpellsTerm negation d ts e → SpellsTerm conjunction d ts e
  ands : {d : ℕ} {all left right : Tokens} {x y : Term} (place : ℕ) → SpellsTerm conjunction d left x → SpellsTerm negation d right y
      → all ≡ left ++ (place, symbol sign.And) ∷ right → SpellsTerm conjunction d all (applied_term operator.And x y)
  one_comparison : {d : ℕ} {ts : Tokens} {e : Term} → SpellsTerm comparison d ts e → SpellsTerm negation d ts e
  nots : {d : ℕ} {ts : Tokens} {e : Term} (place : ℕ) → SpellsTerm negation d ts e → SpellsTerm negation d ((place, symbol sign.Not) ∷ ts) (not_at place e)
  one_join : {d : ℕ} {ts : Tokens} {e : Term} → SpellsTerm joining d ts e → SpellsTerm comparison d ts e
  compares : {d : ℕ} {all left right : Tokens} {x y : Term} (place : ℕ) (op : Operator) → IsTrue (is_comparing op) → SpellsTerm joining d left x
      → SpellsTerm joining d right y → all ≡ left ++ (place, symbol (sign_of op)) ∷ right → SpellsTerm comparison d all (applied_term op x y)
  one_atom : {d : ℕ} {ts : Tokens} {e : Term} → SpellsTerm atom d ts e → SpellsTerm joining d ts e
  joins : {d : ℕ} {all left right : Tokens} {x y : Term} (place : ℕ) → SpellsTerm joining d left x → SpellsTerm atom d right y
      → all ≡ left ++ (place, symbol sign.Join) ∷ right → SpellsTerm joining d all (applied_term operator.Join x y)
  a_text : {d : ℕ} (place : ℕ) (t : Text) → SpellsTerm atom d ((place, text t) ∷ []) (placed_term place (literal t))
  a_number : {d : ℕ} (place : ℕ) (z : _) → SpellsTerm atom d ((place, number_token z) ∷ []) (placed_term place (number z))
  a_param : {d : ℕ} (place : ℕ) (n : Text) → SpellsTerm atom d ((place, param n) ∷ []) (placed_term place (parameter place n))
  a_session : {d : ℕ} (place : ℕ) (n : Text) → SpellsTerm atom d ((place, session_token n) ∷ []) (placed_term place (session place n))
  a_true : {d : ℕ} (place : ℕ) → SpellsTerm atom d ((place, symbol sign.True) ∷ []) (placed_term place (truth true))
  a_false : {d : ℕ} (place : ℕ) → SpellsTerm atom d ((place, symbol sign.False) ∷ []) (placed_term place (truth false))
  -- a term in parentheses, which is then placed at the first of them
  enclosing : {d : ℕ} {all ts : Tokens} {e : Term} (start close : ℕ) → SpellsTerm disjunction d ts e
      → all ≡ (start, symbol sign.OpenParenthesis) ∷ ts ++ (close, symbol sign.CloseParenthesis) ∷ [] → SpellsTerm atom (suc d) all (placed_term start e.shape)

-- ---- the bounds of an argument or a condition. Both are this project's own.

abbrev pub most_operators : ℕ
most_operators = 128

abbrev pub deepest_parentheses : ℕ
deepest_parentheses = 256

-- how many operators there are, `!` among them
abbrev pub operators : Shape → ℕ
operators (negated p e) = operators e + 1
operators (applied op p x q y) = operators x + operators y + 1
operators _ = 0

-- an argument or a condition
pub record SpellsArgument (ts : Tokens) (e : Term) : Type 0 where
  pub spells : SpellsTerm disjunction deepest_parentheses ts e
  pub few : operators e.shape ≤ most_operators

-- ---- calls and steps

-- one argument or more, with commas
pub data SpellsArguments : Tokens → List Term → Type 0 where
  last : {ts : Tokens} {e : Term} → SpellsArgument ts e → SpellsArguments ts (e ∷ [])
  more : {all ts us : Tokens} {e : Term} {es : List Term} (place : ℕ) → SpellsArgument ts e → SpellsArguments us es
      → all ≡ ts ++ (place, symbol sign.Comma) ∷ us → SpellsArguments all (e ∷ es)

-- `nop`, `cut`, `succeed` and `fail`, which may stand without parentheses
abbrev pub is_special : Text → Bool
is_special n = list_any (same_text n) (codes "nop" ∷ codes "cut" ∷ codes "succeed" ∷ codes "fail" ∷ [])

abbrev pub placed_call : ℕ → Text → List Term → CallAt
placed_call p n es = record { place = p; name = n; args = es }

pub data SpellsCall : Tokens → CallAt → Type 0 where
  alone : (place : ℕ) (n : Text) → IsTrue (is_special n) → SpellsCall ((place, named n) ∷ []) (placed_call place n [])
  of_none : (place start close : ℕ) (n : Text)
      → SpellsCall ((place, named n) ∷ (start, symbol sign.OpenParenthesis) ∷ (close, symbol sign.CloseParenthesis) ∷ []) (placed_call place n [])
  of : {all ts : Tokens} {es : List Term} (place start close : ℕ) (n : Text) → SpellsArguments ts es
      → all ≡ (place, named n) ∷ (start, symbol sign.OpenParenthesis) ∷ ts ++ (close, symbol sign.CloseParenthesis) ∷ []
      → SpellsCall all (placed_call place n es)

abbrev pub placed_step : CallAt → Option CallAt → StepAt
placed_step c r = record { place = c.place; call = c; recovery = r }

-- a call, or a call with its recovery, which is one call
pub data SpellsStep : Tokens → StepAt → Type 0 where
  without_recovery : {all ts : Tokens} {c : CallAt} (end : ℕ) → SpellsCall ts c → all ≡ ts ++ (end, symbol sign.Semicolon) ∷ []
      → SpellsStep all (placed_step c None)
  with_recovery : {all ts us : Tokens} {c r : CallAt} (between end : ℕ) → SpellsCall ts c → SpellsCall us r
      → all ≡ ts ++ (between, symbol sign.Recovery) ∷ us ++ (end, symbol sign.Semicolon) ∷ [] → SpellsStep all (placed_step c (Some r))

pub data SpellsSteps : Tokens → List StepAt → Type 0 where
  no_steps : SpellsSteps [] []
  steps : {all ts us : Tokens} {s : StepAt} {ss : List StepAt} → SpellsStep ts s → SpellsSteps us ss → all ≡ ts ++ us → SpellsSteps all (s ∷ ss)

-- ---- rules

-- parameters with commas between them, or none
pub data SpellsParams : Tokens → List Text → Type 0 where
  no_params : SpellsParams [] []
  last_param : (place : ℕ) (n : Text) → SpellsParams ((place, param n) ∷ []) (n ∷ [])
  params : {ts : Tokens} {m : Text} {ns : List Text} (place comma : ℕ) (n : Text) → SpellsParams ts (m ∷ ns)
      → SpellsParams ((place, param n) ∷ (comma, symbol sign.Comma) ∷ ts) (n ∷ m ∷ ns)

-- what stands between the braces of a rule: steps, or a condition and steps in braces of their own
pub data SpellsBody : Tokens → Option Term → List StepAt → Type 0 where
  always : {ts : Tokens} {ss : List StepAt} → SpellsSteps ts ss → SpellsBody ts None ss
  on_condition : {all ts us : Tokens} {e : Term} {ss : List StepAt} (on start close begin end : ℕ) → SpellsArgument ts e → SpellsSteps us ss
      → all ≡ (on, symbol sign.On) ∷ (start, symbol sign.OpenParenthesis) ∷ ts ++ (close, symbol sign.CloseParenthesis) ∷ (begin, symbol sign.OpenBrace) ∷ us
      ++ (end, symbol sign.CloseBrace) ∷ []
      → SpellsBody all (Some e) ss

abbrev pub placed_rule : ℕ → Text → List Text → Option Term → List StepAt → RuleAt
placed_rule p n ps e ss = record { place = p; name = n; params = ps; cond = e; steps = ss }

pub data SpellsRule : Tokens → RuleAt → Type 0 where
  a_rule : {all ts us : Tokens} {ps : List Text} {e : Option Term} {ss : List StepAt} (place start close begin end : ℕ) (n : Text) → SpellsParams ts ps
      → SpellsBody us e ss
      → all ≡ (place, named n) ∷ (start, symbol sign.OpenParenthesis) ∷ ts ++ (close, symbol sign.CloseParenthesis) ∷ (begin, symbol sign.OpenBrace) ∷ us
      ++ (end, symbol sign.CloseBrace) ∷ []
      → SpellsRule all (placed_rule place n ps e ss)

pub data SpellsRules : Tokens → List RuleAt → Type 0 where
  no_rules : SpellsRules [] []
  rules : {all ts us : Tokens} {r : RuleAt} {rs : List RuleAt} → SpellsRule ts r → SpellsRules us rs → all ≡ ts ++ us → SpellsRules all (r ∷ rs)
