-- Rules as they stand in a text, with their places, which have no part in what they mean. The place of a part is that of
-- its first token.
use Rattle.std.specs.Prelude.{ℕ, ℤ, Bool, List, Option, map, option_map}
use Rattle.grid_model.specs.Names.{Text}
use Rattle.grid_model.specs.RuleText as meaning
use Rattle.grid_model.specs.declared.rules.Call0.{Call0}
use Rattle.grid_model.specs.declared.rules.Expr.{Expr}
use Rattle.grid_model.specs.declared.rules.Form.{Form}
use Rattle.grid_model.specs.declared.rules.Form.TheVariants as form
use Rattle.grid_model.specs.declared.rules.Operator.{Operator}
use Rattle.grid_model.specs.declared.rules.Rule.{Rule}
use Rattle.grid_model.specs.declared.rules.Step.{Step}

-- what an expression is, the places of its operands with it
pub data Shape : Type 0 where
  literal : Text → Shape
  number : ℤ → Shape
  truth : Bool → Shape
  -- the place of its own token, and its name
  parameter : ℕ → Text → Shape
  session : ℕ → Text → Shape
  -- the place and the shape of each operand
  negated : ℕ → Shape → Shape
  applied : Operator → ℕ → Shape → ℕ → Shape → Shape

-- an expression and its place, parentheses round it among its tokens
pub record Term : Type 0 where
  pub place : ℕ
  pub shape : Shape

-- a call, with its place and those of its arguments
pub record CallAt : Type 0 where
  pub place : ℕ
  pub name : Text
  pub args : List Term

-- a step and its recovery, with their places
pub record StepAt : Type 0 where
  pub place : ℕ
  pub call : CallAt
  pub recovery : Option CallAt

-- a rule, with its place and those of its parts
pub record RuleAt : Type 0 where
  pub place : ℕ
  pub name : Text
  pub params : List Text
  pub cond : Option Term
  pub steps : List StepAt

-- ---- without places

-- what an expression means, by its shape
abbrev pub plain_shape : Shape → meaning.Expr
plain_shape (literal t) = meaning.literal t
plain_shape (number z) = meaning.number z
plain_shape (truth b) = meaning.truth b
plain_shape (parameter own n) = meaning.parameter n
plain_shape (session own n) = meaning.session n
plain_shape (negated p e) = meaning.negated (plain_shape e)
plain_shape (applied op p x q y) = meaning.applied op (plain_shape x) (plain_shape y)

-- what it means
abbrev pub plain : Term → meaning.Expr
plain e = plain_shape e.shape

-- the call without places
abbrev pub plain_call : CallAt → meaning.CallText
plain_call c = record { name = c.name; args = map plain c.args }

-- the step without places
abbrev pub plain_step : StepAt → meaning.Step
plain_step s = record { call = plain_call s.call; recovery = option_map plain_call s.recovery }

-- the rule without places
abbrev pub plain_rule : RuleAt → meaning.Rule
plain_rule r = record { name = r.name; params = r.params; cond = option_map plain r.cond; steps = map plain_step r.steps }

-- ---- the code's rules, without where they lie in memory

-- the form of an expression, with those of its operands
abbrev pub shape_of : Form → Shape
shape_of (form.Text t) = literal t
shape_of (form.Number z) = number z
shape_of (form.Truth b) = truth b
shape_of (form.Param own n) = parameter own n
shape_of (form.Session own n) = session own n
shape_of (form.Not' p at f) = negated at (shape_of f)
shape_of (form.Applied' op p at f q to g) = applied op at (shape_of f) to (shape_of g)

-- an expression, by its place and its form
abbrev pub term_of : Expr → Term
term_of e = record { place = e.at; shape = shape_of e.form }

-- a call whose arguments are still to be computed
abbrev pub call_of : Call0 → CallAt
call_of c = record { place = c.at; name = c.name; args = map term_of c.args }

-- a step, with its recovery
abbrev pub step_of : Step → StepAt
step_of s = record { place = s.at; call = call_of s.call; recovery = option_map call_of s.recovery }

-- a rule, with its steps
abbrev pub rule_of : Rule → RuleAt
rule_of r = record { place = r.at; name = r.name; params = r.params; cond = option_map term_of r.cond; steps = map step_of r.steps }
