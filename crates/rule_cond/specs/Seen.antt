-- What the code's values are.
use Rattle.std.specs.Prelude.{ℕ, pos}
use Rattle.grid_model.specs.Values as values
use Rattle.rule_cond.specs.declared.value.Value.{Value}
use Rattle.rule_cond.specs.declared.value.Value.TheVariants as of
use Rattle.rule_cond.specs.declared.names.Session.{Session}
use Rattle.rule_cond.specs.declared.names.Session.TheVariants as is

-- the value that it is
abbrev pub value_of : Value → values.Value
value_of (of.Text t) = values.text_value t
value_of (of.Number z) = values.number_value z
value_of (of.Truth b) = values.truth_value b

-- what a session variable is, where the size is this
abbrev pub session_value : ℕ → Session → values.Value
session_value size (is.Text t) = values.text_value t.now
session_value size is.Size = values.number_value (pos size)
