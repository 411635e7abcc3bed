-- A scope on whatever grid: with the size that is asked for as its own, so that no grid has a part in it.
use Rattle.std.specs.Prelude.{ℕ, Bool, List, [], Some, length, map, nat_le}
use Rattle.std.specs.List.{list_all}
use Rattle.grid_model.specs.Bounds.{argument_size}
use Rattle.grid_model.specs.Grid.{Grid}
use Rattle.grid_model.specs.Maps.{empty}
use Rattle.grid_model.specs.Names.{Text}
use Rattle.grid_model.specs.Parsed.{plain, term_of}
use Rattle.grid_model.specs.declared.rules.Expr as parsed
use Rattle.grid_model.specs.RuleText.{Expr}
use Rattle.grid_model.specs.Values as values
use Rattle.rule_cond.specs.Scopes.{scope_seen}
use Rattle.rule_cond.specs.declared.scope.Scope.{Scope}

-- a grid with nothing in it
abbrev pub nowhere : Grid
nowhere = record {
  zone = [];
  stores = 0;
  users = empty;
  members = empty;
  collections = empty;
  objects = empty;
  triples = empty;
  access = empty;
  resources = empty;
}

-- the session variables with this size
abbrev pub sized : values.Env → ℕ → values.Env
sized env size = record env { put_size = Some size }

-- the value of an expression in the scope, by the size alone
abbrev pub value_in : Scope → Expr → values.Value
value_in s e = values.value (record (scope_seen s) { env = sized (scope_seen s).env s.size }) nowhere e

-- a text is not too long for an argument
abbrev pub is_short_text : Text → Bool
is_short_text t = nat_le (length t) argument_size

-- an argument of a call
abbrev pub arg_in : Scope → parsed.Expr → Text
arg_in s e = values.text_of (value_in s (plain (term_of e)))

-- arguments of a call
abbrev pub args_in : Scope → List parsed.Expr → List Text
args_in s es = map (arg_in s) es

-- none of them is too long
abbrev pub are_short : List Text → Bool
are_short texts = list_all is_short_text texts
