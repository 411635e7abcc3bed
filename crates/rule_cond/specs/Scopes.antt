-- Where expressions stand, as the definitions have it.
use Rattle.std.specs.Prelude.{◌≡◌, Bool, Option, option_map}
use Rattle.grid_model.specs.Grid.{Grid}
use Rattle.grid_model.specs.Parsed.{call_of, plain, plain_call, term_of}
use Rattle.grid_model.specs.declared.calls.Call.{Call}
use Rattle.grid_model.specs.declared.rules.Call0.{Call0}
use Rattle.grid_model.specs.declared.rules.Expr.{Expr}
use Rattle.grid_model.specs.Values as values
use Rattle.rule_cond.specs.declared.scope.Env.{Env}
use Rattle.rule_cond.specs.declared.scope.Scope.{Scope}

-- the session variables
abbrev pub env_of : Env → values.Env
env_of e = record { user = e.user; obj = e.obj; coll = e.coll; resc = e.resc; put_size = e.put_size }

-- the scope
abbrev pub scope_seen : Scope → values.Scope
scope_seen s = record { env = env_of s.env.now; params = s.params.now; args = s.args.now }

-- the grid has the size that the scope has
pub record HasScopeSize (s : Scope) (g : Grid) : Type 0 where
  pub size : values.size_now (env_of s.env.now) g ≡ s.size

-- ---- what the code's expressions are on a grid

-- the value of an expression
abbrev pub value_on : Scope → Grid → Expr → values.Value
value_on s g e = values.value (scope_seen s) g (plain (term_of e))

-- a condition holds
abbrev pub holds_on : Scope → Grid → Option Expr → Bool
holds_on s g cond = values.holds (scope_seen s) g (option_map plain (option_map term_of cond))

-- a call with its arguments computed
abbrev pub computed_on : Scope → Grid → Call0 → Call
computed_on s g call = values.computed (scope_seen s) g (plain_call (call_of call))
