-- A point in the code, the rules behind it that are still to be run, and how its rules end a request.
use Rattle.std.specs.Prelude.{◌≡◌, ℕ, ◌+◌, ◌*◌, ◌^◌, false, List, [], Option, Some, None}
use Rattle.grid_model.specs.Names.{Text}
use Rattle.grid_model.specs.RuleText.{Rule}
use Rattle.grid_model.specs.Points.{Point, post_name, pre_name}
use Rattle.grid_model.specs.Sessions.{State}
use Rattle.grid_model.specs.Runs.{Request}
use Rattle.grid_model.specs.declared.refusal.Failure.{Failure}
use Rattle.grid_model.specs.declared.refusal.Failure.TheVariants.{Stopped}
use Rattle.grid_model.specs.declared.replies.End.{End}
use Rattle.grid_model.specs.declared.replies.End.TheVariants as end
use Rattle.chain_core.specs.Rest.{steps_begun, took_stop}
use Rattle.rule_cond.specs.Scopes.{env_of}
use Rattle.rule_cond.specs.declared.scope.Env.{Env}
use Rattle.run_laws.specs.Steps.{CallsNoRules}
use Rattle.work_run.specs.declared.after.After.{After}

-- the point of the operation of this name has these session variables
abbrev pub IsPointOf : Text → Env → Option Point → Type 0
IsPointOf name env p = p ≡ Some (record { operation = name; env = env_of env })

-- these are the session variables of the point, and these the names of its rules
pub record IsPoint (p : Point) (env : Env) (pre post : Text) : Type 0 where
  pub env_is : p.env ≡ env_of env
  pub pre_is : pre_name p ≡ pre
  pub post_is : post_name p ≡ post

-- ---- the rules behind it

-- they are those of the point, in a request that calls rules, in which no stop was taken
pub record IsAfter (at : State) (request : Request) (rules : List Rule) (a : After) (p : Point) : Type 0 where
  pub rules_are : at.rules ≡ rules
  pub calls : CallsNoRules at request → ⊥
  pub unstopped : took_stop a.frames ≡ false
  pub env_is : p.env ≡ env_of a.env
  pub name_is : post_name p ≡ a.post

-- where there are none, no point is left
abbrev pub RunsAfter : State → Request → List Rule → Option After → Option Point → Type 0
RunsAfter at request rules None p = p ≡ None
RunsAfter at request rules (Some a) p = (q : Point) × (p ≡ Some q) × IsAfter at request rules a q

-- the machine has begun so many steps
abbrev pub begun_by : Option After → ℕ
begun_by None = 0
begun_by (Some a) = steps_begun a.frames

-- they, and the end behind them, draw at most so many moments where each call draws so many
abbrev pub draws_by : ℕ → Option After → ℕ
draws_by each None = 5
draws_by each (Some a) = a.left * each + 5

-- they are run for this user
abbrev pub AreFor : Option After → Text → Type 0
AreFor None user = Unit {0}
AreFor (Some a) user = user ≡ a.env.user

-- ---- how they end a request

-- a failure of a point, before or behind the operation, as an end
abbrev pub point_end : (Failure → End) → Failure → End
point_end before Stopped = end.Stopped
point_end before f = before f

-- the rows that are shown of these where the request ends so: none where it was stopped
abbrev pub rows_told : End → List (List Text) → List (List Text)
rows_told end.Stopped rows = []
rows_told other rows = rows
