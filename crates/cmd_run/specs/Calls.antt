-- A call by itself that a request asks for, and what it comes to.
use Rattle.std.specs.Prelude.{◌≡◌, ℕ, true, List, [], Some, Result, Ok, Err, map, ⊤}
use Rattle.grid_model.specs.Grid.{Grid}
use Rattle.grid_model.specs.Names.{Text}
use Rattle.grid_model.specs.Obeying.{exec_scope}
use Rattle.grid_model.specs.Orders.{executes}
use Rattle.grid_model.specs.Parsed.{call_of, plain_call}
use Rattle.grid_model.specs.Refusing.{Or}
use Rattle.grid_model.specs.RowGrids.{grid_of, user_name}
use Rattle.grid_model.specs.RuleText.{CallText, Rule}
use Rattle.grid_model.specs.Runs.{Request}
use Rattle.grid_model.specs.Values.{computed, is_short, value}
use Rattle.grid_model.specs.declared.calls.Call.{Call}
use Rattle.grid_model.specs.declared.plans.PlanError.{PlanError}
use Rattle.grid_model.specs.declared.plans.PlanError.TheVariants as error
use Rattle.grid_model.specs.declared.refusal.Refusal.TheVariants.{BadRule}
use Rattle.grid_model.specs.declared.rules.Call0.{Call0}
use Rattle.chain_core.specs.Running.{HasValues}
use Rattle.rule_check.specs.declared.error.RuleError as check
use Rattle.rule_check.specs.declared.error.RuleError.TheVariants as bad
use Rattle.rule_parse.specs.RuleOrders.{ReadsCall}
use Rattle.rule_parse.specs.declared.error.RuleError as parse
use Rattle.rule_parse.specs.declared.error.RuleError.TheVariants as unparsed
use Rattle.sess.specs.Places.{at, user_of}
use Rattle.service_run.specs.declared.command.Command.{Command}
use Rattle.service_run.specs.declared.ending.Ending as calls
use Rattle.service_run.specs.declared.ending.Ending.TheVariants as called
use Rattle.cmd_run.specs.declared.server.Ending.{Ending}
use Rattle.cmd_run.specs.declared.server.Ending.TheVariants as ending
use Rattle.cmd_run.specs.declared.server.Server.{Server}

-- the request asks in the session for what the text says as a call by itself, where there are these rules
abbrev pub CallOf : List Rule → ℕ → Text → Request → Type 0
CallOf rules session text request = (call : Or CallText) × ReadsCall rules text call × (request ≡ Ok (session, executes call))

-- the call is read so, or there was no memory
abbrev pub IsReadSo : Or CallText → Result Call0 PlanError → Type 0
IsReadSo call (Ok read) = call ≡ Ok (plain_call (call_of read))
IsReadSo call (Err (error.Refused r)) = call ≡ Err r
IsReadSo call (Err error.Memory) = Unit {0}

-- why a text that is read so is refused
abbrev pub unread : parse.RuleError → PlanError
unread (unparsed.BadRule at cause) = error.Refused (BadRule at cause)
unread unparsed.Memory = error.Memory

-- why a call that is looked at so is refused
abbrev pub unchecked : check.RuleError → PlanError
unchecked (bad.Bad at cause) = error.Refused (BadRule at cause)
unchecked bad.Memory = error.Memory

-- This is the call with its arguments as the user of this name makes it by itself, and none of them is too long.
pub record IsComputed (user : Text) (g : Grid) (call : CallText) (done : Call) : Type 0 where
  pub is : done ≡ computed (exec_scope user) g call
  pub short : is_short done ≡ true
  pub values : HasValues done (map (value (exec_scope user) g) call.args)

-- The user is logged in to the session, and this is the call with its arguments.
pub record IsCalled (s : Server) (session user : ℕ) (call : CallText) (done : Call) : Type 0 where
  pub logged_in : user_of (at s.sessions session) ≡ Some user
  pub computed : IsComputed (user_name s.store.cat user) (grid_of s.store.cat) call done

-- a command none of whose calls was made yet
abbrev pub begun_command : ℕ → ℕ → ℕ → Text → Command
begun_command run number user line = record { run = run; number = number; user = user; line = line; marks = []; passed = []; untold = [] }

-- how a run ends in a request whose calls ended so
abbrev pub ending_by : calls.Ending → Ending
ending_by called.Disk = ending.Disk
ending_by called.Sink = ending.Sink
ending_by called.Memory = ending.Memory
ending_by (called.Worn what place) = ending.Worn what place

-- how such a request ends
abbrev pub ended_by : Result ⊤ calls.Ending → Result ⊤ Ending
ended_by (Ok done) = Ok done
ended_by (Err e) = Err (ending_by e)
