-- How the machine of frames goes on.
use Rattle.std.specs.Prelude.{ℕ, suc, ◌+◌, ◌-◌, Bool, true, false, ◌||◌, List, [], ◌∷◌, ◌++◌, length, take, drop, Option, Some, None, Ok, Err, nat_lt, nat_le}
use Rattle.std.specs.Option.{option_to_list}
use Rattle.grid_model.specs.Names.{Text, same_text}
use Rattle.grid_model.specs.RuleText.{Rule}
use Rattle.grid_model.specs.Bounds.{deepest, most_steps}
use Rattle.grid_model.specs.declared.calls.Call.{Call}
use Rattle.grid_model.specs.declared.refusal.Failure.{Failure}
use Rattle.grid_model.specs.declared.refusal.Failure.TheVariants.{Code, NoRule, Depth, Spent, LongText, Stopped}
use Rattle.chain_core.specs.declared.actions.Outcome.{Outcome}
use Rattle.chain_core.specs.declared.actions.Outcome.TheVariants.{EndedWell, Failed, Halted, NoneApplied}
use Rattle.chain_core.specs.declared.actions.Event.{Event}
use Rattle.chain_core.specs.declared.actions.Event.TheVariants as event
use Rattle.chain_core.specs.declared.kinds.Kind.{Kind}
use Rattle.chain_core.specs.declared.kinds.Kind.TheVariants.{Cut, Succeed, Fail, Serve, Name}
use Rattle.chain_core.specs.declared.stack.Frame.{Frame}
use Rattle.chain_core.specs.declared.frames.Control.{Control}
use Rattle.chain_core.specs.declared.frames.Control.TheVariants.{Tests, GoesOn, Fails, Runs, Ended}
use Rattle.chain_core.specs.declared.frames.Frames.{Frames}
use Rattle.chain_core.specs.Rest.{rule_at}

-- ---- the next rule of a name

-- the place of the first of these rules that has the name, where they stand from this place on
abbrev pub first_at : List Rule → Text → ℕ → Option ℕ
first_at [] name i = None
first_at (r ∷ rs) name i = elim (same_text r.name name) [ true ↦ Some i | false ↦ first_at rs name (suc i) ]

-- the same from this place on
abbrev pub next_named : List Rule → Text → ℕ → Option ℕ
next_named rules name i = first_at (drop i rules) name i

-- how the rules of a name ended, the last of which failed so
abbrev pub ended_as : Option Failure → Outcome
ended_as None = NoneApplied
ended_as (Some x) = Failed x

-- the rule at this place is tested, if there is one
abbrev pub at_next : Option ℕ → Frame → Option Failure → Control
at_next None f last = Ended (ended_as last)
at_next (Some i) f last = Tests (record f { rule = i }) last

-- the next rule of the name is tested, if there is one
abbrev pub next_rule : List Rule → Frame → Option Failure → Control
next_rule rules f last = at_next (next_named rules f.name (suc f.rule)) f last

-- ---- without an event

-- a chain that failed so, and may halt, once its recoveries are done
abbrev pub rule_failed : List Rule → Frame → Failure → Bool → Bool → Control
rule_failed rules f x halts true = Ended (Halted Stopped)
rule_failed rules f x true false = Ended (Halted x)
rule_failed rules f x false false = elim f.cut [ true ↦ Ended (Failed x) | false ↦ next_rule rules f (Some x) ]

-- a frame whose step ended so
abbrev pub resumed : Frame → Outcome → Control
resumed f EndedWell = GoesOn f
resumed f (Failed x) = Fails f x false
resumed f (Halted x) = Fails f x true
resumed f NoneApplied = Fails f NoRule false

-- the innermost frame, if there is one, takes up how its step ended
abbrev pub taken_up : Frames → Outcome → List Frame → Frames
taken_up m o [] = record m { control = Ended o }
taken_up m o (f ∷ fs) = record m { waiting = fs; control = resumed f o }

-- it waits for this
abbrev pub under : Frames → Control → Frames
under m c = record m { control = c }

-- one move that asks for nothing, from this control; where there is none it stays
abbrev pub move_by : List Rule → Frames → Control → Frames
move_by rules m (GoesOn f) = elim (nat_lt f.step (length (rule_at rules f.rule).steps)) [
  | true ↦ record m { control = GoesOn f }
  | false ↦ record m { undo = take f.base m.undo; control = Ended EndedWell }
]
move_by rules m (Fails f x halts) = elim (nat_lt f.base (length m.undo)) [
  | true ↦ record m { control = Fails f x halts }
  | false ↦ record m { control = rule_failed rules f x halts m.stopped }
]
move_by rules m (Ended o) = taken_up m o m.waiting
move_by rules m c = record m { control = c }

abbrev pub move : List Rule → Frames → Frames
move rules m = move_by rules m m.control

-- ---- a step begins

-- the rules of the call, where so many frames wait
abbrev pub first_rule : Option ℕ → Call → Control
first_rule None c = Ended NoneApplied
first_rule (Some i) c = Tests (record { name = c.name; args = c.args; rule = i; step = 0; base = 0; cut = false }) None

abbrev pub called : List Rule → ℕ → Call → Control
called rules waiting c = elim (nat_lt waiting deepest) [ true ↦ first_rule (next_named rules c.name 0) c | false ↦ Ended (Failed Depth) ]

-- what a call does as a step of the innermost frame, or by itself
abbrev pub control_of : List Rule → ℕ → Call → Kind → Control
control_of rules waiting c (Fail n) = Ended (Failed (Code n))
control_of rules waiting c Serve = Runs c
control_of rules waiting c Name = called rules waiting c
control_of rules waiting c other = Ended EndedWell

-- a call by itself, which is counted already; one step too many halts
abbrev pub begin : List Rule → Frames → Call → Kind → Frames
begin rules m c k = record m {
  control = elim (nat_le m.begun most_steps) [ true ↦ control_of rules (length m.waiting) c k | false ↦ Ended (Halted Spent) ];
}

-- the frame waits
abbrev pub waiting_for : Frames → Frame → Control → Frames
waiting_for m f c = record m { waiting = f ∷ m.waiting; control = c }

-- a step of a frame that may begin
abbrev pub step_by : List Rule → Frames → Frame → Call → Kind → Frames
step_by rules m f c Cut = waiting_for m (record f { cut = true }) (Ended EndedWell)
step_by rules m f c Succeed = record m { undo = take f.base m.undo; control = Ended EndedWell }
step_by rules m f c k = waiting_for m f (control_of rules (suc (length m.waiting)) c k)

-- a step of a frame, which is counted already
abbrev pub counted_step : List Rule → Frames → Frame → Call → Kind → Frames
counted_step rules m f c k = elim (nat_le m.begun most_steps) [ true ↦ step_by rules m f c k | false ↦ waiting_for m f (Ended (Halted Spent)) ]

-- ---- events

-- the failure is a stop
abbrev pub is_stopped : Failure → Bool
is_stopped Stopped = true
is_stopped other = false

-- a micro-service that failed so
abbrev pub failed_as : Failure → Bool → Outcome
failed_as x true = Halted x
failed_as x false = Failed x

-- the call was stopped
abbrev pub was_stopped : Option Failure → Bool
was_stopped None = false
was_stopped (Some x) = is_stopped x

-- the last recovery was run, where this is waited for: one that was stopped is run again
abbrev pub after_undo : Frames → Control → Option Failure → Frames
after_undo m c y = elim (was_stopped y) [
  | true ↦ record m { control = c; stopped = true }
  | false ↦ record m { control = c; undo = take (length m.undo - 1) m.undo }
]

-- what came of an action, where the machine waits for this; the kind is that of the call that was computed
abbrev pub next_by : List Rule → Frames → Control → Event → Kind → Frames
next_by rules m (Tests f last) (event.Tested true) k = record m { control = GoesOn (record f { step = 0; base = length m.undo; cut = false }) }
next_by rules m (Tests f last) (event.Tested false) k = record m { control = next_rule rules f last }
next_by rules m (GoesOn f) (event.Computed c recovery) k =
    counted_step rules (record m { undo = m.undo ++ option_to_list recovery; begun = m.begun + 1 }) (record f { step = suc f.step }) c k
next_by rules m (GoesOn f) event.LongText k = record m { begun = m.begun + 1; control = Fails f LongText false }
next_by rules m (Runs c) (event.Ran (Ok u)) k = record m { control = Ended EndedWell }
next_by rules m (Runs c) (event.Ran (Err x)) k =
    record m { stopped = is_stopped x || m.stopped; control = Ended (failed_as x (is_stopped x || m.stopped)) }
next_by rules m (Fails f x halts) (event.Undone y) k = after_undo m (Fails f x halts) y
next_by rules m c other k = record m { control = c }

-- how the machine goes on with an event
abbrev pub next : List Rule → Frames → Event → Kind → Frames
next rules m e k = next_by rules m m.control e k

-- ---- the start

-- the rules of this name are called
abbrev pub at_point : List Rule → Frames → Text → Frames
at_point rules m name = record m { waiting = []; undo = []; by_itself = false; control = called rules 0 (record { name = name; args = [] }) }

-- the call is done by itself
abbrev pub at_call : List Rule → Frames → Call → Kind → Frames
at_call rules m c k = begin rules (record m { waiting = []; undo = []; by_itself = true; begun = m.begun + 1 }) c k
