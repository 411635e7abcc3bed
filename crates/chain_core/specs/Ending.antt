-- How far the machine is from its end at most.
use Rattle.std.specs.Prelude.{◌≡◌, ℕ, ◌+◌, ◌-◌, ◌*◌, Bool, true, false, List, [], ◌∷◌, length}
use Rattle.grid_model.specs.RuleText.{Rule}
use Rattle.grid_model.specs.Bounds.{most_steps}
use Rattle.chain_core.specs.declared.actions.Action.{Action}
use Rattle.chain_core.specs.declared.actions.Action.TheVariants.{Test, Eval, Run, Undo}
use Rattle.chain_core.specs.declared.actions.Event.{Event}
use Rattle.chain_core.specs.declared.actions.Event.TheVariants as event
use Rattle.chain_core.specs.declared.actions.Outcome.TheVariants.{Halted}
use Rattle.chain_core.specs.declared.stack.Frame.{Frame}
use Rattle.chain_core.specs.declared.frames.Control.{Control}
use Rattle.chain_core.specs.declared.frames.Control.TheVariants.{Tests, GoesOn, Fails, Runs, Ended}
use Rattle.chain_core.specs.declared.frames.Frames.{Frames}
use Rattle.chain_core.specs.Moves.{was_stopped}

-- another step may begin
abbrev pub may_go_on : Control → Bool
may_go_on (Fails f x true) = false
may_go_on (Ended (Halted x)) = false
may_go_on other = true

-- for the rules behind that of a frame
abbrev pub rules_left : List Rule → Frame → ℕ
rules_left rules f = 4 * (length rules - f.rule)

-- for frames that wait
abbrev pub frames_left : List Rule → List Frame → ℕ
frames_left rules [] = 0
frames_left rules (f ∷ fs) = rules_left rules f + 4 + frames_left rules fs

-- for what is waited for
abbrev pub control_left : List Rule → Control → ℕ
control_left rules (Tests f last) = rules_left rules f + 4
control_left rules (GoesOn f) = rules_left rules f + 3
control_left rules (Fails f x halts) = rules_left rules f + 2
control_left rules (Runs c) = 1
control_left rules (Ended o) = 0

-- until it halts
abbrev pub halt_left : Bool → ℕ
halt_left true = 10
halt_left false = 0

-- for the steps that may begin still
abbrev pub counted_left : List Rule → ℕ → ℕ
counted_left rules begun = (most_steps + 1 - begun) * (4 * length rules + 7)

-- how many events come at most, but for recoveries that are stopped
abbrev pub events_left : List Rule → Frames → ℕ
events_left rules m = counted_left rules m.begun + halt_left (may_go_on m.control) + length m.undo + frames_left rules m.waiting + control_left rules m.control

-- the event is one of the action, and no stop of a recovery
abbrev pub IsMet : Action → Event → Type 0
IsMet (Test i) (event.Tested b) = Unit {0}
IsMet (Eval i j) (event.Computed c recovery) = Unit {0}
IsMet (Eval i j) event.LongText = Unit {0}
IsMet (Run c) (event.Ran r) = Unit {0}
IsMet Undo (event.Undone y) = was_stopped y ≡ false
IsMet a e = ⊥
