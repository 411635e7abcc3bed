-- What a start and an event make of what is still to be done.
use Rattle.std.specs.Prelude.{◌≡◌, ◌<◌, List, [], map}
use Rattle.grid_model.specs.RuleText.{Rule}
use Rattle.grid_model.specs.Meanings.{mapped}
use Rattle.grid_model.specs.Values.{Env, Value, text_of}
use Rattle.grid_model.specs.Doing.{Course}
use Rattle.grid_model.specs.Chains.{failing, doing, counted, begin_step, call_rule}
use Rattle.grid_model.specs.declared.calls.Call.{Call}
use Rattle.chain_core.specs.declared.actions.Event.{Event}
use Rattle.chain_core.specs.declared.actions.Start.{Start}
use Rattle.chain_core.specs.declared.actions.Start.TheVariants.{Point, Exec}
use Rattle.chain_core.specs.declared.frames.Frames.{Frames}
use Rattle.chain_core.specs.declared.kinds.Kind.{Kind}
use Rattle.chain_core.specs.Rest.{rest, course, named_of_step}
use Rattle.chain_core.specs.Answers.{IsAnswer, IsCoded, IsKind, asked}
use Rattle.chain_core.specs.Ending.{IsMet, events_left}
use Rattle.chain_core.specs.Moves.{at_point, at_call}

-- the arguments of the call have these values, where they count
abbrev pub HasValues : Call → List Value → Type 0
HasValues c vs = doing c ≡ failing → IsCoded vs × (c.args ≡ map text_of vs)

-- What is to be done is all that the rules of the name do, or the call as a step by itself.
abbrev pub BeginsCall : List Rule → Frames → Start → Frames → Type 0
BeginsCall rules old (Point name) new = (env : Env) (s : Course) → rest rules env new s ≡ call_rule rules env name [] (course old s)
BeginsCall rules old (Exec c) new = (env : Env) (vs : List Value) (s : Course) → HasValues c vs
    → rest rules env new s ≡ mapped named_of_step (begin_step (call_rule rules env) env.user vs c (counted (course old s)))

-- From where the action left the command, as much is to be done as was from where it began.
abbrev pub Continues : List Rule → Frames → Event → Frames → Type 0
Continues rules old e new = (env : Env) (s t : Course) → IsAnswer rules env old e s t → rest rules env new t ≡ rest rules env old s

-- An event of the action that was asked for, and no stop of a recovery, leaves fewer to come.
abbrev pub LeavesFewer : List Rule → Frames → Event → Frames → Type 0
LeavesFewer rules old e new = IsMet (asked old) e → events_left rules new < events_left rules old

-- the machine once it was started, before it settled
abbrev pub Starts : List Rule → Frames → Start → Frames → Type 0
Starts rules old (Point name) new = new ≡ at_point rules old name
Starts rules old (Exec c) new = (k : Kind) × IsKind c k × (new ≡ at_call rules old c k)
