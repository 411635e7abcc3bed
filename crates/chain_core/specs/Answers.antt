-- What the machine asks for, and what answers it.
use Rattle.std.specs.Prelude.{◌≡◌, ℕ, ◌<◌, ◌≤◌, ◌^◌, ℤ, pos, negsuc, Bool, true, false, ◌&&◌, List, [], ◌∷◌, ◌++◌, length, map, get_or}
use Rattle.std.specs.Prelude.{nat_lt, Option, Some, None, Result, Ok, Err}
use Rattle.std.specs.Option.{option_to_list}
use Rattle.grid_model.specs.Names.{Text}
use Rattle.grid_model.specs.Grid.{Grid}
use Rattle.grid_model.specs.RuleText.{Rule, Step}
use Rattle.grid_model.specs.Meanings.{Waiting, gives, waits, unfit}
use Rattle.grid_model.specs.Values.{Env, Scope, Value, number_value, text_of, value, holds, computed, is_short}
use Rattle.grid_model.specs.Services.{Service, service}
use Rattle.grid_model.specs.Doing.{Course, do_call, pass_over}
use Rattle.grid_model.specs.Chains.{cutting, succeeding, failing, serving, naming, doing, code_of, fixed_recovery, all_short, scope_of}
use Rattle.grid_model.specs.declared.calls.Call.{Call}
use Rattle.grid_model.specs.declared.refusal.Failure.{Failure}
use Rattle.grid_model.specs.declared.refusal.Failure.TheVariants.{NoRule, Stopped}
use Rattle.chain_core.specs.declared.actions.Action.{Action}
use Rattle.chain_core.specs.declared.actions.Action.TheVariants.{Test, Eval, Run, Undo, End}
use Rattle.chain_core.specs.declared.actions.Event.{Event}
use Rattle.chain_core.specs.declared.actions.Event.TheVariants as event
use Rattle.chain_core.specs.declared.actions.Outcome.{Outcome}
use Rattle.chain_core.specs.declared.actions.Outcome.TheVariants as told
use Rattle.chain_core.specs.declared.kinds.Kind.{Kind}
use Rattle.chain_core.specs.declared.kinds.Kind.TheVariants.{Cut, Succeed, Fail, Serve, Name}
use Rattle.chain_core.specs.declared.stack.Frame.{Frame}
use Rattle.chain_core.specs.declared.frames.Control.{Control}
use Rattle.chain_core.specs.declared.frames.Control.TheVariants.{Tests, GoesOn, Fails, Runs, Ended}
use Rattle.chain_core.specs.declared.frames.Frames.{Frames}
use Rattle.chain_core.specs.Rest.{rest, course, rule_at, outcome_of}

-- ---- what is asked for

-- a call by itself fails where no rule of its name applies
abbrev pub shown_outcome : Bool → Outcome → Outcome
shown_outcome true told.NoneApplied = told.Failed NoRule
shown_outcome by_itself o = o

abbrev pub asked_by : Bool → Control → Action
asked_by by_itself (Tests f last) = Test f.rule
asked_by by_itself (GoesOn f) = Eval f.rule f.step
asked_by by_itself (Fails f x halts) = Undo
asked_by by_itself (Runs c) = Run c
asked_by by_itself (Ended o) = End (shown_outcome by_itself o)

-- the action that is to be done next
abbrev pub asked : Frames → Action
asked m = asked_by m.by_itself m.control

-- the arguments of the innermost one of these frames
abbrev pub innermost_args : List Text → List Frame → List Text
innermost_args none [] = none
innermost_args none (f ∷ fs) = f.args

abbrev pub args_by : Frames → Control → List Text
args_by m (Tests f last) = f.args
args_by m (GoesOn f) = f.args
args_by m (Fails f x halts) = f.args
args_by m other = innermost_args m.none m.waiting

-- the arguments of the call of rules that is running
abbrev pub args_of : Frames → List Text
args_of m = args_by m m.control

-- ---- what answers it

-- a number that a literal or a size may be
abbrev pub IsInt64 : ℤ → Type 0
IsInt64 (pos n) = n < 2 ^ 64
IsInt64 (negsuc n) = n < 2 ^ 63

-- the arguments of a `fail`, which is checked: none, or a number
abbrev pub IsCoded : List Value → Type 0
IsCoded [] = Unit {0}
IsCoded (number_value z ∷ []) = IsInt64 z
IsCoded other = ⊥

-- the code of a `fail` with these arguments, as their texts tell it
abbrev pub Codes : List Text → ℤ → Type 0
Codes args n = (vs : List Value) → IsCoded vs → args ≡ map text_of vs → code_of vs ≡ n

-- a step that does nothing
abbrev pub no_step : Step
no_step = record { call = record { name = []; args = [] }; recovery = None }

-- the step of this place
abbrev pub step_at : Rule → ℕ → Step
step_at r j = get_or r.steps j no_step

-- the step and its recovery with their arguments, none of which is too long
pub record Computes (scope : Scope) (g : Grid) (step : Step) (c : Call) (own : List Call) : Type 0 where
  pub is_call : computed scope g step.call ≡ c
  pub is_own : fixed_recovery scope g step.recovery ≡ own
  pub short : is_short c && all_short own ≡ true
  pub coded : doing c ≡ failing → IsCoded (map (value scope g) step.call.args)

-- an argument of the step or of its recovery is too long
abbrev pub IsTooLong : Scope → Grid → Step → Type 0
IsTooLong scope g step = is_short (computed scope g step.call) && all_short (fixed_recovery scope g step.recovery) ≡ false

-- a micro-service that ran, or failed so
abbrev pub failure_in : Result Unit Failure → Option Failure
failure_in (Ok u) = None
failure_in (Err x) = Some x

-- a recovery that was refused is passed over, and one that was stopped is not
abbrev pub noted : Call → Option Failure → Course → Course
noted c None s = s
noted c (Some Stopped) s = s
noted c (Some x) s = pass_over c x s

-- the recovery was run, or failed so
pub record Undoes (user : Text) (c : Call) (y : Option Failure) (s t : Course) : Type 0 where
  pub state : Course
  pub done : do_call user c s ≡ gives (record { state = state; failure = y })
  pub left : t ≡ noted c y state

-- where expressions of the rule of this place stand, in the call of rules that is running
abbrev pub scope_in : List Rule → Env → Frames → ℕ → Scope
scope_in rules env m i = scope_of env (args_of m) (rule_at rules i)

-- the step of this place of the rule of that place, in the call of rules that is running, with its arguments
abbrev pub ComputesAt : List Rule → Env → Frames → Grid → Call → List Call → Type 0
ComputesAt rules env m g c own = (i j : ℕ) × (asked m ≡ Eval i j) × Computes (scope_in rules env m i) g (step_at (rule_at rules i) j) c own

-- The event is what the action that was asked for came to, which began here and left this.
abbrev pub IsAnswer : List Rule → Env → Frames → Event → Course → Course → Type 0
IsAnswer rules env m (event.Tested b) s t =
    (i : ℕ) × (asked m ≡ Test i) × (holds (scope_in rules env m i) s.grid (rule_at rules i).cond ≡ b) × (t ≡ s)
IsAnswer rules env m (event.Computed c recovery) s t = ComputesAt rules env m s.grid c (option_to_list recovery) × (t ≡ s)
IsAnswer rules env m event.LongText s t =
    (i j : ℕ) × (asked m ≡ Eval i j) × IsTooLong (scope_in rules env m i) s.grid (step_at (rule_at rules i) j) × (t ≡ s)
IsAnswer rules env m (event.Ran r) s t =
    (c : Call) × (asked m ≡ Run c) × (do_call env.user c (course m s) ≡ gives (record { state = t; failure = failure_in r }))
IsAnswer rules env m (event.Undone y) s t =
    (us : List Call) × (c : Call) × (asked m ≡ Undo) × (m.undo ≡ us ++ c ∷ []) × Undoes env.user c y (course m s) t

-- ---- the kinds of calls

-- what a call is as a step
abbrev pub IsKind : Call → Kind → Type 0
IsKind c Cut = doing c ≡ cutting
IsKind c Succeed = doing c ≡ succeeding
IsKind c (Fail n) = (doing c ≡ failing) × Codes c.args n
IsKind c Serve = (x : Service) × (doing c ≡ serving x) × (service c ≡ Some x)
IsKind c Name = doing c ≡ naming

-- the kind is that of the call that was computed, where this was waited for
abbrev pub KindFits : Control → Event → Kind → Type 0
KindFits (GoesOn f) (event.Computed c recovery) k = IsKind c k
KindFits c other k = Unit {0}

-- ---- when the machine may be used

-- there is no frame
abbrev pub none_waits : List Frame → Bool
none_waits [] = true
none_waits (f ∷ fs) = false

-- it waits for an event
abbrev pub is_settled_by : List Rule → Frames → Control → Bool
is_settled_by rules m (GoesOn f) = nat_lt f.step (length (rule_at rules f.rule).steps)
is_settled_by rules m (Fails f x halts) = nat_lt f.base (length m.undo)
is_settled_by rules m (Ended o) = none_waits m.waiting
is_settled_by rules m other = true

abbrev pub is_settled : List Rule → Frames → Bool
is_settled rules m = is_settled_by rules m m.control

-- each of the frames began with no fewer recoveries than the next one outwards, and the innermost one with at most so many
abbrev pub AreNested : List Frame → ℕ → Type 0
AreNested [] n = Unit {0}
AreNested (f ∷ fs) n = (f.base ≤ n) × AreNested fs f.base

-- the frames with recoveries of their own
abbrev pub running_frames : Frames → Control → List Frame
running_frames m (GoesOn f) = f ∷ m.waiting
running_frames m (Fails f x halts) = f ∷ m.waiting
running_frames m other = m.waiting

-- the recoveries that are listed are those of the frames
abbrev pub ListsRecoveries : Frames → Type 0
ListsRecoveries m = AreNested (running_frames m m.control) (length m.undo)

-- a rule that is tested is there
abbrev pub IsThere : List Rule → Control → Type 0
IsThere rules (Tests f last) = f.rule < length rules
IsThere rules other = Unit {0}

-- the machine waits for an event, over these rules, and its frames share the list of recoveries
pub record IsUsable (rules : List Rule) (m : Frames) : Type 0 where
  pub settled : is_settled rules m ≡ true
  pub sound : ListsRecoveries m
  pub there : IsThere rules m.control

-- ---- what an action tells

-- Where a call waits for the mark of a deed, all does, and a stop there has all listed recoveries done. Where a mark does not
-- fit the call, all has no meaning.
pub record WaitsWith (rules : List Rule) (m : Frames) (c : Call) : Type 0 where
  pub waits_so : (env : Env) (s : Course) (w : Waiting) → do_call env.user c (course m s) ≡ waits w
      → rest rules env m s ≡ waits (record w { undo = m.undo })
  pub unfit_so : (env : Env) (s : Course) → do_call env.user c (course m s) ≡ unfit → rest rules env m s ≡ unfit

-- what the machine says by the action that it asks for
abbrev pub Tells : List Rule → Frames → Action → Type 0
Tells rules m (Test i) = i < length rules
Tells rules m (Eval i j) = j < length (rule_at rules i).steps
Tells rules m (Run c) = WaitsWith rules m c
Tells rules m Undo = (us : List Call) × (c : Call) × (m.undo ≡ us ++ c ∷ []) × WaitsWith rules m c
Tells rules m (End o) = (env : Env) (s : Course) → rest rules env m s ≡ gives (record { state = course m s; outcome = outcome_of o })
