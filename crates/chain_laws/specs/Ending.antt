-- A command that calls rules can always be brought to an end.
use Rattle.std.specs.Prelude.{◌≡◌, false, List, [], ◌∷◌, ◌++◌, Option, Result}
use Rattle.std.specs.List.{AllByRecursion}
use Rattle.grid_model.specs.Names.{Text}
use Rattle.grid_model.specs.RuleText.{Rule}
use Rattle.grid_model.specs.Meanings.{Meaning, Waiting, gives, waits}
use Rattle.grid_model.specs.Values.{Env, Value}
use Rattle.grid_model.specs.Doing.{Course, Did, do_call}
use Rattle.grid_model.specs.Chains.{Named, call_rule}
use Rattle.grid_model.specs.declared.calls.Call.{Call}
use Rattle.grid_model.specs.declared.marks.Mark.{Mark}
use Rattle.grid_model.specs.declared.marks.Mark.TheVariants.{Ran}
use Rattle.grid_model.specs.declared.refusal.Failure.{Failure}
use Rattle.chain_core.specs.Rest.{course}
use Rattle.chain_core.specs.declared.frames.Frames.{Frames}
use Rattle.chain_run.specs.Places.{Place, Performs, Recovers, course_from}
use Rattle.chain_run.specs.Runs.{by_itself, rest_from, whole_from}

-- each says that the deed ran, and no more
abbrev pub AreRan : List Mark → Type 0
AreRan marks = AllByRecursion (λ m. m ≡ Ran 0 0 []) marks

-- the same, with these marks left
abbrev pub leaving : List Mark → Named → Named
leaving later n = record n { state = record n.state { marks = later } }

-- with some such marks it ends, and leaves those that are behind them
pub record Completes (does : List Mark → Meaning Named) : Type 0 where
  pub rest : List Mark
  pub ran : AreRan rest
  pub end : Named
  pub gives_so : (later : List Mark) → does (rest ++ later) ≡ gives (leaving later end)

-- ---- from where the machine stands, and from the start

-- what the machine has still to do can be brought to an end from any place
abbrev pub MachinesComplete : Type 0
MachinesComplete = (rules : List Rule) (env : Env) (m : Frames) (p : Place) → Completes (rest_from rules env m p)

-- so can a call of rules
abbrev pub NamesComplete : Type 0
NamesComplete =
    (rules : List Rule) (env : Env) (name : Text) (args : List Text) (m : Frames) (p : Place) → Completes (whole_from (call_rule rules env name args) m p)

-- and a call by itself
abbrev pub CallsComplete : Type 0
CallsComplete = (rules : List Rule) (env : Env) (c : Call) (vs : List Value) (m : Frames) (p : Place) → Completes (whole_from (by_itself rules env c vs) m p)

-- ---- behind the mark of a deed

-- where a command is that waits so, with these marks still to come
abbrev pub waiting_at : Waiting → List Mark → Course
waiting_at w marks = record { grid = w.grid; marks = marks; taken = w.taken; begun = 0; passed = w.passed; stopped = false }

-- the call that waits takes the mark
abbrev pub TakesMark : Text → Waiting → Mark → Type 0
TakesMark user w m = (did : Did) × (do_call user w.call (waiting_at w (m ∷ [])) ≡ gives did)

-- where the machine waits for a mark, what it has still to do can be brought to an end behind each mark that the call takes
abbrev pub WaitingCompletes : Type 0
WaitingCompletes = (rules : List Rule) (env : Env) (m : Frames) (p : Place) (w : Waiting) → rest_from rules env m p [] ≡ waits w
    → (mark : Mark) → TakesMark env.user w mark → Completes (λ later. rest_from rules env m p (mark ∷ later))

-- ---- behind a call

-- where the call waits for a mark, all that the machine has still to do waits in it
abbrev pub WaitsIn : List Rule → Env → Frames → Place → Call → Type 0
WaitsIn rules env m p c = (w : Waiting) → do_call env.user c (course m (course_from p [])) ≡ waits w
    → (us : List Call) × (rest_from rules env m p [] ≡ waits (record w { undo = us }))

-- behind a call that was performed the rest can be brought to an end
abbrev pub PerformedCompletes : Type 0
PerformedCompletes = (rules : List Rule) (env : Env) (m : Frames) (p q : Place) (c : Call) (r : Result Unit Failure) → env.user ≡ p.user
    → WaitsIn rules env m p c → (did : Performs c r p q) → Completes (λ later. rest_from rules env m p (did.marks ++ later))

-- and behind one that was run as a recovery
abbrev pub RecoveredCompletes : Type 0
RecoveredCompletes = (rules : List Rule) (env : Env) (m : Frames) (p q : Place) (c : Call) (y : Option Failure) → env.user ≡ p.user
    → WaitsIn rules env m p c → (did : Recovers c y p q) → Completes (λ later. rest_from rules env m p (did.brings.marks ++ later))
