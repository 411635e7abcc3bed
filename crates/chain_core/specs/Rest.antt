-- What is still to be done from where the machine of frames stands, as the recursion over chains says it.
use Rattle.std.specs.Prelude.{ℕ, suc, ◌-◌, Bool, true, false, List, [], ◌∷◌, length, take, drop, get_or, Option, Some, None}
use Rattle.std.specs.Option.{option_map_or}
use Rattle.grid_model.specs.Names.{Text}
use Rattle.grid_model.specs.RuleText.{Rule}
use Rattle.grid_model.specs.Bounds.{deepest}
use Rattle.grid_model.specs.Meanings.{Meaning, gives, ◌>>=◌, behind, mapped}
use Rattle.grid_model.specs.Values.{Env}
use Rattle.grid_model.specs.Doing.{Course, Did, do_call, back}
use Rattle.grid_model.specs.Chains.{Outcome, Named, Caller, Stepped, Chained, ended_well, failed, halted, none_applied, goes_on, cuts}
use Rattle.grid_model.specs.Chains.{succeeds, fails, from_named, undone, after_step, chain, after_chain, scope_of, try_rules, rules_named}
use Rattle.grid_model.specs.Chains.{call_within}
use Rattle.grid_model.specs.declared.calls.Call.{Call}
use Rattle.grid_model.specs.declared.refusal.Failure.{Failure}
use Rattle.chain_core.specs.declared.actions.Outcome as told
use Rattle.chain_core.specs.declared.stack.Frame.{Frame}
use Rattle.chain_core.specs.declared.frames.Control.{Control}
use Rattle.chain_core.specs.declared.frames.Control.TheVariants.{Tests, GoesOn, Fails, Runs, Ended}
use Rattle.chain_core.specs.declared.frames.Frames.{Frames}

-- ---- outcomes

-- the outcome as the definitions have it
abbrev pub outcome_of : told.Outcome → Outcome
outcome_of told.TheVariants.EndedWell = ended_well
outcome_of (told.TheVariants.Failed f) = failed f
outcome_of (told.TheVariants.Halted f) = halted f
outcome_of told.TheVariants.NoneApplied = none_applied

-- how the last chain of a name ended, if one was run
abbrev pub last_of : Option Failure → Outcome
last_of None = none_applied
last_of (Some f) = failed f

-- a failure, and whether it halts
abbrev pub failed_so : Failure → Bool → Outcome
failed_so f true = halted f
failed_so f false = failed f

-- how a micro-service ended, as rules do
abbrev pub named_of_did : Did → Named
named_of_did d = record { state = d.state; outcome = option_map_or (λ f. failed_so f d.state.stopped) d.failure ended_well }

-- how a step by itself ended, as rules do
abbrev pub named_of_step : Stepped → Named
named_of_step (goes_on s) = record { state = s; outcome = ended_well }
named_of_step (cuts s) = record { state = s; outcome = ended_well }
named_of_step (succeeds s) = record { state = s; outcome = ended_well }
named_of_step (fails s f halts) = record { state = s; outcome = failed_so f halts }

-- ---- one frame

-- a rule that does nothing
abbrev pub no_rule : Rule
no_rule = record { name = []; params = []; cond = None; steps = [] }

-- the rule of this place
abbrev pub rule_at : List Rule → ℕ → Rule
rule_at rules i = get_or rules i no_rule

-- what the steps of a rule call, above so many that wait
abbrev pub caller_at : List Rule → Env → ℕ → Caller
caller_at rules env waiting = call_within (deepest - suc waiting) rules env

-- the rules of this name from this place on
abbrev pub later : List Rule → Text → ℕ → List Rule
later rules name i = rules_named (drop i rules) name

-- what is done once the chain of a frame ended
abbrev pub after_rule : List Rule → Env → ℕ → Frame → Chained → Meaning Named
after_rule rules env waiting f = after_chain (try_rules (caller_at rules env waiting) env f.args (later rules f.name (suc f.rule)))

-- the steps of a frame that are left
abbrev pub steps_left : List Rule → Env → ℕ → Frame → List Call → Bool → Course → Meaning Chained
steps_left rules env waiting f =
    chain (caller_at rules env waiting) env.user (scope_of env f.args (rule_at rules f.rule)) (drop f.step (rule_at rules f.rule).steps)

-- what a frame makes of the step that it waits for, where these are its recoveries
abbrev pub in_frame : List Rule → Env → ℕ → Frame → List Call → Meaning Stepped → Meaning Named
in_frame rules env waiting f fixed step =
    behind fixed step >>= after_step env.user fixed f.cut (steps_left rules env waiting f fixed) >>= after_rule rules env waiting f

-- ---- all frames

-- the call by itself ended so
abbrev pub at_end : Bool → Meaning Named → Meaning Named
at_end true n = mapped named_of_step (mapped from_named n)
at_end false n = n

-- what all frames, from the innermost one outwards, make of how a call of rules ended, where these recoveries are listed
abbrev pub in_frames : List Rule → Env → Bool → List Frame → List Call → Meaning Named → Meaning Named
in_frames rules env by_itself [] undo n = at_end by_itself (behind undo n)
in_frames rules env by_itself (f ∷ fs) undo n =
    in_frames rules env by_itself fs (take f.base undo) (in_frame rules env (length fs) f (drop f.base undo) (mapped from_named n))

-- how many steps were begun, of all that were started
abbrev pub steps_begun : Frames → ℕ
steps_begun m = m.begun

-- a stop was taken
abbrev pub took_stop : Frames → Bool
took_stop m = m.stopped

-- the recoveries that are listed
abbrev pub listed_recoveries : Frames → List Call
listed_recoveries m = m.undo

-- where a command is that came so far, as the machine counts its steps and its stops
abbrev pub course : Frames → Course → Course
course m s = record s { begun = m.begun; stopped = m.stopped }

-- what all frames that wait make of a call of rules, where these recoveries are listed
abbrev pub outside : List Rule → Env → Frames → List Call → Meaning Named → Meaning Named
outside rules env m undo n = in_frames rules env m.by_itself m.waiting undo n

-- the same of a chain of this frame, which is further in
abbrev pub outside_of : List Rule → Env → Frames → Frame → Meaning Chained → Meaning Named
outside_of rules env m f e = outside rules env m (take f.base m.undo) (e >>= after_rule rules env (length m.waiting) f)

-- the rules of a name from that of a frame on, which is tested
abbrev pub tries : List Rule → Env → Frames → Frame → Option Failure → Course → Meaning Named
tries rules env m f last s =
    try_rules (caller_at rules env (length m.waiting)) env f.args (rule_at rules f.rule ∷ later rules f.name (suc f.rule)) (last_of last) s

-- what is still to be done, where this is waited for
abbrev pub rest_by : List Rule → Env → Frames → Control → Course → Meaning Named
rest_by rules env m (Tests f last) s = outside rules env m m.undo (tries rules env m f last s)
rest_by rules env m (GoesOn f) s = outside_of rules env m f (steps_left rules env (length m.waiting) f (drop f.base m.undo) f.cut s)
rest_by rules env m (Fails f x halts) s = outside_of rules env m f (mapped (undone x halts f.cut) (back env.user (drop f.base m.undo) s))
rest_by rules env m (Runs c) s = outside rules env m m.undo (mapped named_of_did (do_call env.user c s))
rest_by rules env m (Ended o) s = outside rules env m m.undo (gives (record { state = s; outcome = outcome_of o }))

-- what is still to be done from here on
abbrev pub rest : List Rule → Env → Frames → Course → Meaning Named
rest rules env m s = rest_by rules env m m.control (course m s)
