-- A step that begins is what the recursion does of it.
use Rattle.std.proofs.Common.{◌≡◌, ℕ, suc, ◌+◌, ◌-◌, Bool, true, false, List, [], ◌∷◌, length, map, take, drop, Option, Some, None, refl, sym, ◌∙◌, ap, arith}
use Rattle.std.specs.Prelude.{nat_lt, nat_le}
use Rattle.std.specs.Option.{option_map_or}
use Rattle.std.proofs.lemmas.Bool.{ltb-false, ltb-true}
use Rattle.grid_model.specs.Names.{Text}
use Rattle.grid_model.specs.RuleText.{Rule}
use Rattle.grid_model.specs.Bounds.{deepest, most_steps}
use Rattle.grid_model.specs.Meanings.{Meaning, gives, waits, unfit, behind, mapped}
use Rattle.grid_model.specs.Values.{Env, Value, text_of}
use Rattle.grid_model.specs.Doing.{Course, Did, do_service, do_call}
use Rattle.grid_model.specs.Chains.{Named, Stepped, Doing, failing, goes_on, fails, ended_well, failed, none_applied, from_did, from_named, from_outcome, doing, do_as, do_step, begin_step, counted, call_within, call_rule, try_rules}
use Rattle.grid_model.specs.declared.calls.Call.{Call}
use Rattle.grid_model.specs.declared.refusal.Failure.{Failure}
use Rattle.grid_model.specs.declared.refusal.Failure.TheVariants.{Code, Depth, Spent}
use Rattle.chain_core.specs.declared.actions.Outcome.TheVariants.{Failed, Halted}
use Rattle.chain_core.specs.declared.kinds.Kind.{Kind}
use Rattle.chain_core.specs.declared.kinds.Kind.TheVariants.{Cut, Succeed, Fail, Serve, Name}
use Rattle.chain_core.specs.declared.stack.Frame.{Frame}
use Rattle.chain_core.specs.declared.frames.Control.TheVariants.{Ended}
use Rattle.chain_core.specs.declared.frames.Frames.{Frames}
use Rattle.chain_core.specs.Rest.{rest, course, in_frames, at_end, in_frame, later, caller_at, named_of_did, named_of_step, failed_so}
use Rattle.chain_core.specs.Moves.{next_named, first_rule, called, control_of, step_by, counted_step, waiting_for, at_point, at_call}
use Rattle.chain_core.specs.Answers.{IsKind, IsCoded}
use Rattle.chain_core.proofs.Moving.{Finds, finds_next}

-- ---- steps by themselves and in frames

-- what all frames make of how a step of the innermost one ended
abbrev pub stepped : List Rule → Env → Bool → List Frame → List Call → Meaning Stepped → Meaning Named
stepped rules env by_itself [] undo step = mapped named_of_step (behind undo step)
stepped rules env by_itself (f ∷ fs) undo step = in_frames rules env by_itself fs (take f.base undo) (in_frame rules env (length fs) f (drop f.base undo) step)

-- a frame waits, or the call is by itself
abbrev pub TakesSteps : Bool → List Frame → Type 0
TakesSteps by_itself [] = by_itself ≡ true
TakesSteps by_itself (f ∷ fs) = Unit {0}

mapped_behind : {A B : Type 0} (f : A → B) (cs : List Call) (m : Meaning A) → mapped f (behind cs m) ≡ behind cs (mapped f m)
mapped_behind f cs (gives x) = refl
mapped_behind f cs (waits w) = refl
mapped_behind f cs unfit = refl

pub as_step : (rules : List Rule) (env : Env) (b : Bool) (ws : List Frame) (undo : List Call) (n : Meaning Named) → TakesSteps b ws
    → in_frames rules env b ws undo n ≡ stepped rules env b ws undo (mapped from_named n)
as_step rules env b [] undo n is = ap (λ x. at_end x (behind undo n)) is ∙ ap (mapped named_of_step) (mapped_behind from_named undo n)
as_step rules env b (f ∷ fs) undo n is = refl

-- ---- micro-services

did_step : (d : Did) → from_named (named_of_did d) ≡ from_did d
did_step d = by_failure d.failure
  where
    by_stopped : (f : Failure) (b : Bool) → from_outcome d.state (failed_so f b) ≡ fails d.state f b
    by_stopped f true = refl
    by_stopped f false = refl

    by_failure : (x : Option Failure)
        → from_outcome d.state (option_map_or (λ f. failed_so f d.state.stopped) x ended_well) ≡ option_map_or (λ f. fails d.state f d.state.stopped) x (goes_on d.state)
    by_failure None = refl
    by_failure (Some f) = by_stopped f d.state.stopped

did_steps : (m : Meaning Did) → mapped from_named (mapped named_of_did m) ≡ mapped from_did m
did_steps (gives d) = ap gives (did_step d)
did_steps (waits w) = refl
did_steps unfit = refl

-- ---- calls of rules

depth_more : (n : ℕ) → nat_lt n deepest ≡ true → deepest - n ≡ suc (deepest - suc n)
depth_more n e = omega (arith, ltb-true n deepest e)

depth_none : (n : ℕ) → nat_lt n deepest ≡ false → deepest - n ≡ 0
depth_none n e = omega (arith, ltb-false n deepest e)

pub called_is : (rules : List Rule) (env : Env) (m : Frames) (c : Call) (s : Course)
    → rest rules env (record m { control = called rules (length m.waiting) c }) s
    ≡ in_frames rules env m.by_itself m.waiting m.undo (call_within (deepest - length m.waiting) rules env c.name c.args (course m s))
called_is rules env m c s = by_depth (nat_lt (length m.waiting) deepest) refl
  where
    all : Meaning Named → Meaning Named
    all n = in_frames rules env m.by_itself m.waiting m.undo n

    tries : List Rule → Meaning Named
    tries rs = all (try_rules (caller_at rules env (length m.waiting)) env c.args rs none_applied (course m s))

    by_next : (o : Option ℕ) (rs : List Rule) → Finds rules c.name o rs → rest rules env (record m { control = first_rule o c }) s ≡ tries rs
    by_next None rs e = ap tries (sym e)
    by_next (Some i) rs e = ap tries (sym e)

    calls : ℕ → Meaning Named
    calls d = all (call_within d rules env c.name c.args (course m s))

    by_depth : (b : Bool) → nat_lt (length m.waiting) deepest ≡ b
        → rest rules env (record m { control = elim b [ true ↦ first_rule (next_named rules c.name 0) c | false ↦ Ended (Failed Depth) ] }) s ≡ calls (deepest - length m.waiting)
    by_depth true e = by_next (next_named rules c.name 0) (later rules c.name 0) (finds_next rules c.name 0) ∙ ap calls (sym (depth_more (length m.waiting) e))
    by_depth false e = ap calls (sym (depth_none (length m.waiting) e))

-- ---- each kind of call

-- it is neither `cut` nor `succeed`
abbrev pub IsOther : Kind → Type 0
IsOther Cut = ⊥
IsOther Succeed = ⊥
IsOther k = Unit {0}

module _ (rules : List Rule) (env : Env) (m : Frames) (takes : TakesSteps m.by_itself m.waiting) (vs : List Value) (c : Call) (s : Course) where
  abbrev does_as : Doing → Meaning Named
  does_as d = stepped rules env m.by_itself m.waiting m.undo (do_as d (call_within (deepest - length m.waiting) rules env) env.user vs c (course m s))

  -- what is done of a micro-service, a call of rules or a `fail`
  pub control_is : (k : Kind) → IsKind c k → (doing c ≡ failing → IsCoded vs × (c.args ≡ map text_of vs)) → IsOther k
      → rest rules env (record m { control = control_of rules (length m.waiting) c k }) s ≡ does_as (doing c)
  control_is Cut is coded other = absurd other
  control_is Succeed is coded other = absurd other
  control_is (Fail z) is coded other =
      as_step rules env m.by_itself m.waiting m.undo (gives (record { state = course m s; outcome = failed (Code z) })) takes
      ∙ ap (λ x. stepped rules env m.by_itself m.waiting m.undo (gives (fails (course m s) (Code x) false))) (sym (is.1 vs (coded is.0).0 (coded is.0).1))
      ∙ ap does_as (sym is.0)
  control_is Serve is coded other =
      as_step rules env m.by_itself m.waiting m.undo (mapped named_of_did (do_call env.user c (course m s))) takes
      ∙ ap (stepped rules env m.by_itself m.waiting m.undo) (did_steps (do_call env.user c (course m s)))
      ∙ ap (λ x. stepped rules env m.by_itself m.waiting m.undo (mapped from_did (do_service c env.user x (course m s)))) is.2
      ∙ ap does_as (sym is.1)
  control_is Name is coded other =
      called_is rules env m c s
      ∙ as_step rules env m.by_itself m.waiting m.undo (call_within (deepest - length m.waiting) rules env c.name c.args (course m s)) takes
      ∙ ap does_as (sym is)

-- ---- a step of a frame

pub step_is : (rules : List Rule) (env : Env) (m : Frames) (f : Frame) (vs : List Value) (c : Call) (k : Kind) (s : Course) → IsKind c k → (doing c ≡ failing → IsCoded vs × (c.args ≡ map text_of vs))
    → rest rules env (counted_step rules m f c k) s
    ≡ in_frames rules env m.by_itself m.waiting (take f.base m.undo)
    (in_frame rules env (length m.waiting) f (drop f.base m.undo) (begin_step (caller_at rules env (length m.waiting)) env.user vs c (course m s)))
step_is rules env m f vs c k s is coded = by_budget (nat_le m.begun most_steps)
  where
    all : Meaning Stepped → Meaning Named
    all x = in_frames rules env m.by_itself m.waiting (take f.base m.undo) (in_frame rules env (length m.waiting) f (drop f.base m.undo) x)

    does_as : Doing → Meaning Named
    does_as d = all (do_as d (caller_at rules env (length m.waiting)) env.user vs c (course m s))

    by_kind : (k : Kind) → IsKind c k → rest rules env (step_by rules m f c k) s ≡ does_as (doing c)
    by_kind Cut is = ap does_as (sym is)
    by_kind Succeed is = ap does_as (sym is)
    by_kind (Fail z) is = control_is rules env (record m { waiting = f ∷ m.waiting }) tt vs c s (Fail z) is coded tt
    by_kind Serve is = control_is rules env (record m { waiting = f ∷ m.waiting }) tt vs c s Serve is coded tt
    by_kind Name is = control_is rules env (record m { waiting = f ∷ m.waiting }) tt vs c s Name is coded tt

    by_budget : (b : Bool) → rest rules env (elim b [ true ↦ step_by rules m f c k | false ↦ waiting_for m f (Ended (Halted Spent)) ]) s
        ≡ all (elim b [ true ↦ do_step (caller_at rules env (length m.waiting)) env.user vs c (course m s) | false ↦ gives (fails (course m s) Spent true) ])
    by_budget true = by_kind k is
    by_budget false = refl

-- ---- a call by itself

pub behind_nothing : {A : Type 0} (m : Meaning A) → behind [] m ≡ m
behind_nothing (gives x) = refl
behind_nothing (waits w) = refl
behind_nothing unfit = refl

-- the rules of a point are called
pub point_is : (rules : List Rule) (env : Env) (m : Frames) (name : Text) (s : Course) → rest rules env (at_point rules m name) s ≡ call_rule rules env name [] (course m s)
point_is rules env m name s =
    called_is rules env (record m { waiting = []; undo = []; by_itself = false }) (record { name = name; args = [] }) s
    ∙ behind_nothing (call_rule rules env name [] (course m s))

pub call_is : (rules : List Rule) (env : Env) (m : Frames) (vs : List Value) (c : Call) (k : Kind) (s : Course) → IsKind c k → (doing c ≡ failing → IsCoded vs × (c.args ≡ map text_of vs))
    → rest rules env (at_call rules m c k) s ≡ mapped named_of_step (begin_step (call_rule rules env) env.user vs c (counted (course m s)))
call_is rules env m vs c k s is coded = by_budget (nat_le (m.begun + 1) most_steps)
  where
    here : Frames
    here = record m { waiting = []; undo = []; by_itself = true; begun = m.begun + 1 }

    all : Meaning Stepped → Meaning Named
    all x = mapped named_of_step (behind [] x)

    does_as : Doing → Meaning Named
    does_as d = all (do_as d (call_rule rules env) env.user vs c (counted (course m s)))

    by_kind : (k : Kind) → IsKind c k → rest rules env (record here { control = control_of rules 0 c k }) s ≡ does_as (doing c)
    by_kind Cut is = ap does_as (sym is)
    by_kind Succeed is = ap does_as (sym is)
    by_kind (Fail z) is = control_is rules env here refl vs c s (Fail z) is coded tt
    by_kind Serve is = control_is rules env here refl vs c s Serve is coded tt
    by_kind Name is = control_is rules env here refl vs c s Name is coded tt

    by_budget : (b : Bool) → rest rules env (record here { control = elim b [ true ↦ control_of rules 0 c k | false ↦ Ended (Halted Spent) ] }) s
        ≡ mapped named_of_step (elim b [ true ↦ do_step (call_rule rules env) env.user vs c (counted (course m s)) | false ↦ gives (fails (counted (course m s)) Spent true) ])
    by_budget true = by_kind k is ∙ ap (mapped named_of_step) (behind_nothing (do_step (call_rule rules env) env.user vs c (counted (course m s))))
    by_budget false = refl
