-- How what a machine has still to do begins.
use Rattle.std.proofs.Common.{◌≡◌, ℕ, suc, Bool, true, false, List, [], ◌∷◌, Option, Some, None, refl}
use Rattle.std.specs.Prelude.{◌-◌, drop, length, take}
use Rattle.grid_model.specs.Bounds.{deepest}
use Rattle.grid_model.specs.Names.{Text}
use Rattle.grid_model.specs.RuleText.{Rule}
use Rattle.grid_model.specs.Meanings.{Meaning, gives, ◌>>=◌, behind, mapped}
use Rattle.grid_model.specs.Values.{Env, Value}
use Rattle.grid_model.specs.Doing.{Course, do_call}
use Rattle.grid_model.specs.Chains.{Named, Stepped, Chained, goes_on, cuts, succeeds, fails, from_named}
use Rattle.grid_model.specs.Chains.{begin_step, counted, after_step, scope_of, try_rules, call_rule}
use Rattle.grid_model.specs.declared.calls.Call.{Call}
use Rattle.grid_model.specs.declared.marks.Mark.{Mark}
use Rattle.grid_model.specs.declared.refusal.Failure.{Failure}
use Rattle.chain_core.specs.declared.stack.Frame.{Frame}
use Rattle.chain_core.specs.declared.frames.Control.{Control}
use Rattle.chain_core.specs.declared.frames.Control.TheVariants.{Tests, GoesOn, Fails, Runs, Ended}
use Rattle.chain_core.specs.declared.frames.Frames.{Frames}
use Rattle.chain_core.specs.Rest.{after_rule, at_end, caller_at, course, in_frame, in_frames, last_of, later, named_of_did}
use Rattle.chain_core.specs.Rest.{named_of_step, outcome_of, rest, rest_by, rule_at, steps_left, tries}
use Rattle.chain_run.specs.Runs.{by_itself}
use Rattle.chain_laws.proofs.Beginnings.{Begins, at_once, begins_behind, begins_mapped, begins_then}
use Rattle.chain_laws.proofs.Beginnings.{chain_with, did_with, named_with, step_with, with_marks}
use Rattle.chain_laws.proofs.Recoveries.{begins_call}
use Rattle.chain_laws.proofs.Chains.{CallerBegins, begins_after, begins_chain, begins_named, begins_next}
use Rattle.chain_laws.proofs.Chains.{begins_rules, begins_step, begins_undone, begins_within}

named_of_step_with : (marks : List Mark) (x : Stepped) → named_of_step (step_with marks x) ≡ named_with marks (named_of_step x)
named_of_step_with marks (goes_on s) = refl
named_of_step_with marks (cuts s) = refl
named_of_step_with marks (succeeds s) = refl
named_of_step_with marks (fails s f halts) = refl

pub begins_of_step : (user : Text) (does : List Mark → Meaning Stepped) → Begins step_with user does
    → Begins named_with user (λ marks. mapped named_of_step (does marks))
begins_of_step user does h = begins_mapped step_with named_with user does named_of_step named_of_step_with h

-- a call by itself
pub begins_by_itself : (rules : List Rule) (env : Env) (c : Call) (vs : List Value) (s : Course)
    → Begins named_with env.user (λ marks. by_itself rules env c vs (with_marks marks s))
begins_by_itself rules env c vs s =
    begins_of_step env.user (λ marks. begin_step (call_rule rules env) env.user vs c (with_marks marks (counted s)))
    (begins_step (call_rule rules env) env.user (begins_within deepest rules env) vs c (counted s))

module _ (rules : List Rule) (env : Env) where
  -- ---- one frame

  calls_at : (waiting : ℕ) → CallerBegins (caller_at rules env waiting) env.user
  calls_at waiting = begins_within (deepest - suc waiting) rules env

  begins_rule : (waiting : ℕ) (f : Frame) (e : Chained) → Begins named_with env.user (λ marks. after_rule rules env waiting f (chain_with marks e))
  begins_rule waiting f e =
      begins_next (caller_at rules env waiting) env.user (calls_at waiting)
      (try_rules (caller_at rules env waiting) env f.args (later rules f.name (suc f.rule)))
      (begins_rules (caller_at rules env waiting) env (calls_at waiting) f.args (later rules f.name (suc f.rule))) e.state e.outcome e.cut

  begins_left : (waiting : ℕ) (f : Frame) (fixed : List Call) (cut : Bool) (s : Course)
      → Begins chain_with env.user (λ marks. steps_left rules env waiting f fixed cut (with_marks marks s))
  begins_left waiting f fixed cut s =
      begins_chain (caller_at rules env waiting) env.user (calls_at waiting) (scope_of env f.args (rule_at rules f.rule))
      (drop f.step (rule_at rules f.rule).steps) fixed cut s

  begins_frame : (waiting : ℕ) (f : Frame) (fixed : List Call) (does : List Mark → Meaning Stepped) → Begins step_with env.user does
      → Begins named_with env.user (λ marks. in_frame rules env waiting f fixed (does marks))
  begins_frame waiting f fixed does h =
      begins_then chain_with named_with env.user (λ marks. behind fixed (does marks) >>= after_step env.user fixed f.cut (steps_left rules env waiting f fixed))
      (after_rule rules env waiting f)
      (begins_then step_with chain_with env.user (λ marks. behind fixed (does marks)) (after_step env.user fixed f.cut (steps_left rules env waiting f fixed))
      (begins_behind step_with env.user fixed does h)
      (begins_after (caller_at rules env waiting) env.user (calls_at waiting) fixed f.cut (steps_left rules env waiting f fixed) (begins_left waiting f fixed)))
      (begins_rule waiting f)

  -- ---- all frames

  begins_end : (b : Bool) (does : List Mark → Meaning Named) → Begins named_with env.user does → Begins named_with env.user (λ marks. at_end b (does marks))
  begins_end true does h = begins_of_step env.user (λ marks. mapped from_named (does marks)) (begins_named env.user does h)
  begins_end false does h = h

  begins_frames : (b : Bool) (fs : List Frame) (undo : List Call) (does : List Mark → Meaning Named) → Begins named_with env.user does
      → Begins named_with env.user (λ marks. in_frames rules env b fs undo (does marks))
  begins_frames b [] undo does h = begins_end b (λ marks. behind undo (does marks)) (begins_behind named_with env.user undo does h)
  begins_frames b (f ∷ fs) undo does h =
      begins_frames b fs (take f.base undo) (λ marks. in_frame rules env (length fs) f (drop f.base undo) (mapped from_named (does marks)))
      (begins_frame (length fs) f (drop f.base undo) (λ marks. mapped from_named (does marks)) (begins_named env.user does h))

  -- ---- a machine

  did_named : (marks : List Mark) (s : Course) (o : Option Failure)
      → named_of_did (record { state = with_marks marks s; failure = o }) ≡ named_with marks (named_of_did (record { state = s; failure = o }))
  did_named marks s None = refl
  did_named marks s (Some f) = refl

  module _ (m : Frames) where
    begins_outside : (does : List Mark → Meaning Named) → Begins named_with env.user does
        → Begins named_with env.user (λ marks. in_frames rules env m.by_itself m.waiting m.undo (does marks))
    begins_outside = begins_frames m.by_itself m.waiting m.undo

    begins_further : (f : Frame) (does : List Mark → Meaning Chained) → Begins chain_with env.user does
        → Begins named_with env.user
        (λ marks. in_frames rules env m.by_itself m.waiting (take f.base m.undo) (does marks >>= after_rule rules env (length m.waiting) f))
    begins_further f does h =
        begins_frames m.by_itself m.waiting (take f.base m.undo) (λ marks. does marks >>= after_rule rules env (length m.waiting) f)
        (begins_then chain_with named_with env.user does (after_rule rules env (length m.waiting) f) h (begins_rule (length m.waiting) f))

    begins_control : (x : Control) (s : Course) → Begins named_with env.user (λ marks. rest_by rules env m x (with_marks marks s))
    begins_control (Tests f last) s =
        begins_outside (λ marks. tries rules env m f last (with_marks marks s))
        (begins_rules (caller_at rules env (length m.waiting)) env (calls_at (length m.waiting)) f.args
        (rule_at rules f.rule ∷ later rules f.name (suc f.rule)) (last_of last) s)
    begins_control (GoesOn f) s =
        begins_further f (λ marks. steps_left rules env (length m.waiting) f (drop f.base m.undo) f.cut (with_marks marks s))
        (begins_left (length m.waiting) f (drop f.base m.undo) f.cut s)
    begins_control (Fails f x halts) s =
        begins_further f _
        (begins_undone (caller_at rules env (length m.waiting)) env.user (calls_at (length m.waiting)) x halts f.cut (drop f.base m.undo) s)
    begins_control (Runs c) s =
        begins_outside (λ marks. mapped named_of_did (do_call env.user c (with_marks marks s)))
        (begins_mapped did_with named_with env.user (λ marks. do_call env.user c (with_marks marks s)) named_of_did
        (λ marks d. did_named marks d.state d.failure) (begins_call env.user c s))
    begins_control (Ended o) s =
        begins_outside (λ marks. gives (record { state = with_marks marks s; outcome = outcome_of o }))
        (at_once (record { state = s; outcome = outcome_of o }) (λ later. refl))

    pub begins_rest : (s : Course) → Begins named_with env.user (λ marks. rest rules env m (with_marks marks s))
    begins_rest s = begins_control m.control (course m s)
