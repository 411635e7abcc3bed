-- An event changes nothing of what is still to be done, from where its action left the command.
use Rattle.std.proofs.Common.{◌≡◌, ℕ, suc, ◌<◌, ◌≤◌, ◌+◌, ◌-◌, Bool, true, false, List, [], ◌∷◌, ◌++◌, length, map, take, drop, Option, Some, None, refl, sym, ◌∙◌, ap, subst, arith, drop-cons, length-append}
use Rattle.std.specs.Prelude.{◌&&◌, ◌||◌, Result, Ok, Err}
use Rattle.std.specs.Option.{option_to_list}
use Rattle.std.proofs.Math.Seq.{drop-length, take-append_seam}
use Rattle.std.proofs.lemmas.List.{take-append-le, drop-append-le}
use Rattle.std.proofs.lemmas.Bool.{ltb-true}
use Rattle.grid_model.specs.Names.{Text}
use Rattle.grid_model.specs.RuleText.{Rule, Step, Expr}
use Rattle.grid_model.specs.Meanings.{Meaning, gives, ◌>>=◌, behind, mapped}
use Rattle.grid_model.specs.Values.{Env, Scope, Value, value, text_of, holds, computed, is_short}
use Rattle.grid_model.specs.Doing.{Course, Did, do_call, back}
use Rattle.grid_model.specs.Chains
use Rattle.grid_model.specs.Chains.{Named, Caller, Chained, doing, failing, undone, chain, do_fixed, counted, begin_step, after_step, try_rules, scope_of, fixed_recovery, all_short}
use Rattle.grid_model.specs.declared.calls.Call.{Call}
use Rattle.grid_model.specs.declared.refusal.Failure.{Failure}
use Rattle.grid_model.specs.declared.refusal.Failure.TheVariants.{Refused, Code, NoRule, Depth, Spent, LongText, Stopped}
use Rattle.grid_model.proofs.StoppingCalls.{call_keeps}
use Rattle.chain_core.specs.declared.actions.Outcome.TheVariants.{EndedWell}
use Rattle.chain_core.specs.declared.actions.Event.{Event}
use Rattle.chain_core.specs.declared.actions.Event.TheVariants as event
use Rattle.chain_core.specs.declared.kinds.Kind.{Kind}
use Rattle.chain_core.specs.declared.stack.Frame.{Frame}
use Rattle.chain_core.specs.declared.frames.Control.TheVariants.{Tests, GoesOn, Fails, Runs, Ended}
use Rattle.chain_core.specs.declared.frames.Frames.{Frames}
use Rattle.chain_core.specs.Rest.{failed_so, rest, rest_by, course, in_frames, in_frame, rule_at, later, last_of, caller_at, after_rule, steps_left, named_of_did, outcome_of}
use Rattle.chain_core.specs.Moves.{next_by, next, failed_as, is_stopped, was_stopped}
use Rattle.chain_core.specs.Answers.{args_by, IsAnswer, Computes, IsTooLong, Undoes, noted, KindFits, IsKind, IsUsable, AreNested, running_frames, is_settled_by, step_at, no_step, failure_in}
use Rattle.chain_core.proofs.Moving.{next_is, all_of}
use Rattle.chain_core.proofs.Stepping.{step_is}
use Rattle.chain_core.proofs.Stops.{call_stops, same_course}
use Rattle.chain_core.proofs.Undoing.{undone_one, left_over}
use Rattle.chain_core.proofs.Answering.{at_test, at_eval, at_run, at_undo}

-- ---- a condition that was tested

module _ (rules : List Rule) (env : Env) (m : Frames) (f : Frame) where
  -- what is to be done of the rules that are tested
  abbrev tries : Option Failure → Bool → Course → Meaning Named
  tries last b s = in_frames rules env m.by_itself m.waiting m.undo (elim b [
    | true ↦
        chain (caller_at rules env (length m.waiting)) env.user (scope_of env f.args (rule_at rules f.rule)) (rule_at rules f.rule).steps [] false s
        >>= after_rule rules env (length m.waiting) f
    | false ↦ try_rules (caller_at rules env (length m.waiting)) env f.args (later rules f.name (suc f.rule)) (last_of last) s
  ])

  tested : (last : Option Failure) (b : Bool) (k : Kind) (s : Course) → holds (scope_of env f.args (rule_at rules f.rule)) s.grid (rule_at rules f.rule).cond ≡ b
      → rest rules env (next_by rules m (Tests f last) (event.Tested b) k) s ≡ rest_by rules env m (Tests f last) (course m s)
  tested last true k s is =
      ap (λ us. in_frames rules env m.by_itself m.waiting us (steps (drop (length m.undo) m.undo))) (all_of (length m.undo) m.undo (drop-length m.undo))
      ∙ ap (λ ds. in_frames rules env m.by_itself m.waiting m.undo (steps ds)) (drop-length m.undo)
      ∙ ap (λ b. tries last b (course m s)) (sym is)
    where
      steps : List Call → Meaning Named
      steps fixed = chain (caller_at rules env (length m.waiting)) env.user (scope_of env f.args (rule_at rules f.rule)) (rule_at rules f.rule).steps fixed false (course m s)
          >>= after_rule rules env (length m.waiting) f
  tested last false k s is = next_is rules env m f last s ∙ ap (λ b. tries last b (course m s)) (sym is)

  -- ---- a step that was computed

  abbrev own_of : Scope → Course → Step → List Call
  own_of scope s step = fixed_recovery scope s.grid step.recovery

  -- a step of the chain
  abbrev does_step : Step → Course → Meaning Chained
  does_step step s =
      let scope = scope_of env f.args (rule_at rules f.rule) in
      do_fixed (caller_at rules env (length m.waiting)) env.user (map (value scope s.grid) step.call.args) (computed scope s.grid step.call) (own_of scope s step)
      (drop f.base m.undo) f.cut (steps_left rules env (length m.waiting) (record f { step = suc f.step })) (counted s)

  next_step : (s : Course) → f.step < length (rule_at rules f.rule).steps
      → steps_left rules env (length m.waiting) f (drop f.base m.undo) f.cut s ≡ does_step (step_at (rule_at rules f.rule) f.step) s
  next_step s is = ap (λ steps. chain (caller_at rules env (length m.waiting)) env.user (scope_of env f.args (rule_at rules f.rule)) steps (drop f.base m.undo) f.cut s)
      (drop-cons (rule_at rules f.rule).steps f.step no_step is)

  module _ (s : Course) where
    abbrev here : Scope
    here = scope_of env f.args (rule_at rules f.rule)

    abbrev values : List Value
    values = map (value here s.grid) (step_at (rule_at rules f.rule) f.step).call.args

    -- the step with this call and this recovery, where its arguments are short or not
    abbrev does : Call → List Call → Bool → Meaning Chained
    does c own b = elim b [
      | false ↦ mapped (undone LongText false f.cut) (back env.user (drop f.base m.undo) (counted (course m s)))
      | true ↦
          behind (drop f.base m.undo ++ own) (begin_step (caller_at rules env (length m.waiting)) env.user values c (counted (course m s)))
          >>= after_step env.user (drop f.base m.undo ++ own) f.cut (steps_left rules env (length m.waiting) (record f { step = suc f.step }) (drop f.base m.undo ++ own))
    ]

    abbrev on : Meaning Chained → Meaning Named
    on e = in_frames rules env m.by_itself m.waiting (take f.base m.undo) (e >>= after_rule rules env (length m.waiting) f)

    too_long : (k : Kind) → f.step < length (rule_at rules f.rule).steps → IsTooLong here s.grid (step_at (rule_at rules f.rule) f.step)
        → rest rules env (next_by rules m (GoesOn f) event.LongText k) s ≡ rest_by rules env m (GoesOn f) (course m s)
    too_long k is long =
        let step = step_at (rule_at rules f.rule) f.step in
        sym (ap on (next_step (course m s) is) ∙ ap (λ b. on (does (computed here s.grid step.call) (own_of here s step) b)) long)

    texts_of : (xs : List Expr) → map (λ e. text_of (value here s.grid e)) xs ≡ map text_of (map (value here s.grid) xs)
    texts_of [] = refl
    texts_of (x ∷ xs) = ap (λ ts. text_of (value here s.grid x) ∷ ts) (texts_of xs)

    computes : (c : Call) (recovery : Option Call) (k : Kind) → f.step < length (rule_at rules f.rule).steps → f.base ≤ length m.undo → IsKind c k
        → Computes here s.grid (step_at (rule_at rules f.rule) f.step) c (option_to_list recovery)
        → rest rules env (next_by rules m (GoesOn f) (event.Computed c recovery) k) s ≡ rest_by rules env m (GoesOn f) (course m s)
    computes c recovery k is below kind given =
        let step = step_at (rule_at rules f.rule) f.step in
        let own = option_to_list recovery in
        let next = record f { step = suc f.step } in
        let begins = begin_step (caller_at rules env (length m.waiting)) env.user values c (counted (course m s)) in
        step_is rules env (record m { undo = m.undo ++ own; begun = m.begun + 1 }) next values c k s kind
        (λ e. (given.coded e, ap (λ (x : Call). x.args) (sym given.is_call) ∙ texts_of step.call.args))
        ∙ ap (λ us. in_frames rules env m.by_itself m.waiting us (in_frame rules env (length m.waiting) next (drop f.base (m.undo ++ own)) begins)) (take-append-le f.base m.undo own below)
        ∙ ap (λ ds. in_frames rules env m.by_itself m.waiting (take f.base m.undo) (in_frame rules env (length m.waiting) next ds begins)) (drop-append-le f.base m.undo own below)
        ∙ sym (
        ap on (next_step (course m s) is)
        ∙ ap (λ x. on (does x (own_of here s step) (is_short x && all_short (own_of here s step)))) given.is_call
        ∙ ap (λ x. on (does c x (is_short c && all_short x))) given.is_own
        ∙ ap (λ b. on (does c own b)) given.short)

-- ---- a call that was run

module _ (rules : List Rule) (env : Env) (m : Frames) where
  -- how a call left the counts that the machine keeps
  kept_course : (y : Option Failure) (c : Call) (s t : Course) → do_call env.user c (course m s) ≡ gives (record { state = t; failure = y })
      → (n : Frames) → n.begun ≡ m.begun → n.stopped ≡ was_stopped y || m.stopped → course n t ≡ t
  kept_course y c s t e n b p =
      let did : Did = record { state = t; failure = y } in
      same_course n t (b ∙ sym (call_keeps env.user c (course m s) did e).begun) (p ∙ sym (call_stops env.user c (course m s) did e))

  ended_so : (x : Failure) (b : Bool) → outcome_of (failed_as x b) ≡ failed_so x b
  ended_so x true = refl
  ended_so x false = refl

  ran : (c : Call) (r : Result Unit Failure) (k : Kind) (s t : Course) → do_call env.user c (course m s) ≡ gives (record { state = t; failure = failure_in r })
      → rest rules env (next_by rules m (Runs c) (event.Ran r) k) t ≡ rest_by rules env m (Runs c) (course m s)
  ran c (Ok u) k s t e =
      ap (λ x. in_frames rules env m.by_itself m.waiting m.undo (gives (record { state = x; outcome = Chains.ended_well }))) (kept_course None c s t e (record m { control = Ended EndedWell }) refl refl)
      ∙ ap (λ n. in_frames rules env m.by_itself m.waiting m.undo (mapped named_of_did n)) (sym e)
  ran c (Err x) k s t e =
      let did : Did = record { state = t; failure = Some x } in
      ap (λ y. in_frames rules env m.by_itself m.waiting m.undo (gives (record { state = y; outcome = outcome_of (failed_as x (is_stopped x || m.stopped)) })))
      (kept_course (Some x) c s t e (record m { stopped = is_stopped x || m.stopped; control = Ended EndedWell }) refl refl)
      ∙ ap (λ o. in_frames rules env m.by_itself m.waiting m.undo (gives (record { state = t; outcome = o })))
      (ended_so x (is_stopped x || m.stopped) ∙ ap (failed_so x) (sym (call_stops env.user c (course m s) did e)))
      ∙ ap (λ n. in_frames rules env m.by_itself m.waiting m.undo (mapped named_of_did n)) (sym e)

  -- ---- a recovery that was run

  noted_course : (n : Frames) (c : Call) (y : Option Failure) (t : Course) → course n (noted c y t) ≡ noted c y (course n t)
  noted_course n c None t = refl
  noted_course n c (Some Stopped) t = refl
  noted_course n c (Some (Refused r)) t = refl
  noted_course n c (Some (Code z)) t = refl
  noted_course n c (Some NoRule) t = refl
  noted_course n c (Some Depth) t = refl
  noted_course n c (Some Spent) t = refl
  noted_course n c (Some LongText) t = refl

  module _ (f : Frame) (x : Failure) (halts : Bool) (us : List Call) (c : Call) (y : Option Failure) (s t : Course) (below : f.base < length m.undo) (is : m.undo ≡ us ++ c ∷ []) (done : Undoes env.user c y (course m s) t) where
    abbrev undoes : List Call → Meaning Course → Meaning Named
    undoes outer b = in_frames rules env m.by_itself m.waiting outer (mapped (undone x halts f.cut) b >>= after_rule rules env (length m.waiting) f)

    not_above : f.base ≤ length us
    not_above = omega (arith, below, ap length is, length-append us (c ∷ []))

    take_left : (b : Bool) → take f.base (left_over b us c) ≡ take f.base us
    take_left true = take-append-le f.base us (c ∷ []) not_above
    take_left false = refl

    drop_left : (b : Bool) → drop f.base (left_over b us c) ≡ left_over b (drop f.base us) c
    drop_left true = drop-append-le f.base us (c ∷ []) not_above
    drop_left false = refl

    as_left : (u : List Call) (p : Bool) → u ≡ left_over (was_stopped y) us c → p ≡ was_stopped y || m.stopped
        → rest rules env (record m { control = Fails f x halts; undo = u; stopped = p }) t ≡ rest_by rules env m (Fails f x halts) (course m s)
    as_left u p ue pe =
        let n : Frames = record m { control = Fails f x halts; undo = u; stopped = p } in
        ap (λ v. undoes (take f.base v) (back env.user (drop f.base v) (course n t))) ue
        ∙ ap (λ v. undoes v (back env.user (drop f.base (left_over (was_stopped y) us c)) (course n t))) (take_left (was_stopped y))
        ∙ ap (λ v. undoes (take f.base us) (back env.user v (course n t))) (drop_left (was_stopped y))
        ∙ ap (λ v. undoes (take f.base us) (back env.user (left_over (was_stopped y) (drop f.base us) c) v))
        (ap (course n) done.left ∙ noted_course n c y done.state ∙ ap (noted c y) (kept_course y c s done.state done.done n refl pe))
        ∙ ap (undoes (take f.base us)) (sym (undone_one env.user (drop f.base us) c y (course m s) done.state done.done))
        ∙ ap (λ v. undoes (take f.base us) (back env.user v (course m s))) (sym (drop_left true))
        ∙ ap (λ v. undoes v (back env.user (drop f.base (us ++ c ∷ [])) (course m s))) (sym (take_left true))
        ∙ ap (λ v. undoes (take f.base v) (back env.user (drop f.base v) (course m s))) (sym is)

    front : take (length m.undo - 1) m.undo ≡ us
    front = ap (λ v. take (length v - 1) v) is ∙ ap (λ n. take n (us ++ c ∷ [])) (omega (arith, length-append us (c ∷ []))) ∙ take-append_seam us (c ∷ [])

    undid : (k : Kind) → rest rules env (next_by rules m (Fails f x halts) (event.Undone y) k) t ≡ rest_by rules env m (Fails f x halts) (course m s)
    undid k = by_stop (was_stopped y) refl
      where
        by_stop : (b : Bool) → was_stopped y ≡ b
            → rest rules env (elim b [ true ↦ record m { control = Fails f x halts; stopped = true } | false ↦ record m { control = Fails f x halts; undo = take (length m.undo - 1) m.undo } ]) t
            ≡ rest_by rules env m (Fails f x halts) (course m s)
        by_stop true e = as_left m.undo true (is ∙ ap (λ b. left_over b us c) (sym e)) (ap (λ b. b || m.stopped) (sym e))
        by_stop false e = as_left (take (length m.undo - 1) m.undo) m.stopped (front ∙ ap (λ b. left_over b us c) (sym e)) (ap (λ b. b || m.stopped) (sym e))

-- ---- any event

more_steps : (rules : List Rule) (m : Frames) (f : Frame) → IsUsable rules m → m.control ≡ GoesOn f → f.step < length (rule_at rules f.rule).steps
more_steps rules m f usable is = ltb-true f.step (length (rule_at rules f.rule).steps) (subst (λ x. is_settled_by rules m x ≡ true) is usable.settled)

pub next_keeps : (rules : List Rule) (env : Env) (m : Frames) (e : Event) (k : Kind) (s t : Course) → IsUsable rules m → KindFits m.control e k → IsAnswer rules env m e s t
    → rest rules env (next rules m e k) t ≡ rest rules env m s
next_keeps rules env m (event.Tested b) k s t usable fit a =
    let at = at_test m.by_itself m.control a.0 a.1 in
    let f = at.0 in
    let on : List Text → ℕ → Bool = λ args i. holds (scope_of env args (rule_at rules i)) s.grid (rule_at rules i).cond in
    let is : holds (scope_of env f.args (rule_at rules f.rule)) s.grid (rule_at rules f.rule).cond ≡ b = sym (ap (λ c. on (args_by m c) a.0) at.2 ∙ ap (on f.args) at.3) ∙ a.2 in
    subst (λ c. rest rules env (next_by rules m c (event.Tested b) k) t ≡ rest_by rules env m c (course m s)) (sym at.2)
    (ap (rest rules env (next_by rules m (Tests f at.1) (event.Tested b) k)) a.3 ∙ tested rules env m f at.1 b k s is)
next_keeps rules env m (event.Computed c recovery) k s t usable fit a =
    let at = at_eval m.by_itself m.control a.0.0 a.0.1 a.0.2 in
    let f = at.0 in
    let given : Computes (scope_of env f.args (rule_at rules f.rule)) s.grid (step_at (rule_at rules f.rule) f.step) c (option_to_list recovery) =
    subst (λ j. Computes (scope_of env f.args (rule_at rules f.rule)) s.grid (step_at (rule_at rules f.rule) j) c (option_to_list recovery)) at.3
    (subst (λ i. Computes (scope_of env f.args (rule_at rules i)) s.grid (step_at (rule_at rules i) a.0.1) c (option_to_list recovery)) at.2
    (subst (λ x. Computes (scope_of env (args_by m x) (rule_at rules a.0.0)) s.grid (step_at (rule_at rules a.0.0) a.0.1) c (option_to_list recovery)) at.1 a.0.3)) in
    subst (λ x. rest rules env (next_by rules m x (event.Computed c recovery) k) t ≡ rest_by rules env m x (course m s)) (sym at.1)
    (ap (rest rules env (next_by rules m (GoesOn f) (event.Computed c recovery) k)) a.1
    ∙ computes rules env m f s c recovery k (more_steps rules m f usable at.1) (subst (λ x. AreNested (running_frames m x) (length m.undo)) at.1 usable.sound).0 (subst (λ x. KindFits x (event.Computed c recovery) k) at.1 fit) given)
next_keeps rules env m event.LongText k s t usable fit a =
    let at = at_eval m.by_itself m.control a.0 a.1 a.2 in
    let f = at.0 in
    let given : IsTooLong (scope_of env f.args (rule_at rules f.rule)) s.grid (step_at (rule_at rules f.rule) f.step) =
    subst (λ j. IsTooLong (scope_of env f.args (rule_at rules f.rule)) s.grid (step_at (rule_at rules f.rule) j)) at.3
    (subst (λ i. IsTooLong (scope_of env f.args (rule_at rules i)) s.grid (step_at (rule_at rules i) a.1)) at.2
    (subst (λ x. IsTooLong (scope_of env (args_by m x) (rule_at rules a.0)) s.grid (step_at (rule_at rules a.0) a.1)) at.1 a.3)) in
    subst (λ x. rest rules env (next_by rules m x event.LongText k) t ≡ rest_by rules env m x (course m s)) (sym at.1)
    (ap (rest rules env (next_by rules m (GoesOn f) event.LongText k)) a.4 ∙ too_long rules env m f s k (more_steps rules m f usable at.1) given)
next_keeps rules env m (event.Ran r) k s t usable fit a =
    subst (λ x. rest rules env (next_by rules m x (event.Ran r) k) t ≡ rest_by rules env m x (course m s)) (sym (at_run m.by_itself m.control a.0 a.1)) (ran rules env m a.0 r k s t a.2)
next_keeps rules env m (event.Undone y) k s t usable fit a =
    let at = at_undo m.by_itself m.control a.2 in
    let below : at.0.base < length m.undo = ltb-true at.0.base (length m.undo) (subst (λ x. is_settled_by rules m x ≡ true) at.3 usable.settled) in
    subst (λ x. rest rules env (next_by rules m x (event.Undone y) k) t ≡ rest_by rules env m x (course m s)) (sym at.3)
    (undid rules env m at.0 at.1 at.2 a.0 a.1 y s t below a.3 a.4 k)
