-- What the machine tells by an action.
use Rattle.std.proofs.Common.{◌≡◌, ℕ, ◌<◌, ◌≤◌, Bool, true, false, List, [], ◌∷◌, ◌++◌, length, take, drop, refl, sym, ◌∙◌, ap, arith, append-nil, append_assoc, length-append}
use Rattle.std.proofs.lemmas.List.{take-append-drop, drop-append-le}
use Rattle.std.proofs.lemmas.Bool.{ltb-true}
use Rattle.grid_model.specs.Names.{Text}
use Rattle.grid_model.specs.RuleText.{Rule}
use Rattle.grid_model.specs.Meanings.{Meaning, Waiting, gives, waits, unfit, ◌>>=◌, mapped}
use Rattle.grid_model.specs.Values.{Env}
use Rattle.grid_model.specs.Services.{service}
use Rattle.grid_model.specs.Doing.{Course, do_call, undo, back}
use Rattle.grid_model.specs.Chains.{Named, undone}
use Rattle.grid_model.specs.declared.calls.Call.{Call}
use Rattle.grid_model.specs.declared.refusal.Failure.{Failure}
use Rattle.grid_model.proofs.StoppingCalls.{goes_on}
use Rattle.grid_model.proofs.StoppingRecoveries.{service_undo}
use Rattle.grid_model.proofs.RecoveryLemmas.{back_after, back-append}
use Rattle.chain_core.specs.declared.actions.Outcome.{Outcome}
use Rattle.chain_core.specs.declared.actions.Outcome.TheVariants.{EndedWell, Failed, Halted, NoneApplied}
use Rattle.chain_core.specs.declared.stack.Frame.{Frame}
use Rattle.chain_core.specs.declared.frames.Control.{Control}
use Rattle.chain_core.specs.declared.frames.Control.TheVariants.{Tests, GoesOn, Fails, Runs, Ended}
use Rattle.chain_core.specs.declared.frames.Frames.{Frames}
use Rattle.chain_core.specs.Rest.{rest_by, course, in_frames, at_end, after_rule, rule_at, named_of_did, outcome_of}
use Rattle.chain_core.specs.Answers.{asked, asked_by, shown_outcome, Tells, WaitsWith, IsUsable, IsThere, is_settled_by, none_waits}

-- ---- what waits in all frames

-- the same, with these recoveries before its own
abbrev before : List Call → Waiting → Waiting
before cs w = record w { undo = cs ++ w.undo }

end_waits : (b : Bool) (w : Waiting) → at_end b (waits w) ≡ waits w
end_waits true w = refl
end_waits false w = refl

end_unfit : (b : Bool) → at_end b unfit ≡ unfit
end_unfit true = refl
end_unfit false = refl

-- all of the list stands before what waits further in
joined : (n : ℕ) (undo : List Call) (w : Waiting) → before (take n undo) (before (drop n undo) w) ≡ before undo w
joined n undo w = ap (λ cs. record w { undo = cs }) (sym (append_assoc (take n undo) (drop n undo) w.undo) ∙ ap (λ cs. cs ++ w.undo) (take-append-drop n undo))

pub within_waits : (rules : List Rule) (env : Env) (b : Bool) (fs : List Frame) (undo : List Call) (w : Waiting) → in_frames rules env b fs undo (waits w) ≡ waits (before undo w)
within_waits rules env b [] undo w = end_waits b (before undo w)
within_waits rules env b (f ∷ fs) undo w = within_waits rules env b fs (take f.base undo) (before (drop f.base undo) w) ∙ ap waits (joined f.base undo w)

pub within_unfit : (rules : List Rule) (env : Env) (b : Bool) (fs : List Frame) (undo : List Call) → in_frames rules env b fs undo unfit ≡ unfit
within_unfit rules env b [] undo = end_unfit b
within_unfit rules env b (f ∷ fs) undo = within_unfit rules env b fs (take f.base undo)

-- a call that waits has no recovery of its own
call_alone : (user : Text) (c : Call) (s : Course) (w : Waiting) (cs : List Call) → do_call user c s ≡ waits w → before cs w ≡ record w { undo = cs }
call_alone user c s w cs e = ap (λ ds. record w { undo = ds }) (ap (λ ds. cs ++ ds) (service_undo c user (service c) s w e) ∙ append-nil cs)

-- ---- each action

module _ (rules : List Rule) (m : Frames) where
  -- what waits where this is waited for
  abbrev WaitsBy : Control → Call → Type 0
  WaitsBy x c =
      ((env : Env) (s : Course) (w : Waiting) → do_call env.user c (course m s) ≡ waits w → rest_by rules env m x (course m s) ≡ waits (record w { undo = m.undo }))
      × ((env : Env) (s : Course) → do_call env.user c (course m s) ≡ unfit → rest_by rules env m x (course m s) ≡ unfit)

  as_waits : (x : Control) (c : Call) → m.control ≡ x → WaitsBy x c → WaitsWith rules m c
  as_waits x c is h = record {
    waits_so = λ env s w e. ap (λ y. rest_by rules env m y (course m s)) is ∙ h.0 env s w e;
    unfit_so = λ env s e. ap (λ y. rest_by rules env m y (course m s)) is ∙ h.1 env s e;
  }

  run_waits : (c : Call) → WaitsBy (Runs c) c
  run_waits c = (
    λ env s w e. ap (λ x. in_frames rules env m.by_itself m.waiting m.undo (mapped named_of_did x)) e ∙ within_waits rules env m.by_itself m.waiting m.undo w ∙ ap waits (call_alone env.user c (course m s) w m.undo e),
    λ env s e. ap (λ x. in_frames rules env m.by_itself m.waiting m.undo (mapped named_of_did x)) e ∙ within_unfit rules env m.by_itself m.waiting m.undo,
  )

  module _ (f : Frame) (x : Failure) (halts : Bool) (us : List Call) (c : Call) (is : m.undo ≡ us ++ c ∷ []) (not_above : f.base ≤ length us) where
    abbrev undoes : Env → Meaning Course → Meaning Named
    undoes env b = in_frames rules env m.by_itself m.waiting (take f.base m.undo) (mapped (undone x halts f.cut) b >>= after_rule rules env (length m.waiting) f)

    own_is : drop f.base m.undo ≡ drop f.base us ++ c ∷ []
    own_is = ap (drop f.base) is ∙ drop-append-le f.base us (c ∷ []) not_above

    first_undone : (env : Env) (s : Course) → rest_by rules env m (Fails f x halts) (course m s)
        ≡ undoes env (back_after env.user (drop f.base us) (goes_on (length s.marks) env.user c (do_call env.user c (course m s))))
    first_undone env s = ap (undoes env) (ap (λ cs. back env.user cs (course m s)) own_is ∙ back-append env.user (drop f.base us) (c ∷ []) (course m s))

    undo_waits : WaitsBy (Fails f x halts) c
    undo_waits = (
      λ env s w e.
          first_undone env s ∙ ap (λ y. undoes env (back_after env.user (drop f.base us) (goes_on (length s.marks) env.user c y))) e
          ∙ within_waits rules env m.by_itself m.waiting (take f.base m.undo) (before (drop f.base us) (before (c ∷ []) w))
          ∙ ap (λ ds. waits (record w { undo = ds }))
          (ap (λ ds. take f.base m.undo ++ (drop f.base us ++ c ∷ ds)) (service_undo c env.user (service c) (course m s) w e)
          ∙ ap (λ ds. take f.base m.undo ++ ds) (sym own_is) ∙ take-append-drop f.base m.undo),
      λ env s e.
          first_undone env s ∙ ap (λ y. undoes env (back_after env.user (drop f.base us) (goes_on (length s.marks) env.user c y))) e
          ∙ within_unfit rules env m.by_itself m.waiting (take f.base m.undo),
    )

-- ---- the last recovery

last_of_list : (cs : List Call) → 0 < length cs → (us : List Call) × (c : Call) × (cs ≡ us ++ c ∷ [])
last_of_list [] more = absurd (omega (arith, more))
last_of_list (x ∷ []) more = ([], x, refl)
last_of_list (x ∷ y ∷ cs) more = let rest = last_of_list (y ∷ cs) (omega arith) in (x ∷ rest.0, rest.1, ap (λ ds. x ∷ ds) rest.2)

-- ---- the end

shown_end : (b : Bool) (o : Outcome) (s : Course) → at_end b (gives (record { state = s; outcome = outcome_of o })) ≡ gives (record { state = s; outcome = outcome_of (shown_outcome b o) })
shown_end true EndedWell s = refl
shown_end true (Failed x) s = refl
shown_end true (Halted x) s = refl
shown_end true NoneApplied s = refl
shown_end false EndedWell s = refl
shown_end false (Failed x) s = refl
shown_end false (Halted x) s = refl
shown_end false NoneApplied s = refl

no_frame : (fs : List Frame) → none_waits fs ≡ true → fs ≡ []
no_frame [] e = refl
no_frame (f ∷ fs) e = absurd (cc e)

-- what the machine asks for tells so
pub tells : (rules : List Rule) (m : Frames) → IsUsable rules m → Tells rules m (asked m)
tells rules m usable = by_control m.control refl usable.settled usable.there
  where
    by_control : (c : Control) → m.control ≡ c → is_settled_by rules m c ≡ true → IsThere rules c → Tells rules m (asked_by m.by_itself c)
    by_control (Tests f last) is settled there = there
    by_control (GoesOn f) is settled there = ltb-true f.step (length (rule_at rules f.rule).steps) settled
    by_control (Fails f x halts) is settled there =
        let below : f.base < length m.undo = ltb-true f.base (length m.undo) settled in
        let last = last_of_list m.undo (omega (arith, below)) in (
          last.0,
          last.1,
          last.2,
          as_waits rules m (Fails f x halts) last.1 is
              (undo_waits rules m f x halts last.0 last.1 last.2 (omega (arith, below, ap length last.2, length-append last.0 (last.1 ∷ [])))),
        )
    by_control (Runs c) is settled there = as_waits rules m (Runs c) c is (run_waits rules m c)
    by_control (Ended o) is settled there = λ env s.
        ap (λ y. rest_by rules env m y (course m s)) is
        ∙ ap (λ fs. in_frames rules env m.by_itself fs m.undo (gives (record { state = course m s; outcome = outcome_of o }))) (no_frame m.waiting settled)
        ∙ shown_end m.by_itself o (course m s)
