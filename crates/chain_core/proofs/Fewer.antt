-- Each event brings the machine nearer to its end.
use Rattle.std.proofs.Common.{◌≡◌, ℕ, suc, ◌<◌, ◌≤◌, ◌+◌, ◌-◌, ◌*◌, Bool, true, false, List, [], ◌∷◌, ◌++◌, length, take, drop, Option, Some, None, refl, ◌∙◌, ap, arith, length-append}
use Rattle.std.specs.Prelude.{nat_lt, nat_le, ◌||◌, Ok, Err}
use Rattle.std.specs.Option.{option_to_list}
use Rattle.std.proofs.lemmas.Bool.{ltb-true, leb-true}
use Rattle.std.proofs.lemmas.List.{length-take}
use Rattle.std.proofs.Math.Nat.{suc-mul, mul-le-mul_right}
use Rattle.grid_model.specs.Names.{Text, same_text}
use Rattle.grid_model.specs.RuleText.{Rule}
use Rattle.grid_model.specs.Bounds.{deepest, most_steps}
use Rattle.grid_model.specs.declared.calls.Call.{Call}
use Rattle.grid_model.specs.declared.refusal.Failure.{Failure}
use Rattle.grid_model.specs.declared.refusal.Failure.TheVariants.{Depth, Spent}
use Rattle.chain_core.specs.declared.actions.Event.{Event}
use Rattle.chain_core.specs.declared.actions.Event.TheVariants.{Tested, Computed, Ran, Undone}
use Rattle.chain_core.specs.declared.actions.Event.TheVariants as event
use Rattle.chain_core.specs.declared.actions.Outcome.{Outcome}
use Rattle.chain_core.specs.declared.actions.Outcome.TheVariants.{EndedWell, Failed, Halted, NoneApplied}
use Rattle.chain_core.specs.declared.kinds.Kind.{Kind}
use Rattle.chain_core.specs.declared.kinds.Kind.TheVariants.{Cut, Succeed, Fail, Serve, Name}
use Rattle.chain_core.specs.declared.stack.Frame.{Frame}
use Rattle.chain_core.specs.declared.frames.Control.{Control}
use Rattle.chain_core.specs.declared.frames.Control.TheVariants.{Tests, GoesOn, Fails, Runs, Ended}
use Rattle.chain_core.specs.declared.frames.Frames.{Frames}
use Rattle.chain_core.specs.Rest.{rule_at}
use Rattle.chain_core.specs.Moves.{first_at, next_named, at_next, next_rule, first_rule, control_of, step_by, waiting_for, rule_failed, resumed, taken_up, move, move_by, was_stopped, is_stopped, failed_as, next_by, next}
use Rattle.chain_core.specs.Answers.{asked, asked_by, IsThere, IsUsable, is_settled_by}
use Rattle.chain_core.specs.Ending.{may_go_on, rules_left, frames_left, control_left, halt_left, counted_left, events_left, IsMet}
use Rattle.chain_core.proofs.Moving.{IsBelow, next_below}

-- ---- the next rule stands behind

-- a rule that is found from a place on stands there or behind
abbrev IsFrom : ℕ → Option ℕ → Type 0
IsFrom i None = Unit {0}
IsFrom i (Some k) = i ≤ k

is_from : (rs : List Rule) (name : Text) (i : ℕ) → IsFrom i (first_at rs name i)
is_from [] name i = tt
is_from (r ∷ rs) name i = by_name (is_from rs name (suc i)) (same_text r.name name)
  where
    sooner : (o : Option ℕ) → IsFrom (suc i) o → IsFrom i o
    sooner None h = tt
    sooner (Some k) h = omega (arith, h)

    by_name : IsFrom (suc i) (first_at rs name (suc i)) → (b : Bool) → IsFrom i (elim b [ true ↦ Some i | false ↦ first_at rs name (suc i) ])
    by_name rest true = omega arith
    by_name rest false = sooner (first_at rs name (suc i)) rest

-- ---- what a control comes to

-- the control and what it has until it halts
abbrev both : List Rule → Control → ℕ
both rules c = halt_left (may_go_on c) + control_left rules c

halt_most : (b : Bool) → halt_left b ≤ 10
halt_most true = omega arith
halt_most false = omega arith

-- the next rule, behind one that is there
next_less : (rules : List Rule) (f : Frame) (last : Option Failure) → both rules (next_rule rules f last) ≤ 10 + rules_left rules f
next_less rules f last = by_next (next_named rules f.name (suc f.rule)) (is_from (drop (suc f.rule) rules) f.name (suc f.rule)) (next_below rules f.name (suc f.rule))
  where
    ended : (x : Option Failure) → both rules (at_next None f x) ≤ 10 + rules_left rules f
    ended None = omega arith
    ended (Some x) = omega arith

    by_next : (o : Option ℕ) → IsFrom (suc f.rule) o → IsBelow rules o → both rules (at_next o f last) ≤ 10 + rules_left rules f
    by_next None from below = ended last
    by_next (Some k) from below = omega (arith, from, below)

failed_less : (rules : List Rule) (f : Frame) (x : Failure) (halts stopped : Bool) → both rules (rule_failed rules f x halts stopped) ≤ both rules (Fails f x halts)
failed_less rules f x halts true = omega (arith, halt_most (may_go_on (Fails f x halts)))
failed_less rules f x true false = omega arith
failed_less rules f x false false = by_cut f.cut
  where
    by_cut : (b : Bool) → both rules (elim b [ true ↦ Ended (Failed x) | false ↦ next_rule rules f (Some x) ]) ≤ both rules (Fails f x false)
    by_cut true = omega arith
    by_cut false = omega (arith, next_less rules f (Some x))

resumed_less : (rules : List Rule) (f : Frame) (o : Outcome) → both rules (resumed f o) ≤ both rules (Ended o) + rules_left rules f + 4
resumed_less rules f EndedWell = omega arith
resumed_less rules f (Failed x) = omega arith
resumed_less rules f (Halted x) = omega arith
resumed_less rules f NoneApplied = omega arith

-- ---- moves

pub move_fewer : (rules : List Rule) (m : Frames) → events_left rules (move rules m) ≤ events_left rules m
move_fewer rules m = by_control m.control refl
  where
    counts : ℕ
    counts = counted_left rules m.begun

    stays : (c : Control) → m.control ≡ c → events_left rules (record m { control = c }) ≤ events_left rules m
    stays c is = omega (arith, ap (both rules) is, ap (λ x. halt_left (may_go_on x)) is, ap (control_left rules) is)

    by_step : (f : Frame) (b : Bool) → m.control ≡ GoesOn f
        → events_left rules (elim b [ true ↦ record m { control = GoesOn f } | false ↦ record m { undo = take f.base m.undo; control = Ended EndedWell } ]) ≤ events_left rules m
    by_step f true is = stays (GoesOn f) is
    by_step f false is = omega (arith, length-take f.base m.undo, ap (λ x. halt_left (may_go_on x)) is, ap (control_left rules) is)

    by_undo : (f : Frame) (x : Failure) (halts b : Bool) → m.control ≡ Fails f x halts
        → events_left rules (elim b [ true ↦ record m { control = Fails f x halts } | false ↦ record m { control = rule_failed rules f x halts m.stopped } ]) ≤ events_left rules m
    by_undo f x halts true is = stays (Fails f x halts) is
    by_undo f x halts false is = omega (arith, failed_less rules f x halts m.stopped, ap (λ x. halt_left (may_go_on x)) is, ap (control_left rules) is)

    by_waiting : (o : Outcome) (ws : List Frame) → m.control ≡ Ended o → m.waiting ≡ ws → events_left rules (taken_up m o ws) ≤ events_left rules m
    by_waiting o [] is e = stays (Ended o) is
    by_waiting o (f ∷ fs) is e = omega (arith, resumed_less rules f o, ap (λ x. halt_left (may_go_on x)) is, ap (control_left rules) is, ap (frames_left rules) e)

    by_control : (c : Control) → m.control ≡ c → events_left rules (move_by rules m c) ≤ events_left rules m
    by_control (Tests f last) is = stays (Tests f last) is
    by_control (GoesOn f) is = by_step f (nat_lt f.step (length (rule_at rules f.rule).steps)) is
    by_control (Fails f x halts) is = by_undo f x halts (nat_lt f.base (length m.undo)) is
    by_control (Runs c) is = stays (Runs c) is
    by_control (Ended o) is = by_waiting o m.waiting is refl

-- ---- a step

-- one more step is one fewer that may begin
step_counted : (rules : List Rule) (begun : ℕ) → begun + 1 ≤ most_steps → counted_left rules begun ≡ counted_left rules (begun + 1) + (4 * length rules + 7)
step_counted rules begun few =
    ap (λ n. n * (4 * length rules + 7)) (less begun few) ∙ suc-mul (most_steps + 1 - (begun + 1)) (4 * length rules + 7)
  where
    less : (b : ℕ) → b + 1 ≤ most_steps → most_steps + 1 - b ≡ suc (most_steps + 1 - (b + 1))
    less b few = omega (arith, few)

-- and it is no more in any case
step_more : (rules : List Rule) (begun : ℕ) → counted_left rules (begun + 1) ≤ counted_left rules begun
step_more rules begun = mul-le-mul_right (4 * length rules + 7) (omega arith)

first_less : (rules : List Rule) (o : Option ℕ) (c : Call) → both rules (first_rule o c) ≤ 10 + 4 * length rules + 4
first_less rules None c = omega arith
first_less rules (Some i) c = omega arith

control_less : (rules : List Rule) (n : ℕ) (c : Call) (k : Kind) → both rules (control_of rules n c k) ≤ 10 + 4 * length rules + 4
control_less rules n c Cut = omega arith
control_less rules n c Succeed = omega arith
control_less rules n c (Fail z) = omega arith
control_less rules n c Serve = omega arith
control_less rules n c Name = by_depth (nat_lt n deepest)
  where
    by_depth : (b : Bool) → both rules (elim b [ true ↦ first_rule (next_named rules c.name 0) c | false ↦ Ended (Failed Depth) ]) ≤ 10 + 4 * length rules + 4
    by_depth true = first_less rules (next_named rules c.name 0) c
    by_depth false = omega arith

own_less : (r : Option Call) → length (option_to_list r) ≤ 1
own_less None = omega arith
own_less (Some c) = omega arith

-- ---- events

pub next_fewer : (rules : List Rule) (m : Frames) (e : Event) (k : Kind) → IsUsable rules m → IsMet (asked m) e → events_left rules (next rules m e k) < events_left rules m
next_fewer rules m e k usable met = by_control m.control e refl usable.settled usable.there met
  where
    -- what the machine has, where it waits for this
    before : Control → ℕ
    before c = counted_left rules m.begun + both rules c + length m.undo + frames_left rules m.waiting

    is_before : (c : Control) → m.control ≡ c → events_left rules m ≡ before c
    is_before c is = omega (arith, ap (λ x. halt_left (may_go_on x)) is, ap (control_left rules) is)

    step_kind : (f : Frame) (c : Call) (r : Option Call) (k : Kind) → m.begun + 1 ≤ most_steps
        → events_left rules (step_by rules (record m { undo = m.undo ++ option_to_list r; begun = m.begun + 1 }) f c k) < before (GoesOn f)
    step_kind f c r Cut few = omega (arith, own_less r, length-append m.undo (option_to_list r), step_counted rules m.begun few)
    step_kind f c r Succeed few = omega (arith, own_less r, length-append m.undo (option_to_list r), step_counted rules m.begun few, length-take f.base (m.undo ++ option_to_list r))
    step_kind f c r (Fail z) few = omega (arith, own_less r, length-append m.undo (option_to_list r), step_counted rules m.begun few)
    step_kind f c r Serve few = omega (arith, own_less r, length-append m.undo (option_to_list r), step_counted rules m.begun few)
    step_kind f c r Name few =
        omega (arith, own_less r, length-append m.undo (option_to_list r), step_counted rules m.begun few, control_less rules (suc (length m.waiting)) c Name)

    by_budget : (f : Frame) (c : Call) (r : Option Call) (k : Kind) (b : Bool) → nat_le (m.begun + 1) most_steps ≡ b
        → let n : Frames = record m { undo = m.undo ++ option_to_list r; begun = m.begun + 1 } in
        events_left rules (elim b [ true ↦ step_by rules n f c k | false ↦ waiting_for n f (Ended (Halted Spent)) ]) < before (GoesOn f)
    by_budget f c r k true is = step_kind f c r k (leb-true (m.begun + 1) most_steps is)
    by_budget f c r k false is = omega (arith, own_less r, length-append m.undo (option_to_list r), step_more rules m.begun)

    by_control : (c : Control) (e : Event) → m.control ≡ c → is_settled_by rules m c ≡ true → IsThere rules c → IsMet (asked_by m.by_itself c) e → events_left rules (next_by rules m c e k) < events_left rules m
    by_control (Tests f last) (Tested true) is settled there met = omega (arith, is_before (Tests f last) is)
    by_control (Tests f last) (Tested false) is settled there met = omega (arith, is_before (Tests f last) is, next_less rules f last)
    by_control (Tests f last) (Computed c r) is settled there met = absurd met
    by_control (Tests f last) event.LongText is settled there met = absurd met
    by_control (Tests f last) (Ran r) is settled there met = absurd met
    by_control (Tests f last) (Undone y) is settled there met = absurd met
    by_control (GoesOn f) (Computed c r) is settled there met =
        omega (arith, is_before (GoesOn f) is, by_budget (record f { step = suc f.step }) c r k (nat_le (m.begun + 1) most_steps) refl)
    by_control (GoesOn f) event.LongText is settled there met = omega (arith, is_before (GoesOn f) is, step_more rules m.begun)
    by_control (GoesOn f) (Tested b) is settled there met = absurd met
    by_control (GoesOn f) (Ran r) is settled there met = absurd met
    by_control (GoesOn f) (Undone y) is settled there met = absurd met
    by_control (Fails f x halts) (Undone y) is settled there met = by_stop (was_stopped y) met
      where
        by_stop : (b : Bool) → b ≡ false
            → events_left rules (elim b as (λ _. Frames) [ true ↦ record m { control = Fails f x halts; stopped = true } | false ↦ record m { control = Fails f x halts; undo = take (length m.undo - 1) m.undo } ]) < events_left rules m
        by_stop true e = absurd (cc e)
        by_stop false e = omega (arith, is_before (Fails f x halts) is, ltb-true f.base (length m.undo) settled, length-take (length m.undo - 1) m.undo)
    by_control (Fails f x halts) (Tested b) is settled there met = absurd met
    by_control (Fails f x halts) (Computed c r) is settled there met = absurd met
    by_control (Fails f x halts) event.LongText is settled there met = absurd met
    by_control (Fails f x halts) (Ran r) is settled there met = absurd met
    by_control (Runs d) (Ran (Ok u)) is settled there met = omega (arith, is_before (Runs d) is)
    by_control (Runs d) (Ran (Err x)) is settled there met = by_halt (is_stopped x || m.stopped)
      where
        by_halt : (b : Bool) → events_left rules (record m { stopped = is_stopped x || m.stopped; control = Ended (failed_as x b) }) < events_left rules m
        by_halt true = omega (arith, is_before (Runs d) is)
        by_halt false = omega (arith, is_before (Runs d) is)
    by_control (Runs d) (Tested b) is settled there met = absurd met
    by_control (Runs d) (Computed c r) is settled there met = absurd met
    by_control (Runs d) event.LongText is settled there met = absurd met
    by_control (Runs d) (Undone y) is settled there met = absurd met
    by_control (Ended o) e is settled there met = absurd (at_end e met)
      where
        at_end : (e : Event) → IsMet (asked_by m.by_itself (Ended o)) e → ⊥
        at_end (Tested b) h = h
        at_end (Computed c r) h = h
        at_end event.LongText h = h
        at_end (Ran r) h = h
        at_end (Undone y) h = h
