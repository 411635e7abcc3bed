-- Moves come to an end, and keep what is still to be done.
use Rattle.std.proofs.Common.{◌≡◌, ℕ, suc, ◌<◌, ◌≤◌, ◌+◌, ◌*◌, Bool, true, false, cond, List, [], ◌∷◌, length, take, Option, Some, None, refl, sym, ◌∙◌, ap, subst, arith}
use Rattle.std.specs.Prelude.{nat_lt, not}
use Rattle.std.proofs.lemmas.List.{length-take}
use Rattle.grid_model.specs.RuleText.{Rule}
use Rattle.grid_model.specs.declared.refusal.Failure.{Failure}
use Rattle.chain_core.specs.declared.actions.Outcome.{Outcome}
use Rattle.chain_core.specs.declared.actions.Outcome.TheVariants.{EndedWell, Failed, Halted, NoneApplied}
use Rattle.chain_core.specs.declared.stack.Frame.{Frame}
use Rattle.chain_core.specs.declared.frames.Control.{Control}
use Rattle.chain_core.specs.declared.frames.Control.TheVariants.{Tests, GoesOn, Fails, Runs, Ended}
use Rattle.chain_core.specs.declared.frames.Frames.{Frames}
use Rattle.chain_core.specs.Rest.{rule_at}
use Rattle.chain_core.specs.Moves.{move, move_by, next_rule, next_named, at_next, rule_failed, resumed, taken_up}
use Rattle.chain_core.specs.Answers.{none_waits, is_settled, is_settled_by, ListsRecoveries, IsThere, AreNested, running_frames}
use Rattle.chain_core.specs.Settling.{KeepsRest}
use Rattle.chain_core.proofs.Fewer.{move_fewer}
use Rattle.chain_core.proofs.Moving.{move_keeps, IsBelow, next_below}

-- ---- moves come to an end

-- how far a control is from one that waits for the outside
abbrev pub weight_of : Control → ℕ
weight_of (Tests f last) = 0
weight_of (GoesOn f) = 2
weight_of (Fails f x halts) = 2
weight_of (Runs c) = 0
weight_of (Ended o) = 1

abbrev pub weight : Frames → ℕ
weight m = 2 * length m.waiting + weight_of m.control

next_light : (o : Option ℕ) (f : Frame) (last : Option Failure) → weight_of (at_next o f last) ≤ 1
next_light None f last = omega arith
next_light (Some i) f last = omega arith

failed_light : (rules : List Rule) (f : Frame) (x : Failure) (halts stopped : Bool) → weight_of (rule_failed rules f x halts stopped) ≤ 1
failed_light rules f x halts true = omega arith
failed_light rules f x true false = omega arith
failed_light rules f x false false = by_cut f.cut
  where
    by_cut : (b : Bool) → weight_of (elim b [ true ↦ Ended (Failed x) | false ↦ next_rule rules f (Some x) ]) ≤ 1
    by_cut true = omega arith
    by_cut false = next_light (next_named rules f.name (suc f.rule)) f (Some x)

resumed_weight : (f : Frame) (o : Outcome) → weight_of (resumed f o) ≡ 2
resumed_weight f EndedWell = refl
resumed_weight f (Failed x) = refl
resumed_weight f (Halted x) = refl
resumed_weight f NoneApplied = refl

-- a machine that does not wait comes nearer to it, and one that waits stays
abbrev pub Nears : List Rule → Frames → Bool → Frames → Type 0
Nears rules m true n = n ≡ m
Nears rules m false n = weight n < weight m

pub move_nears : (rules : List Rule) (m : Frames) → Nears rules m (is_settled rules m) (move rules m)
move_nears rules m = by_control m.control refl
  where
    stays : (c : Control) → m.control ≡ c → record m { control = c } ≡ m
    stays c is = ap (λ x. record m { control = x }) (sym is)

    by_step : (f : Frame) (b : Bool) → m.control ≡ GoesOn f
        → Nears rules m b (elim b [ true ↦ record m { control = GoesOn f } | false ↦ record m { undo = take f.base m.undo; control = Ended EndedWell } ])
    by_step f true is = stays (GoesOn f) is
    by_step f false is = omega (arith, ap weight_of is)

    by_undo : (f : Frame) (x : Failure) (halts b : Bool) → m.control ≡ Fails f x halts
        → Nears rules m b (elim b [ true ↦ record m { control = Fails f x halts } | false ↦ record m { control = rule_failed rules f x halts m.stopped } ])
    by_undo f x halts true is = stays (Fails f x halts) is
    by_undo f x halts false is = omega (arith, failed_light rules f x halts m.stopped, ap weight_of is)

    by_waiting : (o : Outcome) (ws : List Frame) → m.control ≡ Ended o → m.waiting ≡ ws → Nears rules m (none_waits ws) (taken_up m o ws)
    by_waiting o [] is e = stays (Ended o) is
    by_waiting o (f ∷ fs) is e = omega (arith, resumed_weight f o, ap weight_of is, ap length e)

    by_control : (c : Control) → m.control ≡ c → Nears rules m (is_settled_by rules m c) (move_by rules m c)
    by_control (Tests f last) is = stays (Tests f last) is
    by_control (GoesOn f) is = by_step f (nat_lt f.step (length (rule_at rules f.rule).steps)) is
    by_control (Fails f x halts) is = by_undo f x halts (nat_lt f.base (length m.undo)) is
    by_control (Runs c) is = stays (Runs c) is
    by_control (Ended o) is = by_waiting o m.waiting is refl

-- ---- moves keep the frames' shares of the list

pub nested_more : (fs : List Frame) (n k : ℕ) → AreNested fs n → n ≤ k → AreNested fs k
nested_more [] n k is le = tt
nested_more (f ∷ fs) n k is le = (omega (arith, is.0, le), is.1)

-- a list that is cut back to where a frame began
pub nested_cut : {A : Type 0} (fs : List Frame) (n : ℕ) (xs : List A) → n ≤ length xs → AreNested fs n → AreNested fs (length (take n xs))
nested_cut fs n xs le is = subst (AreNested fs) (omega (arith, length-take n xs, le)) is

pub next_waits : (m : Frames) (o : Option ℕ) (f : Frame) (last : Option Failure) → running_frames m (at_next o f last) ≡ m.waiting
next_waits m None f last = refl
next_waits m (Some i) f last = refl

failed_waits : (rules : List Rule) (m : Frames) (f : Frame) (x : Failure) (halts stopped : Bool) → running_frames m (rule_failed rules f x halts stopped) ≡ m.waiting
failed_waits rules m f x halts true = refl
failed_waits rules m f x true false = refl
failed_waits rules m f x false false = by_cut f.cut
  where
    by_cut : (b : Bool) → running_frames m (elim b [ true ↦ Ended (Failed x) | false ↦ next_rule rules f (Some x) ]) ≡ m.waiting
    by_cut true = refl
    by_cut false = next_waits m (next_named rules f.name (suc f.rule)) f (Some x)

resumed_runs : (m : Frames) (f : Frame) (o : Outcome) → running_frames m (resumed f o) ≡ f ∷ m.waiting
resumed_runs m f EndedWell = refl
resumed_runs m f (Failed x) = refl
resumed_runs m f (Halted x) = refl
resumed_runs m f NoneApplied = refl

pub move_sound : (rules : List Rule) (m : Frames) → ListsRecoveries m → ListsRecoveries (move rules m)
move_sound rules m = by_control m.control
  where
    Sound : Control → Type 0
    Sound c = AreNested (running_frames m c) (length m.undo)

    by_step : (f : Frame) (b : Bool) → Sound (GoesOn f) → ListsRecoveries (elim b [ true ↦ record m { control = GoesOn f } | false ↦ record m { undo = take f.base m.undo; control = Ended EndedWell } ])
    by_step f true is = is
    by_step f false is = nested_cut m.waiting f.base m.undo is.0 is.1

    by_undo : (f : Frame) (x : Failure) (halts b : Bool) → Sound (Fails f x halts)
        → ListsRecoveries (elim b [ true ↦ record m { control = Fails f x halts } | false ↦ record m { control = rule_failed rules f x halts m.stopped } ])
    by_undo f x halts true is = is
    by_undo f x halts false is =
        subst (λ fs. AreNested fs (length m.undo)) (sym (failed_waits rules (record m { control = rule_failed rules f x halts m.stopped }) f x halts m.stopped))
        (nested_more m.waiting f.base (length m.undo) is.1 is.0)

    by_waiting : (o : Outcome) (ws : List Frame) → AreNested ws (length m.undo) → m.waiting ≡ ws → ListsRecoveries (taken_up m o ws)
    by_waiting o [] is e = subst (λ ws. AreNested ws (length m.undo)) (sym e) tt
    by_waiting o (f ∷ fs) is e = subst (λ ws. AreNested ws (length m.undo)) (sym (resumed_runs (record m { waiting = fs; control = resumed f o }) f o)) is

    by_control : (c : Control) → Sound c → ListsRecoveries (move_by rules m c)
    by_control (Tests f last) is = is
    by_control (GoesOn f) is = by_step f (nat_lt f.step (length (rule_at rules f.rule).steps)) is
    by_control (Fails f x halts) is = by_undo f x halts (nat_lt f.base (length m.undo)) is
    by_control (Runs c) is = is
    by_control (Ended o) is = by_waiting o m.waiting is refl

-- ---- a rule that is tested is there

next_there : (rules : List Rule) (o : Option ℕ) (f : Frame) (last : Option Failure) → IsBelow rules o → IsThere rules (at_next o f last)
next_there rules None f last is = tt
next_there rules (Some i) f last is = is

pub rule_there : (rules : List Rule) (f : Frame) (last : Option Failure) → IsThere rules (next_rule rules f last)
rule_there rules f last = next_there rules (next_named rules f.name (suc f.rule)) f last (next_below rules f.name (suc f.rule))

failed_there : (rules : List Rule) (f : Frame) (x : Failure) (halts stopped : Bool) → IsThere rules (rule_failed rules f x halts stopped)
failed_there rules f x halts true = tt
failed_there rules f x true false = tt
failed_there rules f x false false = by_cut f.cut
  where
    by_cut : (b : Bool) → IsThere rules (elim b [ true ↦ Ended (Failed x) | false ↦ next_rule rules f (Some x) ])
    by_cut true = tt
    by_cut false = rule_there rules f (Some x)

resumed_there : (rules : List Rule) (f : Frame) (o : Outcome) → IsThere rules (resumed f o)
resumed_there rules f EndedWell = tt
resumed_there rules f (Failed x) = tt
resumed_there rules f (Halted x) = tt
resumed_there rules f NoneApplied = tt

move_there : (rules : List Rule) (m : Frames) → IsThere rules m.control → IsThere rules (move rules m).control
move_there rules m = by_control m.control
  where
    by_step : (f : Frame) (b : Bool) → IsThere rules (elim b as (λ _. Frames) [ true ↦ record m { control = GoesOn f } | false ↦ record m { undo = take f.base m.undo; control = Ended EndedWell } ]).control
    by_step f true = tt
    by_step f false = tt

    by_undo : (f : Frame) (x : Failure) (halts b : Bool)
        → IsThere rules (elim b as (λ _. Frames) [ true ↦ record m { control = Fails f x halts } | false ↦ record m { control = rule_failed rules f x halts m.stopped } ]).control
    by_undo f x halts true = tt
    by_undo f x halts false = failed_there rules f x halts m.stopped

    by_waiting : (o : Outcome) (ws : List Frame) → IsThere rules (taken_up m o ws).control
    by_waiting o [] = tt
    by_waiting o (f ∷ fs) = resumed_there rules f o

    by_control : (c : Control) → IsThere rules c → IsThere rules (move_by rules m c).control
    by_control (Tests f last) is = is
    by_control (GoesOn f) is = by_step f (nat_lt f.step (length (rule_at rules f.rule).steps))
    by_control (Fails f x halts) is = by_undo f x halts (nat_lt f.base (length m.undo))
    by_control (Runs c) is = tt
    by_control (Ended o) is = by_waiting o m.waiting

-- ---- the loop

-- a move changes neither count
abbrev SameCounts : Frames → Frames → Type 0
SameCounts m n = (n.begun ≡ m.begun) × (n.stopped ≡ m.stopped)

move_counts : (rules : List Rule) (m : Frames) → SameCounts m (move rules m)
move_counts rules m = by_control m.control
  where
    by_test : (b : Bool) (x y : Frames) → SameCounts m x → SameCounts m y → SameCounts m (elim b [ true ↦ x | false ↦ y ])
    by_test true x y h k = h
    by_test false x y h k = k

    by_waiting : (o : Outcome) (ws : List Frame) → SameCounts m (taken_up m o ws)
    by_waiting o [] = (refl, refl)
    by_waiting o (f ∷ fs) = (refl, refl)

    by_control : (c : Control) → SameCounts m (move_by rules m c)
    by_control (Tests f last) = (refl, refl)
    by_control (GoesOn f) = by_test (nat_lt f.step (length (rule_at rules f.rule).steps)) _ _ (refl, refl) (refl, refl)
    by_control (Fails f x halts) = by_test (nat_lt f.base (length m.undo)) _ _ (refl, refl) (refl, refl)
    by_control (Runs c) = (refl, refl)
    by_control (Ended o) = by_waiting o m.waiting

pub keeps_move : (rules : List Rule) (old m : Frames) → KeepsRest rules old m → KeepsRest rules old (move rules m)
keeps_move rules old m kept = record {
  same = λ env s. move_keeps rules env m s ∙ kept.same env s;
  sound = λ is. move_sound rules m (kept.sound is);
  there = λ is. move_there rules m (kept.there is);
  begun = (move_counts rules m).0 ∙ kept.begun;
  stopped = (move_counts rules m).1 ∙ kept.stopped;
  fewer = omega (arith, move_fewer rules m, kept.fewer);
}

pub keeps_all : (rules : List Rule) (m : Frames) → KeepsRest rules m m
keeps_all rules m = record { same = λ env s. refl; sound = λ is. is; there = λ is. is; begun = refl; stopped = refl; fewer = omega arith }

-- what one turn says of the next: it stays where it waits, and is nearer to it where it does not
pub turn_settled : (rules : List Rule) (m n : Frames) (going : Bool) → n ≡ move rules m → going ≡ not (is_settled rules m) → going ≡ false → is_settled rules n ≡ true
turn_settled rules m n going is same done = by_settled (is_settled rules m) refl (move_nears rules m)
  where
    by_settled : (b : Bool) → is_settled rules m ≡ b → Nears rules m b (move rules m) → is_settled rules n ≡ true
    by_settled true e near = ap (is_settled rules) (is ∙ near) ∙ e
    by_settled false e near = absurd (cc (same, done, ap not e))

pub turn_nears : (rules : List Rule) (m n : Frames) (going : Bool) → n ≡ move rules m → going ≡ not (is_settled rules m) → 2 * weight n + cond going 1 0 < 2 * weight m + 1
turn_nears rules m n going is same = subst (λ x. 2 * weight x + cond going 1 0 < 2 * weight m + 1) (sym is) (by_settled (is_settled rules m) same (move_nears rules m))
  where
    by_settled : (b : Bool) → going ≡ not b → Nears rules m b (move rules m) → 2 * weight (move rules m) + cond going 1 0 < 2 * weight m + 1
    by_settled true e near = subst (λ g. 2 * weight (move rules m) + cond g 1 0 < 2 * weight m + 1) (sym e) (omega (arith, ap weight near))
    by_settled false e near = subst (λ g. 2 * weight (move rules m) + cond g 1 0 < 2 * weight m + 1) (sym e) (omega (arith, near))
