-- A move that asks for nothing changes nothing of what is still to be done.
use Rattle.std.proofs.Common.{◌≡◌, ℕ, zero, suc, cond, ◌<◌, Bool, true, false, List, [], ◌∷◌, ◌++◌, length, take, drop, get_or, Option, Some, None, refl, sym, ◌∙◌, ap, append-nil, arith}
use Rattle.std.proofs.lemmas.List.{take-append-drop, drop_all}
use Rattle.std.proofs.lemmas.Bool.{ltb-false}
use Rattle.std.specs.Prelude.{nat_lt}
use Rattle.grid_model.specs.Names.{Text, same_text}
use Rattle.grid_model.specs.RuleText.{Rule, Step}
use Rattle.grid_model.specs.Meanings.{Meaning, gives, ◌>>=◌, mapped}
use Rattle.grid_model.specs.Values.{Env}
use Rattle.grid_model.specs.Doing.{Course, back}
use Rattle.grid_model.specs.Chains
use Rattle.grid_model.specs.Chains.{Named, Caller, Chained, failed, halted, chain, undone, try_rules, rules_named, scope_of, after_chain}
use Rattle.grid_model.specs.declared.calls.Call.{Call}
use Rattle.grid_model.specs.declared.refusal.Failure.{Failure}
use Rattle.grid_model.specs.declared.refusal.Failure.TheVariants.{Stopped}
use Rattle.chain_core.specs.declared.actions.Outcome.{Outcome}
use Rattle.chain_core.specs.declared.actions.Outcome.TheVariants.{EndedWell, Failed, Halted, NoneApplied}
use Rattle.chain_core.specs.declared.stack.Frame.{Frame}
use Rattle.chain_core.specs.declared.frames.Control.{Control}
use Rattle.chain_core.specs.declared.frames.Control.TheVariants.{Tests, GoesOn, Fails, Runs, Ended}
use Rattle.chain_core.specs.declared.frames.Frames.{Frames}
use Rattle.chain_core.specs.Rest.{rest, rest_by, course, in_frames, rule_at, no_rule, later, last_of, outcome_of, caller_at, after_rule}
use Rattle.chain_core.specs.Moves.{first_at, next_named, at_next, next_rule, rule_failed, resumed, taken_up, move_by, move, ended_as}

-- ---- the next rule of a name

-- what the place says of the rules of a name
abbrev pub Finds : List Rule → Text → Option ℕ → List Rule → Type 0
Finds rules name None named = named ≡ []
Finds rules name (Some k) named = named ≡ rule_at rules k ∷ later rules name (suc k)

drop_head : {A : Type 0} (d : A) (xs : List A) (i : ℕ) (y : A) (ys : List A) → drop i xs ≡ y ∷ ys → (get_or xs i d ≡ y) × (drop (suc i) xs ≡ ys)
drop_head d [] zero y ys e = absurd (cc e)
drop_head d (x ∷ xs) zero y ys e = (cc e, cc e)
drop_head d [] (suc i) y ys e = absurd (cc e)
drop_head d (x ∷ xs) (suc i) y ys e = drop_head d xs i y ys e

finds : (rules : List Rule) (name : Text) (rs : List Rule) (i : ℕ) → drop i rules ≡ rs → Finds rules name (first_at rs name i) (rules_named rs name)
finds rules name [] i e = refl
finds rules name (r ∷ rs) i e = by_name (finds rules name rs (suc i) head.1) (same_text r.name name)
  where
    head : (get_or rules i no_rule ≡ r) × (drop (suc i) rules ≡ rs)
    head = drop_head no_rule rules i r rs e

    by_name : Finds rules name (first_at rs name (suc i)) (rules_named rs name) → (b : Bool)
        → Finds rules name (elim b [ true ↦ Some i | false ↦ first_at rs name (suc i) ]) (cond b (r ∷ rules_named rs name) (rules_named rs name))
    by_name there true = ap (λ x. x ∷ rules_named rs name) (sym head.0) ∙ ap (λ xs. rule_at rules i ∷ rules_named xs name) (sym head.1)
    by_name there false = there

pub finds_next : (rules : List Rule) (name : Text) (i : ℕ) → Finds rules name (next_named rules name i) (later rules name i)
finds_next rules name i = finds rules name (drop i rules) i refl

-- a rule that is found is there
abbrev pub IsBelow : List Rule → Option ℕ → Type 0
IsBelow rules None = Unit {0}
IsBelow rules (Some k) = k < length rules

drop_less : {A : Type 0} (xs : List A) (i : ℕ) (y : A) (ys : List A) → drop i xs ≡ y ∷ ys → i < length xs
drop_less [] zero y ys e = absurd (cc e)
drop_less (x ∷ xs) zero y ys e = omega arith
drop_less [] (suc i) y ys e = absurd (cc e)
drop_less (x ∷ xs) (suc i) y ys e = omega (arith, drop_less xs i y ys e)

is_below : (rules : List Rule) (name : Text) (rs : List Rule) (i : ℕ) → drop i rules ≡ rs → IsBelow rules (first_at rs name i)
is_below rules name [] i e = tt
is_below rules name (r ∷ rs) i e = by_name (is_below rules name rs (suc i) (drop_head no_rule rules i r rs e).1) (same_text r.name name)
  where
    by_name : IsBelow rules (first_at rs name (suc i)) → (b : Bool) → IsBelow rules (elim b [ true ↦ Some i | false ↦ first_at rs name (suc i) ])
    by_name there true = drop_less rules i r rs e
    by_name there false = there

pub next_below : (rules : List Rule) (name : Text) (i : ℕ) → IsBelow rules (next_named rules name i)
next_below rules name i = is_below rules name (drop i rules) i refl

-- ---- how a call by name goes on

-- the next rule of a name is what the rules that are left come to
pub next_is : (rules : List Rule) (env : Env) (m : Frames) (f : Frame) (last : Option Failure) (s : Course)
    → rest rules env (record m { control = next_rule rules f last }) s
    ≡ in_frames rules env m.by_itself m.waiting m.undo (try_rules (caller_at rules env (length m.waiting)) env f.args (later rules f.name (suc f.rule)) (last_of last) (course m s))
next_is rules env m f last s = by_next (next_named rules f.name (suc f.rule)) (later rules f.name (suc f.rule)) (finds_next rules f.name (suc f.rule))
  where
    all : List Rule → Meaning Named
    all rs = in_frames rules env m.by_itself m.waiting m.undo (try_rules (caller_at rules env (length m.waiting)) env f.args rs (last_of last) (course m s))

    ended : (x : Option Failure) → outcome_of (ended_as x) ≡ last_of x
    ended None = refl
    ended (Some x) = refl

    by_next : (o : Option ℕ) (rs : List Rule) → Finds rules f.name o rs → rest rules env (record m { control = at_next o f last }) s ≡ all rs
    by_next None rs e = ap (λ o. in_frames rules env m.by_itself m.waiting m.undo (gives (record { state = course m s; outcome = o }))) (ended last) ∙ ap all (sym e)
    by_next (Some i) rs e = ap all (sym e)

all_left : {A : Type 0} (n : ℕ) (xs : List A) → nat_lt n (length xs) ≡ false → drop n xs ≡ []
all_left n xs e = drop_all n xs (ltb-false n (length xs) e)

pub all_of : {A : Type 0} (n : ℕ) (xs : List A) → drop n xs ≡ [] → take n xs ≡ xs
all_of n xs e = sym (append-nil (take n xs)) ∙ ap (λ ys. take n xs ++ ys) (sym e) ∙ take-append-drop n xs

-- ---- each move

pub move_keeps : (rules : List Rule) (env : Env) (m : Frames) (s : Course) → rest rules env (move rules m) s ≡ rest rules env m s
move_keeps rules env m s = by_control m.control refl
  where
    by_step : (f : Frame) (b : Bool) → m.control ≡ GoesOn f → nat_lt f.step (length (rule_at rules f.rule).steps) ≡ b
        → rest rules env (elim b [ true ↦ record m { control = GoesOn f } | false ↦ record m { undo = take f.base m.undo; control = Ended EndedWell } ]) s ≡ rest_by rules env m (GoesOn f) (course m s)
    by_step f true is e = refl
    by_step f false is e = ap on (sym (all_left f.step (rule_at rules f.rule).steps e))
      where
        on : List Step → Meaning Named
        on steps = in_frames rules env m.by_itself m.waiting (take f.base m.undo)
            (chain (caller_at rules env (length m.waiting)) env.user (scope_of env f.args (rule_at rules f.rule)) steps (drop f.base m.undo) f.cut (course m s)
            >>= after_rule rules env (length m.waiting) f)

    by_undo : (f : Frame) (x : Failure) (halts b : Bool) → m.control ≡ Fails f x halts → nat_lt f.base (length m.undo) ≡ b
        → rest rules env (elim b [ true ↦ record m { control = Fails f x halts } | false ↦ record m { control = rule_failed rules f x halts m.stopped } ]) s ≡ rest_by rules env m (Fails f x halts) (course m s)
    by_undo f x halts true is e = refl
    by_undo f x halts false is e = by_stop m.stopped ∙ ap (on m.undo) (sym none) ∙ ap (λ us. on us (drop f.base m.undo)) (sym (all_of f.base m.undo none))
      where
        none : drop f.base m.undo ≡ []
        none = all_left f.base m.undo e

        on : List Call → List Call → Meaning Named
        on us ds = in_frames rules env m.by_itself m.waiting us (mapped (undone x halts f.cut) (back env.user ds (course m s)) >>= after_rule rules env (length m.waiting) f)

        chained : Chains.Outcome → Chained
        chained o = record { state = course m s; outcome = o; cut = f.cut }

        all : Chains.Outcome → Meaning Named
        all o = in_frames rules env m.by_itself m.waiting m.undo (after_rule rules env (length m.waiting) f (chained o))

        by_cut : (c : Bool) → rest rules env (record m { control = elim c [ true ↦ Ended (Failed x) | false ↦ next_rule rules f (Some x) ] }) s
            ≡ in_frames rules env m.by_itself m.waiting m.undo (elim c [
              | true ↦ gives (record { state = course m s; outcome = failed x })
              | false ↦ try_rules (caller_at rules env (length m.waiting)) env f.args (later rules f.name (suc f.rule)) (failed x) (course m s)
            ])
        by_cut true = refl
        by_cut false = next_is rules env m f (Some x) s

        by_halts : (h : Bool) → rest rules env (record m { control = rule_failed rules f x h false }) s ≡ all (elim h [ true ↦ halted x | false ↦ failed x ])
        by_halts true = refl
        by_halts false = by_cut f.cut

        by_stop : (b : Bool) → rest rules env (record m { control = rule_failed rules f x halts b }) s ≡ all (elim b [ true ↦ halted Stopped | false ↦ elim halts [ true ↦ halted x | false ↦ failed x ] ])
        by_stop true = refl
        by_stop false = by_halts halts

    by_waiting : (o : Outcome) (fs : List Frame) → m.control ≡ Ended o → m.waiting ≡ fs → rest rules env (taken_up m o fs) s ≡ rest_by rules env m (Ended o) (course m s)
    by_waiting o [] is e = refl
    by_waiting o (f ∷ fs) is e = by_outcome o ∙ ap (λ ws. in_frames rules env m.by_itself ws m.undo (gives (record { state = course m s; outcome = outcome_of o }))) (sym e)
      where
        by_outcome : (x : Outcome) → rest rules env (record m { waiting = fs; control = resumed f x }) s
            ≡ in_frames rules env m.by_itself (f ∷ fs) m.undo (gives (record { state = course m s; outcome = outcome_of x }))
        by_outcome EndedWell = refl
        by_outcome (Failed x) = refl
        by_outcome (Halted x) = refl
        by_outcome NoneApplied = refl

    by_control : (c : Control) → m.control ≡ c → rest rules env (move_by rules m c) s ≡ rest_by rules env m c (course m s)
    by_control (Tests f last) is = refl
    by_control (GoesOn f) is = by_step f (nat_lt f.step (length (rule_at rules f.rule).steps)) is refl
    by_control (Fails f x halts) is = by_undo f x halts (nat_lt f.base (length m.undo)) is refl
    by_control (Runs c) is = refl
    by_control (Ended o) is = by_waiting o m.waiting is refl
