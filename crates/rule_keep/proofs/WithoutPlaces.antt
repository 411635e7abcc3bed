-- The causes for which rules are refused do not depend on the places of their parts.
use Rattle.std.proofs.Common.{◌≡◌, ℕ, zero, suc, Bool, true, false, List, [], ◌∷◌, ◌++◌, length, map, None, Some, refl, sym, ap, ◌∙◌}
use Rattle.std.specs.Prelude.{not, ◌&&◌, Option, option_map, slice_get}
use Rattle.std.specs.List.{flat_map}
use Rattle.std.specs.Option.{option_map_or}
use Rattle.grid_model.specs.Bounds.{most_rules}
use Rattle.grid_model.specs.Checks.{Fault, KnownNames, argument_faults, call_faults, condition_faults, count_faults, fault_if, first_fault, first_texts}
use Rattle.grid_model.specs.Checks.{is_argument_of, is_literal_of, is_rule, is_service, is_truth, known_in, literal_faults, recovery_faults, rule_faults}
use Rattle.grid_model.specs.Checks.{rules_faults, rule_takes, service_takes, shape_faults, sort_of, step_faults, takes}
use Rattle.grid_model.specs.Names.{Text}
use Rattle.grid_model.specs.Parsed.{CallAt, RuleAt, Shape, StepAt, Term, applied, literal, negated, number, parameter, session, truth}
use Rattle.grid_model.specs.Parsed.{plain, plain_call, plain_rule, plain_shape, plain_step}
use Rattle.grid_model.specs.RuleText as meaning
use Rattle.grid_model.specs.declared.refusal.RuleCause.{RuleCause}
use Rattle.grid_model.specs.declared.refusal.RuleCause.TheVariants.{TooManyRules}

abbrev causes : List Fault → List RuleCause
causes fs = map (λ f. f.1) fs

-- ---- the parts, all at place 0

abbrev shape_at : meaning.Expr → Shape
shape_at (meaning.literal t) = literal t
shape_at (meaning.number z) = number z
shape_at (meaning.truth b) = truth b
shape_at (meaning.parameter n) = parameter 0 n
shape_at (meaning.session n) = session 0 n
shape_at (meaning.negated e) = negated 0 (shape_at e)
shape_at (meaning.applied op a b) = applied op 0 (shape_at a) 0 (shape_at b)

abbrev term_at : meaning.Expr → Term
term_at e = record { place = 0; shape = shape_at e }

abbrev call_at : meaning.CallText → CallAt
call_at c = record { place = 0; name = c.name; args = map term_at c.args }

abbrev step_at : meaning.Step → StepAt
step_at s = record { place = 0; call = call_at s.call; recovery = option_map call_at s.recovery }

abbrev rule_at : meaning.Rule → RuleAt
rule_at r = record { place = 0; name = r.name; params = r.params; cond = option_map term_at r.cond; steps = map step_at r.steps }

-- ---- lists of faults

causes-append : (fs gs : List Fault) → causes (fs ++ gs) ≡ causes fs ++ causes gs
causes-append [] gs = refl
causes-append (f ∷ fs) gs = ap (λ l. f.1 ∷ l) (causes-append fs gs)

-- two lists of faults have the same causes
record Alike (fs gs : List Fault) : Type 0 where
  pub same : causes fs ≡ causes gs

-- two lists after one another have the causes of two others
joined : {fs gs hs ks : List Fault} → Alike fs hs → Alike gs ks → Alike (fs ++ gs) (hs ++ ks)
joined {fs = fs} {gs = gs} {hs = hs} {ks = ks} e g =
    record { same = causes-append fs gs ∙ ap (λ l. l ++ causes gs) e.same ∙ ap (λ l. causes hs ++ l) g.same ∙ sym (causes-append hs ks) }

nothing : Alike [] []
nothing = record { same = refl }

if_alike : (b : Bool) (p q : ℕ) (cause : RuleCause) → Alike (fault_if b p cause) (fault_if b q cause)
if_alike true p q cause = record { same = refl }
if_alike false p q cause = nothing

-- the same, where the tests are equal
if_same : (a b : Bool) (p q : ℕ) (cause : RuleCause) → a ≡ b → Alike (fault_if a p cause) (fault_if b q cause)
if_same a b p q cause e = record { same = ap (λ x. causes (fault_if x p cause)) e ∙ (if_alike b p q cause).same }

each_alike : {A M : Type 0} (f : A → List Fault) (strip : A → M) (put : M → A) → ((a : A) → Alike (f a) (f (put (strip a))))
    → (xs : List A) → Alike (flat_map f xs) (flat_map f (map put (map strip xs)))
each_alike f strip put alike [] = nothing
each_alike f strip put alike (x ∷ xs) = joined (alike x) (each_alike f strip put alike xs)

mapped_twice : {A M : Type 0} (strip : A → M) (put : M → A) (xs : List A) → length xs ≡ length (map put (map strip xs))
mapped_twice strip put [] = refl
mapped_twice strip put (x ∷ xs) = ap suc (mapped_twice strip put xs)

-- ---- expressions

sort_alike : (s : Shape) → sort_of s ≡ sort_of (shape_at (plain_shape s))
sort_alike (literal t) = refl
sort_alike (number z) = refl
sort_alike (truth b) = refl
sort_alike (parameter own n) = refl
sort_alike (session own n) = refl
sort_alike (negated p e) = refl
sort_alike (applied op p x q y) = refl

literal_alike : (ts : List Text) (s : Shape) → is_literal_of ts s ≡ is_literal_of ts (shape_at (plain_shape s))
literal_alike ts (literal t) = refl
literal_alike ts (number z) = refl
literal_alike ts (truth b) = refl
literal_alike ts (parameter own n) = refl
literal_alike ts (session own n) = refl
literal_alike ts (negated p e) = refl
literal_alike ts (applied op p x q y) = refl

module _ (k : KnownNames) where
  shape_alike : (p q : ℕ) (s : Shape) → Alike (shape_faults k p s) (shape_faults k q (shape_at (plain_shape s)))
  shape_alike p q (literal t) = nothing
  shape_alike p q (number z) = nothing
  shape_alike p q (truth b) = nothing
  shape_alike p q (parameter own n) = if_alike _ own 0 _
  shape_alike p q (session own n) = if_alike _ own 0 _
  shape_alike p q (negated at e) = joined (if_same _ _ p q _ (ap (λ s. not (is_truth s)) (sort_alike e))) (shape_alike at 0 e)
  shape_alike p q (applied op a x b y) =
      joined
      (joined
      (if_same _ _ p q _ (ap (λ s. not (takes op s (sort_of y))) (sort_alike x)
      ∙ ap (λ s. not (takes op (sort_of (shape_at (plain_shape x))) s)) (sort_alike y)))
      (shape_alike a 0 x))
      (shape_alike b 0 y)

  argument_alike : (n : Text) (e : Term) → Alike (argument_faults k n e) (argument_faults k n (term_at (plain e)))
  argument_alike n e = joined (if_same _ _ e.place 0 _ (ap (λ s. not (is_argument_of n s)) (sort_alike e.shape))) (shape_alike e.place 0 e.shape)

  condition_alike : (o : Option Term) → Alike (condition_faults k o) (condition_faults k (option_map term_at (option_map plain o)))
  condition_alike None = nothing
  condition_alike (Some e) = joined (if_same _ _ e.place 0 _ (ap (λ s. not (is_truth s)) (sort_alike e.shape))) (shape_alike e.place 0 e.shape)

  first_alike : (o : Option (List Text)) (args : List Term) → Alike (literal_faults o args) (literal_faults o (map term_at (map plain args)))
  first_alike None args = nothing
  first_alike (Some ts) [] = nothing
  first_alike (Some ts) (e ∷ es) = if_same _ _ e.place 0 _ (ap not (literal_alike ts e.shape))

  -- ---- calls, steps and rules

  module _ (all : List meaning.Rule) where
    call_alike : (c : CallAt) → Alike (call_faults all k c) (call_faults all k (call_at (plain_call c)))
    call_alike c =
        joined
        (joined
        (joined
        (joined
        (if_alike _ c.place 0 _)
        (if_same _ _ c.place 0 _ (ap (λ n. is_service c.name && not (service_takes c.name n)) same_count)))
        (if_same _ _ c.place 0 _ (ap (λ n. not (is_service c.name) && is_rule all c.name && not (rule_takes all c.name n)) same_count)))
        (first_alike (first_texts c.name) c.args))
        (each_alike (argument_faults k c.name) plain term_at (argument_alike c.name) c.args)
      where
        same_count : length c.args ≡ length (map term_at (map plain c.args))
        same_count = mapped_twice plain term_at c.args

    recovery_alike : (o : Option CallAt) → Alike (recovery_faults all k o) (recovery_faults all k (option_map call_at (option_map plain_call o)))
    recovery_alike None = nothing
    recovery_alike (Some c) = joined (if_alike _ c.place 0 _) (call_alike c)

    step_alike : (s : StepAt) → Alike (step_faults all k s) (step_faults all k (step_at (plain_step s)))
    step_alike s = joined (call_alike s.call) (recovery_alike s.recovery)

rule_alike : (all : List meaning.Rule) (r : RuleAt) → Alike (rule_faults all r) (rule_faults all (rule_at (plain_rule r)))
rule_alike all r =
    joined
    (joined
    (joined (joined (joined (if_alike _ r.place 0 _) (if_alike _ r.place 0 _)) (if_alike _ r.place 0 _)) (if_alike _ r.place 0 _))
    (condition_alike (known_in r) r.cond))
    (each_alike (step_faults all (known_in r)) plain_step step_at (step_alike (known_in r) all) r.steps)

abbrev too_many : Option RuleAt → List Fault
too_many o = option_map_or (λ (r : RuleAt). (r.place, TooManyRules) ∷ []) o []

count_alike : (i : ℕ) (rs : List RuleAt) → Alike (too_many (slice_get rs i)) (too_many (slice_get (map rule_at (map plain_rule rs)) i))
count_alike i [] = nothing
count_alike zero (r ∷ rs) = record { same = refl }
count_alike (suc i) (r ∷ rs) = count_alike i rs

-- ---- the rules of a text

-- the causes by what the rules mean
abbrev plain_causes : List meaning.Rule → List RuleCause
plain_causes ms = causes (count_faults (map rule_at ms) ++ flat_map (rule_faults ms) (map rule_at ms))

rules_alike : (rs : List RuleAt) → causes (rules_faults rs) ≡ plain_causes (map plain_rule rs)
rules_alike rs = (joined (count_alike most_rules rs) (each_alike (rule_faults (map plain_rule rs)) plain_rule rule_at (rule_alike (map plain_rule rs)) rs)).same

no_cause : (fs : List Fault) → causes fs ≡ [] → first_fault fs ≡ None
no_cause [] e = refl
no_cause (f ∷ fs) e = absurd (cc e)

no_fault : (fs : List Fault) → first_fault fs ≡ None → causes fs ≡ []
no_fault [] e = refl
no_fault (f ∷ fs) e = absurd (cc e)

-- Rules that mean the same have a fault both or none.
pub faultless_alike : (rs qs : List RuleAt) → map plain_rule rs ≡ map plain_rule qs → first_fault (rules_faults rs) ≡ None
    → first_fault (rules_faults qs) ≡ None
faultless_alike rs qs same none = no_cause _ (rules_alike qs ∙ ap plain_causes (sym same) ∙ sym (rules_alike rs) ∙ no_fault _ none)
