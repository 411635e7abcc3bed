-- What is found in the parts of a call or a rule is what is wrong with the whole.
use Rattle.std.proofs.Common.{◌≡◌, ◌<◌, ◌≤◌, get_or, List, [], ◌∷◌, ◌++◌, length, map, Option, Some, None, refl, sym, ap, subst, ◌∙◌}
use Rattle.std.specs.Prelude.{codes, option_map}
use Rattle.std.specs.List.{flat_map}
use Rattle.std.proofs.lemmas.List.{length-map}
use Rattle.std.proofs.lemmas.Option.{slice_get-map, slice_get_past, slice_get_read}
use Rattle.grid_model.specs.Checks.{Fault, argument_faults, call_faults, condition_faults, count_faults, exec_faults, first_fault, first_texts, known_in, literal_faults, repeats, rule_faults, rules_faults, session_names, step_faults}
use Rattle.grid_model.specs.Checks as checks
use Rattle.grid_model.specs.Names.{Text}
use Rattle.grid_model.specs.Parsed.{call_of, rule_of, term_of}
use Rattle.grid_model.specs.RuleText as meaning
use Rattle.grid_model.specs.declared.refusal.RuleCause.TheVariants.{TooManyRules}
use Rattle.grid_model.specs.declared.rules.Call0.{Call0}
use Rattle.grid_model.specs.declared.rules.Expr.{Expr}
use Rattle.grid_model.specs.declared.rules.Rule.{Rule}
use Rattle.rule_check.specs.Faults.{least}
use Rattle.rule_check.specs.Rules.{head_faults, known_of, name_faults, steps_faults}
use Rattle.rule_check.specs.Tables.{without_places}
use Rattle.rule_check.specs.Words.{words}
use Rattle.rule_check.specs.declared.known.Known.{Known}
use Rattle.rule_check.proofs.Keeping.{least-append, least-nil}

-- faults of nothing first
pub literal_faults-none : (o : Option (List Text)) → literal_faults o [] ≡ []
literal_faults-none None = refl
literal_faults-none (Some ts) = refl

two : (a b c : Option Fault) (x y : List Fault) → b ≡ least a x → c ≡ least b y → c ≡ least a (x ++ y)
two a b c x y p q = q ∙ ap (λ o. least o y) p ∙ sym (least-append a x y)

pub call_joined : (rs : List meaning.Rule) (k : checks.KnownNames) (call : Call0) (name : Text) (args : List Expr) (a b c d : Option Fault) → name ≡ call.name → args ≡ call.args
    → b ≡ least a (name_faults rs name call.at (length args))
    → c ≡ least b (literal_faults (first_texts name) (map term_of args))
    → d ≡ least c (flat_map (argument_faults k name) (map term_of args))
    → d ≡ least a (call_faults rs k (call_of call))
call_joined rs k call name args a b c d name_is args_is p q r =
    let count : length args ≡ length (map term_of call.args) = ap length args_is ∙ sym (length-map call.args term_of) in
    let p1 = subst (λ n. b ≡ least a (name_faults rs n call.at (length args))) name_is p in
    let p2 = subst (λ n. b ≡ least a (name_faults rs call.name call.at n)) count p1 in
    let q1 = subst (λ n. c ≡ least b (literal_faults (first_texts n) (map term_of args))) name_is q in
    let q2 = subst (λ es. c ≡ least b (literal_faults (first_texts call.name) (map term_of es))) args_is q1 in
    let r1 = subst (λ n. d ≡ least c (flat_map (argument_faults k n) (map term_of args))) name_is r in
    let r2 = subst (λ es. d ≡ least c (flat_map (argument_faults k call.name) (map term_of es))) args_is r1 in
    two a c d _ _ (two a b c _ _ p2 q2) r2

pub rule_joined : (rs : List meaning.Rule) (k : checks.KnownNames) (rule : Rule) (a b c d : Option Fault) → k ≡ known_in (rule_of rule)
    → b ≡ least a (head_faults rs rule.name rule.at (length rule.params) (repeats rule.params))
    → c ≡ least b (condition_faults k (option_map term_of rule.cond))
    → d ≡ least c (steps_faults rs k rule.steps)
    → d ≡ least a (rule_faults rs (rule_of rule))
rule_joined rs k rule a b c d known_is p q r =
    let q1 = subst (λ k. c ≡ least b (condition_faults k (option_map term_of rule.cond))) known_is q in
    let r1 = subst (λ k. d ≡ least c (steps_faults rs k rule.steps)) known_is r in
    two a c d _ _ (two a b c _ _ p q1) r1

-- ---- the number of rules

pub count-few : (rs : List Rule) (b : Option Fault) → length rs ≤ 1024 → b ≡ least b (count_faults (map rule_of rs))
count-few rs b few = rw (slice_get-map rule_of rs 1024, slice_get_past rs 1024 few) (least-nil b)

pub count-many : (rs : List Rule) (r : Rule) → 1024 < length rs → r ≡ get_or rs 1024 r → (r.at, TooManyRules) ∷ [] ≡ count_faults (map rule_of rs)
count-many rs r many is = rw (slice_get-map rule_of rs 1024, slice_get_read rs (length rs) 1024 r refl many is) refl

-- ---- what the expressions of a rule may name

pub same_known : (known : Known) (rule : Rule) → known.params.now ≡ rule.params → words known.sessions.now ≡ session_names → known_of known ≡ known_in (rule_of rule)
same_known known rule params sessions = λ i. record { params = params i; sessions = sessions i }

pub same_exec : (known : Known) → known.params.now ≡ [] → words known.sessions.now ≡ codes "userNameClient" ∷ [] → known_of known ≡ record { params = []; sessions = codes "userNameClient" ∷ [] }
same_exec known params sessions = λ i. record { params = params i; sessions = sessions i }

-- ---- all together

from_none : (fs : List Fault) → least None fs ≡ first_fault fs
unfolding least
from_none fs = refl

pub rules_joined : (rs : List Rule) (a b c : Option Fault) → a ≡ None → b ≡ least a (count_faults (map rule_of rs)) → c ≡ least b (flat_map (rule_faults (without_places rs)) (map rule_of rs)) → c ≡ first_fault (rules_faults (map rule_of rs))
rules_joined rs a b c none p q = two a b c _ _ p q ∙ ap (λ o. least o (rules_faults (map rule_of rs))) none ∙ from_none (rules_faults (map rule_of rs))

pub call_alone : (rs : List meaning.Rule) (k : checks.KnownNames) (call : Call0) (a b : Option Fault) → a ≡ None → k ≡ record { params = []; sessions = codes "userNameClient" ∷ [] } → b ≡ least a (call_faults rs k (call_of call)) → b ≡ first_fault (exec_faults rs (call_of call))
call_alone rs k call a b none known p =
    p
    ∙ ap (λ o. least o (call_faults rs k (call_of call))) none
    ∙ ap (λ k. least None (call_faults rs k (call_of call))) known
    ∙ from_none (exec_faults rs (call_of call))
