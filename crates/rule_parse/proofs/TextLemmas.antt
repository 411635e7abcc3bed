-- What a text spells, and where it is refused: one answer each.
use Rattle.std.proofs.Common.{◌≡◌, ℕ, ◌<◌, List, Result, Ok, Err, length, map, refl, sym, ap, subst, ◌∙◌, inl, inr}
use Rattle.std.specs.Prelude.{◌⊎◌, IfOk, IsErrOf, MatchResult}
use Rattle.std.proofs.lemmas.Bool.{cases_order}
use Rattle.grid_model.specs.Names.{Text}
use Rattle.grid_model.specs.declared.refusal.RuleCause.{RuleCause}
use Rattle.grid_model.specs.declared.refusal.RuleCause.TheVariants as cause
use Rattle.grid_model.proofs.Refusals.{IsRefusedAt-unique}
use Rattle.rule_lex.specs.Places as lexed
use Rattle.rule_lex.specs.Tokens.{PlacedToken, SpellsRuleTokens}
use Rattle.rule_lex.proofs.OneReading.{one_list}
use Rattle.rule_parse.specs.declared.error.RuleError.{RuleError}
use Rattle.rule_parse.specs.declared.error.RuleError.TheVariants.{BadRule, Memory}
use Rattle.rule_parse.specs.Grammar.{Tokens}
use Rattle.rule_parse.specs.RuleTexts.{located, place_of_token, IsTextOf, RulesStopAt, IsRefusedText, no_tokens, no_grammar}
use Rattle.rule_parse.specs.Seen.{IsStop}

one_bad_token : {text : Text} {place other : ℕ} → lexed.IsSourceRefusedAt text place → lexed.IsSourceRefusedAt text other → place ≡ other
one_bad_token {place = place} {other = other} a b = by (cases_order place other)
  where
    by : (place ≡ other) ⊎ ((place < other) ⊎ (other < place)) → place ≡ other
    by (inl e) = e
    by (inr (inl less)) = absurd (a.longest other less b.within b.begins)
    by (inr (inr more)) = absurd (b.longest place more a.within a.begins)

error_is : {X : Type 0} {e f : RuleError} → IsErrOf {T = X} (Err e) f → e ≡ f
error_is h = cc

module _ {A : Type 0} (Spells : Tokens → A → Type 0) (one : (ts : Tokens) (a b : A) → Spells ts a → Spells ts b → a ≡ b) where
  pub one_value_of : {text : Text} {a b : A} → IsTextOf Spells text a → IsTextOf Spells text b → a ≡ b
  one_value_of {a = a} {b = b} h g = one (map located h.tokens) a b h.spells (subst (λ ts. Spells (map located ts) b) (one_list h.made g.made) g.spells)

  pub never_both : {text : Text} {place : ℕ} {c : RuleCause} {a : A} → IsRefusedText Spells text place c → IsTextOf Spells text a → ⊥
  never_both (no_tokens h) g = h.spells_nothing g.tokens g.made
  never_both {a = a} (no_grammar ts made stops) g = stops.refused.spells_nothing a (subst (λ us. Spells (map located us) a) (sym (one_list g.made made)) g.spells)

  one_stop : {ts : List PlacedToken} {end place other : ℕ} → RulesStopAt Spells ts end place → RulesStopAt Spells ts end other → place ≡ other
  one_stop {ts = ts} {end = end} a b = a.place_is ∙ ap (place_of_token ts end) (IsRefusedAt-unique Spells (map located ts) a.count b.count a.refused b.refused) ∙ sym b.place_is

  pub one_refusal : {text : Text} {place other : ℕ} {c d : RuleCause} → IsRefusedText Spells text place c → IsRefusedText Spells text other d → (place ≡ other) × (c ≡ d)
  one_refusal (no_tokens h) (no_tokens g) = (one_bad_token h g, refl)
  one_refusal (no_tokens h) (no_grammar us made stops) = absurd (h.spells_nothing us made)
  one_refusal (no_grammar ts made stops) (no_tokens g) = absurd (g.spells_nothing ts made)
  one_refusal {text = text} {other = other} (no_grammar ts made stops) (no_grammar us also others) = (one_stop stops (subst (λ vs. RulesStopAt Spells vs (length text) other) (one_list made also) others), refl)

  -- ---- what a reader answers

  module _ {X : Type 0} (view : X → A) where
    pub record IsRight (r : Result X RuleError) (text : Text) : Type 0 where
      pub read : IfOk r (λ x. IsTextOf Spells text (view x))
      pub bad : (place : ℕ) (c : RuleCause) → IsErrOf r (BadRule place c) → IsRefusedText Spells text place c

    read_of : (r : Result X RuleError) (text : Text) (ts : List PlacedToken) → SpellsRuleTokens 0 text ts → IfOk r (λ x. Spells (map located ts) (view x)) → IfOk r (λ x. IsTextOf Spells text (view x))
    read_of (Ok x) text ts made h = record { tokens = ts; made = made; spells = h }
    read_of (Err e) text ts made h = tt

    -- what was made of the tokens
    pub right_of_tokens : (r : Result X RuleError) (text : Text) (ts : List PlacedToken) → SpellsRuleTokens 0 text ts → IfOk r (λ x. Spells (map located ts) (view x))
        → ((place : ℕ) (c : RuleCause) → IsErrOf r (BadRule place c) → IsStop Spells ts (length text) place c) → IsRight r text
    right_of_tokens r text ts made h stops = record {
      read = read_of r text ts made h;
      bad = λ place c is. subst (IsRefusedText Spells text place) (sym (stops place c is).cause_is) (no_grammar ts made (stops place c is).stops);
    }

    -- there are no tokens
    pub right_of_error : (e : RuleError) (text : Text) → ((place : ℕ) (c : RuleCause) → e ≡ BadRule place c → (c ≡ cause.Token) × lexed.IsSourceRefusedAt text place) → IsRight (Err e) text
    right_of_error e text h = record { read = tt; bad = λ place c is. subst (IsRefusedText Spells text place) (sym (h place c (error_is is)).0) (no_tokens (h place c (error_is is)).1) }

    pub only_value : (r : Result X RuleError) (text : Text) → IsRight r text → (a : A) → IsTextOf Spells text a → MatchResult r (λ x. view x ≡ a) (λ e. e ≡ Memory)
    only_value (Ok x) text is a h = one_value_of is.read h
    only_value (Err (BadRule place c)) text is a h = absurd (never_both (is.bad place c refl) h)
    only_value (Err Memory) text is a h = refl

    pub only_refused : (r : Result X RuleError) (text : Text) → IsRight r text → (place : ℕ) (c : RuleCause) → IsRefusedText Spells text place c → MatchResult r (λ x. ⊥) (λ e. (e ≡ BadRule place c) ⊎ (e ≡ Memory))
    only_refused (Ok x) text is place c h = never_both h is.read
    only_refused (Err (BadRule other d)) text is place c h = let w = one_refusal (is.bad other d refl) h in inl (ap (λ k. BadRule k d) w.0 ∙ ap (BadRule place) w.1)
    only_refused (Err Memory) text is place c h = inr refl
