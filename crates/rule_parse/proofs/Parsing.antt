-- Tokens that a machine goes over, and the places at which it stops.
use Rattle.std.proofs.Common.{◌≡◌, Bool, true, false, ℕ, ◌+◌, List, [], ◌∷◌, ◌++◌, length, map, Option, Some, None, refl, sym, ap, subst, ◌∙◌, arith}
use Rattle.std.proofs.lemmas.List.{append_assoc, append-nil, length-map, map-append, nil_from_length}
use Rattle.grid_model.specs.Places.{IsRefusedAt}
use Rattle.grid_model.specs.declared.refusal.RuleCause.{RuleCause}
use Rattle.grid_model.specs.declared.refusal.RuleCause.TheVariants as cause
use Rattle.rule_lex.specs.Seen.{rule_token_of}
use Rattle.rule_lex.specs.Tokens.{RuleToken, PlacedToken}
use Rattle.rule_lex.specs.declared.token.Token.{Token as Row}
use Rattle.rule_parse.specs.Grammar.{Tokens}
use Rattle.rule_parse.specs.RuleTexts.{located, place_of_token, RulesStopAt}
use Rattle.rule_parse.specs.Seen.{TakesToken, IsStop}
use Rattle.rule_parse.proofs.Machines.{run, IsReader, stops_at_end, stops_at_token}

-- the tokens of the code
abbrev pub seen : List Row → List PlacedToken
seen rows = map rule_token_of rows

abbrev pub tokens_of : List Row → Tokens
tokens_of rows = map located (map rule_token_of rows)

-- what a loop over all has gone over, and what it has before it
pub record IsSplit (all front later : List Row) (len : ℕ) : Type 0 where
  pub all_is : all ≡ front ++ later
  pub len_is : len ≡ length later

pub split_more : {all front later behind : List Row} {len left : ℕ} (x : Row) → IsSplit all front later len → later ≡ x ∷ behind → left + 1 ≡ len → IsSplit all (front ++ x ∷ []) behind left
split_more {front = front} {behind = behind} x s is less = record {
  all_is = s.all_is ∙ ap (λ ts. front ++ ts) is ∙ sym (append_assoc front (x ∷ []) behind);
  len_is = omega (arith, s.len_is, ap length is, less);
}

pub split_all : {all front later : List Row} {len : ℕ} → IsSplit all front later len → len ≡ 0 → all ≡ front
split_all {front = front} {later = later} s none = s.all_is ∙ ap (λ ts. front ++ ts) (nil_from_length later (sym s.len_is ∙ none)) ∙ append-nil front

pub tokens_more : (front : List Row) (x : Row) → tokens_of (front ++ x ∷ []) ≡ tokens_of front ++ located (rule_token_of x) ∷ []
tokens_more front x = ap (map located) (map-append rule_token_of front (x ∷ [])) ∙ map-append located (map rule_token_of front) (rule_token_of x ∷ [])

place_at : (front : List PlacedToken) (x : PlacedToken) (later : List PlacedToken) (end : ℕ) → place_of_token (front ++ x ∷ later) end (length front) ≡ x.at
place_at [] x later end = refl
place_at (y ∷ front) x later end = place_at front x later end

place_at_end : (all : List PlacedToken) (end : ℕ) → place_of_token all end (length all) ≡ end
place_at_end [] end = refl
place_at_end (y ∷ all) end = place_at_end all end

module _ {S A : Type 0} (next : S → ℕ × RuleToken → Option S) (finish : S → Option A) (start : S) (Spells : Tokens → A → Type 0) (is : IsReader next finish start Spells) where
  -- a token may not stand where it stands
  pub stops_there : {all front later behind : List Row} {len : ℕ} (x : Row) (s : S) (end : ℕ) → IsSplit all front later len → later ≡ x ∷ behind → run next start (tokens_of front) ≡ Some s → next s (located (rule_token_of x)) ≡ None → RulesStopAt Spells (seen all) end x.at
  stops_there {all = all} {front = front} {behind = behind} x s end split later runs stuck =
      subst (λ ts. RulesStopAt Spells ts end x.at) (sym (ap (map rule_token_of) (split.all_is ∙ ap (λ ts. front ++ ts) later) ∙ map-append rule_token_of front (x ∷ behind))) (record {
        count = length (seen front);
        refused = subst (λ ts. IsRefusedAt Spells ts (length (seen front))) (sym (map-append located (seen front) (rule_token_of x ∷ seen behind)))
            (subst (λ k. IsRefusedAt Spells (tokens_of front ++ located (rule_token_of x) ∷ tokens_of behind) k) (length-map (seen front) located) (stops_at_token next finish start Spells is (tokens_of front) s (located (rule_token_of x)) (tokens_of behind) runs stuck));
        place_is = sym (place_at (seen front) (rule_token_of x) (seen behind) end);
      })

  -- the tokens end too early
  pub stops_at_last : (all : List Row) (s : S) (end : ℕ) → run next start (tokens_of all) ≡ Some s → finish s ≡ None → RulesStopAt Spells (seen all) end end
  stops_at_last all s end runs none = record {
    count = length (seen all);
    refused = subst (λ k. IsRefusedAt Spells (tokens_of all) k) (length-map (seen all) located) (stops_at_end next finish start Spells is (tokens_of all) s runs none);
    place_is = sym (place_at_end (seen all) end);
  }

  pub spells_all : (all : List Row) (s : S) (a : A) → run next start (tokens_of all) ≡ Some s → finish s ≡ Some a → Spells (tokens_of all) a
  spells_all all s a runs whole = is.sound (tokens_of all) a (record { last = s; runs = runs; ends = whole })

-- ---- whether a token was taken

pub follows_none : {S : Type 0} {o : Option S} (s : S) (b : Bool) → b ≡ false → TakesToken o b s → o ≡ None
follows_none {o = o} s b h f = subst (λ x. TakesToken o x s) h f

pub follows_some : {S : Type 0} {o : Option S} (s : S) (b : Bool) → b ≡ true → TakesToken o b s → o ≡ Some s
follows_some {o = o} s b h f = subst (λ x. TakesToken o x s) h f

pub is_stop : {A : Type 0} {Spells : Tokens → A → Type 0} {ts : List PlacedToken} {end at place : ℕ} {c : RuleCause} → place ≡ at → cause.Grammar ≡ c → RulesStopAt Spells ts end place → IsStop Spells ts end at c
is_stop {Spells = Spells} {ts = ts} {end = end} e g h = record { cause_is = sym g; stops = subst (λ k. RulesStopAt Spells ts end k) e h }
