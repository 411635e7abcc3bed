-- Each text is cut into tokens, and these are read to rules, to a call, or to where they stop.
use Rattle.std.proofs.Common.{◌≡◌, ℕ, zero, suc, ◌+◌, ◌-◌, ◌<◌, ◌≤◌, Bool, true, false, List, [], ◌∷◌, ◌++◌, Option, Some, None, Err}
use Rattle.std.proofs.Common.{length, map, take, drop, refl, sym, ap, subst, ◌∙◌, arith}
use Rattle.std.specs.Prelude.{◌==◌, ◌||◌, nat_le, slice_index, slice_range}
use Rattle.std.specs.List.{list_all}
use Rattle.std.proofs.lemmas.Bool.{eqb-true, leb-true, leb-false}
use Rattle.std.proofs.lemmas.List.{append_assoc, append-nil, drop_all, drop_more, length-drop, length-map, map-append, take_rest}
use Rattle.grid_model.specs.Bounds.{rules_size}
use Rattle.grid_model.specs.Checks.{checked_call, checked_rules}
use Rattle.grid_model.specs.Places.{IsRefusedAt}
use Rattle.grid_model.specs.Refusing.{Or}
use Rattle.grid_model.specs.RuleText.{CallText, Rule}
use Rattle.grid_model.specs.declared.refusal.Refusal.TheVariants.{BadRule, TooLarge}
use Rattle.grid_model.specs.declared.refusal.RuleCause.TheVariants.{Grammar, Token}
use Rattle.rule_lex.specs.Bytes.{SourceText, is_space}
use Rattle.rule_lex.specs.Places as lexed
use Rattle.rule_lex.specs.Skipping.{SkipsBlanks, is_skipped, none}
use Rattle.rule_lex.specs.Tokens.{EndsLine, PlacedToken, RuleToken, SpellsRuleTokens, is_in_line}
use Rattle.rule_lex.proofs.LexLemmas.{Reached, reached_bad, reached_end, reached_start, reached_token, some_front}
use Rattle.rule_lex.proofs.SkipLemmas.{line_more, skips_comment, skips_space}
use Rattle.rule_parse.specs.Grammar.{SpellsCall, SpellsRules, Tokens}
use Rattle.rule_parse.specs.Readers.{finish, new_call, new_progress, read, read_call, whole_call}
use Rattle.rule_parse.specs.RuleOrders.{ReadsCall, ReadsRules, no_call, this, these, none as no_rules, too_large}
use Rattle.rule_parse.specs.RuleTexts.{RulesStopAt, located, no_grammar, no_tokens, place_of_token}
use Rattle.rule_parse.proofs.Machines.{IsReader, run, run_more, stops_at_end, stops_at_token}
use Rattle.rule_parse.proofs.Readings.{calls_are_read, rules_are_read}
use Rattle.rule_texts.proofs.FoundTokens.{FindsToken, a_token, find_token, no_token}

-- ---- spaces and comments

-- where a line ends
record LineEnd (text : SourceText) (from : ℕ) : Type 0 where
  to : ℕ
  within : to ≤ length text
  low : from ≤ to
  line : list_all is_in_line (slice_range text from to) ≡ true
  ends : EndsLine (drop to text)

ends_there : (text : SourceText) (at : ℕ) → at < length text → slice_index text at ≡ 0x0A → EndsLine (drop at text)
ends_there text at low is = subst EndsLine (sym (drop_more text at 0 low)) is

ends_all : (text : SourceText) (at : ℕ) → length text ≤ at → EndsLine (drop at text)
ends_all text at high = subst EndsLine (sym (drop_all at text high)) tt

find_end : (text : SourceText) (from k at : ℕ) → k + at ≡ length text → from ≤ at → list_all is_in_line (slice_range text from at) ≡ true → LineEnd text from
find_end text from zero at e low line = record { to = at; within = omega (arith, e); low = low; line = line; ends = ends_all text at (omega (arith, e)) }
find_end text from (suc k) at e low line =
    by (slice_index text at == 0x0A) refl (λ more. find_end text from k (at + 1) (omega (arith, e)) (omega (arith, low)) more)
  where
    has : at < length text
    has = omega (arith, e)

    by : (t : Bool) → (slice_index text at == 0x0A) ≡ t → (list_all is_in_line (slice_range text from (at + 1)) ≡ true → LineEnd text from) → LineEnd text from
    by true h again = record { to = at; within = omega (arith, e); low = low; line = line; ends = ends_there text at has (eqb-true (slice_index text at) 0x0A h) }
    by false h again = again (line_more text from at low has line (λ is. apart (sym h ∙ ap (λ b. b == 0x0A) is)))
      where
        apart : false ≡ true → ⊥
        apart x = cc

line_end : (text : SourceText) (from : ℕ) → from ≤ length text → LineEnd text from
line_end text from low = find_end text from (length text - from) from (omega (arith, low)) (omega arith) (nothing_yet (from - from) (omega arith) (drop from text))
  where
    nothing_yet : (n : ℕ) → n ≡ 0 → (s : SourceText) → list_all is_in_line (take n s) ≡ true
    nothing_yet zero e s = refl
    nothing_yet (suc n) e s = absurd (omega (arith, e))

-- the first place that is in no comment and has no space
record Skipped (text : SourceText) (from : ℕ) : Type 0 where
  to : ℕ
  within : to ≤ length text
  low : from ≤ to
  skips : SkipsBlanks from (drop from text) to (drop to text)
  ends : to < length text → is_skipped (slice_index text to) ≡ false

find_skip : (text : SourceText) (from k at : ℕ) → length text < k + at → from ≤ at → at ≤ length text → SkipsBlanks from (drop from text) at (drop at text) → Skipped text from
find_skip text from zero at low behind within skips = absurd (omega (arith, low, within))
find_skip text from (suc k) at low behind within skips =
    by (nat_le (length text) at) refl (slice_index text at == 0x23) refl (is_space (slice_index text at)) refl
    (λ to more in_text s. find_skip text from k to (omega (arith, low, more)) (omega (arith, behind, more)) in_text s)
  where
    by : (e : Bool) → nat_le (length text) at ≡ e → (c : Bool) → (slice_index text at == 0x23) ≡ c → (s : Bool) → is_space (slice_index text at) ≡ s
        → ((to : ℕ) → at < to → to ≤ length text → SkipsBlanks from (drop from text) to (drop to text) → Skipped text from) → Skipped text from
    by true e c h s g again =
        let high = leb-true (length text) at e in
        record { to = at; within = within; low = behind; skips = skips; ends = λ has. absurd (omega (arith, high, has)) }
    by false e true h s g again =
        let has = leb-false (length text) at e in
        let l = line_end text (at + 1) (omega (arith, has)) in
        again l.to (omega (arith, l.low)) l.within
        (skips_comment text from at l.to skips (omega (arith, has)) (eqb-true (slice_index text at) 0x23 h) l.low l.within l.line l.ends)
    by false e false h true g again =
        let has = leb-false (length text) at e in
        again (at + 1) (omega arith) (omega (arith, has)) (skips_space text from at skips (omega (arith, has)) g)
    by false e false h false g again =
        record { to = at; within = within; low = behind; skips = skips; ends = λ has. ap (λ x. x || slice_index text at == 0x23) g ∙ h }

skip_from : (text : SourceText) (from : ℕ) → from ≤ length text → Skipped text from
skip_from text from within = find_skip text from (length text + 1) from (omega arith) (omega arith) within none

-- ---- tokens

data TokensFound (text : SourceText) : Type 0 where
  are_tokens : (ts : List PlacedToken) → SpellsRuleTokens 0 text ts → TokensFound text
  refused_at : (place : ℕ) → lexed.IsSourceRefusedAt text place → TokensFound text

cut_from : (text : SourceText) (k at : ℕ) (found : List PlacedToken) → length text < k + at → at ≤ length text
    → (at < length text → is_skipped (slice_index text at) ≡ false) → Reached text at found → TokensFound text
cut_from text zero at found low within first reached = absurd (omega (arith, low, within))
cut_from text (suc k) at found low within first reached =
    by (nat_le (length text) at) refl (λ to more in_text ends next so. cut_from text k to next (omega (arith, low, more)) in_text ends so)
  where
    some : at < length text → 0 < length (take (length text - at) (drop at text))
    some has = subst (λ (s : SourceText). 0 < length s) (sym (take_rest text at)) (omega (arith, has, length-drop at text))

    by_token : at < length text → FindsToken (take (length text - at) (drop at text))
        → ((to : ℕ) → at < to → to ≤ length text → (to < length text → is_skipped (slice_index text to) ≡ false) → (next : List PlacedToken) → Reached text to next → TokensFound text)
        → TokensFound text
    by_token has (a_token n t front) again =
        let fits = some_front text at n t within front in
        let s = skip_from text (at + n) fits.0 in
        again s.to (omega (arith, s.low, fits.1)) s.within s.ends _ (reached_token text at n t within found s.to reached front s.skips)
    by_token has (no_token n bad) again = refused_at (at + n) (reached_bad text at n found reached has (first has) bad)

    by : (e : Bool) → nat_le (length text) at ≡ e
        → ((to : ℕ) → at < to → to ≤ length text → (to < length text → is_skipped (slice_index text to) ≡ false) → (next : List PlacedToken) → Reached text to next → TokensFound text)
        → TokensFound text
    by true e again = are_tokens found (reached_end text at found reached (leb-true (length text) at e))
    by false e again = let has = leb-false (length text) at e in by_token has (find_token (take (length text - at) (drop at text)) (some has)) again

cut : (text : SourceText) → TokensFound text
cut text =
    let s = skip_from text 0 (omega arith) in
    cut_from text (length text + 1) s.to [] (omega arith) s.within s.ends (reached_start text s.to s.skips)

-- ---- what they spell

place_at : (front : List PlacedToken) (x : PlacedToken) (later : List PlacedToken) (end : ℕ) → place_of_token (front ++ x ∷ later) end (length front) ≡ x.at
place_at [] x later end = refl
place_at (y ∷ front) x later end = place_at front x later end

place_at_end : (all : List PlacedToken) (end : ℕ) → place_of_token all end (length all) ≡ end
place_at_end [] end = refl
place_at_end (y ∷ all) end = place_at_end all end

module _ {S A : Type 0} (next : S → ℕ × RuleToken → Option S) (whole : S → Option A) (start : S) (Spells : Tokens → A → Type 0) (is : IsReader next whole start Spells) where
  -- tokens spell this, or stop here
  pub data SpellsOrStops (ts : List PlacedToken) (end : ℕ) : Type 0 where
    spells_this : (a : A) → Spells (map located ts) a → SpellsOrStops ts end
    stops_here : (place : ℕ) → RulesStopAt Spells ts end place → SpellsOrStops ts end

  at_last : (all : List PlacedToken) (s : S) (end : ℕ) → run next start (map located all) ≡ Some s → (o : Option A) → whole s ≡ o → SpellsOrStops all end
  at_last all s end runs (Some a) e = spells_this a (is.sound (map located all) a (record { last = s; runs = runs; ends = e }))
  at_last all s end runs None e = stops_here end (record {
    count = length all;
    refused = subst (λ k. IsRefusedAt Spells (map located all) k) (length-map all located) (stops_at_end next whole start Spells is (map located all) s runs e);
    place_is = sym (place_at_end all end);
  })

  at_token : (front : List PlacedToken) (x : PlacedToken) (later : List PlacedToken) (s : S) (end : ℕ) → run next start (map located front) ≡ Some s
      → next s (located x) ≡ None → RulesStopAt Spells (front ++ x ∷ later) end x.at
  at_token front x later s end runs stuck = record {
    count = length front;
    refused = subst (λ ts. IsRefusedAt Spells ts (length front)) (sym (map-append located front (x ∷ later)))
        (subst (λ k. IsRefusedAt Spells (map located front ++ located x ∷ map located later) k) (length-map front located)
        (stops_at_token next whole start Spells is (map located front) s (located x) (map located later) runs stuck));
    place_is = sym (place_at front x later end);
  }

  read_on : (all front later : List PlacedToken) (s : S) (end : ℕ) → all ≡ front ++ later → run next start (map located front) ≡ Some s → SpellsOrStops all end
  read_on all front [] s end split runs =
      let same : all ≡ front = split ∙ append-nil front in
      at_last all s end (subst (λ ts. run next start (map located ts) ≡ Some s) (sym same) runs) (whole s) refl
  read_on all front (x ∷ later) s end split runs =
      by (next s (located x)) refl (λ t e. read_on all (front ++ x ∷ []) later t end (split ∙ sym (append_assoc front (x ∷ []) later)) e)
    where
      by : (o : Option S) → next s (located x) ≡ o → ((t : S) → run next start (map located (front ++ x ∷ [])) ≡ Some t → SpellsOrStops all end) → SpellsOrStops all end
      by None e again = stops_here x.at (subst (λ ts. RulesStopAt Spells ts end x.at) (sym split) (at_token front x later s end runs e))
      by (Some t) e again =
          again t (subst (λ ts. run next start ts ≡ Some t) (sym (map-append located front (x ∷ []))) (run_more next start (map located front) (located x) s t runs e))

  pub read_all : (ts : List PlacedToken) (end : ℕ) → SpellsOrStops ts end
  read_all ts end = read_on ts [] ts start end refl refl

-- ---- what a text is

pub each_call : (rules : List Rule) (text : SourceText) → (call : Or CallText) × ReadsCall rules text call
each_call rules text = by (cut text)
  where
    by_tokens : (ts : List PlacedToken) → SpellsRuleTokens 0 text ts → SpellsOrStops read_call whole_call new_call SpellsCall calls_are_read ts (length text)
        → (call : Or CallText) × ReadsCall rules text call
    by_tokens ts made (spells_this c h) = (checked_call rules c, this c (record { tokens = ts; made = made; spells = h }) refl)
    by_tokens ts made (stops_here place h) = (Err (BadRule place Grammar), no_call (no_grammar ts made h))

    by : TokensFound text → (call : Or CallText) × ReadsCall rules text call
    by (are_tokens ts made) = by_tokens ts made (read_all read_call whole_call new_call SpellsCall calls_are_read ts (length text))
    by (refused_at place h) = (Err (BadRule place Token), no_call (no_tokens h))

pub each_rules : (text : SourceText) → (rules : Or (List Rule)) × ReadsRules text rules
each_rules text = by (nat_le (length text) rules_size) refl (cut text)
  where
    by_tokens : length text ≤ rules_size → (ts : List PlacedToken) → SpellsRuleTokens 0 text ts
        → SpellsOrStops read finish new_progress SpellsRules rules_are_read ts (length text) → (rules : Or (List Rule)) × ReadsRules text rules
    by_tokens short ts made (spells_this rs h) = (checked_rules rs, these rs short (record { tokens = ts; made = made; spells = h }) refl)
    by_tokens short ts made (stops_here place h) = (Err (BadRule place Grammar), no_rules short (no_grammar ts made h))

    by : (b : Bool) → nat_le (length text) rules_size ≡ b → TokensFound text → (rules : Or (List Rule)) × ReadsRules text rules
    by true e (are_tokens ts made) =
        by_tokens (leb-true (length text) rules_size e) ts made (read_all read finish new_progress SpellsRules rules_are_read ts (length text))
    by true e (refused_at place h) = (Err (BadRule place Token), no_rules (leb-true (length text) rules_size e) (no_tokens h))
    by false e found = (Err (TooLarge rules_size), too_large (leb-false (length text) rules_size e))
