-- A text up to a place, by what its rest is.
use Rattle.std.proofs.Common.{◌≡◌, ℕ, zero, suc, ◌+◌, ◌-◌, ◌<◌, ◌≤◌, Bool, true, false, List, [], ◌∷◌, ◌++◌, length, take, drop, refl, sym, ap, subst, ◌∙◌, arith, zero-add}
use Rattle.std.specs.Prelude.{◌&&◌, ◌||◌, ◌==◌, not, slice_index, slice_range}
use Rattle.std.proofs.lemmas.Bool.{both_ways}
use Rattle.std.proofs.lemmas.List.{append_assoc, append-nil, take_rest, take-append-drop, drop-drop, length-take-le, length-drop, drop_all, drop_more}
use Rattle.rule_lex.specs.Bytes.{SourceText, is_space}
use Rattle.rule_lex.specs.Tokens.{RuleToken, PlacedToken, IsComment, SpellsRuleTokens, at_end}
use Rattle.rule_lex.specs.Tokens as tokens
use Rattle.rule_lex.specs.Places.{IsSourceRefusedAt}
use Rattle.rule_lex.specs.Fronts.{IsLongestToken, IsNoFront}
use Rattle.rule_lex.specs.Skipping.{SkipsBlanks, none, space, comment, is_skipped}
use Rattle.rule_lex.proofs.Firsts.{StartsToken, starts_token, starts_length, is_first}
use Rattle.rule_lex.proofs.Lifting.{Refused, refused_space, refused_comment, refused_token, refused_here, longest_front}
use Rattle.rule_lex.proofs.SkipLemmas.{skipped_spells}

-- where the text from one place on is refused, by where a rest of it is
record Sooner (a : ℕ) (all : SourceText) (place : ℕ) : Type 0 where
  size : ℕ
  refused : Refused a all size
  is : a + size ≡ place

skipped_refused : {a b j : ℕ} {all rest : SourceText} → SkipsBlanks a all b rest → Refused b rest j → Sooner a all (b + j)
skipped_refused {j = j} none r = record { size = j; refused = r; is = refl }
skipped_refused {a = a} {b = b} {j = j} (space {b = c} {rest = r} is more) refused =
    let s = skipped_refused more refused in
    record { size = 1 + s.size; refused = refused_space is s.refused; is = omega (arith, s.is) }
skipped_refused {a = a} {b = b} {j = j} {all = all} (comment {rest = r} line c more) refused =
    let s = skipped_refused more refused in
    record {
      size = suc (length line) + s.size;
      refused = subst (λ t. Refused a t (suc (length line) + s.size)) (sym c.split) (refused_comment line r c.one_line c.ends s.refused);
      is = omega (arith, s.is);
    }

-- the text is these tokens and its rest from this place on
pub record Reached (text : SourceText) (at : ℕ) (found : List PlacedToken) : Type 0 where
  pub spells : (ts : List PlacedToken) → SpellsRuleTokens at (drop at text) ts → SpellsRuleTokens 0 text (found ++ ts)
  pub refused : (j : ℕ) → Refused at (drop at text) j → Refused 0 text (at + j)

pub reached_start : (text : SourceText) (at : ℕ) → SkipsBlanks 0 text at (drop at text) → Reached text at []
reached_start text at skips = record {
  spells = λ ts h. skipped_spells skips h;
  refused = λ j r.
      let s = skipped_refused skips r in
      subst (λ k. Refused 0 text k) (s.is) (subst (λ k. Refused 0 text k) (sym (zero-add s.size)) s.refused);
}

module _ (text : SourceText) (at n : ℕ) (t : RuleToken) (within : at ≤ length text) where
  rest_within : n ≤ length (take (length text - at) (drop at text)) → n ≤ length (drop at text)
  rest_within h = subst (λ s. n ≤ length s) (take_rest text at) h

  front_is : IsLongestToken (take n (take (length text - at) (drop at text))) (drop n (take (length text - at) (drop at text))) t → IsLongestToken (slice_range text at (at + n)) (drop (at + n) text) t
  front_is h =
      subst (λ k. IsLongestToken (take k (drop at text)) (drop (at + n) text) t) (size n)
      (subst (λ r. IsLongestToken (take n (drop at text)) r t) (drop-drop n at text) (subst (λ s. IsLongestToken (take n s) (drop n s) t) (take_rest text at) h))
    where
      size : (k : ℕ) → k ≡ at + k - at
      size k = omega arith

  -- a front is not empty
  pub some_front : (n ≤ length (take (length text - at) (drop at text))) × IsLongestToken (take n (take (length text - at) (drop at text))) (drop n (take (length text - at) (drop at text))) t → (at + n ≤ length text) × (0 < n)
  some_front h = (omega (arith, rest_within h.0, length-drop at text, within), above n (starts_length (take n (take (length text - at) (drop at text))) (starts_token h.1.spells)))
    where
      above : (k : ℕ) → 0 < length (take k (take (length text - at) (drop at text))) → 0 < k
      above zero h = h
      above (suc k) h = omega arith

  pub reached_token : (found : List PlacedToken) (to : ℕ) → Reached text at found
      → (n ≤ length (take (length text - at) (drop at text))) × IsLongestToken (take n (take (length text - at) (drop at text))) (drop n (take (length text - at) (drop at text))) t
      → SkipsBlanks (at + n) (drop (at + n) text) to (drop to text) → Reached text to (found ++ record { at = at; spelled = slice_range text at (at + n); token = t } ∷ [])
  reached_token found to reached is skips = record {
    spells = λ ts h. subst (λ x. SpellsRuleTokens 0 text x) (sym (append_assoc found (this ∷ []) ts)) (reached.spells (this ∷ ts) (spells_this ts (skipped_spells skips h)));
    refused = λ j r. refused j (skipped_refused skips r);
  }
    where
      this : PlacedToken
      this = record { at = at; spelled = slice_range text at (at + n); token = t }

      front : IsLongestToken (slice_range text at (at + n)) (drop (at + n) text) t
      front = front_is is.1

      size : length (slice_range text at (at + n)) ≡ n
      size = length-take-le (at + n - at) (drop at text) (omega (arith, rest_within is.0)) ∙ omega arith

      split : drop at text ≡ slice_range text at (at + n) ++ drop (at + n) text
      split = sym (take-append-drop (at + n - at) (drop at text)) ∙ ap (λ s. slice_range text at (at + n) ++ s) (drop-drop (at + n - at) at text ∙ ap (λ k. drop k text) back)
        where
          back : at + (at + n - at) ≡ at + n
          back = omega arith

      spells_this : (ts : List PlacedToken) → SpellsRuleTokens (at + n) (drop (at + n) text) ts → SpellsRuleTokens at (drop at text) (this ∷ ts)
      spells_this ts h =
          subst (λ s. SpellsRuleTokens at s (this ∷ ts)) (sym split)
          (tokens.token (slice_range text at (at + n)) t (longest_front (drop (at + n) text) front) (subst (λ k. SpellsRuleTokens (at + k) (drop (at + n) text) ts) (sym size) h))

      refused : (j : ℕ) → Sooner (at + n) (drop (at + n) text) (to + j) → Refused 0 text (to + j)
      refused j s =
          subst (λ k. Refused 0 text k) place
          (reached.refused (length (slice_range text at (at + n)) + s.size)
          (subst (λ x. Refused at x (length (slice_range text at (at + n)) + s.size)) (sym split)
          (refused_token (slice_range text at (at + n)) (drop (at + n) text) t front (subst (λ k. Refused (at + k) (drop (at + n) text) s.size) (sym size) s.refused))))
        where
          place : at + (length (slice_range text at (at + n)) + s.size) ≡ to + j
          place = omega (arith, size, s.is)

-- what is not skipped begins a token, if anything does
starts_here : (text : SourceText) (at : ℕ) → at < length text → is_skipped (slice_index text at) ≡ false → StartsToken (drop at text)
starts_here text at low h = subst StartsToken (sym (drop_more text at 0 low)) (first (slice_index text at) h)
  where
    first : (b : ℕ) → is_skipped b ≡ false → is_first b ≡ true
    first b h = by (is_space b) (b == 0x23) h
      where
        by : (x y : Bool) → x || y ≡ false → not x && not y ≡ true
        by true y h = absurd (both_ways true h refl)
        by false true h = absurd (both_ways true h refl)
        by false false h = refl

refused_is : {text : SourceText} {place : ℕ} → Refused 0 text place → IsSourceRefusedAt text place
refused_is r = record {
  spells_nothing = r.spells_nothing;
  within = r.within;
  begins = record { more = r.more; tokens = r.tokens; spells = r.spells };
  longest = λ n low high b. r.longest n low high b.more b.tokens b.spells;
}

pub reached_bad : (text : SourceText) (at n : ℕ) (found : List PlacedToken) → Reached text at found → at < length text → is_skipped (slice_index text at) ≡ false → IsNoFront (take (length text - at) (drop at text)) n → IsSourceRefusedAt text (at + n)
reached_bad text at n found reached low first no_front =
    refused_is (reached.refused n (refused_here (drop at text) (starts_here text at low first) (subst (λ s. IsNoFront s n) (take_rest text at) no_front)))

pub reached_end : (text : SourceText) (at : ℕ) (found : List PlacedToken) → Reached text at found → length text ≤ at → SpellsRuleTokens 0 text found
reached_end text at found reached high =
    subst (λ x. SpellsRuleTokens 0 text x) (append-nil found) (reached.spells [] (subst (λ s. SpellsRuleTokens at s []) (sym (drop_all at text high)) at_end))
