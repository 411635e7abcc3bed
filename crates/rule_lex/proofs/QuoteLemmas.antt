-- Texts in quotes at a front.
use Rattle.std.proofs.Common.{◌≡◌, ℕ, zero, suc, ◌+◌, ◌-◌, ◌<◌, ◌≤◌, Bool, true, false, [], ◌∷◌, ◌++◌, length, take, drop, refl, sym, ap, subst, ◌∙◌, arith}
use Rattle.std.specs.Prelude.{◌==◌, slice_index, slice_range}
use Rattle.std.proofs.lemmas.Bool.{both_ways}
use Rattle.std.proofs.lemmas.List.{append_assoc, length-append, length-take-le, length-drop, drop-drop, take-append-drop, take_rest, take_at}
use Rattle.std.proofs.Math.Seq.{take-append-add}
use Rattle.rule_lex.specs.Bytes.{SourceText, is_letter, is_quote, stands_for_itself, needs_backslash}
use Rattle.rule_lex.specs.Tokens.{RuleToken, SpellsToken, SpellsQuoted, nothing, plain, escaped, a_text, text}
use Rattle.rule_lex.specs.Quotes.{IsStuck}
use Rattle.rule_lex.specs.Fronts.{BeginsToken, IsLongestToken, IsNoFront}
use Rattle.rule_lex.proofs.KindLemmas.{starts_so, of_quote, Quoted, quote_fails, front_by_end, no_front_by_end, no_empty_token}
use Rattle.rule_lex.proofs.WordLemmas.{headed}

-- ---- which byte a quote is not

quote_not_plain : (q : ℕ) → is_quote q ≡ true → stands_for_itself q ≡ true → ⊥
quote_not_plain q h k = both_ways (stands_for_itself q) (quote_fails stands_for_itself refl refl q h) k

abbrev is_backslash : ℕ → Bool
is_backslash b = b == 0x5C

quote_not_backslash : (q : ℕ) → is_quote q ≡ true → q ≡ 0x5C → ⊥
quote_not_backslash q h e = both_ways false refl (subst (λ k. is_quote k ≡ true) e h)

plain_not_backslash : (b : ℕ) → stands_for_itself b ≡ true → b ≡ 0x5C → ⊥
plain_not_backslash b h e = both_ways false refl (subst (λ k. stands_for_itself k ≡ true) e h)

-- ---- what is spelled so far is at the front of each spelling that goes on

pub record Left (quote : ℕ) (x y : SourceText) : Type 0 where
  pub inner : SourceText
  pub value : SourceText
  pub spells : SpellsQuoted inner value
  pub is : x ≡ inner ++ quote ∷ y

pub strip : {first meant inner value : SourceText} (quote : ℕ) (x y : SourceText) → is_quote quote ≡ true → SpellsQuoted first meant → SpellsQuoted inner value → first ++ x ≡ inner ++ quote ∷ y → Left quote x y
strip quote x y q nothing other e = record { inner = _; value = _; spells = other; is = e }
strip quote x y q (plain {b = b} h more) nothing e = absurd (let same : b ≡ quote = cc in quote_not_plain quote q (subst (λ k. stands_for_itself k ≡ true) same h))
strip quote x y q (plain {s = s} h more) (plain {s = t} k other) e =
    let rest : s ++ x ≡ t ++ quote ∷ y = cc in
    strip quote x y q more other rest
strip quote x y q (plain {b = b} h more) (escaped k other) e = absurd (let same : b ≡ 0x5C = cc in plain_not_backslash b h same)
strip quote x y q (escaped h more) nothing e = absurd (let same : 0x5C ≡ quote = cc in quote_not_backslash quote q (sym same))
strip quote x y q (escaped h more) (plain {b = b} k other) e = absurd (let same : b ≡ 0x5C = cc in plain_not_backslash b k same)
strip quote x y q (escaped {s = s} h more) (escaped {s = t} k other) e =
    let rest : s ++ x ≡ t ++ quote ∷ y = cc in
    strip quote x y q more other rest

pub quoted_on : {first meant inner value : SourceText} → SpellsQuoted first meant → SpellsQuoted inner value → SpellsQuoted (first ++ inner) (meant ++ value)
quoted_on nothing h = h
quoted_on (plain is more) h = plain is (quoted_on more h)
quoted_on (escaped is more) h = escaped is (quoted_on more h)

-- ---- tokens that begin with a quote

as_quoted : {s r : SourceText} {t : RuleToken} (quote : ℕ) → is_quote quote ≡ true → SpellsToken s t → s ≡ quote ∷ r → Left quote r []
as_quoted {s = s} {r = r} quote q h e = by (of_quote h (subst (λ s. starts_so is_quote s ≡ true) (sym e) q))
  where
    by : Quoted s → Left quote r []
    by t =
        let both = sym e ∙ t.is in
        let same : quote ≡ t.quote = cc in
        let rest : r ≡ t.inner ++ t.quote ∷ [] = cc in
        record { inner = t.inner; value = t.value; spells = t.spells; is = rest ∙ ap (λ k. t.inner ++ k ∷ []) (sym same) }

-- a text that is closed
pub front_text : (quote : ℕ) (inner value rest : SourceText) → is_quote quote ≡ true → SpellsQuoted inner value → IsLongestToken (quote ∷ inner ++ quote ∷ []) rest (text value)
front_text quote inner value rest q spells =
    front_by_end (quote ∷ inner ++ quote ∷ []) rest (text value) (a_text quote inner q spells refl) (λ b r e h. ends b h)
  where
    ends : (b : ℕ) → BeginsToken (quote ∷ inner ++ quote ∷ [] ++ b ∷ []) → ⊥
    ends b h = by (strip quote (quote ∷ b ∷ h.more) [] q spells left.spells (sym regrouped ∙ left.is))
      where
        left : Left quote (inner ++ quote ∷ [] ++ b ∷ [] ++ h.more) []
        left = as_quoted quote q h.spells refl

        regrouped : inner ++ quote ∷ [] ++ b ∷ [] ++ h.more ≡ inner ++ quote ∷ b ∷ h.more
        regrouped = ap (λ s. s ++ h.more) (append_assoc inner (quote ∷ []) (b ∷ [])) ∙ append_assoc inner (quote ∷ b ∷ []) h.more

        by : Left quote (quote ∷ b ∷ h.more) [] → ⊥
        by l = go l.spells l.is
          where
            go : {i v : SourceText} → SpellsQuoted i v → quote ∷ b ∷ h.more ≡ i ++ quote ∷ [] → ⊥
            go nothing e = cc
            go (plain {b = c} is more) e = let same : quote ≡ c = cc in quote_not_plain quote q (subst (λ k. stands_for_itself k ≡ true) (sym same) is)
            go (escaped is more) e = let same : quote ≡ 0x5C = cc in quote_not_backslash quote q same

-- a text that is not
pub no_text : (quote : ℕ) (inner value r : SourceText) (n : ℕ) → is_quote quote ≡ true → SpellsQuoted inner value → IsStuck quote r n → IsNoFront (quote ∷ inner ++ r) (suc (length inner + n))
no_text quote inner value r n q spells stuck =
    no_front_by_end (quote ∷ inner ++ r) (suc (length inner + n)) (omega (arith, stuck.within, length-append inner r)) (λ h. both_ways (is_letter quote) (quote_fails is_letter refl refl quote q) h)
    (λ k u low h. none k u low h)
    (λ low. record { more = stuck.more ++ quote ∷ []; token = text (value ++ stuck.meant); spells = a_text quote (inner ++ (take n r ++ stuck.more)) q (quoted_on spells stuck.begins) begun })
    (λ low b. ends b (omega (arith, low, length-append inner r)))
  where
    begun : take (suc (length inner + n)) (quote ∷ inner ++ r) ++ (stuck.more ++ quote ∷ []) ≡ quote ∷ (inner ++ (take n r ++ stuck.more)) ++ quote ∷ []
    begun = ap (λ s. quote ∷ s) (ap (λ s. s ++ (stuck.more ++ quote ∷ [])) (take-append-add inner r n) ∙ sym (append_assoc (inner ++ take n r) stuck.more (quote ∷ [])) ∙ ap (λ s. s ++ quote ∷ []) (append_assoc inner (take n r) stuck.more))

    -- no front closes the text
    none : (k : ℕ) (u : RuleToken) → k ≤ suc (length inner + n) → SpellsToken (take k (quote ∷ inner ++ r)) u → ⊥
    none zero u low h = no_empty_token h
    none (suc k) u low h = by (as_quoted quote q h refl)
      where
        by : Left quote (take k (inner ++ r)) [] → ⊥
        by l = stuck.open_still (drop k (inner ++ r)) left.inner left.value left.spells left.is
          where
            whole : inner ++ r ≡ l.inner ++ quote ∷ drop k (inner ++ r)
            whole = sym (take-append-drop k (inner ++ r)) ∙ ap (λ s. s ++ drop k (inner ++ r)) l.is ∙ append_assoc l.inner (quote ∷ []) (drop k (inner ++ r))

            left : Left quote r (drop k (inner ++ r))
            left = strip quote r (drop k (inner ++ r)) q spells l.spells whole

    ends : BeginsToken (take (suc (length inner + n) + 1) (quote ∷ inner ++ r)) → n < length r → ⊥
    ends b low = by (as_quoted quote q b.spells (ap (λ s. s ++ b.more) cut))
      where
        same : suc (length inner + n) + 1 ≡ suc (length inner + (n + 1))
        same = omega arith

        cut : take (suc (length inner + n) + 1) (quote ∷ inner ++ r) ≡ quote ∷ inner ++ take (n + 1) r
        cut = ap (λ k. take k (quote ∷ inner ++ r)) same ∙ ap (λ s. quote ∷ s) (take-append-add inner r (n + 1))

        by : Left quote (inner ++ take (n + 1) r ++ b.more) [] → ⊥
        by l = stuck.never (n + 1) b.more left.inner left.value (omega arith) (omega (arith, low)) left.spells left.is
          where
            left : Left quote (take (n + 1) r ++ b.more) []
            left = strip quote (take (n + 1) r ++ b.more) [] q spells l.spells (sym (append_assoc inner (take (n + 1) r) b.more) ∙ l.is)

-- ---- pieces

heads : (q b : ℕ) (x y : SourceText) {inner value : SourceText} → (b ≡ q → ⊥) → (b ≡ 0x5C → ⊥) → stands_for_itself b ≡ false → SpellsQuoted inner value → b ∷ x ≡ inner ++ q ∷ y → ⊥
heads q b x y no_quote no_escape no_plain nothing e = no_quote (cc)
heads q b x y no_quote no_escape no_plain (plain {b = c} is more) e = let same : b ≡ c = cc in both_ways (stands_for_itself b) no_plain (subst (λ k. stands_for_itself k ≡ true) (sym same) is)
heads q b x y no_quote no_escape no_plain (escaped is more) e = no_escape (cc)

pub stuck_byte : (q : ℕ) (rest : SourceText) → (slice_index rest 0 ≡ q → ⊥) → (slice_index rest 0 ≡ 0x5C → ⊥) → stands_for_itself (slice_index rest 0) ≡ false → IsStuck q rest 0
stuck_byte q rest no_quote no_escape no_plain = record {
  within = omega arith;
  more = [];
  meant = [];
  begins = nothing;
  never = λ k after inner value low high spells e. cut rest k low high after spells no_quote no_escape no_plain e;
  open_still = λ after inner value spells e. whole rest after spells no_quote no_escape no_plain e;
}
  where
    cut : (s : SourceText) (k : ℕ) → 0 < k → k ≤ length s → (after : SourceText) {inner value : SourceText} → SpellsQuoted inner value → (slice_index s 0 ≡ q → ⊥) → (slice_index s 0 ≡ 0x5C → ⊥) → stands_for_itself (slice_index s 0) ≡ false → take k s ++ after ≡ inner ++ q ∷ [] → ⊥
    cut [] k low high after spells a b c e = omega (arith, low, high)
    cut (x ∷ s) zero low high after spells a b c e = omega (arith, low)
    cut (x ∷ s) (suc k) low high after spells a b c e = heads q x (take k s ++ after) [] a b c spells e

    whole : (s : SourceText) (after : SourceText) {inner value : SourceText} → SpellsQuoted inner value → (slice_index s 0 ≡ q → ⊥) → (slice_index s 0 ≡ 0x5C → ⊥) → stands_for_itself (slice_index s 0) ≡ false → s ≡ inner ++ q ∷ after → ⊥
    whole [] after {inner = inner} spells a b c e = omega (arith, ap length e, length-append inner (q ∷ after))
    whole (x ∷ s) after spells a b c e = heads q x s after a b c spells e

heads_escaped : (q b c : ℕ) (x y : SourceText) {inner value : SourceText} → is_quote q ≡ true → b ≡ 0x5C → needs_backslash c ≡ false → SpellsQuoted inner value → b ∷ c ∷ x ≡ inner ++ q ∷ y → ⊥
heads_escaped q b c x y quote is no_escape nothing e = quote_not_backslash q quote (let same : q ≡ b = cc in same ∙ is)
heads_escaped q b c x y quote is no_escape (plain {b = d} h more) e = plain_not_backslash d h (let same : d ≡ b = cc in same ∙ is)
heads_escaped q b c x y quote is no_escape (escaped {b = d} h more) e = let same : c ≡ d = cc in both_ways (needs_backslash c) no_escape (subst (λ k. needs_backslash k ≡ true) (sym same) h)

lone_escape : (q b : ℕ) (y : SourceText) {inner value : SourceText} → is_quote q ≡ true → b ≡ 0x5C → SpellsQuoted inner value → b ∷ [] ≡ inner ++ q ∷ y → ⊥
lone_escape q b y quote is nothing e = quote_not_backslash q quote (let same : q ≡ b = cc in same ∙ is)
lone_escape q b y quote is (plain {b = d} h more) e = plain_not_backslash d h (let same : d ≡ b = cc in same ∙ is)
lone_escape q b y quote is (escaped h more) e = cc

pub stuck_escape : (q : ℕ) (rest : SourceText) → is_quote q ≡ true → slice_index rest 0 ≡ 0x5C → needs_backslash (slice_index rest 1) ≡ false → IsStuck q rest 1
stuck_escape q [] quote is no_escape = absurd (omega (arith, is))
stuck_escape q (b ∷ s) quote is no_escape = record {
  within = omega arith;
  more = 0x5C ∷ [];
  meant = 0x5C ∷ [];
  begins = subst (λ k. SpellsQuoted (k ∷ 0x5C ∷ []) (0x5C ∷ [])) (sym is) (escaped refl nothing);
  never = λ k after inner value low high spells e. cut s k low high after spells no_escape e;
  open_still = λ after inner value spells e. whole s after spells no_escape e;
}
  where
    cut : (s : SourceText) (k : ℕ) → 1 < k → k ≤ length (b ∷ s) → (after : SourceText) {inner value : SourceText} → SpellsQuoted inner value → needs_backslash (slice_index (b ∷ s) 1) ≡ false → take k (b ∷ s) ++ after ≡ inner ++ q ∷ [] → ⊥
    cut [] k low high after spells c e = omega (arith, low, high)
    cut (x ∷ s) zero low high after spells c e = omega (arith, low)
    cut (x ∷ s) (suc zero) low high after spells c e = omega (arith, low)
    cut (x ∷ s) (suc (suc k)) low high after spells c e = heads_escaped q b x (take k s ++ after) [] quote is c spells e

    whole : (s : SourceText) (after : SourceText) {inner value : SourceText} → SpellsQuoted inner value → needs_backslash (slice_index (b ∷ s) 1) ≡ false → b ∷ s ≡ inner ++ q ∷ after → ⊥
    whole [] after spells c e = lone_escape q b after quote is spells e
    whole (x ∷ s) after spells c e = heads_escaped q b x s after quote is c spells e

pub piece_escaped : (rest : SourceText) (b : ℕ) → slice_index rest 0 ≡ 0x5C → b ≡ slice_index rest 1 → needs_backslash b ≡ true → (2 ≤ length rest) × (0 < 2) × SpellsQuoted (take 2 rest) (b ∷ [])
piece_escaped [] b is same h = absurd (omega (arith, is))
piece_escaped (x ∷ []) b is same h = absurd (both_ways false refl (subst (λ k. needs_backslash k ≡ true) same h))
piece_escaped (x ∷ c ∷ rest) b is same h =
    (omega arith, omega arith, subst (λ k. SpellsQuoted (k ∷ c ∷ []) (b ∷ [])) (sym is) (subst (λ k. SpellsQuoted (0x5C ∷ k ∷ []) (b ∷ [])) same (escaped h nothing)))

pub piece_plain : (rest : SourceText) (b : ℕ) → b ≡ slice_index rest 0 → stands_for_itself b ≡ true → (1 ≤ length rest) × (0 < 1) × SpellsQuoted (take 1 rest) (b ∷ [])
piece_plain [] b same h = absurd (both_ways false refl (subst (λ k. stands_for_itself k ≡ true) same h))
piece_plain (x ∷ rest) b same h = (omega arith, omega arith, subst (λ k. SpellsQuoted (k ∷ []) (b ∷ [])) same (plain h nothing))

-- ---- what the code finds

module _ (rest : SourceText) (at quote : ℕ) (value : SourceText) (quote_is : quote ≡ slice_index rest 0) (quotes : is_quote quote ≡ true) (behind : 0 < at) (within : at ≤ length rest) (spells : SpellsQuoted (slice_range rest 1 at) value) where
  after_is : drop 1 rest ≡ slice_range rest 1 at ++ drop at rest
  after_is = sym (take-append-drop (at - 1) (drop 1 rest)) ∙ ap (λ s. slice_range rest 1 at ++ s) (drop-drop (at - 1) 1 rest ∙ ap (λ k. drop k rest) (omega (arith, behind)))

  whole : rest ≡ quote ∷ slice_range rest 1 at ++ drop at rest
  whole = headed rest quote (omega (arith, behind, within)) (sym quote_is) ∙ ap (λ s. quote ∷ s) after_is

  part_size : length (slice_range rest 1 at) ≡ at - 1
  part_size = length-take-le (at - 1) (drop 1 rest) (omega (arith, within, length-drop 1 rest))

  pub closed_at : (0 < length (take (length rest - at) (drop at rest))) × (slice_index (take (length rest - at) (drop at rest)) 0 ≡ quote) → (at + 1 ≤ length rest) × IsLongestToken (take (at + 1) rest) (drop (at + 1) rest) (text value)
  closed_at closed = by (drop at rest) (drop-drop 1 at rest) (subst (λ s. 0 < length s) (take_rest rest at) closed.0) (subst (λ s. slice_index s 0 ≡ quote) (take_rest rest at) closed.1) whole
    where
      by : (r : SourceText) → drop 1 r ≡ drop (at + 1) rest → 0 < length r → slice_index r 0 ≡ quote → rest ≡ quote ∷ slice_range rest 1 at ++ r → (at + 1 ≤ length rest) × IsLongestToken (take (at + 1) rest) (drop (at + 1) rest) (text value)
      by [] later some first e = absurd (omega (arith, some))
      by (b ∷ r) later some first e = (
        omega (arith, ap length e, part_size, behind, length-append (slice_range rest 1 at) (b ∷ r)),
        subst (λ s. IsLongestToken s (drop (at + 1) rest) (text value)) (sym front_is) (front_text quote (slice_range rest 1 at) value (drop (at + 1) rest) quotes spells),
      )
        where
          split : rest ≡ (quote ∷ slice_range rest 1 at ++ quote ∷ []) ++ r
          split = e ∙ ap (λ k. quote ∷ slice_range rest 1 at ++ k ∷ r) first ∙ ap (λ s. quote ∷ s) (sym (append_assoc (slice_range rest 1 at) (quote ∷ []) r))

          front_is : take (at + 1) rest ≡ quote ∷ slice_range rest 1 at ++ quote ∷ []
          front_is = ap (take (at + 1)) split ∙ take_at (quote ∷ slice_range rest 1 at ++ quote ∷ []) r (at + 1) (omega (arith, part_size, behind, length-append (slice_range rest 1 at) (quote ∷ [])))

  pub stuck_at : (n : ℕ) → IsStuck quote (take (length rest - at) (drop at rest)) n → IsNoFront rest (at + n)
  stuck_at n stuck =
      subst (λ s. IsNoFront s (at + n)) (sym whole)
      (subst (λ k. IsNoFront (quote ∷ slice_range rest 1 at ++ drop at rest) k) (omega (arith, part_size, behind))
      (no_text quote (slice_range rest 1 at) value (drop at rest) n quotes spells (subst (λ s. IsStuck quote s n) (take_rest rest at) stuck)))

  pub more_at : (b n : ℕ) → (n ≤ length (take (length rest - at) (drop at rest))) × (0 < n) × SpellsQuoted (take n (take (length rest - at) (drop at rest))) (b ∷ []) → (at + n ≤ length rest) × SpellsQuoted (slice_range rest 1 (at + n)) (value ++ b ∷ [])
  more_at b n piece =
      (omega (arith, size, within, length-drop at rest), subst (λ s. SpellsQuoted s (value ++ b ∷ [])) (sym longer) (quoted_on spells (subst (λ s. SpellsQuoted (take n s) (b ∷ [])) (take_rest rest at) piece.2)))
    where
      size : n ≤ length (drop at rest)
      size = subst (λ s. n ≤ length s) (take_rest rest at) piece.0

      longer : slice_range rest 1 (at + n) ≡ slice_range rest 1 at ++ take n (drop at rest)
      longer = ap (take (at + n - 1)) after_is ∙ ap (λ k. take k (slice_range rest 1 at ++ drop at rest)) (omega (arith, part_size, behind)) ∙ take-append-add (slice_range rest 1 at) (drop at rest) n
