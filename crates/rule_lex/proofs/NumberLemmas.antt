-- Numbers at a front.
use Rattle.std.proofs.Common.{◌≡◌, ℕ, zero, suc, ◌+◌, ◌-◌, ◌*◌, ◌^◌, ◌<◌, ◌≤◌, Bool, true, false, [], ◌∷◌, ◌++◌, length, take, drop, refl, sym, ap, subst, ◌∙◌, arith, inl, inr}
use Rattle.std.specs.Prelude.{◌⊎◌, ◌&&◌, ◌==◌, slice_index, codes, ℤ, pos}
use Rattle.std.specs.List.{list_all}
use Rattle.std.proofs.lemmas.Bool.{both_ways, cases_lt, or_right}
use Rattle.std.proofs.lemmas.List.{append_assoc, length-take-le, drop_more, drop_all, take_more, take_rest}
use Rattle.std.proofs.lemmas.Bool.Decides.{nat_tests}
use Rattle.rule_lex.specs.Bytes.{SourceText, is_digit}
use Rattle.rule_lex.specs.Tokens.{RuleToken, SpellsToken, SpellsNumber, IsPlainDecimal, from_zero, below_zero, number_from, minus, a_number, number}
use Rattle.rule_lex.specs.Fronts.{BeginsToken, IsLongestToken, IsNoFront, AreDigits}
use Rattle.rule_lex.proofs.Firsts.{both_true}
use Rattle.rule_lex.proofs.KindLemmas.{starts_so, is_number_first, of_number, front_by_end, no_front_by_end, no_empty_token}
use Rattle.rule_lex.proofs.WordLemmas.{all_right, headed, behind_byte}

pub all_left : (p : ℕ → Bool) (s t : SourceText) → list_all p (s ++ t) ≡ true → list_all p s ≡ true
all_left p [] t h = refl
all_left p (b ∷ s) t h =
    let both = both_true (p b) (list_all p (s ++ t)) h in
    ap (λ x. x && list_all p s) both.0 ∙ all_left p s t both.1

pub all_more : (p : ℕ → Bool) (s : SourceText) (b : ℕ) → list_all p s ≡ true → p b ≡ true → list_all p (s ++ b ∷ []) ≡ true
all_more p [] b h k = ap (λ x. x && true) k
all_more p (c ∷ s) b h k =
    let both = both_true (p c) (list_all p s) h in
    ap (λ x. x && list_all p (s ++ b ∷ [])) both.0 ∙ all_more p s b both.1 k

-- ---- values

pub number_more : (v : ℕ) (s : SourceText) (b : ℕ) → number_from v (s ++ b ∷ []) ≡ 10 * number_from v s + (b - 0x30)
number_more v [] b = refl
number_more v (c ∷ s) b = number_more (10 * v + (c - 0x30)) s b

number_split : (v : ℕ) (s t : SourceText) → number_from v (s ++ t) ≡ number_from (number_from v s) t
number_split v [] t = refl
number_split v (c ∷ s) t = number_split (10 * v + (c - 0x30)) s t

number_grows : (v : ℕ) (s : SourceText) → v ≤ number_from v s
number_grows v [] = omega arith
number_grows v (c ∷ s) = omega (arith, number_grows (10 * v + (c - 0x30)) s)

-- more digits make no smaller number
number_longer : (s t : SourceText) → number_from 0 s ≤ number_from 0 (s ++ t)
number_longer s t = subst (λ n. number_from 0 s ≤ n) (sym (number_split 0 s t)) (number_grows (number_from 0 s) t)

-- ---- digits at the front

pub digits_more : (bytes : SourceText) (n : ℕ) → n < length bytes → list_all is_digit (take n bytes) ≡ true → is_digit (slice_index bytes n) ≡ true → list_all is_digit (take (n + 1) bytes) ≡ true
digits_more bytes n low all digit = ap (list_all is_digit) (take_more bytes n 0 low) ∙ all_more is_digit (take n bytes) (slice_index bytes n) all digit

pub value_more : (bytes : SourceText) (n : ℕ) → n < length bytes → number_from 0 (take (n + 1) bytes) ≡ 10 * number_from 0 (take n bytes) + (slice_index bytes n - 0x30)
value_more bytes n low = ap (number_from 0) (take_more bytes n 0 low) ∙ number_more 0 (take n bytes) (slice_index bytes n)

-- as many digits as make a number of at most this value
pub record Digits (f rest : SourceText) (most : ℕ) : Type 0 where
  pub some : 0 < length f
  pub digits : list_all is_digit f ≡ true
  pub at_most : number_from 0 f ≤ most
  pub ends : (b : ℕ) (r : SourceText) → rest ≡ b ∷ r → is_digit b ≡ true → most < number_from 0 (f ++ b ∷ [])

pub digits_of : (bytes : SourceText) (most n value : ℕ) → AreDigits bytes most n value → Digits (take n bytes) (drop n bytes) most
digits_of bytes most n value d = record {
  some = omega (arith, size, d.some);
  digits = d.digits;
  at_most = omega (arith, d.value_is, d.at_most);
  ends = λ b r e digit. by b r e digit (cases_lt n (length bytes));
}
  where
    size : length (take n bytes) ≡ n
    size = length-take-le n bytes d.within

    by : (b : ℕ) (r : SourceText) → drop n bytes ≡ b ∷ r → is_digit b ≡ true → (n < length bytes) ⊎ (length bytes ≤ n) → most < number_from 0 (take n bytes ++ b ∷ [])
    by b r e digit (inl more) =
        let there = drop_more bytes n 0 more in
        let same : slice_index bytes n ≡ b = cc in
        subst (λ k. most < number_from 0 (take n bytes ++ k ∷ [])) same
        (subst (λ s. most < number_from 0 s) (take_more bytes n 0 more) (d.ends more (subst (λ k. is_digit k ≡ true) (sym same) digit)))
    by b r e digit (inr none) = absurd (let there = drop_all n bytes none in cc)

starts_digit : (s : SourceText) → 0 < length s → list_all is_digit s ≡ true → starts_so is_digit s ≡ true
starts_digit [] some h = absurd (omega (arith, some))
starts_digit (b ∷ s) some h = (both_true (is_digit b) (list_all is_digit s) h).0

number_first : (s t : SourceText) → starts_so is_digit s ≡ true → starts_so is_number_first (s ++ t) ≡ true
number_first [] t h = absurd (both_ways false refl h)
number_first (b ∷ s) t h = or_right (b == 0x2D) (is_digit b) h

pub minus_first : (s r : SourceText) → starts_so is_digit s ≡ true → s ≡ 0x2D ∷ r → ⊥
minus_first [] r h e = cc
minus_first (b ∷ s) r h e = let same : b ≡ 0x2D = cc in both_ways (is_digit 0x2D) refl (subst (λ k. is_digit k ≡ true) same h)

longer_starts : (s t : SourceText) → starts_so is_digit s ≡ true → starts_so is_digit (s ++ t) ≡ true
longer_starts [] t h = absurd (both_ways false refl h)
longer_starts (b ∷ s) t h = h

-- no number of at most this value goes further than the digits
ends_digits : {f rest : SourceText} {most : ℕ} (b : ℕ) (r more : SourceText) → Digits f rest most → rest ≡ b ∷ r → list_all is_digit (f ++ b ∷ more) ≡ true → most < number_from 0 (f ++ b ∷ more)
ends_digits {f = f} b r more d is all =
    let digit = (both_true (is_digit b) (list_all is_digit more) (all_right is_digit f (b ∷ more) all)).0 in
    let less = d.ends b r is digit in
    let split = append_assoc f (b ∷ []) more in
    omega (arith, less, number_longer (f ++ b ∷ []) more, ap (number_from 0) split)

pub decimal_of : {f rest : SourceText} {most : ℕ} → Digits f rest most → (slice_index f 0 ≡ 0x30 → ⊥) → IsPlainDecimal f
decimal_of {f = f} d no_zero = record {
  some = d.some;
  digits = d.digits;
  no_zero_first = λ t e. absurd (no_zero (ap (λ s. slice_index s 0) e));
}

front_positive : (f rest : SourceText) → Digits f rest (2 ^ 63 - 1) → (slice_index f 0 ≡ 0x30 → ⊥) → IsLongestToken f rest (number (pos (number_from 0 f)))
front_positive f rest d no_zero =
    front_by_end f rest (number (pos (number_from 0 f))) (a_number (from_zero (decimal_of d no_zero) (omega (arith, d.at_most)))) (λ b r is h. ends b r is h)
  where
    first : starts_so is_digit f ≡ true
    first = starts_digit f d.some d.digits

    by : (b : ℕ) (r more : SourceText) → rest ≡ b ∷ r → {s : SourceText} {n : ℤ} → s ≡ f ++ b ∷ more → SpellsNumber s n → ⊥
    by b r more is e (from_zero {s = s} decimal low) =
        let beyond = ends_digits b r more d is (subst (λ s. list_all is_digit s ≡ true) e decimal.digits) in
        omega (arith, beyond, low, ap (number_from 0) e)
    by b r more is e (below_zero digits minus_is decimal some low) = minus_first (f ++ b ∷ more) digits (longer_starts f (b ∷ more) first) (sym e ∙ minus_is)

    ends : (b : ℕ) (r : SourceText) → rest ≡ b ∷ r → BeginsToken (f ++ b ∷ []) → ⊥
    ends b r is h =
        let spells : SpellsToken (f ++ b ∷ h.more) h.token = subst (λ s. SpellsToken s h.token) (append_assoc f (b ∷ []) h.more) h.spells in
        by b r h.more is refl (of_number spells (number_first f (b ∷ h.more) first)).1

front_minus : (f rest : SourceText) → Digits f rest (2 ^ 63) → (slice_index f 0 ≡ 0x30 → ⊥) → 0 < number_from 0 f → IsLongestToken (0x2D ∷ f) rest (number (minus (number_from 0 f)))
front_minus f rest d no_zero some =
    front_by_end (0x2D ∷ f) rest (number (minus (number_from 0 f))) (a_number (below_zero f refl (decimal_of d no_zero) some d.at_most)) (λ b r is h. ends b r is h)
  where
    by : (b : ℕ) (r more : SourceText) → rest ≡ b ∷ r → {s : SourceText} {n : ℤ} → s ≡ 0x2D ∷ f ++ b ∷ more → SpellsNumber s n → ⊥
    by b r more is e (from_zero {s = s} decimal low) = both_ways false refl (both_true (is_digit 0x2D) (list_all is_digit (f ++ b ∷ more)) (subst (λ s. list_all is_digit s ≡ true) e decimal.digits)).0
    by b r more is e (below_zero digits minus_is decimal low high) =
        let same : digits ≡ f ++ b ∷ more = let both = sym minus_is ∙ e in cc in
        let beyond = ends_digits b r more d is (subst (λ s. list_all is_digit s ≡ true) same decimal.digits) in
        omega (arith, beyond, high, ap (number_from 0) same)

    ends : (b : ℕ) (r : SourceText) → rest ≡ b ∷ r → BeginsToken (0x2D ∷ f ++ b ∷ []) → ⊥
    ends b r is h =
        by b r h.more is (ap (λ s. 0x2D ∷ s) (append_assoc f (b ∷ []) h.more)) (of_number h.spells refl).1

-- digits without a zero first are not zero
pub some_value : (b : ℕ) (s : SourceText) → is_digit b ≡ true → (b ≡ 0x30 → ⊥) → 0 < number_from 0 (b ∷ s)
some_value b s digit other = omega (arith, number_grows (10 * 0 + (b - 0x30)) s, above b digit, other)
  where
    above : (b : ℕ) → is_digit b ≡ true → 0x30 ≤ b
    above b h = grind (arith, nat_tests)

-- ---- what the code finds

pub positive_at : (rest : SourceText) (n value : ℕ) → AreDigits rest (2 ^ 63 - 1) n value → (slice_index rest 0 ≡ 0x30 → ⊥) → (n ≤ length rest) × IsLongestToken (take n rest) (drop n rest) (number (pos value))
positive_at rest n value d no_zero =
    (d.within, subst (λ v. IsLongestToken (take n rest) (drop n rest) (number (pos v))) (sym d.value_is) (front_positive (take n rest) (drop n rest) (digits_of rest (2 ^ 63 - 1) n value d) (λ e. no_zero (first_same rest n d.some e))))
  where
    first_same : (s : SourceText) (k : ℕ) → 0 < k → slice_index (take k s) 0 ≡ 0x30 → slice_index s 0 ≡ 0x30
    first_same [] zero low e = e
    first_same [] (suc k) low e = e
    first_same (b ∷ s) zero low e = absurd (omega (arith, low))
    first_same (b ∷ s) (suc k) low e = e

pub zero_at : (rest : SourceText) → 0 < length rest → slice_index rest 0 ≡ 0x30 → (1 ≤ length rest) × IsLongestToken (take 1 rest) (drop 1 rest) (number (pos 0))
zero_at [] some is = absurd (omega (arith, some))
zero_at (c ∷ r) some is =
    (omega arith, subst (λ k. IsLongestToken (k ∷ []) r (number (pos 0))) (sym is) (front_by_end (0x30 ∷ []) r (number (pos 0)) (a_number (from_zero one (omega arith))) (λ b s e h. ends b h)))
  where
    one : IsPlainDecimal (0x30 ∷ [])
    one = record { some = omega arith; digits = refl; no_zero_first = λ t e. cc }

    by : (b : ℕ) (more : SourceText) → {s : SourceText} {n : ℤ} → s ≡ 0x30 ∷ b ∷ more → SpellsNumber s n → ⊥
    by b more e (from_zero decimal low) = let none = decimal.no_zero_first (b ∷ more) e in cc
    by b more e (below_zero digits minus_is decimal low high) = minus_first (0x30 ∷ b ∷ more) digits refl (sym e ∙ minus_is)

    ends : (b : ℕ) → BeginsToken (0x30 ∷ b ∷ []) → ⊥
    ends b h = by b h.more refl (of_number h.spells refl).1

pub minus_at : (rest : SourceText) (n value : ℕ) → 0 < length rest → slice_index rest 0 ≡ 0x2D → AreDigits (take (length rest - 1) (drop 1 rest)) (2 ^ 63) n value → is_digit (slice_index (take (length rest - 1) (drop 1 rest)) 0) ≡ true → (slice_index (take (length rest - 1) (drop 1 rest)) 0 ≡ 0x30 → ⊥)
    → (n + 1 ≤ length rest) × IsLongestToken (take (n + 1) rest) (drop (n + 1) rest) (number (minus value))
minus_at rest n value some is d digit no_zero = by (take (length rest - 1) (drop 1 rest)) (take_rest rest 1) d digit no_zero
  where
    above_zero : (s : SourceText) (k : ℕ) → 0 < k → is_digit (slice_index s 0) ≡ true → (slice_index s 0 ≡ 0x30 → ⊥) → (0 < number_from 0 (take k s)) × (slice_index (take k s) 0 ≡ 0x30 → ⊥)
    above_zero [] k low h other = absurd (both_ways false refl h)
    above_zero (b ∷ s) zero low h other = absurd (omega (arith, low))
    above_zero (b ∷ s) (suc k) low h other = (some_value b (take k s) h other, other)

    by : (after : SourceText) → after ≡ drop 1 rest → AreDigits after (2 ^ 63) n value → is_digit (slice_index after 0) ≡ true → (slice_index after 0 ≡ 0x30 → ⊥) → (n + 1 ≤ length rest) × IsLongestToken (take (n + 1) rest) (drop (n + 1) rest) (number (minus value))
    by after e d digit no_zero =
        let fine = above_zero after n d.some digit no_zero in
        behind_byte rest 0x2D n (number (minus value)) some is (subst (λ a. n ≤ length a) e d.within)
        (subst (λ a. IsLongestToken (0x2D ∷ take n a) (drop n a) (number (minus value))) e
        (subst (λ v. IsLongestToken (0x2D ∷ take n after) (drop n after) (number (minus v))) (sym d.value_is) (front_minus (take n after) (drop n after) (digits_of after (2 ^ 63) n value d) fine.1 fine.0)))

lone_minus : (after : SourceText) → (is_digit (slice_index after 0) ≡ true → slice_index after 0 ≡ 0x30) → IsNoFront (0x2D ∷ after) 1
lone_minus after never =
    no_front_by_end (0x2D ∷ after) 1 (omega arith) (λ h. both_ways false refl h) (λ k u low h. none k u low h)
    (λ low. record { more = codes "1"; token = number (minus 1); spells = a_number (below_zero (0x31 ∷ []) refl one (omega arith) (omega arith)) })
    (λ low b. ends after b (omega (arith, low)) never)
  where
    one : IsPlainDecimal (0x31 ∷ [])
    one = record { some = omega arith; digits = refl; no_zero_first = λ t e. absurd (apart t e) }
      where
        apart : (t : SourceText) → 0x31 ∷ [] ≡ 0x30 ∷ t → ⊥
        apart t e = let same : ◌≡◌ {A = ℕ} 0x31 0x30 = cc in omega (arith, same)

    alone : {s : SourceText} {n : ℤ} → s ≡ 0x2D ∷ [] → SpellsNumber s n → ⊥
    alone e (from_zero decimal low) = both_ways false refl (subst (λ s. list_all is_digit s ≡ true) e decimal.digits)
    alone e (below_zero digits minus_is decimal low high) =
        let same : digits ≡ [] = let both = sym minus_is ∙ e in cc in
        omega (arith, decimal.some, ap length same)

    none : (k : ℕ) (u : RuleToken) → k ≤ 1 → SpellsToken (take k (0x2D ∷ after)) u → ⊥
    none zero u low h = no_empty_token h
    none (suc zero) u low h = alone refl (of_number h refl).1
    none (suc (suc k)) u low h = omega (arith, low)

    longer : (b : ℕ) (more : SourceText) → (is_digit b ≡ true → b ≡ 0x30) → {s : SourceText} {n : ℤ} → s ≡ 0x2D ∷ b ∷ more → SpellsNumber s n → ⊥
    longer b more zero_only e (from_zero decimal low) = both_ways false refl (subst (λ s. list_all is_digit s ≡ true) e decimal.digits)
    longer b more zero_only e (below_zero digits minus_is decimal low high) =
        let same : digits ≡ b ∷ more = let both = sym minus_is ∙ e in cc in
        let digit = both_true (is_digit b) (list_all is_digit more) (subst (λ s. list_all is_digit s ≡ true) same decimal.digits) in
        let zero_is = zero_only digit.0 in
        let nothing_more : more ≡ [] = decimal.no_zero_first more (same ∙ ap (λ k. k ∷ more) zero_is) in
        omega (arith, low, ap (number_from 0) (same ∙ ap (λ k. k ∷ more) zero_is ∙ ap (λ t. 0x30 ∷ t) nothing_more))

    ends : (s : SourceText) → BeginsToken (take 2 (0x2D ∷ s)) → 0 < length s → (is_digit (slice_index s 0) ≡ true → slice_index s 0 ≡ 0x30) → ⊥
    ends [] b low h = omega (arith, low)
    ends (y ∷ s) b low h = longer y b.more h refl (of_number b.spells refl).1

-- `-` and no digit of 1 to 9 behind it
pub no_minus : (rest : SourceText) → 0 < length rest → slice_index rest 0 ≡ 0x2D → (is_digit (slice_index (take (length rest - 1) (drop 1 rest)) 0) ≡ true → slice_index (take (length rest - 1) (drop 1 rest)) 0 ≡ 0x30) → IsNoFront rest 1
no_minus rest some is never =
    subst (λ r. IsNoFront r 1) (sym (headed rest 0x2D some is))
    (lone_minus (drop 1 rest) (subst (λ a. is_digit (slice_index a 0) ≡ true → slice_index a 0 ≡ 0x30) (take_rest rest 1) never))

pub nothing_at : (s : SourceText) → length s ≡ 0 → is_digit (slice_index s 0) ≡ true → slice_index s 0 ≡ 0x30
nothing_at [] e h = absurd (both_ways false refl h)
nothing_at (b ∷ s) e h = absurd (omega (arith, e))

pub digit_value : (b : ℕ) → is_digit b ≡ true → b - 0x30 ≤ 9
digit_value b h = grind (arith, nat_tests)

-- the first digit is not too much
pub some_digits : (bytes : SourceText) (n value digit most : ℕ) → value ≡ number_from 0 (take n bytes) → most < value * 10 + digit → digit ≤ 9 → 9 ≤ most → 0 < n
some_digits bytes zero value digit most is past low room = absurd (omega (arith, is, past, low, room))
some_digits bytes (suc n) value digit most is past low room = omega arith
