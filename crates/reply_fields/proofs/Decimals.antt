-- Numbers in decimal: what begins them, and what may stand behind them.
use Rattle.std.proofs.Common.{◌≡◌, ℕ, ◌+◌, ◌*◌, ◌/◌, ◌%◌, ◌^◌, ◌<◌, ◌≤◌, Bool, true, false, List, [], ◌∷◌, ◌++◌, length, get_or, refl, sym, ap, ◌∙◌, arith, length-append, inl, inr, eq-eqb}
use Rattle.std.specs.Prelude.{◌⊎◌, not, ◌||◌, ◌==◌, decimal}
use Rattle.std.specs.List.{list_all}
use Rattle.std.specs.Char.{is_ascii_digit}
use Rattle.std.specs.Str.{all_ascii_digits}
use Rattle.std.specs.Str.Parse.{digits_value}
use Rattle.std.proofs.lemmas.Bool.{cases_lt, and_parts, false≢true, eqb-true}
use Rattle.std.proofs.lemmas.List.{append-nil}
use Rattle.std.proofs.lemmas.Str.Parse.{IsNumeralModel, numerals_by_value, tells_all_ascii_digits}
use Rattle.std.proofs.lemmas.Fmt.{decimal_is_IsNumeral_wide, decimal_digit, decimal_step, decimal_step_wide, decimal_by_steps, first_decimal, digits_decimal}
use Rattle.grid_model.specs.Names.{Text}
use Rattle.reply_fields.specs.Spelled.{is_no_digit, is_among_bytes}

own : IsNumeralModel (λ ds. all_ascii_digits ds ≡ true) (digits_value 10)
own = numerals_by_value (λ ds. all_ascii_digits ds ≡ true) tells_all_ascii_digits

pub digits-decimal : (n : ℕ) → n < 2 ^ 64 → all_ascii_digits (decimal n) ≡ true
digits-decimal n fits = digits_decimal own n fits

pub decimal_some : (n : ℕ) → n < 10 ^ 64 → 0 < length (decimal n)
decimal_some n small = (decimal_is_IsNumeral_wide n small).0.0

pub one_decimal : (m n : ℕ) → m < 10 ^ 64 → n < 10 ^ 64 → decimal m ≡ decimal n → m ≡ n
one_decimal m n small also e = sym (decimal_is_IsNumeral_wide m small).1 ∙ ap (digits_value 10) e ∙ (decimal_is_IsNumeral_wide n also).1

-- a digit more
pub decimal-push : (n d : ℕ) → 0 < n → d < 10 → n < 2 ^ 64 → decimal n ++ (48 + d) ∷ [] ≡ decimal (n * 10 + d)
decimal-push n d some digit fits =
    let front : (n * 10 + d) / 10 ≡ n = omega (arith, digit) in
    let last : (n * 10 + d) % 10 ≡ d = omega (arith, digit) in
    let small : n * 10 + d < 10 ^ 64 = omega (arith, fits, digit) in
    (λ i. decimal (sym front i) ++ (48 + sym last i) ∷ []) ∙ sym (decimal_step_wide (n * 10 + d) (omega (arith, some)) small)

-- what begins a number in decimal is one that is no greater
record Prefixes (n : ℕ) (ds : Text) : Type 0 where
  is : n < 2 ^ 64 → ds ≡ decimal n
  front : n < 2 ^ 64 → (p q : Text) → 0 < length p → ds ≡ p ++ q → (m : ℕ) × (m ≤ n) × (p ≡ decimal m)

split_last : (p q ds : Text) (d : ℕ) → ds ++ d ∷ [] ≡ p ++ q → ((q ≡ []) × (ds ++ d ∷ [] ≡ p)) ⊎ ((r : Text) × (ds ≡ p ++ r))
split_last p [] ds d e = inl (refl, e ∙ append-nil p)
split_last [] (x ∷ q) ds d e = inr (ds, refl)
split_last (y ∷ p) (x ∷ q) [] d e = absurd (omega (arith, ap length e, length-append p (x ∷ q)))
split_last (y ∷ p) (x ∷ q) (c ∷ ds) d e = by (split_last p (x ∷ q) ds d cc)
  where
    by : ((x ∷ q ≡ []) × (ds ++ d ∷ [] ≡ p)) ⊎ ((r : Text) × (ds ≡ p ++ r)) → ((x ∷ q ≡ []) × (c ∷ ds ++ d ∷ [] ≡ y ∷ p)) ⊎ ((r : Text) × (c ∷ ds ≡ y ∷ p ++ r))
    by (inl h) = let no = h.0 in absurd cc
    by (inr h) = let first : c ≡ y = cc in inr (h.0, (λ i. first i ∷ h.1 i))

prefixes : (n : ℕ) → n < 2 ^ 64 → Prefixes n (decimal n)
prefixes = decimal_by_steps Prefixes one more
  where
    one : (n : ℕ) → n < 10 → Prefixes n ((48 + n) ∷ [])
    one n small = record {
      is = λ fits. sym (decimal_digit n small);
      front = λ fits p q some e. by p q some e;
    }
      where
        by : (p q : Text) → 0 < length p → (48 + n) ∷ [] ≡ p ++ q → (m : ℕ) × (m ≤ n) × (p ≡ decimal m)
        by [] q some e = absurd (omega (arith, some))
        by (x ∷ []) q some e = let first : x ≡ 48 + n = cc in (n, omega arith, ap (λ y. y ∷ []) first ∙ sym (decimal_digit n small))
        by (x ∷ y ∷ p) q some e = absurd (omega (arith, ap length e, length-append p q))

    more : (n : ℕ) (ds : Text) → 10 ≤ n → Prefixes (n / 10) ds → Prefixes n (ds ++ ((48 + n % 10) ∷ []))
    more n ds big before = record { is = is; front = front }
      where
        is : n < 2 ^ 64 → ds ++ ((48 + n % 10) ∷ []) ≡ decimal n
        is fits = ap (λ t. t ++ ((48 + n % 10) ∷ [])) (before.is (omega (arith, fits))) ∙ sym (decimal_step n big fits)

        front : n < 2 ^ 64 → (p q : Text) → 0 < length p → ds ++ ((48 + n % 10) ∷ []) ≡ p ++ q → (m : ℕ) × (m ≤ n) × (p ≡ decimal m)
        front fits p q some e = by (split_last p q ds (48 + n % 10) e)
          where
            by : ((q ≡ []) × (ds ++ (48 + n % 10) ∷ [] ≡ p)) ⊎ ((r : Text) × (ds ≡ p ++ r)) → (m : ℕ) × (m ≤ n) × (p ≡ decimal m)
            by (inl h) = (n, omega arith, sym h.1 ∙ is fits)
            by (inr h) = let f = before.front (omega (arith, fits)) p h.0 some h.1 in (f.0, omega (arith, f.1), f.2)

pub decimal-prefix : (n : ℕ) (p q : Text) → n < 2 ^ 64 → 0 < length p → decimal n ≡ p ++ q → (m : ℕ) × (m ≤ n) × (p ≡ decimal m)
decimal-prefix n p q fits some e = (prefixes n fits).front fits p q some e

-- one that begins with `0` is just that
pub decimal-zero : (n : ℕ) (q : Text) → n < 2 ^ 64 → decimal n ≡ 48 ∷ q → n ≡ 0
decimal-zero n q fits e = by (cases_lt 0 n)
  where
    by : (0 < n) ⊎ (n ≤ 0) → n ≡ 0
    by (inr h) = omega (arith, h)
    by (inl some) = absurd (omega (arith, first_decimal n some fits, ap (λ t. get_or t 0 0) e))

-- ---- digits, and what ends them

-- a byte behind digits, and one behind others
pub same_digits : (ds ns : Text) (c b : ℕ) (u v : Text) → all_ascii_digits ds ≡ true → all_ascii_digits ns ≡ true → is_no_digit c ≡ true → is_no_digit b ≡ true → ds ++ c ∷ u ≡ ns ++ b ∷ v → (ds ≡ ns) × (c ≡ b)
same_digits [] [] c b u v d n mine also e = (refl, cc)
same_digits [] (y ∷ ns) c b u v d n mine also e = let first : c ≡ y = cc in absurd (false≢true (sym (ap not (ap is_ascii_digit first ∙ (and_parts (is_ascii_digit y) (all_ascii_digits ns) n).0)) ∙ mine))
same_digits (x ∷ ds) [] c b u v d n mine also e = let first : x ≡ b = cc in absurd (false≢true (sym (ap not (ap is_ascii_digit (sym first) ∙ (and_parts (is_ascii_digit x) (all_ascii_digits ds) d).0)) ∙ also))
same_digits (x ∷ ds) (y ∷ ns) c b u v d n mine also e =
    let first : x ≡ y = cc in
    let rest = same_digits ds ns c b u v (and_parts (is_ascii_digit x) (all_ascii_digits ds) d).1 (and_parts (is_ascii_digit y) (all_ascii_digits ns) n).1 mine also cc in
    ((λ i. first i ∷ rest.0 i), rest.1)

pub more_digits : (ds ns : Text) (c b : ℕ) (u v : Text) → all_ascii_digits ds ≡ true → is_ascii_digit c ≡ true → is_no_digit b ≡ true → ds ++ c ∷ u ≡ ns ++ b ∷ v → (w : Text) × (ns ≡ ds ++ c ∷ w)
more_digits [] [] c b u v d digit ended e = let first : c ≡ b = cc in absurd (false≢true (sym (ap not (ap is_ascii_digit (sym first) ∙ digit)) ∙ ended))
more_digits [] (y ∷ ns) c b u v d digit ended e = let first : y ≡ c = cc in (ns, ap (λ x. x ∷ ns) first)
more_digits (x ∷ ds) [] c b u v d digit ended e = let first : x ≡ b = cc in absurd (false≢true (sym (ap not (ap is_ascii_digit (sym first) ∙ (and_parts (is_ascii_digit x) (all_ascii_digits ds) d).0)) ∙ ended))
more_digits (x ∷ ds) (y ∷ ns) c b u v d digit ended e =
    let first : y ≡ x = cc in
    let rest = more_digits ds ns c b u v (and_parts (is_ascii_digit x) (all_ascii_digits ds) d).1 digit ended cc in
    (rest.0, (λ i. first i ∷ rest.1 i))

pub among_all : (p : ℕ → Bool) (ends : List ℕ) (b : ℕ) → list_all p ends ≡ true → is_among_bytes ends b ≡ true → p b ≡ true
among_all p [] b all h = absurd (false≢true h)
among_all p (e ∷ ends) b all h = by (λ g. among_all p ends b (and_parts (p e) (list_all p ends) all).1 g) (e == b) refl
  where
    by : (is_among_bytes ends b ≡ true → p b ≡ true) → (x : Bool) → (e == b) ≡ x → p b ≡ true
    by rest true same = ap p (sym (eqb-true e b same)) ∙ (and_parts (p e) (list_all p ends) all).0
    by rest false other = rest (ap (λ x. x || is_among_bytes ends b) (sym other) ∙ h)

pub first_among : (ends : List ℕ) → 0 < length ends → is_among_bytes ends (get_or ends 0 0) ≡ true
first_among [] some = absurd (omega (arith, some))
first_among (e ∷ ends) some = ap (λ x. x || is_among_bytes ends e) (eq-eqb e e refl)
