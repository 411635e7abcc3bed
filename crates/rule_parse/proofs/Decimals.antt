-- What is written of a number is a decimal of it.
use Rattle.std.proofs.Common.{◌≡◌, ℕ, zero, suc, ◌+◌, ◌/◌, ◌%◌, ◌^◌, ◌<◌, ◌≤◌, true, [], ◌∷◌, ◌++◌, length, get_or, pos, negsuc, refl, sym, ap, subst, ◌∙◌, arith}
use Rattle.std.specs.Prelude.{ℤ, ◌&&◌, nat_le, decimal, ◌⊎◌}
use Rattle.std.proofs.Common.{inl, inr}
use Rattle.std.specs.Fmt.{signed_decimal}
use Rattle.std.specs.List.{list_all}
use Rattle.std.proofs.lemmas.Bool.{le-leb, cases_lt}
use Rattle.std.proofs.lemmas.Fmt.{decimal_by_steps, first_decimal}
use Rattle.std.proofs.lemmas.List.{length-append, nil_from_length}
use Rattle.rule_lex.specs.Bytes.{SourceText, is_digit}
use Rattle.rule_lex.specs.Tokens.{IsPlainDecimal, number_from, minus, SpellsNumber, from_zero, below_zero}
use Rattle.rule_lex.proofs.NumberLemmas.{all_more, number_more}

record Digits (n : ℕ) (ds : SourceText) : Type 0 where
  all : list_all is_digit ds ≡ true
  value : number_from 0 ds ≡ n
  some : 0 < length ds
  short : n < 10 → length ds ≡ 1

digit : (n : ℕ) → n < 10 → is_digit (48 + n) ≡ true
digit n h = ap (λ b. b && nat_le (48 + n) 57) (le-leb 48 (48 + n) (omega (arith, h))) ∙ le-leb (48 + n) 57 (omega (arith, h))

digits_of : (n : ℕ) → n < 2 ^ 64 → Digits n (decimal n)
digits_of n h = decimal_by_steps Digits one more n h
  where
    one : (n : ℕ) → n < 10 → Digits n ((48 + n) ∷ [])
    one n h = record { all = ap (λ b. b && true) (digit n h); value = omega arith; some = omega arith; short = λ _. refl }

    more : (n : ℕ) (ds : SourceText) → 10 ≤ n → Digits (n / 10) ds → Digits n (ds ++ ((48 + n % 10) ∷ []))
    more n ds h d = record {
      all = all_more is_digit ds (48 + n % 10) d.all (digit (n % 10) (omega arith));
      value = number_more 0 ds (48 + n % 10) ∙ omega (arith, d.value);
      some = omega (arith, length-append ds ((48 + n % 10) ∷ []));
      short = λ k. absurd (omega (arith, k, h));
    }

decimal_is : (n : ℕ) → n < 2 ^ 64 → IsPlainDecimal (decimal n)
decimal_is n h = record { some = (digits_of n h).some; digits = (digits_of n h).all; no_zero_first = λ t e. by t e (cases_lt n 10) }
  where
    by : (t : SourceText) → decimal n ≡ 0x30 ∷ t → (n < 10) ⊎ (10 ≤ n) → t ≡ []
    by t e (inl less) = nil_from_length t (omega (arith, (digits_of n h).short less, ap length e))
    by t e (inr more) = absurd (omega (arith, first_decimal n (omega (arith, more)) h, ap (λ l. get_or l 0 0) e))

spells_below : (v : ℕ) → 0 < v → v ≤ 2 ^ 63 → SpellsNumber (signed_decimal (minus v)) (minus v)
spells_below zero some most = absurd (omega (arith, some))
spells_below (suc k) some most =
    let small : suc k < 2 ^ 64 = omega (arith, most) in
    let value = (digits_of (suc k) small).value in
    subst (λ v. SpellsNumber (signed_decimal (negsuc k)) (minus v)) value
    (below_zero (decimal (suc k)) refl (decimal_is (suc k) small) (subst (λ v. 0 < v) (sym value) some) (subst (λ v. v ≤ 2 ^ 63) (sym value) most))

spells_from : (v : ℕ) → v < 2 ^ 63 → SpellsNumber (decimal v) (pos v)
spells_from v small =
    let fits : v < 2 ^ 64 = omega (arith, small) in
    let value = (digits_of v fits).value in
    subst (λ n. SpellsNumber (decimal v) (pos n)) value (from_zero (decimal_is v fits) (subst (λ n. n < 2 ^ 63) (sym value) small))

-- a number is spelled as it is written
pub number_written : {s : SourceText} {z : ℤ} → SpellsNumber s z → SpellsNumber (signed_decimal z) z
number_written (from_zero {s = s} h small) = spells_from (number_from 0 s) small
number_written (below_zero digits e h some most) = spells_below (number_from 0 digits) some most
