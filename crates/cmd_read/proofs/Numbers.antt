-- Which words are numbers, and what reading digits tells of that.
use Rattle.std.proofs.Common.{rules, arith, ◌≡◌, ◌≢◌, ℕ, zero, suc, ◌^◌, ◌<◌, Bool, true, false, get_or, length, refl, sym, ap, subst, ◌∙◌, inl, inr}
use Rattle.std.specs.Prelude.{◌⊎◌, ◌&&◌, Option, Some, None, Result, Ok, Err, nat_lt, decimal}
use Rattle.std.specs.Result.{OkIff}
use Rattle.std.specs.Str.Parse.{AllDigits, digits_value, ParsesUnsigned}
use Rattle.std.proofs.lemmas.Str.Parse.{IsNumeralModel, numerals_by_value, tells_digits, parse_plain}
use Rattle.std.proofs.lemmas.Fmt.{digits_value-decimal, decimal-digits_value, decimal_digit, parse-decimal, first_decimal}
use Rattle.grid_model.specs.Names.{Text, same_text}
use Rattle.grid_model.proofs.Comparing.{same_text-Decides}
use Rattle.cmd_read.specs.Table.{number_of}

own : IsNumeralModel (AllDigits 10) (digits_value 10)
own = numerals_by_value (AllDigits 10) tells_digits

kept : (m : ℕ) (w : Text) → m < 2 ^ 64 → decimal m ≡ w → (elim (nat_lt m (2 ^ 64) && same_text (decimal m) w) as (λ x. Option ℕ) [ true ↦ Some m | false ↦ None ]) ≡ Some m
kept m w small is =
    let low : nat_lt m (2 ^ 64) ≡ true = search rules in
    let same : same_text (decimal m) w ≡ true = (same_text-Decides (decimal m) w).1 is in
    rw (low, same) refl

pub number_some : (w : Text) (n : ℕ) → n < 2 ^ 64 → w ≡ decimal n → number_of w ≡ Some n
unfolding number_of
number_some w n small is =
    let v : digits_value 10 w ≡ n = ap (digits_value 10) is ∙ digits_value-decimal own n small in
    let low : digits_value 10 w < 2 ^ 64 = subst (λ m. m < 2 ^ 64) (sym v) small in
    kept (digits_value 10 w) w low (ap decimal v ∙ sym is) ∙ ap Some v

from_test : (m n : ℕ) (w : Text) (b c : Bool) → nat_lt m (2 ^ 64) ≡ b → same_text (decimal m) w ≡ c → (elim (b && c) as (λ x. Option ℕ) [ true ↦ Some m | false ↦ None ]) ≡ Some n → (w ≡ decimal n) × (n < 2 ^ 64)
from_test m n w true true low same is =
    let e : m ≡ n = cc is in
    let l : m < 2 ^ 64 = search rules in
    (sym ((same_text-Decides (decimal m) w).0 same) ∙ ap decimal e, subst (λ k. k < 2 ^ 64) e l)
from_test m n w true false low same is = absurd (cc is)
from_test m n w false c low same is = absurd (cc is)

pub number_is : (w : Text) (n : ℕ) → number_of w ≡ Some n → (w ≡ decimal n) × (n < 2 ^ 64)
unfolding number_of
number_is w n is = from_test (digits_value 10 w) n w (nat_lt (digits_value 10 w) (2 ^ 64)) (same_text (decimal (digits_value 10 w)) w) refl refl is

none_by : (w : Text) (o : Option ℕ) → number_of w ≡ o → ((n : ℕ) → n < 2 ^ 64 → w ≢ decimal n) → o ≡ None
none_by w None e never = refl
none_by w (Some n) e never = let k = number_is w n e in absurd (never n k.1 k.0)

pub number_none : (w : Text) → ((n : ℕ) → n < 2 ^ 64 → w ≢ decimal n) → number_of w ≡ None
number_none w never = none_by w (number_of w) refl never

-- digits that are read, with neither a sign nor a needless zero in front
pub number_read : {E : Type 0} (bs : Text) (r : Result ℕ E) (n : ℕ) → ParsesUnsigned 64 10 bs r → get_or bs 0 0 ≢ 43 → (get_or bs 0 0 ≡ 48 → length bs ≡ 1) → r ≡ Ok n → number_of bs ≡ Some n
number_read bs r n reads sign zeros is =
    let k = subst (λ o. OkIff o (AllDigits 10 bs × (0 < length bs) × (digits_value 10 bs < 2 ^ 64)) (digits_value 10 bs)) is (parse_plain own 64 bs r reads sign) in
    let written : decimal (digits_value 10 bs) ≡ bs = decimal-digits_value own bs k.0.0 k.0.1 zeros k.0.2 in
    number_some bs n (subst (λ m. m < 2 ^ 64) (sym k.1) k.0.2) (sym written ∙ ap decimal (sym k.1))

pub number_unread : {E : Type 0} (bs : Text) (r : Result ℕ E) (e : E) → ParsesUnsigned 64 10 bs r → r ≡ Err e → number_of bs ≡ None
number_unread bs r e reads is = number_none bs (λ n small written. let read = parse-decimal 64 n bs r small small written reads in absurd (cc (read, is)))

first_byte : (n : ℕ) → n < 2 ^ 64 → (bs : Text) → bs ≡ decimal n → (get_or bs 0 0 ≡ 43) ⊎ ((get_or bs 0 0 ≡ 48) × (1 < length bs)) → ⊥
first_byte zero small bs is (inl sign) = let k = is ∙ decimal_digit 0 (omega arith) in absurd (omega (arith, sym sign ∙ ap (λ t. get_or t 0 0) k))
first_byte zero small bs is (inr zeros) = let k = is ∙ decimal_digit 0 (omega arith) in absurd (omega (arith, zeros.1, ap length k))
first_byte (suc n) small bs is (inl sign) = let k = first_decimal (suc n) (omega arith) small in absurd (omega (arith, k, sym sign ∙ ap (λ t. get_or t 0 0) is))
first_byte (suc n) small bs is (inr zeros) = let k = first_decimal (suc n) (omega arith) small in absurd (omega (arith, k, sym zeros.0 ∙ ap (λ t. get_or t 0 0) is))

-- a sign, or a needless zero
pub number_odd : (bs : Text) → (get_or bs 0 0 ≡ 43) ⊎ ((get_or bs 0 0 ≡ 48) × (1 < length bs)) → number_of bs ≡ None
number_odd bs odd = number_none bs (λ n small is. first_byte n small bs is odd)
