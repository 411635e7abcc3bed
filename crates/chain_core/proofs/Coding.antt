-- The codes that texts tell.
use Rattle.std.proofs.Common.{◌≡◌, ℕ, zero, suc, get_or, ◌<◌, ◌≤◌, ◌-◌, ◌^◌, ℤ, pos, negsuc, ◌≢◌, Less, Equal, Greater, Bool, true, false, cond, List, [], ◌∷◌, refl, sym, ◌∙◌, ap, subst, arith, length, take, drop, drop-cons, length-drop}
use Rattle.std.proofs.lemmas.List.{take_all}
use Rattle.std.specs.Prelude.{nat_lt, IsTrue, ◌↔◌, Result, Ok, Err, IfOk}
use Rattle.std.specs.Ordering.{is_gt}
use Rattle.std.specs.Fmt.{decimal}
use Rattle.std.proofs.lemmas.Bool.{false_from_ne_true, le-ltb, lt-ltb}
use Rattle.std.proofs.lemmas.Fmt.{decimal_injective, decimal_digit, first_decimal}
use Rattle.std.proofs.Common.{rules, w64, to_z, of_z, ◌-ℤ◌}
use Rattle.std.proofs.lemmas.Int.{to_z_pos, to_z-of_z}
use Rattle.grid_model.specs.Names.{Text, same_text}
use Rattle.grid_model.specs.Values.{text_value, number_value, truth_value}
use Rattle.grid_model.specs.Chains.{greatest_code}
use Rattle.grid_model.proofs.Comparing.{same_text-Decides}
use Rattle.chain_core.specs.Answers.{Codes}
use Rattle.chain_core.specs.Coding.{code_for, TellsNatural, TellsNegative, TellsNumber}

pub named_test : (r : Bool) (a b : Text) → (IsTrue r ↔ (a ≡ b)) → r ≡ same_text a b
named_test true a b h = sym ((same_text-Decides a b).1 (h.0 refl))
named_test false a b h = sym (false_from_ne_true (same_text a b) (λ e. absurd (cc (h.1 ((same_text-Decides a b).0 e)))))

decimal_no_minus : (n : ℕ) (ds : List ℕ) → n < 2 ^ 64 → decimal n ≢ 45 ∷ ds
decimal_no_minus zero ds small e = omega (arith, ap (λ xs. get_or xs 0 0) (sym (decimal_digit zero (omega arith)) ∙ e))
decimal_no_minus (suc n) ds small e = omega (arith, first_decimal (suc n) (omega arith) small, ap (λ xs. get_or xs 0 0) e)

-- the code of a number, by how it compares with the greatest one
abbrev compared : ℕ → Bool → Bool → ℤ
compared n less more = elim (is_gt (cond less Less (cond more Greater Equal))) [ true ↦ greatest_code | false ↦ pos n ]

pub small_code : (n : ℕ) → n ≤ 9223372036854775807 → code_for (pos n) ≡ pos n
small_code n le = ap (compared n (nat_lt n 9223372036854775807)) (le-ltb 9223372036854775807 n le) ∙ by_less (nat_lt n 9223372036854775807)
  where
    by_less : (b : Bool) → compared n b false ≡ pos n
    by_less true = refl
    by_less false = refl

pub large_code : (n : ℕ) → 9223372036854775807 < n → code_for (pos n) ≡ greatest_code
large_code n lt =
    ap (λ b. compared n b (nat_lt 9223372036854775807 n)) (le-ltb n 9223372036854775807 (omega (arith, lt))) ∙ ap (compared n false) (lt-ltb 9223372036854775807 n lt)

-- a decimal text is of one number
pub same_number : (digits : List ℕ) (k n : ℕ) → k < 2 ^ 64 → n < 2 ^ 64 → digits ≡ decimal k → digits ≡ decimal n → n ≡ k
same_number digits k n fits small is also = sym (decimal_injective k n fits small (sym is ∙ also))

pub natural_small : (digits : List ℕ) (k : ℕ) → k < 2 ^ 64 → digits ≡ decimal k → k ≤ 9223372036854775807 → TellsNatural digits (pos k)
natural_small digits k fits is le n small also = ap (λ x. code_for (pos x)) (same_number digits k n fits small is also) ∙ small_code k le

pub natural_large : (digits : List ℕ) (k : ℕ) → k < 2 ^ 64 → digits ≡ decimal k → 9223372036854775807 < k → TellsNatural digits greatest_code
natural_large digits k fits is lt n small also = ap (λ x. code_for (pos x)) (same_number digits k n fits small is also) ∙ large_code k lt

pub negative_is : (digits : List ℕ) (k : ℕ) (code : ℤ) → k < 2 ^ 64 → digits ≡ decimal k → code ≡ negsuc (k - 1) → TellsNegative digits code
negative_is digits k code fits is coded n small also = ap negsuc (omega (arith, same_number digits k (suc n) fits (omega (arith, small)) is also)) ∙ sym coded

pub negative_not : (digits : List ℕ) (k : ℕ) (code : ℤ) → k < 2 ^ 64 → digits ≡ decimal k → (0 < k → k ≤ 2 ^ 63 → ⊥) → TellsNegative digits code
negative_not digits k code fits is none n small also =
    let same : suc n ≡ k = same_number digits k (suc n) fits (omega (arith, small)) is also in absurd (none (omega (arith, same)) (omega (arith, same, small)))

pub with_minus : (digits : List ℕ) (code : ℤ) → TellsNegative digits code → TellsNumber (45 ∷ digits) code
with_minus digits code told (pos n) is e = absurd (decimal_no_minus n digits is (sym e))
with_minus digits code told (negsuc n) is e = told n is (cc e)

pub negative_code : (n : ℕ) → code_for (negsuc n) ≡ negsuc n
negative_code n = refl

-- a text that begins with one
pub behind_minus : (text : List ℕ) (code : ℤ) → 0 < length text → get_or text 0 0 ≡ 45 → TellsNegative (drop 1 text) code → TellsNumber text code
behind_minus text code some is told = subst (λ xs. TellsNumber xs code) (sym (drop-cons text 0 0 some ∙ ap (λ b. b ∷ drop 1 text) is)) (with_minus (drop 1 text) code told)

pub if_ok : {A E : Type 0} {P Q : A → Type 0} (r : Result A E) → ((x : A) → P x → Q x) → IfOk r P → IfOk r Q
if_ok (Ok x) f p = f x p
if_ok (Err e) f p = tt

-- one without a sign
pub without_minus : (text : List ℕ) (code : ℤ) → get_or text 0 0 ≢ 45 → TellsNatural text code → TellsNumber text code
without_minus text code plain told (pos n) is e = told n is e
without_minus text code plain told (negsuc n) is e = absurd (plain (ap (λ xs. get_or xs 0 0) e))

pub codes_number : (text : Text) (code : ℤ) → TellsNumber text code → Codes (text ∷ []) code
codes_number text code told [] is e = absurd (cc e)
codes_number text code told (number_value z ∷ []) is e = told z is (cc e)
codes_number text code told (text_value t ∷ vs) is e = absurd is
codes_number text code told (truth_value b ∷ vs) is e = absurd is
codes_number text code told (number_value z ∷ v ∷ vs) is e = absurd is

minus_one : (n : ℕ) → negsuc 0 -ℤ pos n ≡ negsuc n
minus_one zero = refl
minus_one (suc n) = ap negsuc (omega arith)

-- the code of a number of the machine behind a minus
pub minus_of : (k : ℕ) → 0 < k → k - 1 ≤ 9223372036854775807 → to_z w64 (of_z w64 (negsuc 0 -ℤ to_z w64 (k - 1))) ≡ negsuc (k - 1)
minus_of k some small =
    ap (λ z. to_z w64 (of_z w64 (negsuc 0 -ℤ z))) (to_z_pos w64 (k - 1) (omega (arith, small)))
    ∙ ap (λ z. to_z w64 (of_z w64 z)) (minus_one (k - 1)) ∙ to_z-of_z w64 (negsuc (k - 1)) (search (rules, small))

-- a slice from the second byte on
pub front_off : (text : List ℕ) → take (length text - 1) (drop 1 text) ≡ drop 1 text
front_off text = take_all (length text - 1) (drop 1 text) (omega (arith, length-drop 1 text))
