-- Reading a number that may be negative.
use Rattle.std.proofs.Common.{◌≡◌, ◌≢◌, ℕ, zero, suc, ◌+◌, ◌-◌, ◌^◌, ◌<◌, ◌≤◌, true, [], ◌∷◌, ◌++◌, Err, length, take, drop, get_or, refl, sym, ap, ◌∙◌, subst, arith, append_assoc}
use Rattle.std.specs.Prelude.{ℤ, pos, negsuc, decimal}
use Rattle.std.specs.Char.{is_ascii_digit}
use Rattle.std.specs.Str.{all_ascii_digits}
use Rattle.std.proofs.lemmas.Bool.{and_parts, false≢true}
use Rattle.std.proofs.lemmas.List.{drop_more, get_or-drop, get_or-take, length-drop, get_or_append_left, length-take-le}
use Rattle.grid_model.specs.Names.{Text}
use Rattle.reply_fields.specs.declared.error.ReplyError.{ReplyError}
use Rattle.reply_fields.specs.declared.error.ReplyError.TheVariants.{BadReply, Memory}
use Rattle.reply_fields.specs.Fronts.{IsNoFieldFront, IsRead, ReadsFrom}
use Rattle.reply_fields.specs.Spelled.{IsNumber}
use Rattle.reply_fields.specs.SignedLines.{IsSignedLine, at_least_zero, below_zero}
use Rattle.reply_fields.proofs.Codes.{IsCode}
use Rattle.reply_fields.proofs.NumberReading.{IsCode-number}
use Rattle.reply_fields.proofs.Decimals.{digits-decimal, decimal_some}
use Rattle.reply_fields.proofs.CountedReading.{only_newline}

abbrev Plus : Text → ℕ × ℕ → Type 0
Plus = IsNumber 0 9223372036854775807 (0x0A ∷ [])

abbrev Minus : Text → ℕ × ℕ → Type 0
Minus = IsNumber 1 9223372036854775808 (0x0A ∷ [])

from_plus : (s : Text) (r : ℕ × ℕ) → Plus s r → IsSignedLine s (pos r.0)
from_plus s r p = at_least_zero (omega (arith, p.most_is)) (p.is ∙ ap (λ b. decimal r.0 ++ b ∷ []) (only_newline r.1 p.ends_is))

to_plus : (s : Text) (n : ℕ) → n < 2 ^ 63 → s ≡ decimal n ++ 0x0A ∷ [] → Plus s (n, 0x0A)
to_plus s n small is = record { least_is = omega arith; most_is = omega (arith, small); ends_is = refl; is = is }

from_minus : (s : Text) (r : ℕ × ℕ) → Minus s r → IsSignedLine (0x2D ∷ s) (negsuc (r.0 - 1))
from_minus s r p =
    let count : r.0 ≡ suc (r.0 - 1) = omega (arith, p.least_is) in
    below_zero (omega (arith, p.least_is, p.most_is)) (ap (λ t. 0x2D ∷ t) (p.is ∙ (λ i. decimal (count i) ++ only_newline r.1 p.ends_is i ∷ [])))

to_minus : (s : Text) (n : ℕ) → n < 2 ^ 63 → s ≡ decimal (suc n) ++ 0x0A ∷ [] → Minus s (suc n, 0x0A)
to_minus s n small is = record { least_is = omega arith; most_is = omega (arith, small); ends_is = refl; is = is }

-- a number does not begin with `-`
no_minus : (n : ℕ) (x t : Text) → n < 2 ^ 63 → decimal n ++ x ≡ 0x2D ∷ t → ⊥
no_minus n x t small e = by (decimal n) (decimal_some n (omega (arith, small))) (digits-decimal n (omega (arith, small))) e
  where
    by : (ds : Text) → 0 < length ds → all_ascii_digits ds ≡ true → ds ++ x ≡ 0x2D ∷ t → ⊥
    by [] some all f = omega (arith, some)
    by (d ∷ ds) some all f =
        let first : 0x2D ≡ d = cc in
        false≢true (ap is_ascii_digit first ∙ (and_parts (is_ascii_digit d) (all_ascii_digits ds) all).0)

plus_none : (rest : Text) (n : ℕ) → (0 < length rest → get_or rest 0 0 ≢ 0x2D) → IsNoFieldFront Plus rest n → IsNoFieldFront IsSignedLine rest n
plus_none rest n other h = record {
  within = h.within;
  begins = record { more = h.begins.more; value = pos h.begins.value.0; spells = from_plus (take n rest ++ h.begins.more) h.begins.value h.begins.spells };
  none = λ s last z split p. none s last z split p;
  longest = λ k more short b. longest k more short b.more b.value b.spells;
}
  where
    none : (s last : Text) (z : ℤ) → rest ≡ s ++ last → IsSignedLine s z → ⊥
    none s last z split (at_least_zero {n = m} small is) = h.none s last (m, 0x0A) split (to_plus s m small is)
    none s last z split (below_zero {n = m} small is) =
        let begins : rest ≡ 0x2D ∷ (decimal (suc m) ++ 0x0A ∷ [] ++ last) = split ∙ ap (λ t. t ++ last) is in
        other (omega (arith, ap length begins)) (ap (λ t. get_or t 0 0) begins)

    longest : (k : ℕ) → n < k → k ≤ length rest → (x : Text) (z : ℤ) → IsSignedLine (take k rest ++ x) z → ⊥
    longest k more short x z (at_least_zero {n = m} small is) = h.longest k more short (record { more = x; value = (m, 0x0A); spells = to_plus (take k rest ++ x) m small is })
    longest k more short x z (below_zero {n = m} small is) =
        let first : get_or (take k rest ++ x) 0 0 ≡ get_or rest 0 0 = get_or_append_left (take k rest) x 0 0 (omega (arith, more, length-take-le k rest short)) ∙ get_or-take k rest 0 0 (omega (arith, more)) in
        other (omega (arith, more, short)) (sym first ∙ ap (λ t. get_or t 0 0) is)

minus_none : (rest : Text) (n : ℕ) → IsNoFieldFront Minus rest n → IsNoFieldFront IsSignedLine (0x2D ∷ rest) (suc n)
minus_none rest n h = record {
  within = omega (arith, h.within);
  begins = record { more = h.begins.more; value = negsuc (h.begins.value.0 - 1); spells = from_minus (take n rest ++ h.begins.more) h.begins.value h.begins.spells };
  none = λ s last z split p. none s last z split p;
  longest = λ k more short b. longest k more short b.more b.value b.spells;
}
  where
    none : (s last : Text) (z : ℤ) → 0x2D ∷ rest ≡ s ++ last → IsSignedLine s z → ⊥
    none s last z split (at_least_zero {n = m} small is) = no_minus m (0x0A ∷ [] ++ last) rest small (sym (split ∙ ap (λ t. t ++ last) is ∙ append_assoc (decimal m) (0x0A ∷ []) last))
    none s last z split (below_zero {n = m} small is) =
        let whole : 0x2D ∷ rest ≡ 0x2D ∷ (decimal (suc m) ++ 0x0A ∷ [] ++ last) = split ∙ ap (λ t. t ++ last) is in
        let behind : rest ≡ decimal (suc m) ++ 0x0A ∷ [] ++ last = cc in
        h.none (decimal (suc m) ++ 0x0A ∷ []) last (suc m, 0x0A) behind (to_minus (decimal (suc m) ++ 0x0A ∷ []) m small refl)

    longest : (k : ℕ) → suc n < k → k ≤ length (0x2D ∷ rest) → (x : Text) (z : ℤ) → IsSignedLine (take k (0x2D ∷ rest) ++ x) z → ⊥
    longest zero more short x z p = omega (arith, more)
    longest (suc j) more short x z (at_least_zero {n = m} small is) = no_minus m (0x0A ∷ []) (take j rest ++ x) small (sym is)
    longest (suc j) more short x z (below_zero {n = m} small is) =
        let behind : take j rest ++ x ≡ decimal (suc m) ++ 0x0A ∷ [] = cc in
        h.longest j (omega (arith, more)) (omega (arith, short)) (record { more = x; value = (suc m, 0x0A); spells = to_minus (take j rest ++ x) m small behind })

-- ---- from a place on

pub plus_read : (text : Text) (at next : ℕ) (r : ℕ × ℕ) (z : ℤ) → IsRead (IsNumber 0 9223372036854775807 (0x0A ∷ [])) text at r next → z ≡ pos r.0 → IsRead IsSignedLine text at z next
plus_read text at next r z h is = subst (λ v. IsRead IsSignedLine text at v next) (sym is) (record { forward = h.forward; within = h.within; front = record { spelled = h.front.spelled; split = h.front.split; spells = from_plus h.front.spelled r h.front.spells } })

pub plus_unread : (text : Text) (at : ℕ) (e : ReplyError) → at ≤ length text → (at < length text → get_or text at 0 ≢ 0x2D) → ReadsFrom (IsNumber 0 9223372036854775807 (0x0A ∷ [])) text at (Err e) → ReadsFrom IsSignedLine text at (Err e)
plus_unread text at (BadReply place) inside other h = record {
  forward = h.forward;
  none = plus_none (drop at text) (place - at) (λ some e. other (omega (arith, some, length-drop at text)) (let plus : at ≡ at + 0 = omega arith in ap (λ k. get_or text k 0) plus ∙ sym (get_or-drop at text 0 0) ∙ e)) h.none;
}
plus_unread text at Memory inside other h = tt

behind_minus : (text : Text) (at : ℕ) → at < length text → get_or text at 0 ≡ 0x2D → drop at text ≡ 0x2D ∷ drop (at + 1) text
behind_minus text at within minus = drop_more text at 0 within ∙ ap (λ b. b ∷ drop (at + 1) text) minus

pub minus_read : (text : Text) (at next : ℕ) (r : ℕ × ℕ) (z : ℤ) → at < length text → get_or text at 0 ≡ 0x2D → IsRead (IsNumber 1 9223372036854775808 (0x0A ∷ [])) text (at + 1) r next → z ≡ negsuc (r.0 - 1) → IsRead IsSignedLine text at z next
minus_read text at next r z within minus h is = subst (λ v. IsRead IsSignedLine text at v next) (sym is) (record {
  forward = omega (arith, h.forward);
  within = h.within;
  front = record { spelled = 0x2D ∷ h.front.spelled; split = behind_minus text at within minus ∙ ap (λ t. 0x2D ∷ t) h.front.split; spells = from_minus h.front.spelled r h.front.spells };
})

pub minus_unread : (text : Text) (at : ℕ) (e : ReplyError) → at < length text → get_or text at 0 ≡ 0x2D → ReadsFrom (IsNumber 1 9223372036854775808 (0x0A ∷ [])) text (at + 1) (Err e) → ReadsFrom IsSignedLine text at (Err e)
minus_unread text at (BadReply place) within minus h =
    let count : suc (place - (at + 1)) ≡ place - at = omega (arith, h.forward) in
    record { forward = omega (arith, h.forward); none = subst (IsNoFieldFront IsSignedLine (drop at text)) count (subst (λ t. IsNoFieldFront IsSignedLine t (suc (place - (at + 1)))) (sym (behind_minus text at within minus)) (minus_none (drop (at + 1) text) (place - (at + 1)) h.none)) }
minus_unread text at Memory within minus h = tt

-- ---- none begins another one

IsCode-plus : IsCode (IsNumber 0 9223372036854775807 (0x0A ∷ []))
IsCode-plus = IsCode-number 0 9223372036854775807 (0x0A ∷ []) (record { small = omega arith; some = omega arith; fits = omega arith; any = omega arith; apart = refl })

only_signed : (s t u v : Text) (a b : ℤ) → s ++ u ≡ t ++ v → IsSignedLine s a → IsSignedLine t b → (s ≡ t) × (a ≡ b)
only_signed s t u v a b e (at_least_zero {n = m} small is) (at_least_zero {n = n} also same) =
    let both = IsCode-plus.only s t u v (m, 0x0A) (n, 0x0A) e (to_plus s m small is) (to_plus t n also same) in
    (both.0, ap (λ r. pos r.0) both.1)
only_signed s t u v a b e (at_least_zero {n = m} small is) (below_zero {n = n} also same) =
    absurd (no_minus m (0x0A ∷ [] ++ u) (decimal (suc n) ++ 0x0A ∷ [] ++ v) small (sym (append_assoc (decimal m) (0x0A ∷ []) u) ∙ ap (λ x. x ++ u) (sym is) ∙ e ∙ ap (λ x. x ++ v) same))
only_signed s t u v a b e (below_zero {n = m} small is) (at_least_zero {n = n} also same) =
    absurd (no_minus n (0x0A ∷ [] ++ v) (decimal (suc m) ++ 0x0A ∷ [] ++ u) also (sym (append_assoc (decimal n) (0x0A ∷ []) v) ∙ ap (λ x. x ++ v) (sym same) ∙ sym e ∙ ap (λ x. x ++ u) is))
only_signed s t u v a b e (below_zero {n = m} small is) (below_zero {n = n} also same) =
    let whole : 0x2D ∷ (decimal (suc m) ++ 0x0A ∷ [] ++ u) ≡ 0x2D ∷ (decimal (suc n) ++ 0x0A ∷ [] ++ v) = ap (λ x. x ++ u) (sym is) ∙ e ∙ ap (λ x. x ++ v) same in
    let behind : decimal (suc m) ++ 0x0A ∷ [] ++ u ≡ decimal (suc n) ++ 0x0A ∷ [] ++ v = cc in
    let both = IsCode-minus.only (decimal (suc m) ++ 0x0A ∷ []) (decimal (suc n) ++ 0x0A ∷ []) u v (suc m, 0x0A) (suc n, 0x0A) behind (to_minus (decimal (suc m) ++ 0x0A ∷ []) m small refl) (to_minus (decimal (suc n) ++ 0x0A ∷ []) n also refl) in
    let next : suc m ≡ suc n = ap (λ r. r.0) both.1 in
    let number : m ≡ n = omega (arith, next) in
    (is ∙ ap (λ x. 0x2D ∷ x) both.0 ∙ sym same, ap negsuc number)
  where
    IsCode-minus : IsCode (IsNumber 1 9223372036854775808 (0x0A ∷ []))
    IsCode-minus = IsCode-number 1 9223372036854775808 (0x0A ∷ []) (record { small = omega arith; some = omega arith; fits = omega arith; any = omega arith; apart = refl })

pub IsCode-signed : IsCode IsSignedLine
IsCode-signed = record { only = only_signed }
