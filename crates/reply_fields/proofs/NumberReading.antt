-- Reading a number and the byte that ends it.
use Rattle.std.proofs.Common.{◌≡◌, ℕ, zero, suc, ◌+◌, ◌*◌, ◌^◌, ◌<◌, ◌≤◌, true, false, List, [], ◌∷◌, ◌++◌, length, take, drop, get_or, refl, sym, ap, ◌∙◌, subst, arith, length-append, append_assoc, inl, inr}
use Rattle.std.specs.Prelude.{◌⊎◌, not, decimal}
use Rattle.std.specs.List.{list_all}
use Rattle.std.specs.Char.{is_ascii_digit}
use Rattle.std.specs.Str.{all_ascii_digits}
use Rattle.std.proofs.lemmas.List.{take_more, take-append-drop}
use Rattle.std.proofs.lemmas.Fmt.{decimal_digit, decimal_nonempty}
use Rattle.grid_model.specs.Names.{Text}
use Rattle.grid_model.specs.Places.{Begins}
use Rattle.reply_fields.specs.Fronts.{IsFieldFront, IsNoFieldFront}
use Rattle.reply_fields.specs.Spelled.{IsNumber, is_no_digit, is_among_bytes}
use Rattle.reply_fields.proofs.Codes.{IsCode, IsNoFieldFront-next}
use Rattle.reply_fields.proofs.Decimals.{decimal_some, digits-decimal, one_decimal, decimal-push, decimal-prefix, decimal-zero, same_digits, more_digits, among_all, first_among}

-- digits at the front of the rest were read
pub record Taken (least most : ℕ) (rest : Text) (len value : ℕ) : Type 0 where
  pub short : len ≤ length rest
  pub none : len ≡ 0 → value ≡ 0
  pub least_is : 0 < len → least ≤ value
  pub most_is : 0 < len → value ≤ most
  pub digits : 0 < len → take len rest ≡ decimal value

-- what a number may have
pub record Bounds (least most : ℕ) (ends : List ℕ) : Type 0 where
  pub small : least ≤ 1
  pub some : 1 ≤ most
  pub fits : most < 2 ^ 64
  pub any : 0 < length ends
  pub apart : list_all is_no_digit ends ≡ true

pub Taken-start : (least most : ℕ) (rest : Text) → Taken least most rest 0 0
Taken-start least most rest = record { short = omega arith; none = λ h. refl; least_is = λ h. absurd (omega (arith, h)); most_is = λ h. absurd (omega (arith, h)); digits = λ h. absurd (omega (arith, h)) }

-- the least that a digit more may give
pub record IsLeast (least len first : ℕ) : Type 0 where
  pub at_first : len ≡ 0 → first ≡ least
  pub later : 0 < len → first ≡ 10

cases_zero : (n : ℕ) → (n ≡ 0) ⊎ (0 < n)
cases_zero zero = inl refl
cases_zero (suc n) = inr (omega arith)

module _ (least most : ℕ) (ends : List ℕ) (bounds : Bounds least most ends) where
  pub IsCode-number : IsCode (IsNumber least most ends)
  IsCode-number = record {
    only = λ s t u v a b e p q.
        let whole : decimal a.0 ++ a.1 ∷ u ≡ decimal b.0 ++ b.1 ∷ v =
        sym (append_assoc (decimal a.0) (a.1 ∷ []) u) ∙ ap (λ x. x ++ u) (sym p.is) ∙ e ∙ ap (λ x. x ++ v) q.is ∙ append_assoc (decimal b.0) (b.1 ∷ []) v in
        let same = same_digits (decimal a.0) (decimal b.0) a.1 b.1 u v (digits-decimal a.0 (omega (arith, p.most_is, bounds.fits))) (digits-decimal b.0 (omega (arith, q.most_is, bounds.fits)))
        (among_all is_no_digit ends a.1 bounds.apart p.ends_is) (among_all is_no_digit ends b.1 bounds.apart q.ends_is) whole in
        let number = one_decimal a.0 b.0 (omega (arith, p.most_is, bounds.fits)) (omega (arith, q.most_is, bounds.fits)) same.0 in
        (p.is ∙ (λ i. same.0 i ++ same.1 i ∷ []) ∙ sym q.is, (λ i. (number i, same.1 i)));
  }

  module _ (rest : Text) (len value : ℕ) (t : Taken least most rest len value) where
    -- they are digits
    all_digits : all_ascii_digits (take len rest) ≡ true
    all_digits = by (cases_zero len)
      where
        by : (len ≡ 0) ⊎ (0 < len) → all_ascii_digits (take len rest) ≡ true
        by (inl h) = ap (λ n. all_ascii_digits (take n rest)) h
        by (inr h) = ap all_ascii_digits (t.digits h) ∙ digits-decimal value (omega (arith, t.most_is h, bounds.fits))

    -- a number begins with them
    begun : Begins (IsNumber least most ends) (take len rest)
    begun = by (cases_zero len)
      where
        by : (len ≡ 0) ⊎ (0 < len) → Begins (IsNumber least most ends) (take len rest)
        by (inl h) = record {
          more = decimal 1 ++ get_or ends 0 0 ∷ [];
          value = (1, get_or ends 0 0);
          spells = record { least_is = bounds.small; most_is = bounds.some; ends_is = first_among ends bounds.any; is = ap (λ n. take n rest ++ (decimal 1 ++ get_or ends 0 0 ∷ [])) h };
        }
        by (inr h) = record {
          more = get_or ends 0 0 ∷ [];
          value = (value, get_or ends 0 0);
          spells = record { least_is = t.least_is h; most_is = t.most_is h; ends_is = first_among ends bounds.any; is = ap (λ x. x ++ get_or ends 0 0 ∷ []) (t.digits h) };
        }

    -- and they alone are none
    unspelled : (a : ℕ × ℕ) → ¬ IsNumber least most ends (take len rest) a
    unspelled a p =
        let ended = among_all is_no_digit ends a.1 bounds.apart p.ends_is in
        let found = more_or_fewer (take len rest) (decimal a.0) a.1 all_digits ended p.is in found
      where
        more_or_fewer : (ds ns : Text) (b : ℕ) → all_ascii_digits ds ≡ true → is_no_digit b ≡ true → ds ≡ ns ++ b ∷ [] → ⊥
        more_or_fewer ds ns b d ended e =
            let twice = more_digits ds ns 48 b [] (48 ∷ []) d refl ended (ap (λ x. x ++ 48 ∷ []) e ∙ append_assoc ns (b ∷ []) (48 ∷ [])) in
            omega (arith, ap length e, ap length twice.1, length-append ns (b ∷ []), length-append ds (48 ∷ twice.0))

    next : len < length rest → take (len + 1) rest ≡ take len rest ++ get_or rest len 0 ∷ []
    next h = take_more rest len 0 h

    -- the next byte ends no number
    pub IsNoFieldFront-ended : (len < length rest → is_ascii_digit (get_or rest len 0) ≡ false) → (0 < len → len < length rest → ¬ (is_among_bytes ends (get_or rest len 0) ≡ true)) → IsNoFieldFront (IsNumber least most ends) rest len
    IsNoFieldFront-ended no_digit no_end = IsNoFieldFront-next (IsNumber least most ends) IsCode-number rest len t.short begun unspelled stops
      where
        stops : len < length rest → Begins (IsNumber least most ends) (take (len + 1) rest) → ⊥
        stops h b =
            let p = b.spells in
            let c = get_or rest len 0 in
            let whole : take len rest ++ c ∷ b.more ≡ decimal b.value.0 ++ b.value.1 ∷ [] =
            sym (append_assoc (take len rest) (c ∷ []) b.more) ∙ ap (λ x. x ++ b.more) (sym (next h)) ∙ p.is in
            let same = same_digits (take len rest) (decimal b.value.0) c b.value.1 b.more [] all_digits (digits-decimal b.value.0 (omega (arith, p.most_is, bounds.fits))) (ap not (no_digit h))
            (among_all is_no_digit ends b.value.1 bounds.apart p.ends_is) whole in
            by (cases_zero len) same.0 (subst (λ x. is_among_bytes ends x ≡ true) (sym same.1) p.ends_is) (decimal_nonempty b.value.0 (omega (arith, p.most_is, bounds.fits)))
          where
            by : (len ≡ 0) ⊎ (0 < len) → take len rest ≡ decimal b.value.0 → is_among_bytes ends (get_or rest len 0) ≡ true → 0 < length (decimal b.value.0) → ⊥
            by (inl z) same end some = omega (arith, some, ap length (sym same ∙ ap (λ n. take n rest) z))
            by (inr more) same end some = no_end more h end

    -- a digit more makes no number
    pub IsNoFieldFront-digit : (d first : ℕ) → len < length rest → get_or rest len 0 ≡ 48 + d → d < 10 → IsLeast least len first → ¬ ((first ≤ value * 10 + d) × (value * 10 + d ≤ most)) → IsNoFieldFront (IsNumber least most ends) rest len
    IsNoFieldFront-digit d first h digit small least_is none_more = IsNoFieldFront-next (IsNumber least most ends) IsCode-number rest len t.short begun unspelled (λ h b. stops b)
      where
        is_digit : is_ascii_digit (get_or rest len 0) ≡ true
        is_digit = grind (arith, digit, small)

        stops : Begins (IsNumber least most ends) (take (len + 1) rest) → ⊥
        stops b =
            let p = b.spells in
            let c = get_or rest len 0 in
            let n = b.value.0 in
            let fits : n < 2 ^ 64 = omega (arith, p.most_is, bounds.fits) in
            let whole : take len rest ++ c ∷ b.more ≡ decimal n ++ b.value.1 ∷ [] =
            sym (append_assoc (take len rest) (c ∷ []) b.more) ∙ ap (λ x. x ++ b.more) (sym (next h)) ∙ p.is in
            let longer = more_digits (take len rest) (decimal n) c b.value.1 b.more [] all_digits is_digit (among_all is_no_digit ends b.value.1 bounds.apart p.ends_is) whole in
            by n fits p.least_is p.most_is longer.0 (cases_zero len) (longer.1 ∙ ap (λ x. take len rest ++ x ∷ longer.0) digit)
          where
            by : (n : ℕ) → n < 2 ^ 64 → least ≤ n → n ≤ most → (w : Text) → (len ≡ 0) ⊎ (0 < len) → decimal n ≡ take len rest ++ (48 + d) ∷ w → ⊥
            by n fits low high w (inl z) e =
                let first_is = least_is.at_first z in
                let none = t.none z in
                let begins : decimal n ≡ decimal d ++ w = e ∙ ap (λ k. take k rest ++ (48 + d) ∷ w) z ∙ ap (λ x. x ++ w) (sym (decimal_digit d small)) in
                let m = decimal-prefix n (decimal d) w fits (decimal_nonempty d (omega (arith, small))) begins in
                let same = one_decimal d m.0 (omega (arith, small)) (omega (arith, m.1, fits)) m.2 in
                case n fits low high m.0 m.1 same w (e ∙ ap (λ k. take k rest ++ (48 + d) ∷ w) z) (cases_zero d) first_is none
              where
                case : (n : ℕ) → n < 2 ^ 64 → least ≤ n → n ≤ most → (m : ℕ) → m ≤ n → d ≡ m → (w : Text) → decimal n ≡ (48 + d) ∷ w → (d ≡ 0) ⊎ (0 < d) → first ≡ least → value ≡ 0 → ⊥
                case n fits low high m less same w e (inl zero_digit) first_is none =
                    let is_zero = decimal-zero n w fits (e ∙ ap (λ x. (48 + x) ∷ w) zero_digit) in
                    none_more (omega (arith, first_is, low, is_zero, none, zero_digit), omega (arith, none, zero_digit, bounds.some))
                case n fits low high m less same w e (inr some) first_is none =
                    none_more (omega (arith, first_is, bounds.small, some, none), omega (arith, none, less, same, high))
            by n fits low high w (inr more) e = case (cases_zero value)
              where
                begins : decimal n ≡ decimal value ++ (48 + d) ∷ w
                begins = e ∙ ap (λ x. x ++ (48 + d) ∷ w) (t.digits more)

                case : (value ≡ 0) ⊎ (0 < value) → ⊥
                case (inl z) =
                    let starts : decimal n ≡ 48 ∷ (48 + d) ∷ w = begins ∙ ap (λ v. decimal v ++ (48 + d) ∷ w) z ∙ ap (λ x. x ++ (48 + d) ∷ w) (decimal_digit 0 (omega arith)) in
                    let is_zero = decimal-zero n ((48 + d) ∷ w) fits starts in
                    omega (arith, ap length (sym starts ∙ ap decimal is_zero ∙ decimal_digit 0 (omega arith)))
                case (inr some) =
                    let grown : decimal n ≡ decimal (value * 10 + d) ++ w =
                    begins ∙ sym (append_assoc (decimal value) ((48 + d) ∷ []) w) ∙ ap (λ x. x ++ w) (decimal-push value d some small (omega (arith, t.most_is more, bounds.fits))) in
                    let m = decimal-prefix n (decimal (value * 10 + d)) w fits (decimal_some (value * 10 + d) (omega (arith, t.most_is more, bounds.fits, small))) grown in
                    let same = one_decimal (value * 10 + d) m.0 (omega (arith, t.most_is more, bounds.fits, small)) (omega (arith, m.1, fits)) m.2 in
                    none_more (omega (arith, least_is.later more, some), omega (arith, same, m.1, high))

    -- a digit more
    pub Taken-more : (d first more : ℕ) → len < length rest → get_or rest len 0 ≡ 48 + d → d < 10 → IsLeast least len first → first ≤ value * 10 + d → value * 10 + d ≤ most → more ≡ value * 10 + d → Taken least most rest (len + 1) more
    Taken-more d first more h digit small least_is low high is = by (cases_zero len)
      where
        by : (len ≡ 0) ⊎ (0 < len) → Taken least most rest (len + 1) more
        by (inl z) =
            let none = t.none z in
            record {
              short = omega (arith, h);
              none = λ g. absurd (omega (arith, g));
              least_is = λ g. omega (arith, least_is.at_first z, low, is);
              most_is = λ g. omega (arith, high, is);
              digits = λ g. next h ∙ ap (λ k. take k rest ++ get_or rest len 0 ∷ []) z ∙ ap (λ x. x ∷ []) digit ∙ sym (decimal_digit d small) ∙ ap decimal (omega (arith, is, none));
            }
        by (inr g) =
            let some : 0 < value = omega (arith, least_is.later g, low, small) in
            record {
              short = omega (arith, h);
              none = λ g. absurd (omega (arith, g));
              least_is = λ x. omega (arith, t.least_is g, is);
              most_is = λ x. omega (arith, high, is);
              digits = λ x. next h ∙ (λ i. t.digits g i ++ digit i ∷ []) ∙ decimal-push value d some small (omega (arith, t.most_is g, bounds.fits)) ∙ ap decimal (sym is);
            }

    pub IsFieldFront-number : 0 < len → len < length rest → is_among_bytes ends (get_or rest len 0) ≡ true → IsFieldFront (IsNumber least most ends) rest (value, get_or rest len 0) (drop (len + 1) rest)
    IsFieldFront-number some h end = record {
      spelled = take (len + 1) rest;
      split = sym (take-append-drop (len + 1) rest);
      spells = record { least_is = t.least_is some; most_is = t.most_is some; ends_is = end; is = next h ∙ ap (λ x. x ++ get_or rest len 0 ∷ []) (t.digits some) };
    }
