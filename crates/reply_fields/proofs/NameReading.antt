-- Reading one of some names.
use Rattle.std.proofs.Common.{◌≡◌, ◌≢◌, ℕ, zero, suc, ◌+◌, ◌<◌, ◌≤◌, Bool, true, false, List, [], ◌∷◌, ◌++◌, length, take, drop, get_or, refl, sym, ap, ◌∙◌, subst, arith, length-append, inl, inr, eq-eqb}
use Rattle.std.specs.Prelude.{◌⊎◌, not, ◌||◌, ◌==◌, IsTrue}
use Rattle.std.specs.List.{list_all}
use Rattle.std.proofs.lemmas.Bool.{cases_lt, and_parts, false≢true}
use Rattle.std.proofs.lemmas.List.{take_all, take-append-drop, take_at, get_or-take, length-take-le}
use Rattle.grid_model.specs.Names.{Text}
use Rattle.grid_model.specs.Places.{Begins}
use Rattle.reply_fields.specs.Fronts.{IsFieldFront, IsNoFieldFront}
use Rattle.reply_fields.specs.Spelled.{SharesFirst, IsNameOf, is_apart, are_apart}
use Rattle.reply_fields.proofs.Codes.{IsCode}

-- no more bytes are shared
pub most_shared : (left right : Text) (n k : ℕ) → SharesFirst left right n → k ≤ length left → k ≤ length right → take k left ≡ take k right → k ≤ n
most_shared left right n k s in_left in_right same = by (cases_lt n k)
  where
    by : (n < k) ⊎ (k ≤ n) → k ≤ n
    by (inr h) = h
    by (inl more) =
        absurd (s.differ (omega (arith, more, in_left)) (omega (arith, more, in_right))
        (sym (get_or-take k left n 0 more) ∙ ap (λ t. get_or t n 0) same ∙ get_or-take k right n 0 more))

-- ---- names of which none begins another

differs-apart : (s t u v : Text) → is_apart s t ≡ true → s ++ u ≡ t ++ v → ⊥
differs-apart [] t u v d e = cc
differs-apart (a ∷ s) [] u v d e = cc
differs-apart (a ∷ s) (b ∷ t) u v d e = by (λ h. differs-apart s t u v h cc) (a == b) refl
  where
    by : (is_apart s t ≡ true → ⊥) → (x : Bool) → (a == b) ≡ x → ⊥
    by rest true same = rest (ap (λ x. not x || is_apart s t) (sym same) ∙ d)
    by rest false other =
        let first : a ≡ b = cc in
        false≢true (sym other ∙ eq-eqb a b first)

at_all : (p : Text → Bool) (names : List Text) (i : ℕ) → list_all p names ≡ true → i < length names → p (get_or names i []) ≡ true
at_all p [] i h within = absurd (omega (arith, within))
at_all p (s ∷ names) zero h within = (and_parts (p s) (list_all p names) h).0
at_all p (s ∷ names) (suc i) h within = at_all p names i (and_parts (p s) (list_all p names) h).1 (omega (arith, within))

one_name : (names : List Text) (i j : ℕ) (u v : Text) → are_apart names ≡ true → i < length names → j < length names → get_or names i [] ++ u ≡ get_or names j [] ++ v → i ≡ j
one_name [] i j u v a h g e = absurd (omega (arith, h))
one_name (s ∷ names) zero zero u v a h g e = refl
one_name (s ∷ names) zero (suc j) u v a h g e = absurd (differs-apart s (get_or names j []) u v (at_all (is_apart s) names j (and_parts (list_all (is_apart s) names) (are_apart names) a).0 (omega (arith, g))) e)
one_name (s ∷ names) (suc i) zero u v a h g e = absurd (differs-apart s (get_or names i []) v u (at_all (is_apart s) names i (and_parts (list_all (is_apart s) names) (are_apart names) a).0 (omega (arith, h))) (sym e))
one_name (s ∷ names) (suc i) (suc j) u v a h g e = ap suc (one_name names i j u v (and_parts (list_all (is_apart s) names) (are_apart names) a).1 (omega (arith, h)) (omega (arith, g)) e)

pub IsCode-names : (names : List Text) → IsTrue (are_apart names) → IsCode (IsNameOf names)
IsCode-names names apart = record {
  only = λ s t u v i j e p q.
      let same = one_name names i j u v apart p.within q.within ((λ k. sym p.is k ++ u) ∙ e ∙ (λ k. q.is k ++ v)) in
      (p.is ∙ ap (λ k. get_or names k []) same ∙ sym q.is, same);
}

-- ---- the first of them were tried

pub record Tried (rest : Text) (names : List Text) (i furthest : ℕ) : Type 0 where
  pub within : furthest ≤ length rest
  pub begins : Begins (IsNameOf names) (take furthest rest)
  pub each : (j k : ℕ) → j < i → k ≤ length rest → k ≤ length (get_or names j []) → take k rest ≡ take k (get_or names j []) → (k ≤ furthest) × (k < length (get_or names j []))

pub Tried-start : (rest : Text) (names : List Text) → 0 < length names → Tried rest names 0 0
Tried-start rest names some = record {
  within = omega arith;
  begins = record { more = get_or names 0 []; value = 0; spells = record { within = some; is = refl } };
  each = λ j k less. absurd (omega (arith, less));
}

Begins-shared : (rest : Text) (names : List Text) (i n : ℕ) → i < length names → SharesFirst rest (get_or names i []) n → Begins (IsNameOf names) (take n rest)
Begins-shared rest names i n within s = record {
  more = drop n (get_or names i []);
  value = i;
  spells = record { within = within; is = ap (λ t. t ++ drop n (get_or names i [])) s.same ∙ take-append-drop n (get_or names i []) };
}

pub Tried-more : (rest : Text) (names : List Text) (i furthest next n : ℕ) → i < length names → Tried rest names i furthest → SharesFirst rest (get_or names i []) n → n ≢ length (get_or names i []) → (n ≤ furthest) × (next ≡ furthest) ⊎ (furthest < n) × (next ≡ n) → Tried rest names (i + 1) next
Tried-more rest names i furthest next n within t s short which = by which
  where
    one : (m j k : ℕ) → n ≤ m → furthest ≤ m → j < i + 1 → k ≤ length rest → k ≤ length (get_or names j []) → take k rest ≡ take k (get_or names j []) → (k ≤ m) × (k < length (get_or names j []))
    one m j k more further less in_rest in_name same = case (cases_lt j i)
      where
        case : (j < i) ⊎ (i ≤ j) → (k ≤ m) × (k < length (get_or names j []))
        case (inl h) = let e = t.each j k h in_rest in_name same in (omega (arith, e.0, further), e.1)
        case (inr h) =
            let is : j ≡ i = omega (arith, less, h) in
            let least : k ≤ n = most_shared rest (get_or names i []) n k s in_rest (subst (λ x. k ≤ length (get_or names x [])) is in_name) (subst (λ x. take k rest ≡ take k (get_or names x [])) is same) in
            let size : n < length (get_or names j []) = subst (λ x. n < length (get_or names x [])) (sym is) (omega (arith, s.in_right, short)) in
            (omega (arith, least, more), omega (arith, least, size))

    by : (n ≤ furthest) × (next ≡ furthest) ⊎ (furthest < n) × (next ≡ n) → Tried rest names (i + 1) next
    by (inl h) = subst (Tried rest names (i + 1)) (sym h.1) (record { within = t.within; begins = t.begins; each = λ j k. one furthest j k h.0 (omega arith) })
    by (inr h) = subst (Tried rest names (i + 1)) (sym h.1) (record { within = s.in_left; begins = Begins-shared rest names i n within s; each = λ j k. one n j k (omega arith) (omega (arith, h.0)) })

-- no name stands there
pub IsNoFieldFront-tried : (rest : Text) (names : List Text) (i furthest : ℕ) → length names ≤ i → Tried rest names i furthest → IsNoFieldFront (IsNameOf names) rest furthest
IsNoFieldFront-tried rest names i furthest all t = record {
  within = t.within;
  begins = t.begins;
  none = λ s last j split p.
      let name = get_or names j [] in
      let size : length name ≤ length rest = omega (arith, ap length split, length-append s last, ap length p.is) in
      let same : take (length name) rest ≡ name = ap (take (length name)) (split ∙ ap (λ x. x ++ last) p.is) ∙ take_at name last (length name) refl in
      omega (arith, (t.each j (length name) (omega (arith, p.within, all)) size (omega arith) (same ∙ sym (take_all (length name) name (omega arith)))).1);
  longest = λ k more short b.
      let p = b.spells in
      let name = get_or names b.value [] in
      let cut : length (take k rest) ≡ k = length-take-le k rest short in
      let size : k ≤ length name = omega (arith, cut, ap length p.is, length-append (take k rest) b.more) in
      let same : take k rest ≡ take k name = sym (take_at (take k rest) b.more k cut) ∙ ap (take k) p.is in
      omega (arith, more, (t.each b.value k (omega (arith, p.within, all)) short size same).0);
}

pub IsFieldFront-name : (rest : Text) (names : List Text) (i n : ℕ) → i < length names → SharesFirst rest (get_or names i []) n → n ≡ length (get_or names i []) → IsFieldFront (IsNameOf names) rest i (drop n rest)
IsFieldFront-name rest names i n within s whole = record {
  spelled = take n rest;
  split = sym (take-append-drop n rest);
  spells = record { within = within; is = s.same ∙ take_all n (get_or names i []) (omega (arith, whole)) };
}
