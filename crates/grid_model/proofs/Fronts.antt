-- What stands in front of the first byte that a test finds.
use Rattle.std.proofs.Common.{◌≡◌, ℕ, zero, suc, ◌+◌, ◌≤◌, Bool, true, false, cond, List, [], ◌∷◌, ◌++◌, length, take, drop, Some, None, nat_lt, unwrap_or, refl, sym, ap, ◌∙◌, subst, arith}
use Rattle.std.specs.Prelude.{not, ◌&&◌, position}
use Rattle.std.specs.List.{list_all, position_or_len}
use Rattle.std.proofs.lemmas.Bool.{and_from, and_parts, ltb-false}
use Rattle.std.proofs.lemmas.List.Folds.{list_all-append}
use Rattle.std.proofs.lemmas.List.Sums.{prefix_len-le-length}
use Rattle.std.proofs.lemmas.List.{take-append-drop}

module _ {X : Type 0} where
  pub position_or_len-le : (p : X → Bool) (xs : List X) → position_or_len p xs ≤ length xs
  position_or_len-le p xs = prefix_len-le-length (λ x. not (p x)) xs

  -- the place, or the length where there is none
  pub unwrap_or-position : (p : X → Bool) (xs : List X) → unwrap_or (position p xs) (length xs) ≡ position_or_len p xs
  unwrap_or-position p xs = by (nat_lt (position_or_len p xs) (length xs)) refl
    where
      by : (b : Bool) → nat_lt (position_or_len p xs) (length xs) ≡ b → unwrap_or (cond b (Some (position_or_len p xs)) None) (length xs) ≡ position_or_len p xs
      by true e = refl
      by false e = omega (arith, ltb-false _ _ e, position_or_len-le p xs)

  -- what fails `stop` passes p: all before the first that passes `stop` do
  pub list_all-front : (p stop : X → Bool) → ((x : X) → stop x ≡ false → p x ≡ true) → (xs : List X) (k : ℕ) → k ≤ position_or_len stop xs → list_all p (take k xs) ≡ true
  list_all-front p stop pass xs zero h = refl
  list_all-front p stop pass [] (suc k) h = refl
  list_all-front p stop pass (x ∷ xs) (suc k) h = by (λ m. list_all-front p stop pass xs k m) (stop x) refl
    where
      by : (k ≤ position_or_len stop xs → list_all p (take k xs) ≡ true) → (b : Bool) → stop x ≡ b → (p x && list_all p (take k xs)) ≡ true
      by rest true e =
          let none : suc k ≤ 0 = subst (λ b. suc k ≤ cond (not b) (1 + position_or_len stop xs) 0) e h in
          absurd (omega (arith, none))
      by rest false e =
          let more : suc k ≤ 1 + position_or_len stop xs = subst (λ b. suc k ≤ cond (not b) (1 + position_or_len stop xs) 0) e h in
          and_from (p x) (list_all p (take k xs)) (pass x e) (rest (omega (arith, more)))

  pub list_all-first : (p : X → Bool) (xs ys : List X) → list_all p (xs ++ ys) ≡ true → list_all p xs ≡ true
  list_all-first p xs ys h = (and_parts (list_all p xs) (list_all p ys) (sym (list_all-append p xs ys) ∙ h)).0

  pub list_all-second : (p : X → Bool) (xs ys : List X) → list_all p (xs ++ ys) ≡ true → list_all p ys ≡ true
  list_all-second p xs ys h = (and_parts (list_all p xs) (list_all p ys) (sym (list_all-append p xs ys) ∙ h)).1

  pub list_all-both : (p : X → Bool) (xs ys : List X) → list_all p xs ≡ true → list_all p ys ≡ true → list_all p (xs ++ ys) ≡ true
  list_all-both p xs ys g h = list_all-append p xs ys ∙ and_from (list_all p xs) (list_all p ys) g h

  pub list_all-take : (p : X → Bool) (n : ℕ) (xs : List X) → list_all p xs ≡ true → list_all p (take n xs) ≡ true
  list_all-take p n xs h = list_all-first p (take n xs) (drop n xs) (ap (list_all p) (take-append-drop n xs) ∙ h)
