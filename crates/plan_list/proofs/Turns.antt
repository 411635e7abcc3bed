-- A list from a place on.
use Rattle.std.proofs.Common.{◌≡◌, ℕ, zero, suc, ◌+◌, ◌<◌, ◌≤◌, List, [], ◌∷◌, length, get_or, drop, refl, ap, ◌∙◌, arith}

-- is what stands there and what comes later
pub drop_is : {X : Type 0} (xs : List X) (i : ℕ) (d : X) → i < length xs → drop i xs ≡ get_or xs i d ∷ drop (i + 1) xs
drop_is [] i d within = absurd (omega (arith, within))
drop_is (x ∷ xs) zero d within = refl
drop_is (x ∷ xs) (suc i) d within = let more : suc (i + 1) ≡ suc i + 1 = omega arith in drop_is xs i d (omega (arith, within)) ∙ ap (λ n. get_or xs i d ∷ drop n (x ∷ xs)) more

-- from its end on there is nothing
pub drop_none : {X : Type 0} (xs : List X) (i : ℕ) → length xs ≤ i → drop i xs ≡ []
drop_none [] zero past = refl
drop_none [] (suc i) past = refl
drop_none (x ∷ xs) zero past = absurd (omega (arith, past))
drop_none (x ∷ xs) (suc i) past = drop_none xs i (omega (arith, past))
