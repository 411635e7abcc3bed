-- What lies below a path, and the collection that it lies in.
use Rattle.std.proofs.Common.{◌≡◌, ℕ, suc, ◌<◌, ◌≤◌, Bool, true, false, [], ◌∷◌, ◌++◌, length, take, Some, None, nat_lt, refl, sym, ap, ◌∙◌, arith}
use Rattle.std.specs.Prelude.{◌&&◌, option_map}
use Rattle.std.specs.List.{starts_with}
use Rattle.std.specs.Option.{option_map_or}
use Rattle.std.proofs.lemmas.Bool.Decides.{nat_tests}
use Rattle.std.specs.Cmp.Lexicographic.{pointwise}
use Rattle.std.proofs.lemmas.Bool.{and_right, lt-ltb, le-ltb}
use Rattle.grid_model.specs.Names.{Text, Path, same_text, path_below, is_under, parent}

-- the collection is the path without its last name
pub parent-push : (p : Path) (n : Text) → parent (p ++ n ∷ []) ≡ Some p
parent-push [] n = refl
parent-push (m ∷ []) n = refl
parent-push (m ∷ k ∷ p) n = ap (option_map (λ q. m ∷ q)) (parent-push (k ∷ p) n)

and_true : (b : Bool) → b ≡ (b && true)
and_true true = refl
and_true false = refl

lt-suc : (a b : ℕ) → nat_lt (suc a) (suc b) ≡ nat_lt a b
lt-suc a b = grind (arith, nat_tests)

lt-zero : (a : ℕ) → nat_lt (suc a) 0 ≡ false
lt-zero a = le-ltb (suc a) 0 (omega arith)

-- below it: longer, with its names in front
pub is_under-starts : (a p : Path) → is_under a p ≡ (nat_lt (length a) (length p) && pointwise same_text a (take (length a) p))
is_under-starts [] p = and_true (nat_lt 0 (length p))
is_under-starts (n ∷ a) [] = sym (ap (λ b. b && false) (lt-zero (length a)))
is_under-starts (n ∷ a) (m ∷ p) = by (is_under-starts a p) (same_text n m) ∙ ap (λ b. b && (same_text n m && pointwise same_text a (take (length a) p))) (sym (lt-suc (length a) (length p)))
  where
    by : is_under a p ≡ (nat_lt (length a) (length p) && pointwise same_text a (take (length a) p)) → (b : Bool)
        → option_map_or (λ rest. nat_lt 0 (length rest)) (elim b [ true ↦ path_below a p | false ↦ None ]) false ≡ (nat_lt (length a) (length p) && (b && pointwise same_text a (take (length a) p)))
    by rest true = rest
    by rest false = sym (and_right (nat_lt (length a) (length p)) false refl)

pub is_under-long : (a p : Path) (b : Bool) → length a < length p → b ≡ starts_with same_text p a → b ≡ is_under a p
is_under-long a p b long starts = starts ∙ sym (is_under-starts a p ∙ ap (λ x. x && pointwise same_text a (take (length a) p)) (lt-ltb (length a) (length p) long))

pub is_under-short : (a p : Path) → length p ≤ length a → is_under a p ≡ false
is_under-short a p short = is_under-starts a p ∙ ap (λ x. x && pointwise same_text a (take (length a) p)) (le-ltb (length a) (length p) short)
