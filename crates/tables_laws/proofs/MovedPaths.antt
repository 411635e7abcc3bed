-- Where paths are once what was at one is at another.
use Rattle.std.proofs.Common.{◌≡◌, ◌++◌, Bool, true, false, [], ◌∷◌, Option, Some, None, refl, sym, ap, ◌∙◌, append_assoc}
use Rattle.std.specs.Prelude.{option_map}
use Rattle.std.proofs.lemmas.List.{append-nil}
use Rattle.grid_model.specs.Names.{Text, Path, same_text, path_below}
use Rattle.grid_model.specs.Moves.{moved}
use Rattle.grid_model.proofs.Comparing.{same_text-Decides}

below-self : (p : Path) → path_below p p ≡ Some []
below-self [] = refl
below-self (n ∷ p) = ap (λ b. elim b as (λ _. Option Path) [ true ↦ path_below p p | false ↦ None ]) ((same_text-Decides n n).1 refl) ∙ below-self p

below-push : (a q : Path) (n : Text) → (q ++ n ∷ [] ≡ a → ⊥) → path_below a (q ++ n ∷ []) ≡ option_map (λ rest. rest ++ n ∷ []) (path_below a q)
below-push [] q n apart = refl
below-push (x ∷ a) [] n apart = first (same_text x n) refl
  where
    nothing : (b : Path) → x ≡ n → (n ∷ [] ≡ x ∷ b → ⊥) → path_below b [] ≡ None
    nothing [] same differs = absurd (differs (ap (λ (m : Text). m ∷ []) (sym same)))
    nothing (y ∷ b) same differs = refl

    first : (b : Bool) → same_text x n ≡ b → elim b as (λ _. Option Path) [ true ↦ path_below a [] | false ↦ None ] ≡ None
    first true is = nothing a ((same_text-Decides x n).0 is) apart
    first false is = refl
below-push (x ∷ a) (y ∷ q) n apart = first (same_text x y) refl (λ inner. below-push a q n inner)
  where
    first : (b : Bool) → same_text x y ≡ b → ((q ++ n ∷ [] ≡ a → ⊥) → path_below a (q ++ n ∷ []) ≡ option_map (λ rest. rest ++ n ∷ []) (path_below a q))
        → elim b as (λ _. Option Path) [ true ↦ path_below a (q ++ n ∷ []) | false ↦ None ] ≡ option_map (λ rest. rest ++ n ∷ []) (elim b as (λ _. Option Path) [ true ↦ path_below a q | false ↦ None ])
    first true is inner = inner (λ same. apart (λ i. (sym ((same_text-Decides x y).0 is)) i ∷ same i))
    first false is inner = refl

-- what is there is below
below-is : (a p rest : Path) → path_below a p ≡ Some rest → p ≡ a ++ rest
below-is [] p rest e = cc
below-is (x ∷ a) [] rest e = absurd cc
below-is (x ∷ a) (y ∷ p) rest e = first (same_text x y) refl e (λ inner. below-is a p rest inner)
  where
    first : (b : Bool) → same_text x y ≡ b → elim b as (λ _. Option Path) [ true ↦ path_below a p | false ↦ None ] ≡ Some rest → (path_below a p ≡ Some rest → p ≡ a ++ rest) → y ∷ p ≡ x ∷ a ++ rest
    first true is h inner = λ i. (sym ((same_text-Decides x y).0 is)) i ∷ inner h i
    first false is h inner = absurd cc

module _ (from to : Path) where
  pub moved-self : moved from to from ≡ to
  moved-self = ap (λ (o : Option Path). elim o as (λ _. Path) [ Some rest ↦ to ++ rest | None ↦ from ]) (below-self from) ∙ append-nil to

  pub moved-root : (from ≡ [] → ⊥) → moved from to [] ≡ []
  moved-root named = by from named
    where
      by : (a : Path) → (a ≡ [] → ⊥) → elim (path_below a []) as (λ _. Path) [ Some rest ↦ to ++ rest | None ↦ [] ] ≡ []
      by [] differs = absurd (differs refl)
      by (n ∷ a) differs = refl

  pub moved-push : (q : Path) (n : Text) → (q ++ n ∷ [] ≡ from → ⊥) → moved from to (q ++ n ∷ []) ≡ moved from to q ++ n ∷ []
  moved-push q n apart =
      ap (λ (o : Option Path). elim o as (λ _. Path) [ Some rest ↦ to ++ rest | None ↦ q ++ n ∷ [] ]) (below-push from q n apart) ∙ by (path_below from q)
    where
      by : (o : Option Path) → elim (option_map (λ rest. rest ++ n ∷ []) o) as (λ _. Path) [ Some rest ↦ to ++ rest | None ↦ q ++ n ∷ [] ] ≡ elim o as (λ _. Path) [ Some rest ↦ to ++ rest | None ↦ q ] ++ n ∷ []
      by (Some rest) = sym (append_assoc to rest (n ∷ []))
      by None = refl

-- what is moved to where it was stays
pub moved-nowhere : (from p : Path) → moved from from p ≡ p
moved-nowhere from p = by (path_below from p) refl
  where
    by : (o : Option Path) → path_below from p ≡ o → elim o as (λ _. Path) [ Some rest ↦ from ++ rest | None ↦ p ] ≡ p
    by (Some rest) e = sym (below-is from p rest e)
    by None e = refl
