-- Deltas that are taken one after another.
use Rattle.std.proofs.Common.{◌≡◌, inl, inr, ℕ, true, List, [], ◌∷◌, ◌++◌, Result, Ok, Err, refl, sym, ap, subst, ◌∙◌}
use Rattle.std.specs.Prelude.{is_err}
use Rattle.std.specs.List.{AllByRecursion}
use Rattle.grid_model.specs.Rows.{Cat}
use Rattle.grid_model.specs.Applying.{apply, apply_all}
use Rattle.grid_model.specs.declared.deltas.Delta.{Delta}
use Rattle.grid_journal.specs.Stands.{IsRefused, SetsKeptRules}

-- what more deltas make of a result
abbrev pub then_all : List Delta → Result Cat ℕ → Result Cat ℕ
then_all ds r = elim r [ Ok next ↦ apply_all next ds | Err cause ↦ Err cause ]

pub ok_same : {T E : Type 0} (a b : T) → (let r : Result T E = Ok a in r ≡ Ok b) → a ≡ b
ok_same a b e = cc

pub apply_all_after : (ds es : List Delta) (c mid : Cat) → apply_all c ds ≡ Ok mid → apply_all c (ds ++ es) ≡ apply_all mid es
apply_all_after [] es c mid h = ap (λ x. apply_all x es) (ok_same c mid h)
apply_all_after (d ∷ ds) es c mid h = by (λ next. apply_all_after ds es next mid) (apply c d) h
  where
    by : ((next : Cat) → apply_all next ds ≡ Ok mid → apply_all next (ds ++ es) ≡ apply_all mid es)
        → (r : Result Cat ℕ) → then_all ds r ≡ Ok mid → then_all (ds ++ es) r ≡ apply_all mid es
    by then_rest (Ok next) e = then_rest next e
    by then_rest (Err cause) e = cc

pub apply_all_push : (ds : List Delta) (d : Delta) (c mid next : Cat) → apply_all c ds ≡ Ok mid → apply mid d ≡ Ok next → apply_all c (ds ++ d ∷ []) ≡ Ok next
apply_all_push ds d c mid next h e = apply_all_after ds (d ∷ []) c mid h ∙ ap (then_all []) e

-- a list of which one is refused behind others isn't taken
pub not_taken : (c after : Cat) (d : Delta) (ds : List Delta) → IsRefused c d → AllByRecursion SetsKeptRules (d ∷ ds) → apply_all c (d ∷ ds) ≡ Ok after → ⊥
not_taken c after d ds (inl others) sets e = others sets.0
not_taken c after d ds (inr refused) sets e = by (apply c d) refused e
  where
    by : (r : Result Cat ℕ) → is_err r ≡ true → then_all ds r ≡ Ok after → ⊥
    by (Ok next) h g = cc
    by (Err cause) h g = cc

-- of one list the deltas before the first refused one are always the same
pub refused_once : (xs ys us vs : List Delta) (d e : Delta) (c before other : Cat) → xs ++ d ∷ us ≡ ys ++ e ∷ vs
    → AllByRecursion SetsKeptRules xs → AllByRecursion SetsKeptRules ys → apply_all c xs ≡ Ok before → apply_all c ys ≡ Ok other
    → IsRefused before d → IsRefused other e → xs ≡ ys
refused_once [] [] us vs d e c before other same p q a b f g = refl
refused_once [] (y ∷ ys) us vs d e c before other same p q a b f g =
    let first : d ≡ y = cc in
    let here : before ≡ c = sym (ok_same c before a) in
    let P : Delta → Type 0 = λ x. IsRefused c x in
    let Q : Cat → Type 0 = λ x. IsRefused x d in
    absurd (not_taken c other y ys (subst P first (subst Q here f)) q b)
refused_once (x ∷ xs) [] us vs d e c before other same p q a b f g =
    let first : e ≡ x = cc in
    let here : other ≡ c = sym (ok_same c other b) in
    let P : Delta → Type 0 = λ z. IsRefused c z in
    let Q : Cat → Type 0 = λ z. IsRefused z e in
    absurd (not_taken c before x xs (subst P first (subst Q here g)) p a)
refused_once (x ∷ xs) (y ∷ ys) us vs d e c before other same p q a b f g =
    let first : x ≡ y = cc in
    let rest : xs ++ d ∷ us ≡ ys ++ e ∷ vs = cc in
    let same_rest : xs ≡ ys = by (λ next l r. refused_once xs ys us vs d e next before other rest p.1 q.1 l r f g) (apply c x) a (ap (λ z. then_all ys (apply c z)) first ∙ b) in
    cc
  where
    by : ((next : Cat) → apply_all next xs ≡ Ok before → apply_all next ys ≡ Ok other → xs ≡ ys)
        → (r : Result Cat ℕ) → then_all xs r ≡ Ok before → then_all ys r ≡ Ok other → xs ≡ ys
    by then_rest (Ok next) l r = then_rest next l r
    by then_rest (Err cause) l r = cc
