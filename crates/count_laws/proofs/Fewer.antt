-- A list of numbers without repetition whose members all stand in another list is not longer than that one.
use Rattle.std.proofs.Common.{◌≡◌, ℕ, suc, ◌<◌, ◌≤◌, Bool, true, List, [], ◌∷◌, ◌++◌, length, inl, inr, refl, ap, subst, arith, eq-eqb}
use Rattle.std.specs.Prelude.{filter, not, map, ◌==◌}
use Rattle.std.specs.List.Sorted.{IsStrictlySortedBy}
use Rattle.std.specs.declared.cmp.Ordering.{Ordering}
use Rattle.std.specs.declared.cmp.Ordering.TheVariants.{Less, Equal}
use Rattle.std.proofs.lemmas.Bool.{ne_eqb}
use Rattle.tables_laws.proofs.Rows.{IsIn, in_from_all, filter_from_in}
use Rattle.tables_laws.proofs.Counting.{count, count-less}
use Rattle.grid_access.proofs.MapEntries.{in_from_map}
use Rattle.grid_tree.proofs.Reachable.{in_from_append}

-- no number stands twice
abbrev pub AreApart : List ℕ → Type 0
AreApart [] = Unit {0}
AreApart (n ∷ ns) = (IsIn ns n → ⊥) × AreApart ns

count-all : (ns : List ℕ) → count (λ (n : ℕ). true) ns ≡ length ns
count-all [] = refl
count-all (n ∷ ns) = ap suc (count-all ns)

pub no_longer : (ns ms : List ℕ) → AreApart ns → ((n : ℕ) → IsIn ns n → IsIn ms n) → length ns ≤ length ms
no_longer [] ms apart each = omega arith
no_longer (n ∷ ns) ms apart each =
    let others : ℕ → Bool = λ m. not (m == n) in
    let left_out : count others ms < count (λ (m : ℕ). true) ms =
    count-less others (λ m. true) ms n (λ m here passes. refl) (each n (inl refl)) (ap not (eq-eqb n n refl)) refl in
    let rest : length ns ≤ count others ms = no_longer ns (filter others ms) apart.1 (λ m here.
    filter_from_in others ms m (each m (inr here)) (ap not (ne_eqb m n (λ same. apart.0 (subst (IsIn ns) same here))))) in
    omega (arith, left_out, rest, count-all ms)

-- two such lists without a common number are one
pub apart-append : (ns ms : List ℕ) → AreApart ns → AreApart ms → ((n : ℕ) → IsIn ns n → IsIn ms n → ⊥) → AreApart (ns ++ ms)
apart-append [] ms a b none = b
apart-append (n ∷ ns) ms a b none = (first, apart-append ns ms a.1 b (λ m here. none m (inr here)))
  where
    first : IsIn (ns ++ ms) n → ⊥
    first here = elim (in_from_append ns ms n here) [ inl one ↦ a.0 one | inr other ↦ none n (inl refl) other ]

-- numbers of rows in order are such a list, where rows with one number have one key
pub apart-rows : {X : Type 0} (cmp : X → X → Ordering) (number : X → ℕ) (rows : List X) → IsStrictlySortedBy cmp rows
    → ((x y : X) → IsIn rows x → IsIn rows y → number y ≡ number x → cmp x y ≡ Equal) → AreApart (map number rows)
unfolding IsStrictlySortedBy
apart-rows cmp number [] sorted own = tt
apart-rows cmp number (r ∷ rows) sorted own = (first, apart-rows cmp number rows sorted.1 (λ x y here there. own x y (inr here) (inr there)))
  where
    first : IsIn (map number rows) (number r) → ⊥
    first here =
        let found = in_from_map number rows (number r) here in
        let below : cmp r found.0 ≡ Less = in_from_all (λ z. cmp r z ≡ Less) rows sorted.0 found.0 found.1 in
        let equal : cmp r found.0 ≡ Equal = own r found.0 (inl refl) (inr found.1) found.2 in
        absurd cc
