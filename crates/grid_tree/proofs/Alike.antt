-- Lists in strictly rising order with the same elements are equal; and lists of pairs in the order of their numbers.
use Rattle.std.proofs.Common.{◌≡◌, ℕ, zero, suc, ◌<◌, ◌≤◌, Bool, true, false, List, [], ◌∷◌, length, ◌⊎◌, inl, inr, refl, sym, ap, ◌∙◌, arith}
use Rattle.std.specs.Prelude.{◌&&◌, nat_le, slice_index_or, map, filter, T}
use Rattle.std.specs.List.{AllByRecursion, Contains}
use Rattle.std.specs.FinMap.{is_sorted}
use Rattle.std.specs.FinMap.Entries.{below_all}
use Rattle.std.specs.Ordering.{nat_cmp, is_lt}
use Rattle.std.proofs.lemmas.Bool.{leb-true, leb-false}
use Rattle.grid_model.specs.Names.{Text, text_cmp}
use Rattle.grid_model.specs.Trees.{in_place_order, placed_among}
use Rattle.std.specs.List.Sorted.{IsStrictlySortedBy}
use Rattle.std.specs.declared.cmp.Ordering.{Ordering}
use Rattle.std.specs.declared.cmp.Ordering.TheVariants.{Less, Equal, Greater}
use Rattle.std.specs.Cmp.{IsTotalOrder, ranked, tied_itself}
use Rattle.tables_laws.proofs.Rows.{IsIn, in_from_all, all_from_in}

module _ {X : Type 0} {cmp : X → X → Ordering} (o : IsTotalOrder cmp) where
  not_below_itself : (x y : X) → cmp x y ≡ Less → cmp y x ≡ Less → ⊥
  not_below_itself x y a b =
      let below : cmp x x ≡ Less = o.trans x y x a b in
      let tied = tied_itself o x in
      cc

  pub same_sorted : (xs ys : List X) → IsStrictlySortedBy cmp xs → IsStrictlySortedBy cmp ys → ((x : X) → IsIn xs x → IsIn ys x) → ((y : X) → IsIn ys y → IsIn xs y) → xs ≡ ys
  unfolding IsStrictlySortedBy
  same_sorted [] [] up also to from = refl
  same_sorted [] (y ∷ ys) up also to from = absurd (from y (inl refl))
  same_sorted (x ∷ xs) [] up also to from = absurd (to x (inl refl))
  same_sorted (x ∷ xs) (y ∷ ys) up also to from =
      let first : x ≡ y = heads (to x (inl refl)) (from y (inl refl)) in
      let rest : xs ≡ ys = same_sorted xs ys up.1 also.1
      (λ z here. elim (to z (inr here)) [
        | inl is ↦ absurd (itself x z (first ∙ is) (in_from_all (λ w. cmp x w ≡ Less) xs up.0 z here))
        | inr later ↦ later
      ])
      (λ z here. elim (from z (inr here)) [
        | inl is ↦ absurd (itself y z (sym first ∙ is) (in_from_all (λ w. cmp y w ≡ Less) ys also.0 z here))
        | inr later ↦ later
      ]) in
      λ i. first i ∷ rest i
    where
      itself : (a b : X) → a ≡ b → cmp a b ≡ Less → ⊥
      itself a b is less =
          let tied = tied_itself o a in
          let same : cmp a a ≡ Less = ap (cmp a) is ∙ less in
          cc

      heads : IsIn (y ∷ ys) x → IsIn (x ∷ xs) y → x ≡ y
      heads (inl is) there = sym is
      heads (inr later) (inl is) = is
      heads (inr later) (inr beyond) = absurd (not_below_itself x y (in_from_all (λ w. cmp x w ≡ Less) xs up.0 y beyond) (in_from_all (λ w. cmp y w ≡ Less) ys also.0 x later))

-- ---- elements

pub in_of : {X : Type 0} (rows : List X) (x : X) → Contains rows x → IsIn rows x
in_of rows x has = by_place rows has.0 has.1 has.2
  where
    by_place : (rows : List _) (k : ℕ) → k < length rows → slice_index_or rows k x ≡ x → IsIn rows x
    by_place [] k within is = absurd (omega (arith, within))
    by_place (r ∷ rows) zero within is = inl is
    by_place (r ∷ rows) (suc k) within is = inr (by_place rows k (omega (arith, within)) is)

pub contains_of : {X : Type 0} (rows : List X) (x : X) → IsIn rows x → Contains rows x
contains_of [] x here = absurd here
contains_of (r ∷ rows) x (inl is) = (0, omega arith, is)
contains_of (r ∷ rows) x (inr later) = let at = contains_of rows x later in (suc at.0, omega (arith, at.1), at.2)

-- ---- order

pub less_number : (a b : ℕ) → a < b → nat_cmp a b ≡ Less
less_number a b low = elim (nat_cmp a b) as (λ o. nat_cmp a b ≡ o → o ≡ Less) [
  | Less ↦ λ is. refl
  | Equal ↦ λ is. absurd (let same : a ≡ b = ranked a b Equal (sym is) in omega arith)
  | Greater ↦ λ is. absurd (let high : b < a = ranked a b Greater (sym is) in omega arith)
] refl

-- a rising list stays one where each element is mapped to one that rises with it
pub sorted-map : {X Y : Type 0} (one : X → X → Ordering) (other : Y → Y → Ordering) (f : X → Y) (xs : List X) → ((x y : X) → IsIn xs x → IsIn xs y → one x y ≡ Less → other (f x) (f y) ≡ Less)
    → IsStrictlySortedBy one xs → IsStrictlySortedBy other (map f xs)
unfolding IsStrictlySortedBy
sorted-map one other f [] rises sorted = tt
sorted-map one other f (x ∷ xs) rises sorted = (
  all-mapped xs sorted.0 (λ y here. rises x y (inl refl) (inr here)),
  sorted-map one other f xs (λ a b here there. rises a b (inr here) (inr there)) sorted.1,
)
  where
    all-mapped : (ys : List _) → AllByRecursion (λ y. one x y ≡ Less) ys → ((y : _) → IsIn ys y → one x y ≡ Less → other (f x) (f y) ≡ Less) → AllByRecursion (λ y. other (f x) y ≡ Less) (map f ys)
    all-mapped [] all up = tt
    all-mapped (y ∷ ys) all up = (up y (inl refl) all.0, all-mapped ys all.1 (λ z here. up z (inr here)))

first : (a b : Bool) → T (a && b) → T a
first true b p = tt
first false b p = p

second : (a b : Bool) → T (a && b) → T b
second true b p = p
second false b p = absurd p

less : (o : Ordering) → T (is_lt o) → o ≡ Less
less Less p = refl
less Equal p = absurd p
less Greater p = absurd p

-- the entries of a map rise
module _ {K V : Type 0} (R : K → K → Ordering) where
  all_below : (k : K) (fs : List (K × V)) → T (below_all R k fs) → AllByRecursion (λ (f : K × V). R k f.0 ≡ Less) fs
  all_below k [] p = tt
  all_below k (f ∷ fs) p = (less (R k f.0) (first (is_lt (R k f.0)) (below_all R k fs) p), all_below k fs (second (is_lt (R k f.0)) (below_all R k fs) p))

  pub sorted-entries : (es : List (K × V)) → T (is_sorted R es) → IsStrictlySortedBy (λ (a b : K × V). R a.0 b.0) es
  unfolding IsStrictlySortedBy
  sorted-entries [] rises = tt
  sorted-entries (e ∷ es) rises = (all_below e.0 es (first (below_all R e.0 es) (is_sorted R es) rises), sorted-entries es (second (below_all R e.0 es) (is_sorted R es) rises))

-- ---- pairs in the order of their numbers

abbrev pub by_number : Text × ℕ → Text × ℕ → Ordering
by_number a b = nat_cmp a.1 b.1

pub in_from_placed_among : (c : Text × ℕ) (ds : List (Text × ℕ)) (x : Text × ℕ) → IsIn (placed_among c ds) x → IsIn (c ∷ ds) x
in_from_placed_among c [] x here = here
in_from_placed_among c (d ∷ ds) x here = elim (nat_le c.1 d.1) as (λ b. IsIn (elim b [ true ↦ c ∷ d ∷ ds | false ↦ d ∷ placed_among c ds ]) x → IsIn (c ∷ d ∷ ds) x) [
  | true ↦ λ h. h
  | false ↦ λ h. elim h [ inl is ↦ inr (inl is) | inr later ↦ elim (in_from_placed_among c ds x later) [ inl is ↦ inl is | inr was ↦ inr (inr was) ] ]
] here

pub placed_among_from_in : (c : Text × ℕ) (ds : List (Text × ℕ)) (x : Text × ℕ) → IsIn (c ∷ ds) x → IsIn (placed_among c ds) x
placed_among_from_in c [] x here = here
placed_among_from_in c (d ∷ ds) x here = elim (nat_le c.1 d.1) as (λ b. IsIn (elim b [ true ↦ c ∷ d ∷ ds | false ↦ d ∷ placed_among c ds ]) x) [
  | true ↦ here
  | false ↦ elim here [
    | inl is ↦ inr (placed_among_from_in c ds x (inl is))
    | inr later ↦ elim later [ inl is ↦ inl is | inr was ↦ inr (placed_among_from_in c ds x (inr was)) ]
  ]
]

pub in_from_placed : (cs : List (Text × ℕ)) (x : Text × ℕ) → IsIn (in_place_order cs) x → IsIn cs x
in_from_placed [] x here = here
in_from_placed (c ∷ cs) x here = elim (in_from_placed_among c (in_place_order cs) x here) [ inl is ↦ inl is | inr later ↦ inr (in_from_placed cs x later) ]

pub placed_from_in : (cs : List (Text × ℕ)) (x : Text × ℕ) → IsIn cs x → IsIn (in_place_order cs) x
placed_from_in [] x here = here
placed_from_in (c ∷ cs) x here = placed_among_from_in c (in_place_order cs) x (elim here [ inl is ↦ inl is | inr later ↦ inr (placed_from_in cs x later) ])

placed_among-sorted : (c : Text × ℕ) (ds : List (Text × ℕ)) → IsStrictlySortedBy by_number ds → ((d : Text × ℕ) → IsIn ds d → c.1 ≡ d.1 → ⊥) → IsStrictlySortedBy by_number (placed_among c ds)
unfolding IsStrictlySortedBy
placed_among-sorted c [] sorted apart = (tt, tt)
placed_among-sorted c (d ∷ ds) sorted apart = elim (nat_le c.1 d.1) as (λ b. nat_le c.1 d.1 ≡ b → IsStrictlySortedBy by_number (elim b [ true ↦ c ∷ d ∷ ds | false ↦ d ∷ placed_among c ds ])) [
  | true ↦ λ is.
      let low : c.1 ≤ d.1 = leb-true c.1 d.1 is in
      let below : c.1 < d.1 = omega (arith, low, apart d (inl refl)) in (
        (
          less_number c.1 d.1 below,
          all_from_in (λ e. by_number c e ≡ Less) ds (λ e here.
              let more : d.1 < e.1 = ranked d.1 e.1 Less (sym (in_from_all (λ f. by_number d f ≡ Less) ds sorted.0 e here)) in
              less_number c.1 e.1 (omega (arith, below, more))),
        ),
        sorted,
      )
  | false ↦ λ is.
      let high : d.1 < c.1 = leb-false c.1 d.1 is in (
        all_from_in (λ e. by_number d e ≡ Less) (placed_among c ds) (λ e here. elim (in_from_placed_among c ds e here) [
          | inl same ↦ let it : d.1 < e.1 = omega (arith, high, ap (λ (p : Text × ℕ). p.1) same) in less_number d.1 e.1 it
          | inr was ↦ in_from_all (λ f. by_number d f ≡ Less) ds sorted.0 e was
        ]),
        placed_among-sorted c ds sorted.1 (λ e here. apart e (inr here)),
      )
] refl

-- names rise and no two have one number
pub placed-sorted : IsTotalOrder text_cmp → (cs : List (Text × ℕ)) → IsStrictlySortedBy (λ a b. text_cmp a.0 b.0) cs → ((a b : Text × ℕ) → IsIn cs a → IsIn cs b → a.1 ≡ b.1 → a.0 ≡ b.0) → IsStrictlySortedBy by_number (in_place_order cs)
unfolding IsStrictlySortedBy
placed-sorted o [] sorted own = tt
placed-sorted o (c ∷ cs) sorted own =
    placed_among-sorted c (in_place_order cs) (placed-sorted o cs sorted.1 (λ a b here there. own a b (inr here) (inr there))) (λ d here e.
    let was = in_from_placed cs d here in
    let same : c.0 ≡ d.0 = own c d (inl refl) (inr was) e in
    let less : text_cmp c.0 d.0 ≡ Less = in_from_all (λ y. text_cmp c.0 y.0 ≡ Less) cs sorted.0 d was in
    let tied = tied_itself o c.0 in
    let wrong : text_cmp c.0 c.0 ≡ Less = ap (text_cmp c.0) same ∙ less in
    cc)
