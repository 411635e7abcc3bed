-- Rows by their numbers, and their ids in the order of parent and name.
use Rattle.std.proofs.Common.{◌≡◌, ◌==◌, ℕ, suc, Bool, true, false, cond, List, [], ◌∷◌, length, Some, None, inl, inr, refl, sym, ap, ◌∙◌, subst, arith, eqb-true, eq-eqb}
use Rattle.std.specs.Prelude.{find, filter, not, ◌&&◌, ◌||◌, map}
use Rattle.std.specs.List.{AllByRecursion, list_any}
use Rattle.std.specs.List.Sorted.{IsStrictlySortedBy}
use Rattle.std.specs.declared.cmp.Ordering.{Ordering}
use Rattle.std.specs.declared.cmp.Ordering.TheVariants.{Less, Equal, Greater}
use Rattle.std.specs.Ordering.{is_eq, nat_cmp, ordering_then}
use Rattle.std.specs.Cmp.{IsTotalOrder, nat_cmp_total, nat_cmp_is, on_total, then_total, first_so, second_so, both_ways}
use Rattle.std.proofs.lemmas.Cmp.{tied_itself}
use Rattle.grid_model.specs.Names.{Text, text_cmp, same_text}
use Rattle.grid_model.proofs.Comparing.{text_cmp_total, same_text-Decides}
use Rattle.grid_model.proofs.FoundRows.{none_any}
use Rattle.tables_laws.proofs.Rows.{IsIn, in_from_any, any_from_in, all_from_in, find_from_in, in_from_filter, filter_from_in, in_once}
use Rattle.grid_tables.specs.Indexes.{IsIndex, place_cmp, order_at, is_placed}
use Rattle.grid_tables.specs.Places.{passes}
use Rattle.grid_tables.specs.Probes.{same_number, is_eq_then, tied}

module _ {X : Type 0} (number : X → ℕ) (row_cmp : X → X → Ordering) (total : IsTotalOrder row_cmp) (by_number : (a b : X) → row_cmp a b ≡ nat_cmp (number a) (number b)) where
  -- a row is found by its number
  same_row : (rows : List X) → IsStrictlySortedBy row_cmp rows → (x y : X) → IsIn rows x → IsIn rows y → number y ≡ number x → y ≡ x
  same_row rows sorted x y here there e = in_once row_cmp total rows y x sorted there here (by_number y x ∙ sym (nat_cmp_is (number y) (number x) Equal e))

  pub found_itself : (rows : List X) → IsStrictlySortedBy row_cmp rows → (x : X) → IsIn rows x → find (λ r. number r == number x) rows ≡ Some x
  found_itself rows sorted x here = find_from_in (λ r. number r == number x) rows x here (eq-eqb (number x) (number x) refl) (λ y there e. same_row rows sorted x y here there (eqb-true _ _ e))

-- where one row at most passes a test, some row passes it and another exactly where the one does
pub any_found : {X : Type 0} (p test : X → Bool) (rows : List X) → ((x y : X) → IsIn rows x → IsIn rows y → p x ≡ true → p y ≡ true → x ≡ y)
    → list_any (λ r. p r && test r) rows ≡ passes test (find p rows)
any_found p test [] alone = refl
any_found {X = X} p test (r ∷ rows) alone =
    elim (p r) as (λ b. p r ≡ b → ((b && test r) || list_any (λ r. p r && test r) rows) ≡ passes test (cond b (Some r) (find p rows))) [
      | true ↦ λ e. by_test (test r) refl e
      | false ↦ λ e. any_found p test rows (λ x y here there. alone x y (inr here) (inr there))
    ] refl
  where
    none : (b : Bool) (x : X) → IsIn rows x → p r ≡ true → test r ≡ false → p x ≡ b → (b && test x) ≡ false
    none true x here first fails e = ap test (alone x r (inr here) (inl refl) e first) ∙ fails
    none false x here first fails e = refl

    by_test : (b : Bool) → test r ≡ b → p r ≡ true → (test r || list_any (λ r. p r && test r) rows) ≡ test r
    by_test true e first = rw e refl
    by_test false e first = rw e (none_any (λ r. p r && test r) rows (all_from_in _ rows (λ x here. none (p x) x here first e refl)))

-- a test that all rows pass keeps them
pub all_pass : {X : Type 0} (p : X → Bool) (rows : List X) → AllByRecursion (λ r. p r ≡ false) rows → filter (λ r. not (p r)) rows ≡ rows
all_pass p [] all = refl
all_pass {X = X} p (r ∷ rows) all = rw all.0 (ap (λ (l : List X). r ∷ l) (all_pass p rows all.1))

-- two rows with one name in one parent tie
pub alike : {X : Type 0} (parent : X → ℕ) (name : X → Text) (above : ℕ) (called : Text) (x y : X) → is_placed parent name above called x ≡ true → is_placed parent name above called y ≡ true → place_cmp parent name x y ≡ Equal
alike parent name above called x y one other =
    let px : parent x ≡ above = eqb-true _ _ (first_so _ _ one) in
    let py : parent y ≡ above = eqb-true _ _ (first_so _ _ other) in
    let nx : name x ≡ called = (same_text-Decides _ _).0 (second_so _ _ one) in
    let ny : name y ≡ called = (same_text-Decides _ _).0 (second_so _ _ other) in
    ap (λ n. ordering_then (nat_cmp n (parent y)) (text_cmp (name x) (name y))) px ∙ ap (λ n. ordering_then (nat_cmp above n) (text_cmp (name x) (name y))) py
    ∙ ap (λ (t : Text). ordering_then (nat_cmp above above) (text_cmp t (name y))) nx ∙ ap (λ (t : Text). ordering_then (nat_cmp above above) (text_cmp called t)) ny
    ∙ tied_itself (then_total (on_total (λ (p : ℕ × Text). p.0) nat_cmp_total) (on_total (λ (p : ℕ × Text). p.1) text_cmp_total)) (above, called)

-- a row has a name in a parent where its place is that of both
pub placed_decides : {X : Type 0} (parent : X → ℕ) (name : X → Text) (above : ℕ) (called : Text) (r : X) → is_placed parent name above called r ≡ is_eq (order_at parent name above called r)
placed_decides parent name above called r =
    ap (λ b. b && same_text (name r) called) (same_number above (parent r)) ∙ ap (λ b. is_eq (nat_cmp above (parent r)) && b) (tied text_cmp_total called (name r))
    ∙ sym (is_eq_then (nat_cmp above (parent r)) (text_cmp called (name r)))

in_map : {X : Type 0} (f : X → ℕ) (rows : List X) (n : ℕ) → IsIn (map f rows) n → (x : X) × IsIn rows x × (f x ≡ n)
in_map f [] n here = absurd here
in_map f (r ∷ rows) n (inl is) = (r, inl refl, is)
in_map f (r ∷ rows) n (inr later) = let found = in_map f rows n later in (found.0, inr found.1, found.2)

map_in : {X : Type 0} (f : X → ℕ) (rows : List X) (x : X) → IsIn rows x → IsIn (map f rows) (f x)
map_in f [] x here = absurd here
map_in f (r ∷ rows) x (inl is) = inl (ap f is)
map_in f (r ∷ rows) x (inr later) = inr (map_in f rows x later)

-- some id passes a test where the id of some row does
pub index_any : {X : Type 0} (number : X → ℕ) (cmp : X → X → Ordering) (q : X → Bool) (test : ℕ → Bool) (rows : List X) (ids : List ℕ) → IsIndex number cmp (filter q rows) ids
    → list_any test ids ≡ list_any (λ r. q r && test (number r)) rows
index_any {X = X} number cmp q test rows ids index =
    both_ways (list_any test ids) (list_any (λ r. q r && test (number r)) rows)
    (λ e.
    let found = in_from_any test ids e in
    let row = in_map number index.named found.0 (subst (λ (l : List ℕ). IsIn l found.0) index.ids_are found.1) in
    let kept = in_from_filter q rows row.0 (index.none_else row.0 row.1) in
    let passed : test (number row.0) ≡ true = ap test row.2 ∙ found.2 in
    let both_so : (q row.0 && test (number row.0)) ≡ true = ap (λ b. b && test (number row.0)) kept.1 ∙ passed in
    any_from_in (λ r. q r && test (number r)) rows row.0 kept.0 both_so)
    (λ e.
    let found = in_from_any (λ r. q r && test (number r)) rows e in
    let kept = filter_from_in q rows found.0 found.1 (first_so _ _ found.2) in
    let id = subst (λ (l : List ℕ). IsIn l (number found.0)) (sym index.ids_are) (map_in number index.named found.0 (index.all found.0 kept)) in
    any_from_in test ids (number found.0) id (second_so _ _ found.2))

-- there is an id where a row passes
pub index_some : {X : Type 0} (number : X → ℕ) (cmp : X → X → Ordering) (q : X → Bool) (rows : List X) (ids : List ℕ) → IsIndex number cmp (filter q rows) ids
    → not (length ids == 0) ≡ list_any q rows
index_some {X = X} number cmp q rows ids index = by_ids ids ∙ index_any number cmp q (λ _. true) rows ids index ∙ same rows
  where
    by_ids : (ids : List ℕ) → not (length ids == 0) ≡ list_any (λ _. true) ids
    by_ids [] = refl
    by_ids (i ∷ ids) = let some : (suc (length ids) == 0) ≡ false = grind arith in ap not some

    and_true : (b : Bool) → (b && true) ≡ b
    and_true true = refl
    and_true false = refl

    same : (rows : List X) → list_any (λ r. q r && true) rows ≡ list_any q rows
    same [] = refl
    same (r ∷ rows) = ap (λ b. b || list_any (λ x. q x && true) rows) (and_true (q r)) ∙ ap (λ b. q r || b) (same rows)
