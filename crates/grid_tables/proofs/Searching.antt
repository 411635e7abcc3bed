-- A binary search for a key among rows in the order of their keys.
use Rattle.std.proofs.Common.{◌≡◌, ℕ, zero, suc, ◌<◌, ◌≤◌, Bool, true, false, cond, List, [], ◌∷◌, length, slice_index_or, Some, None, Option, refl, sym, ap, ◌∙◌, subst, arith, Bor, ◌==◌, eqb-true}
use Rattle.std.proofs.lemmas.Bool.{eqb-false}
use Rattle.std.specs.Prelude.{find, filter, not, ◌&&◌, ◌||◌, IsTrue, Result, Ok, Err, is_some}
use Rattle.std.specs.List.{AllByRecursion, list_any, remove}
use Rattle.std.specs.List.Sorted.{IsStrictlySortedBy, IsBinarySearchResult, IsSearchInRange, IsNonDecreasingBy}
use Rattle.std.specs.declared.cmp.Ordering.{Ordering}
use Rattle.std.specs.declared.cmp.Ordering.TheVariants.{Less, Equal, Greater}
use Rattle.std.specs.Ordering.{is_eq, is_le, eq_by_cmp, ordering_index, ordering_reverse}
use Rattle.std.specs.Cmp.{IsTotalOrder}
use Rattle.std.specs.BTreeMap.Comparable.{le_lt_trans}
use Rattle.std.proofs.lemmas.List.Kept.{IsStrictlySortedBy-filter}
use Rattle.std.specs.Option.{option_copied}
use Rattle.grid_model.specs.Rows.{IsTable}
use Rattle.grid_model.proofs.FoundRows.{is_some-find}
use Rattle.grid_model.proofs.TableLemmas.{IsTable-with_row, IsTable-none}
use Rattle.tables_laws.proofs.Rows.{IsIn, in_once}
use Rattle.grid_tables.specs.Places.{IsPlace, passes}
use Rattle.grid_tables.specs.Probes.{tied}

-- what is so of all rows is so at each place
all_at : {X : Type 0} (P : X → Type 0) (rows : List X) → AllByRecursion P rows → (k : ℕ) (d : X) → k < length rows → P (slice_index_or rows k d)
all_at P [] all k d h = absurd (omega arith)
all_at P (r ∷ rows) all zero d h = all.0
all_at P (r ∷ rows) all (suc k) d h = all_at P rows all.1 k d (omega arith)

turned_equal : (o : Ordering) → ordering_reverse o ≡ Equal → o ≡ Equal
turned_equal Less e = absurd (cc)
turned_equal Equal e = refl
turned_equal Greater e = absurd (cc)

turned_less : (o : Ordering) → ordering_reverse o ≡ Less → o ≡ Greater
turned_less Less e = absurd (cc)
turned_less Equal e = absurd (cc)
turned_less Greater e = refl

turned_greater : (o : Ordering) → ordering_reverse o ≡ Greater → o ≡ Less
turned_greater Less e = refl
turned_greater Equal e = absurd (cc)
turned_greater Greater e = absurd (cc)

module _ {X : Type 0} (cmp : X → X → Ordering) where
  -- a row is below each later one
  pub later_above : (rows : List X) → IsStrictlySortedBy cmp rows → (i j : ℕ) (d : X) → i < j → j < length rows → cmp (slice_index_or rows i d) (slice_index_or rows j d) ≡ Less
  unfolding IsStrictlySortedBy
  later_above [] sorted i j d low inside = absurd (omega arith)
  later_above (r ∷ rows) sorted zero zero d low inside = absurd (omega arith)
  later_above (r ∷ rows) sorted zero (suc j) d low inside = all_at (λ y. cmp r y ≡ Less) rows sorted.0 j d (omega arith)
  later_above (r ∷ rows) sorted (suc i) zero d low inside = absurd (omega arith)
  later_above (r ∷ rows) sorted (suc i) (suc j) d low inside = later_above rows sorted.1 i j d (omega arith) (omega arith)

  module _ (key : X → Ordering) (below : (a b : X) → cmp a b ≡ Less → IsTrue (is_le (key a)) → key b ≡ Less) where
    two : (a b : Ordering) → (IsTrue (is_le a) → b ≡ Less) → ordering_index (ordering_reverse a) ≤ ordering_index (ordering_reverse b)
    two Less b h = let e : b ≡ Less = h refl in rw e (omega arith)
    two Equal b h = let e : b ≡ Less = h refl in rw e (omega arith)
    two Greater b h = omega arith

    rises : (rows : List X) → IsStrictlySortedBy cmp rows → IsNonDecreasingBy (λ y. ordering_index (ordering_reverse (key y))) rows
    rises rows sorted i j d low inside =
        elim (i == j) as (λ b. (i == j) ≡ b → ordering_index (ordering_reverse (key (slice_index_or rows i d))) ≤ ordering_index (ordering_reverse (key (slice_index_or rows j d)))) [
          | true ↦ λ e. let same : i ≡ j = omega (arith, eqb-true i j e) in rw same (omega arith)
          | false ↦ λ e. let apart : i < j = omega (arith, eqb-false i j e) in two _ _ (below _ _ (later_above rows sorted i j d apart inside))
        ] refl

    -- so a search answers the place
    pub place-searched : (rows : List X) (place : Result ℕ ℕ) → IsStrictlySortedBy cmp rows → IsSearchInRange place (length rows)
        → IsBinarySearchResult (λ y. ordering_reverse (key y)) rows place → IsPlace key rows place
    place-searched rows (Ok i) sorted inside found = (
      inside,
      λ d. turned_equal _ (found d),
      λ k low d. above (key (slice_index_or rows k d)) (λ le. let behind : key (slice_index_or rows i d) ≡ Less = below _ _ (later_above rows sorted k i d low inside) le in let at : key (slice_index_or rows i d) ≡ Equal = turned_equal _ (found d) in absurd (cc)),
    )
      where
        above : (o : Ordering) → (IsTrue (is_le o) → ⊥) → o ≡ Greater
        above Less h = absurd (h refl)
        above Equal h = absurd (h refl)
        above Greater h = refl
    place-searched rows (Err i) sorted inside found =
        let parts = found (rises rows sorted) in
        (inside, λ h d. turned_greater _ (parts.1 i d (omega arith) h), λ k low d. turned_less _ (parts.0 k d (omega arith) low))

    -- behind the place all rows have greater keys
    all_less : (r : X) (rows : List X) → IsTrue (is_le (key r)) → AllByRecursion (λ y. cmp r y ≡ Less) rows → AllByRecursion (λ y. key y ≡ Less) rows
    all_less r [] le all = tt
    all_less r (y ∷ rows) le all = (below r y all.0 le, all_less r rows le all.1)

    module _ (has_key : X → Bool) (decides : (r : X) → has_key r ≡ is_eq (key r)) where
      tells : (r : X) (o : Ordering) → key r ≡ o → has_key r ≡ is_eq o
      tells r o e = decides r ∙ ap is_eq e

      none_of : (test : X → Bool) (rows : List X) → AllByRecursion (λ y. key y ≡ Less) rows → list_any (λ y. has_key y && test y) rows ≡ false
      none_of test [] all = refl
      none_of test (y ∷ rows) all = rw (tells y Less all.0) (none_of test rows all.1)

      none_found : (rows : List X) → AllByRecursion (λ y. key y ≡ Less) rows → find has_key rows ≡ None
      none_found [] all = refl
      none_found (y ∷ rows) all = rw (tells y Less all.0) (none_found rows all.1)

      all_stay : (rows : List X) → AllByRecursion (λ y. key y ≡ Less) rows → filter (λ y. not (has_key y)) rows ≡ rows
      all_stay [] all = refl
      all_stay (y ∷ rows) all = rw (tells y Less all.0) (ap (λ (l : List X). y ∷ l) (all_stay rows all.1))

      -- What stands at a place.
      pub record AtPlace (rows : List X) (row : Option X) (rest : List X) : Type 0 where
        pub found : find has_key rows ≡ row
        pub alone : (test : X → Bool) → list_any (λ y. has_key y && test y) rows ≡ passes test row
        pub others : filter (λ y. not (has_key y)) rows ≡ rest

      pub at-Ok : (rows : List X) (i : ℕ) (d : X) → IsStrictlySortedBy cmp rows → IsPlace key rows (Ok i) → AtPlace rows (Some (slice_index_or rows i d)) (remove rows i)
      unfolding IsStrictlySortedBy
      at-Ok [] i d sorted place = absurd (omega (arith, place.0))
      at-Ok (r ∷ rows) zero d sorted place =
          let here : key r ≡ Equal = place.1 r in
          let behind : AllByRecursion (λ y. key y ≡ Less) rows = all_less r rows (rw here refl) sorted.0 in
          let yes : has_key r ≡ true = tells r Equal here in
          record {
            found = rw yes refl;
            alone = λ test. rw yes (ap (λ b. test r || b) (none_of test rows behind) ∙ or_false (test r));
            others = rw yes (all_stay rows behind);
          }
        where
          or_false : (b : Bool) → (b || false) ≡ b
          or_false true = refl
          or_false false = refl
      at-Ok (r ∷ rows) (suc i) d sorted place =
          let no : has_key r ≡ false = tells r Greater (place.2 0 (omega arith) r) in
          let rest = at-Ok rows i d sorted.1 (omega (arith, place.0), place.1, λ k low. place.2 (suc k) (omega arith)) in
          record {
            found = rw no rest.found;
            alone = λ test. rw no (rest.alone test);
            others = rw no (ap (λ (l : List X). r ∷ l) rest.others);
          }

      pub at-Err : (rows : List X) (i : ℕ) → IsStrictlySortedBy cmp rows → IsPlace key rows (Err i) → AtPlace rows None rows
      unfolding IsStrictlySortedBy
      at-Err [] i sorted place = record { found = refl; alone = λ test. refl; others = refl }
      at-Err (r ∷ rows) zero sorted place =
          let here : key r ≡ Less = place.1 (omega arith) r in
          let behind : AllByRecursion (λ y. key y ≡ Less) (r ∷ rows) = (here, all_less r rows (rw here refl) sorted.0) in
          record { found = none_found (r ∷ rows) behind; alone = λ test. none_of test (r ∷ rows) behind; others = all_stay (r ∷ rows) behind }
      at-Err (r ∷ rows) (suc i) sorted place =
          let no : has_key r ≡ false = tells r Greater (place.2 0 (omega arith) r) in
          let rest = at-Err rows i sorted.1 (omega (arith, place.0), (λ h. place.1 (omega arith)), λ k low. place.2 (suc k) (omega arith)) in
          record {
            found = rw no rest.found;
            alone = λ test. rw no (rest.alone test);
            others = rw no (ap (λ (l : List X). r ∷ l) rest.others);
          }

      -- one row at most has the key
      pub one_key : IsTotalOrder cmp → (rows : List X) → IsStrictlySortedBy cmp rows → (x y : X) → IsIn rows x → IsIn rows y → has_key x ≡ true → has_key y ≡ true → x ≡ y
      one_key total rows sorted x y here there one other = by (cmp x y) refl
        where
          equal : (o : Ordering) → is_eq o ≡ true → o ≡ Equal
          equal Less e = absurd (cc)
          equal Equal e = refl
          equal Greater e = absurd (cc)

          at : (r : X) → has_key r ≡ true → key r ≡ Equal
          at r e = equal (key r) (sym (decides r) ∙ e)

          low : (a b : X) → has_key a ≡ true → has_key b ≡ true → cmp a b ≡ Less → ⊥
          low a b e f less =
              let here : key a ≡ Equal = at a e in
              let behind : key b ≡ Less = below a b less (rw here refl) in
              let wrong : key b ≡ Equal = at b f in
              absurd (cc (behind, wrong))

          by : (o : Ordering) → cmp x y ≡ o → x ≡ y
          by Less e = absurd (low x y one other e)
          by Equal e = in_once cmp total rows x y sorted here there e
          by Greater e = absurd (low y x other one (total.antisymm y x ∙ ap ordering_reverse e))

-- a table of one row
pub one_row : {X : Type 0} (cmp : X → X → Ordering) → IsTotalOrder cmp → (fits : X → Bool) (row : X) → fits row ≡ true → (rows : List X) → rows ≡ row ∷ [] → IsTable cmp fits rows
one_row {X = X} cmp total fits row fit rows is =
    subst (λ (l : List X). IsTable cmp fits l) (sym is) (IsTable-with_row cmp total fits [] row fit (IsTable-none cmp fits [] refl))

pub only_one : {X : Type 0} (rows : List X) (row : X) → length rows ≡ 1 → row ≡ slice_index_or rows 0 row → rows ≡ row ∷ []
only_one [] row one is = absurd (omega (arith, one))
only_one {X = X} (r ∷ []) row one is = ap (λ (x : X). x ∷ []) (sym is)
only_one (r ∷ s ∷ rows) row one is = absurd (omega (arith, one))

-- where a row belongs between others, none has its key
pub none_tied : {X : Type 0} (cmp : X → X → Ordering) → IsTotalOrder cmp → (row : X) (rows : List X) (i : ℕ) → IsStrictlySortedBy cmp rows → IsPlace (cmp row) rows (Err i)
    → list_any (λ r. eq_by_cmp cmp r row) rows ≡ false
none_tied cmp total row rows i sorted place =
    sym (is_some-find (λ r. eq_by_cmp cmp r row) rows)
    ∙ ap is_some (at-Err cmp (cmp row) (λ a b less le. le_lt_trans total row a b le less) (λ r. eq_by_cmp cmp r row) (tied total row) rows i sorted place).found

-- rows that a test keeps are a table
pub all_kept : {X : Type 0} (P : X → Type 0) (q : X → Bool) (rows : List X) → AllByRecursion P rows → AllByRecursion P (filter q rows)
all_kept P q [] all = tt
all_kept P q (r ∷ rows) all =
    elim (q r) as (λ b. AllByRecursion P (cond b (r ∷ filter q rows) (filter q rows))) [ true ↦ (all.0, all_kept P q rows all.1) | false ↦ all_kept P q rows all.1 ]

pub table_kept : {X : Type 0} (cmp : X → X → Ordering) (fits q : X → Bool) (rows : List X) → IsTable cmp fits rows → IsTable cmp fits (filter q rows)
table_kept cmp fits q rows table = record {
  ordered = IsStrictlySortedBy-filter cmp q rows table.ordered;
  fit = all_kept (λ r. IsTrue (fits r)) q rows table.fit;
}

-- a row that is lent is there where the row is
pub copied : {X : Type 0} (found : Option (Bor X)) → is_some found ≡ is_some (option_copied found)
copied None = refl
copied (Some x) = refl
