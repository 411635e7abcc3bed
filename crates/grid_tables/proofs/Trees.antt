-- What a tree of rows by their numbers makes of the list of its rows.
use Rattle.std.proofs.Common.{◌≡◌, ◌==◌, ℕ, ◌<◌, Bool, true, false, cond, List, [], ◌∷◌, Some, refl, sym, ap, ◌∙◌, subst, arith, eqb-true}
use Rattle.std.specs.Prelude.{find, filter, map, not, is_some, IsTrue, ◌+◌}
use Rattle.std.specs.List.{AllByRecursion, list_any}
use Rattle.std.specs.List.Sorted.{IsStrictlySortedBy}
use Rattle.std.specs.Map.{keys_of, values_of, lookup, remove_entry}
use Rattle.std.specs.BTreeMap.{insert_entry, is_at}
use Rattle.std.specs.declared.cmp.Ordering.{Ordering}
use Rattle.std.specs.declared.cmp.Ordering.TheVariants.{Less, Equal, Greater}
use Rattle.std.specs.Ordering.{is_eq, is_lt, nat_cmp, match_ordering}
use Rattle.std.specs.Cmp.{IsTotalOrder, ranked, nat_cmp_is}
use Rattle.grid_model.specs.Rows.{IsTable, with_row}
use Rattle.grid_model.proofs.FoundRows.{is_some-find}
use Rattle.grid_model.proofs.TableLemmas.{IsTable-with_row}
use Rattle.grid_tables.specs.Probes.{same_number}
use Rattle.grid_tables.specs.Trees.{IsByNumber}
use Rattle.grid_tables.proofs.Searching.{table_kept}

-- the keys are the numbers
pub keys_are : {X : Type 0} (number : X → ℕ) (entries : List (ℕ × X)) → AllByRecursion (λ e. e.0 ≡ number e.1) entries → keys_of entries ≡ map number (values_of entries)
keys_are number [] keys = refl
keys_are {X = X} number (e ∷ entries) keys = ap (λ n. n ∷ keys_of entries) keys.0 ∙ ap (λ (l : List ℕ). number e.1 ∷ l) (keys_are number entries keys.1)

module _ {X : Type 0} (number : X → ℕ) (cmp : X → X → Ordering) (by_number : (a b : X) → cmp a b ≡ nat_cmp (number a) (number b)) where
  -- ---- a row that is found

  pub found_row : (id : ℕ) (entries : List (ℕ × X)) → AllByRecursion (λ e. e.0 ≡ number e.1) entries → lookup (is_at (nat_cmp id)) entries ≡ find (λ r. number r == id) (values_of entries)
  found_row id [] keys = refl
  found_row id (e ∷ entries) keys =
      let same : is_eq (nat_cmp id e.0) ≡ (number e.1 == id) = ap (λ n. is_eq (nat_cmp id n)) keys.0 ∙ sym (same_number id (number e.1)) in
      rw same (ap (λ o. cond (number e.1 == id) (Some e.1) o) (found_row id entries keys.1))

  -- ---- a row that is put

  order_is : (row : X) (e : ℕ × X) → e.0 ≡ number e.1 → nat_cmp (number row) e.0 ≡ cmp row e.1
  order_is row e key = ap (λ n. nat_cmp (number row) n) key ∙ sym (by_number row e.1)

  pub put_row : (row : X) (entries : List (ℕ × X)) → AllByRecursion (λ e. e.0 ≡ number e.1) entries → values_of (insert_entry nat_cmp entries (number row) row) ≡ with_row cmp (values_of entries) row
  put_row row [] keys = refl
  put_row row (e ∷ entries) keys =
      let order = order_is row e keys.0 in
      let more = put_row row entries keys.1 in
      elim (cmp row e.1) as (λ o. nat_cmp (number row) e.0 ≡ o → values_of (insert_entry nat_cmp (e ∷ entries) (number row) row)
      ≡ elim o [ Less ↦ row ∷ e.1 ∷ values_of entries | Equal ↦ row ∷ values_of entries | Greater ↦ e.1 ∷ with_row cmp (values_of entries) row ]) [
        | Less ↦ λ is. rw is refl
        | Equal ↦ λ is. rw is refl
        | Greater ↦ λ is. rw is (ap (λ (l : List X). e.1 ∷ l) more)
      ] order

  pub put_keys : (row : X) (entries : List (ℕ × X)) → AllByRecursion (λ e. e.0 ≡ number e.1) entries → AllByRecursion (λ e. e.0 ≡ number e.1) (insert_entry nat_cmp entries (number row) row)
  put_keys row [] keys = (refl, tt)
  put_keys row (e ∷ entries) keys =
      let more = put_keys row entries keys.1 in
      elim (nat_cmp (number row) e.0) as (λ o. o ≡ nat_cmp (number row) e.0
      → AllByRecursion (λ (e : ℕ × X). e.0 ≡ number e.1) (match_ordering o ((number row, row) ∷ e ∷ entries) ((e.0, row) ∷ entries) (e ∷ insert_entry nat_cmp entries (number row) row))) [
        | Less ↦ λ is. (refl, keys)
        | Equal ↦ λ is. (sym (ranked (number row) e.0 Equal is), keys.1)
        | Greater ↦ λ is. (keys.0, more)
      ] refl

  pub by_number-put : IsTotalOrder cmp → (fits : X → Bool) (row : X) (entries : List (ℕ × X)) → IsTrue (fits row) → IsByNumber number cmp fits entries
      → IsByNumber number cmp fits (insert_entry nat_cmp entries (number row) row)
  by_number-put total fits row entries fit was = record {
    keys = put_keys row entries was.keys;
    table = subst (λ (l : List X). IsTable cmp fits l) (sym (put_row row entries was.keys)) (IsTable-with_row cmp total fits (values_of entries) row fit was.table);
  }

  -- ---- a row that is dropped

  all_stay : (id : ℕ) (row : X) (rows : List X) → number row ≡ id → AllByRecursion (λ y. cmp row y ≡ Less) rows → filter (λ r. not (number r == id)) rows ≡ rows
  all_stay id row [] is all = refl
  all_stay id row (y ∷ rows) is all =
      let low : number row < number y = ranked (number row) (number y) Less (sym (sym (by_number row y) ∙ all.0)) in
      let other : (number y == id) ≡ false = apart (number y) id (λ e. omega (arith, low, e, is)) in
      rw other (ap (λ (l : List X). y ∷ l) (all_stay id row rows is all.1))
    where
      apart : (a b : ℕ) → (a ≡ b → ⊥) → (a == b) ≡ false
      apart a b ne = grind arith

  pub dropped_row : (id : ℕ) (entries : List (ℕ × X)) → AllByRecursion (λ e. e.0 ≡ number e.1) entries → IsStrictlySortedBy cmp (values_of entries)
      → values_of (remove_entry (is_at (nat_cmp id)) entries) ≡ filter (λ r. not (number r == id)) (values_of entries)
  unfolding IsStrictlySortedBy
  dropped_row id [] keys sorted = refl
  dropped_row id (e ∷ entries) keys sorted =
      let same : is_eq (nat_cmp id e.0) ≡ (number e.1 == id) = ap (λ n. is_eq (nat_cmp id n)) keys.0 ∙ sym (same_number id (number e.1)) in
      let more = dropped_row id entries keys.1 sorted.1 in
      elim (number e.1 == id) as (λ b. (number e.1 == id) ≡ b → is_eq (nat_cmp id e.0) ≡ b
      → values_of (remove_entry (is_at (nat_cmp id)) (e ∷ entries)) ≡ cond (not b) (e.1 ∷ filter (λ r. not (number r == id)) (values_of entries)) (filter (λ r. not (number r == id)) (values_of entries))) [
        | true ↦ λ at is. rw is (sym (all_stay id e.1 (values_of entries) (eqb-true _ _ at) sorted.0))
        | false ↦ λ at is. rw is (ap (λ (l : List X). e.1 ∷ l) more)
      ] refl same

  dropped_keys : (test : ℕ → Bool) (entries : List (ℕ × X)) → AllByRecursion (λ e. e.0 ≡ number e.1) entries → AllByRecursion (λ e. e.0 ≡ number e.1) (remove_entry test entries)
  dropped_keys test [] keys = tt
  dropped_keys test (e ∷ entries) keys =
      elim (test e.0) as (λ b. AllByRecursion (λ (e : ℕ × X). e.0 ≡ number e.1) (cond b entries (e ∷ remove_entry test entries))) [ true ↦ keys.1 | false ↦ (keys.0, dropped_keys test entries keys.1) ]

  pub by_number-drop : (fits : X → Bool) (id : ℕ) (entries : List (ℕ × X)) → IsByNumber number cmp fits entries → IsByNumber number cmp fits (remove_entry (is_at (nat_cmp id)) entries)
  by_number-drop fits id entries was = record {
    keys = dropped_keys (is_at (nat_cmp id)) entries was.keys;
    table = subst (λ (l : List X). IsTable cmp fits l) (sym (dropped_row id entries was.keys was.table.ordered)) (table_kept cmp fits (λ r. not (number r == id)) (values_of entries) was.table);
  }

  -- ---- the id behind the last one

  taken_at : (entries : List (ℕ × X)) → AllByRecursion (λ e. e.0 ≡ number e.1) entries → (rows : List X) → values_of entries ≡ rows → (id : ℕ)
      → is_some (lookup (is_at (nat_cmp id)) entries) ≡ list_any (λ r. number r == id) rows
  taken_at entries keys rows same id =
      ap is_some (found_row id entries keys) ∙ is_some-find (λ r. number r == id) (values_of entries) ∙ ap (λ (l : List X). list_any (λ r. number r == id) l) same

  pub last_taken : (entries : List (ℕ × X)) → AllByRecursion (λ e. e.0 ≡ number e.1) entries → (rows : List X) → values_of entries ≡ rows → (last id : ℕ) (row : X)
      → lookup (is_at (nat_cmp last)) entries ≡ Some row → last ≡ id → list_any (λ r. number r == id) rows ≡ true
  last_taken entries keys rows same last id row found is = ap (λ n. list_any (λ r. number r == n) rows) (sym is) ∙ sym (taken_at entries keys rows same last) ∙ ap is_some found

  pub next_free : (entries : List (ℕ × X)) → AllByRecursion (λ e. e.0 ≡ number e.1) entries → (rows : List X) → values_of entries ≡ rows → (last : ℕ)
      → ((q : ℕ) → IsTrue (is_some (lookup (is_at (nat_cmp q)) entries)) → is_lt (nat_cmp last q) ≡ false) → list_any (λ r. number r == last + 1) rows ≡ false
  next_free entries keys rows same last greatest = by (list_any (λ r. number r == last + 1) rows) refl
    where
      by : (b : Bool) → list_any (λ r. number r == last + 1) rows ≡ b → b ≡ false
      by true e =
          let low : last < last + 1 = omega arith in
          let less : Less ≡ nat_cmp last (last + 1) = nat_cmp_is last (last + 1) Less low in
          let no : is_lt (nat_cmp last (last + 1)) ≡ false = greatest (last + 1) (taken_at entries keys rows same (last + 1) ∙ e) in
          let yes : is_lt (nat_cmp last (last + 1)) ≡ true = ap is_lt (sym less) in
          absurd (cc)
      by false e = refl
