-- What lists of groups make of the list of all rows.
use Rattle.std.proofs.Common.{◌≡◌, ◌==◌, ℕ, ◌<◌, Bool, true, false, cond, List, [], ◌∷◌, ◌++◌, Option, None, Some, ◌⊎◌, inl, inr, refl, sym, ap, ◌∙◌, subst, arith, eqb-true}
use Rattle.std.specs.Prelude.{filter, find, not, is_some, unwrap_or, Result, Ok, Err, OnOk, OnErr}
use Rattle.std.specs.List.{AllByRecursion, list_any}
use Rattle.std.specs.List.Sorted.{IsStrictlySortedBy}
use Rattle.std.specs.Map.{keys_of, lookup, remove_entry, set_value}
use Rattle.std.specs.BTreeMap.{insert_entry, is_at}
use Rattle.std.specs.Option.{IsSome}
use Rattle.std.specs.declared.cmp.Ordering.{Ordering}
use Rattle.std.specs.declared.cmp.Ordering.TheVariants.{Less, Equal, Greater}
use Rattle.std.specs.Ordering.{eq_by_cmp, is_eq, ordering_reverse}
use Rattle.std.specs.Cmp.{IsTotalOrder}
use Rattle.std.proofs.lemmas.Cmp.{tied_itself}
use Rattle.std.proofs.lemmas.List.{append-nil}
use Rattle.std.proofs.lemmas.List.Elements.{filter-append}
use Rattle.grid_model.specs.Rows.{IsTable, with_row}
use Rattle.grid_model.proofs.TableLemmas.{IsTable-with_row, IsTable-none}
use Rattle.tables_laws.proofs.Rows.{IsIn, in_from_all, all_from_in, in_from_filter, in_from_with_row}
use Rattle.tables_laws.proofs.RowLists.{none_kept, find-filter, filter-filter}
use Rattle.grid_model.proofs.FoundRows.{is_some-find}
use Rattle.grid_tables.specs.GroupLists.{GroupId, group_id_cmp, group_id_total, group_id_whole, list_of_group, rows_of_lists, IsInGroups, IsPutIn, IsTakenOut, IsWithoutEmpty, AreCounted}
use Rattle.grid_tables.proofs.Searching.{table_kept}

-- ---- rows of two lists

in_either : {X : Type 0} (a b : List X) (x : X) → IsIn (a ++ b) x → IsIn a x ⊎ IsIn b x
in_either [] b x here = inr here
in_either (r ∷ a) b x (inl is) = inl (inl is)
in_either (r ∷ a) b x (inr later) = elim (in_either a b x later) [ inl was ↦ inl (inr was) | inr was ↦ inr was ]

-- all rows pass
all_pass : {X : Type 0} (p : X → Bool) (rows : List X) → ((x : X) → IsIn rows x → p x ≡ true) → filter p rows ≡ rows
all_pass p [] each = refl
all_pass p (r ∷ rows) each = let first : p r ≡ true = each r (inl refl) in rw first (ap (λ (l : List _). r ∷ l) (all_pass p rows (λ x later. each x (inr later))))

module _ {X : Type 0} (cmp : X → X → Ordering) where
  put_first : (rows : List X) (row : X) → ((x : X) → IsIn rows x → cmp row x ≡ Less) → with_row cmp rows row ≡ row ∷ rows
  put_first [] row above = refl
  put_first (r ∷ rows) row above = let first : cmp row r ≡ Less = above r (inl refl) in rw (first, with_row) refl

  put_front : (a b : List X) (row : X) → ((x : X) → IsIn b x → cmp row x ≡ Less) → with_row cmp (a ++ b) row ≡ with_row cmp a row ++ b
  put_front [] b row above = put_first b row above
  put_front (r ∷ a) b row above =
      elim (cmp row r) as (λ o. elim o as (λ _. List X) [ Less ↦ row ∷ r ∷ (a ++ b) | Equal ↦ row ∷ (a ++ b) | Greater ↦ r ∷ with_row cmp (a ++ b) row ]
      ≡ elim o as (λ _. List X) [ Less ↦ row ∷ r ∷ a | Equal ↦ row ∷ a | Greater ↦ r ∷ with_row cmp a row ] ++ b) [
        | Less ↦ refl
        | Equal ↦ refl
        | Greater ↦ ap (λ (l : List X). r ∷ l) (put_front a b row above)
      ]

  put_back : (a b : List X) (row : X) → ((x : X) → IsIn a x → cmp row x ≡ Greater) → with_row cmp (a ++ b) row ≡ a ++ with_row cmp b row
  put_back [] b row below = refl
  put_back (r ∷ a) b row below =
      let first : cmp row r ≡ Greater = below r (inl refl) in rw (first, with_row) (ap (λ (l : List X). r ∷ l) (put_back a b row (λ x later. below x (inr later))))

-- ---- lists of groups

-- no list is that of a group before all of theirs
none_ahead : {X : Type 0} (k : GroupId) (lists : List (GroupId × List X)) → AllByRecursion (λ q. group_id_cmp k q ≡ Less) (keys_of lists) → lookup (is_at (group_id_cmp k)) lists ≡ None
none_ahead k [] all = refl
none_ahead k (e ∷ lists) all = let first : group_id_cmp k e.0 ≡ Less = all.0 in rw first (none_ahead k lists all.1)

further : (k q : GroupId) (keys : List GroupId) → group_id_cmp k q ≡ Less → AllByRecursion (λ n. group_id_cmp q n ≡ Less) keys → AllByRecursion (λ n. group_id_cmp k n ≡ Less) keys
further k q [] low all = tt
further k q (n ∷ keys) low all = (group_id_total.trans k q n low all.0, further k q keys low all.1)

module _ {X : Type 0} (group : X → GroupId) where
  abbrev Own : List (GroupId × List X) → Type 0
  Own lists = AllByRecursion (λ e. AllByRecursion (λ r. group r ≡ e.0) e.1) lists

  -- rows of later lists are of later groups
  behind : (k : GroupId) (lists : List (GroupId × List X)) → Own lists → AllByRecursion (λ q. group_id_cmp k q ≡ Less) (keys_of lists) → (x : X) → IsIn (rows_of_lists lists) x → group_id_cmp k (group x) ≡ Less
  behind k [] own all x here = absurd here
  behind k (e ∷ lists) own all x here =
      elim (in_either e.1 (rows_of_lists lists) x here) [
        | inl was ↦ ap (group_id_cmp k) (in_from_all (λ r. group r ≡ e.0) e.1 own.0 x was) ∙ all.0
        | inr was ↦ behind k lists own.1 all.1 x was
      ]

  -- how a row of a list stands to a group
  told : (k : GroupId) (e : GroupId × List X) → AllByRecursion (λ r. group r ≡ e.0) e.1 → (x : X) → IsIn e.1 x → is_eq (group_id_cmp k (group x)) ≡ is_eq (group_id_cmp k e.0)
  told k e own x here = ap (λ n. is_eq (group_id_cmp k n)) (in_from_all (λ r. group r ≡ e.0) e.1 own x here)

  beyond : (k : GroupId) (e : GroupId × List X) (lists : List (GroupId × List X)) → group_id_cmp k e.0 ≡ Equal → Own lists → AllByRecursion (λ q. group_id_cmp e.0 q ≡ Less) (keys_of lists)
      → (x : X) → IsIn (rows_of_lists lists) x → group_id_cmp k (group x) ≡ Less
  beyond k e lists is own rising x here = group_id_total.congr k e.0 (group x) is ∙ behind e.0 lists own rising x here

  -- the rows of a group are its list
  pub rows_of_group : (k : GroupId) (lists : List (GroupId × List X)) → Own lists → IsStrictlySortedBy group_id_cmp (keys_of lists) → filter (λ r. is_eq (group_id_cmp k (group r))) (rows_of_lists lists) ≡ list_of_group k lists
  unfolding IsStrictlySortedBy
  rows_of_group k [] own rising = refl
  rows_of_group k (e ∷ lists) own rising = filter-append (λ r. is_eq (group_id_cmp k (group r))) e.1 (rows_of_lists lists) ∙ by (rows_of_group k lists own.1 rising.1) (group_id_cmp k e.0) refl
    where
      More : Type 0
      More = filter (λ r. is_eq (group_id_cmp k (group r))) (rows_of_lists lists) ≡ list_of_group k lists

      apart : More → is_eq (group_id_cmp k e.0) ≡ false → (filter (λ r. is_eq (group_id_cmp k (group r))) e.1 ++ filter (λ r. is_eq (group_id_cmp k (group r))) (rows_of_lists lists)) ≡ list_of_group k (e ∷ lists)
      apart more is_not =
          ap (λ (l : List X). l ++ filter (λ r. is_eq (group_id_cmp k (group r))) (rows_of_lists lists)) (none_kept (λ r. is_eq (group_id_cmp k (group r))) e.1 (λ x here. told k e own.0 x here ∙ is_not))
          ∙ more ∙ sym (ap (λ b. unwrap_or (cond b (Some e.1) (lookup (is_at (group_id_cmp k)) lists)) []) is_not)

      by : More → (o : Ordering) → group_id_cmp k e.0 ≡ o → (filter (λ r. is_eq (group_id_cmp k (group r))) e.1 ++ filter (λ r. is_eq (group_id_cmp k (group r))) (rows_of_lists lists)) ≡ list_of_group k (e ∷ lists)
      by more Less is = apart more (ap is_eq is)
      by more Equal is =
          ap (λ (l : List X). l ++ filter (λ r. is_eq (group_id_cmp k (group r))) (rows_of_lists lists)) (all_pass (λ r. is_eq (group_id_cmp k (group r))) e.1 (λ x here. told k e own.0 x here ∙ ap is_eq is))
          ∙ ap (λ (l : List X). e.1 ++ l) (none_kept (λ r. is_eq (group_id_cmp k (group r))) (rows_of_lists lists) (λ x here. ap is_eq (beyond k e lists is own.1 rising.0 x here)))
          ∙ append-nil e.1 ∙ sym (ap (λ b. unwrap_or (cond b (Some e.1) (lookup (is_at (group_id_cmp k)) lists)) []) (ap is_eq is))
      by more Greater is = apart more (ap is_eq is)

  -- a row of the list of a group is of it
  own_list : (k : GroupId) (lists : List (GroupId × List X)) → Own lists → AllByRecursion (λ r. group r ≡ k) (list_of_group k lists)
  own_list k [] own = tt
  own_list k (e ∷ lists) own = by (own_list k lists own.1) (group_id_cmp k e.0) refl
    where
      by : AllByRecursion (λ r. group r ≡ k) (list_of_group k lists) → (o : Ordering) → group_id_cmp k e.0 ≡ o → AllByRecursion (λ r. group r ≡ k) (list_of_group k (e ∷ lists))
      by more Less is = rw is more
      by more Equal is = rw is (all_from_in (λ r. group r ≡ k) e.1 (λ x here. in_from_all (λ r. group r ≡ e.0) e.1 own.0 x here ∙ sym (group_id_whole k e.0 is)))
      by more Greater is = rw is more

  -- ---- a list that takes the place of another one

  own_set : (k : GroupId) (list : List X) → AllByRecursion (λ r. group r ≡ k) list → (lists : List (GroupId × List X)) → Own lists → Own (set_value (is_at (group_id_cmp k)) lists list)
  own_set k list all [] own = tt
  own_set k list all (e ∷ lists) own = by (own_set k list all lists own.1) (group_id_cmp k e.0) refl
    where
      by : Own (set_value (is_at (group_id_cmp k)) lists list) → (o : Ordering) → group_id_cmp k e.0 ≡ o → Own (set_value (is_at (group_id_cmp k)) (e ∷ lists) list)
      by more Less is = rw is (own.0, more)
      by more Equal is = rw is (all_from_in (λ r. group r ≡ e.0) list (λ x here. in_from_all (λ r. group r ≡ k) list all x here ∙ group_id_whole k e.0 is), own.1)
      by more Greater is = rw is (own.0, more)

  -- ---- a row that is taken out

  pub rows_without : (p : X → Bool) (k : GroupId) → ((x : X) → p x ≡ false → group x ≡ k) → (lists : List (GroupId × List X)) → Own lists → IsStrictlySortedBy group_id_cmp (keys_of lists)
      → rows_of_lists (set_value (is_at (group_id_cmp k)) lists (filter p (list_of_group k lists))) ≡ filter p (rows_of_lists lists)
  unfolding IsStrictlySortedBy
  rows_without p k leads [] own rising = refl
  rows_without p k leads (e ∷ lists) own rising = by (rows_without p k leads lists own.1 rising.1) (group_id_cmp k e.0) refl ∙ sym (filter-append p e.1 (rows_of_lists lists))
    where
      More : Type 0
      More = rows_of_lists (set_value (is_at (group_id_cmp k)) lists (filter p (list_of_group k lists))) ≡ filter p (rows_of_lists lists)

      stays : (x : X) → is_eq (group_id_cmp k (group x)) ≡ false → p x ≡ true
      stays x other = of (p x) refl
        where
          of : (b : Bool) → p x ≡ b → p x ≡ true
          of true is = is
          of false is = let yes : is_eq (group_id_cmp k (group x)) ≡ true = ap (λ n. is_eq (group_id_cmp k n)) (leads x is) ∙ ap is_eq (tied_itself group_id_total k) in absurd (cc (yes, other))

      apart : More → is_eq (group_id_cmp k e.0) ≡ false → (e.1 ++ rows_of_lists (set_value (is_at (group_id_cmp k)) lists (filter p (list_of_group k lists)))) ≡ (filter p e.1 ++ filter p (rows_of_lists lists))
      apart more is_not =
          ap (λ (l : List X). e.1 ++ l) more
          ∙ sym (ap (λ (l : List X). l ++ filter p (rows_of_lists lists)) (all_pass p e.1 (λ x here. stays x (told k e own.0 x here ∙ is_not))))

      by : More → (o : Ordering) → group_id_cmp k e.0 ≡ o
          → rows_of_lists (set_value (is_at (group_id_cmp k)) (e ∷ lists) (filter p (list_of_group k (e ∷ lists)))) ≡ (filter p e.1 ++ filter p (rows_of_lists lists))
      by more Less is = rw is (apart more (ap is_eq is))
      by more Equal is =
          rw is (sym (ap (λ (l : List X). filter p e.1 ++ l)
          (all_pass p (rows_of_lists lists) (λ x here. stays x (ap is_eq (beyond k e lists is own.1 rising.0 x here))))))
      by more Greater is = rw is (apart more (ap is_eq is))

  pub rows_without_empty : (k : GroupId) (lists : List (GroupId × List X)) → list_of_group k lists ≡ [] → rows_of_lists (remove_entry (is_at (group_id_cmp k)) lists) ≡ rows_of_lists lists
  rows_without_empty k [] none = refl
  rows_without_empty k (e ∷ lists) none = by (λ later. rows_without_empty k lists later) (group_id_cmp k e.0) refl
    where
      by : (list_of_group k lists ≡ [] → rows_of_lists (remove_entry (is_at (group_id_cmp k)) lists) ≡ rows_of_lists lists) → (o : Ordering) → group_id_cmp k e.0 ≡ o → rows_of_lists (remove_entry (is_at (group_id_cmp k)) (e ∷ lists)) ≡ (e.1 ++ rows_of_lists lists)
      by more Less is =
          let later : list_of_group k lists ≡ [] = sym (ap (λ b. unwrap_or (cond b (Some e.1) (lookup (is_at (group_id_cmp k)) lists)) []) (ap is_eq is)) ∙ none in
          rw is (ap (λ (l : List X). e.1 ++ l) (more later))
      by more Equal is =
          let empty : e.1 ≡ [] = sym (ap (λ b. unwrap_or (cond b (Some e.1) (lookup (is_at (group_id_cmp k)) lists)) []) (ap is_eq is)) ∙ none in
          rw is (sym (ap (λ (l : List X). l ++ rows_of_lists lists) empty))
      by more Greater is =
          let later : list_of_group k lists ≡ [] = sym (ap (λ b. unwrap_or (cond b (Some e.1) (lookup (is_at (group_id_cmp k)) lists)) []) (ap is_eq is)) ∙ none in
          rw is (ap (λ (l : List X). e.1 ++ l) (more later))

  own_dropped : (test : GroupId → Bool) (lists : List (GroupId × List X)) → Own lists → Own (remove_entry test lists)
  own_dropped test [] own = tt
  own_dropped test (e ∷ lists) own =
      elim (test e.0) as (λ b. Own (cond b lists (e ∷ remove_entry test lists))) [ true ↦ own.1 | false ↦ (own.0, own_dropped test lists own.1) ]

  -- ---- a row that is put

  own_new : (k : GroupId) (row : X) → group row ≡ k → (lists : List (GroupId × List X)) → lookup (is_at (group_id_cmp k)) lists ≡ None → Own lists → Own (insert_entry group_id_cmp lists k (row ∷ []))
  own_new k row is [] none own = ((is, tt), tt)
  own_new k row is (e ∷ lists) none own = by (λ later. own_new k row is lists later own.1) (group_id_cmp k e.0) refl
    where
      by : (lookup (is_at (group_id_cmp k)) lists ≡ None → Own (insert_entry group_id_cmp lists k (row ∷ []))) → (o : Ordering) → group_id_cmp k e.0 ≡ o → Own (insert_entry group_id_cmp (e ∷ lists) k (row ∷ []))
      by more Less at = rw at ((is, tt), own)
      by more Equal at = let found : lookup (is_at (group_id_cmp k)) (e ∷ lists) ≡ Some e.1 = rw at refl in absurd (cc (found, none))
      by more Greater at =
          let later : lookup (is_at (group_id_cmp k)) lists ≡ None = sym (ap (λ b. cond b (Some e.1) (lookup (is_at (group_id_cmp k)) lists)) (ap is_eq at)) ∙ none in
          rw at (own.0, more later)

  module _ (cmp : X → X → Ordering) (total : IsTotalOrder cmp) (below : (a b : X) → group_id_cmp (group a) (group b) ≡ Less → cmp a b ≡ Less) where
    before : (k : GroupId) (row x : X) → group row ≡ k → group_id_cmp k (group x) ≡ Less → cmp row x ≡ Less
    before k row x is low = below row x (ap (λ n. group_id_cmp n (group x)) is ∙ low)

    after : (k : GroupId) (e : GroupId × List X) (row x : X) → group row ≡ k → AllByRecursion (λ r. group r ≡ e.0) e.1 → group_id_cmp k e.0 ≡ Greater → IsIn e.1 x → cmp row x ≡ Greater
    after k e row x is own high here =
        let at : group x ≡ e.0 = in_from_all (λ r. group r ≡ e.0) e.1 own x here in
        let low : group_id_cmp e.0 k ≡ Less = group_id_total.antisymm e.0 k ∙ ap ordering_reverse high in
        total.antisymm row x ∙ ap ordering_reverse (below x row (ap (λ n. group_id_cmp n (group row)) at ∙ ap (group_id_cmp e.0) is ∙ low))

    pub rows_with_new : (k : GroupId) (row : X) → group row ≡ k → (lists : List (GroupId × List X)) → Own lists → IsStrictlySortedBy group_id_cmp (keys_of lists) → lookup (is_at (group_id_cmp k)) lists ≡ None
        → rows_of_lists (insert_entry group_id_cmp lists k (row ∷ [])) ≡ with_row cmp (rows_of_lists lists) row
    unfolding IsStrictlySortedBy
    rows_with_new k row is [] own rising none = refl
    rows_with_new k row is (e ∷ lists) own rising none = by (λ later. rows_with_new k row is lists own.1 rising.1 later) (group_id_cmp k e.0) refl
      where
        by : (lookup (is_at (group_id_cmp k)) lists ≡ None → rows_of_lists (insert_entry group_id_cmp lists k (row ∷ [])) ≡ with_row cmp (rows_of_lists lists) row)
            → (o : Ordering) → group_id_cmp k e.0 ≡ o → rows_of_lists (insert_entry group_id_cmp (e ∷ lists) k (row ∷ [])) ≡ with_row cmp (e.1 ++ rows_of_lists lists) row
        by more Less at =
            rw at (sym (put_first cmp (e.1 ++ rows_of_lists lists) row (λ x here. before k row x is (behind k (e ∷ lists) own (at, further k e.0 (keys_of lists) at rising.0) x here))))
        by more Equal at = let found : lookup (is_at (group_id_cmp k)) (e ∷ lists) ≡ Some e.1 = rw at refl in absurd (cc (found, none))
        by more Greater at =
            let later : lookup (is_at (group_id_cmp k)) lists ≡ None = sym (ap (λ b. cond b (Some e.1) (lookup (is_at (group_id_cmp k)) lists)) (ap is_eq at)) ∙ none in
            rw at (ap (λ (l : List X). e.1 ++ l) (more later)
            ∙ sym (put_back cmp e.1 (rows_of_lists lists) row (λ x here. after k e row x is own.0 at here)))

    pub rows_with : (k : GroupId) (row : X) → group row ≡ k → (lists : List (GroupId × List X)) → Own lists → IsStrictlySortedBy group_id_cmp (keys_of lists) → IsSome (lookup (is_at (group_id_cmp k)) lists)
        → rows_of_lists (set_value (is_at (group_id_cmp k)) lists (with_row cmp (list_of_group k lists) row)) ≡ with_row cmp (rows_of_lists lists) row
    unfolding IsStrictlySortedBy
    rows_with k row is [] own rising some = absurd (cc some)
    rows_with k row is (e ∷ lists) own rising some = by (λ later. rows_with k row is lists own.1 rising.1 later) (group_id_cmp k e.0) refl
      where
        by : (IsSome (lookup (is_at (group_id_cmp k)) lists) → rows_of_lists (set_value (is_at (group_id_cmp k)) lists (with_row cmp (list_of_group k lists) row)) ≡ with_row cmp (rows_of_lists lists) row)
            → (o : Ordering) → group_id_cmp k e.0 ≡ o
            → rows_of_lists (set_value (is_at (group_id_cmp k)) (e ∷ lists) (with_row cmp (list_of_group k (e ∷ lists)) row)) ≡ with_row cmp (e.1 ++ rows_of_lists lists) row
        by more Less at =
            let none : lookup (is_at (group_id_cmp k)) (e ∷ lists) ≡ None = none_ahead k (e ∷ lists) (at, further k e.0 (keys_of lists) at rising.0) in
            let nothing : is_some (lookup (is_at (group_id_cmp k)) (e ∷ lists)) ≡ false = ap is_some none in
            absurd (cc (nothing, some))
        by more Equal at = rw at (sym (put_front cmp e.1 (rows_of_lists lists) row (λ x here. before k row x is (beyond k e lists at own.1 rising.0 x here))))
        by more Greater at =
            let later : IsSome (lookup (is_at (group_id_cmp k)) lists) = subst (λ o. IsSome o) (ap (λ b. cond b (Some e.1) (lookup (is_at (group_id_cmp k)) lists)) (ap is_eq at)) some in
            rw at (ap (λ (l : List X). e.1 ++ l) (more later)
            ∙ sym (put_back cmp e.1 (rows_of_lists lists) row (λ x here. after k e row x is own.0 at here)))

    -- ---- what stays so

    module _ (fits : X → Bool) where
      own_put : (k : GroupId) (row : X) → group row ≡ k → (old new : List (GroupId × List X)) → Own old → IsPutIn cmp k row old new → Own new
      own_put k row is old new own (inl put) = subst Own (sym put.1) (own_new k row is old put.0 own)
      own_put k row is old new own (inr put) =
          subst Own (sym put.1) (own_set k (with_row cmp (list_of_group k old) row) (all_from_in (λ r. group r ≡ k) _ (λ x here. elim (in_from_with_row cmp (list_of_group k old) row x here) [
            | inl same ↦ ap group (sym same) ∙ is
            | inr was ↦ in_from_all (λ r. group r ≡ k) (list_of_group k old) (own_list k old own) x was
          ])) old own)

      pub rows_put : (k : GroupId) (row : X) → group row ≡ k → (old new : List (GroupId × List X)) → IsInGroups group cmp fits old → IsPutIn cmp k row old new
          → rows_of_lists new ≡ with_row cmp (rows_of_lists old) row
      rows_put k row is old new was (inl put) = ap rows_of_lists put.1 ∙ rows_with_new k row is old was.own was.rising put.0
      rows_put k row is old new was (inr put) = ap rows_of_lists put.1 ∙ rows_with k row is old was.own was.rising put.0

      pub groups_put : (k : GroupId) (row : X) → group row ≡ k → fits row ≡ true → (old new : List (GroupId × List X)) → IsInGroups group cmp fits old → IsPutIn cmp k row old new
          → IsStrictlySortedBy group_id_cmp (keys_of new) → IsInGroups group cmp fits new
      groups_put k row is fit old new was put rising = record {
        own = own_put k row is old new was.own put;
        rising = rising;
        table = subst (λ (l : List X). IsTable cmp fits l) (sym (rows_put k row is old new was put)) (IsTable-with_row cmp total fits (rows_of_lists old) row fit was.table);
      }

      -- where it was put or all stayed
      pub groups_after : {A E : Type 0} (result : Result A E) (k : GroupId) (row : X) → group row ≡ k → fits row ≡ true → (old new : List (GroupId × List X)) → IsInGroups group cmp fits old
          → OnOk result (IsPutIn cmp k row old new) → OnErr result (new ≡ old) → IsStrictlySortedBy group_id_cmp (keys_of new) → IsInGroups group cmp fits new
      groups_after (Ok x) k row is fit old new was put failed rising = groups_put k row is fit old new was put rising
      groups_after (Err e) k row is fit old new was put failed rising = subst (IsInGroups group cmp fits) (sym failed) was

      pub rows_after : {A E : Type 0} (result : Result A E) (k : GroupId) (row : X) → group row ≡ k → (old new : List (GroupId × List X)) → IsInGroups group cmp fits old
          → OnOk result (IsPutIn cmp k row old new) → OnOk result (rows_of_lists new ≡ with_row cmp (rows_of_lists old) row)
      rows_after (Ok x) k row is old new was put = rows_put k row is old new was put
      rows_after (Err e) k row is old new was put = tt

  -- ---- rows that a test passes in one group alone

  module _ (t : X → Bool) (k : GroupId) (leads : (x : X) → t x ≡ true → group x ≡ k) (lists : List (GroupId × List X)) (own : Own lists) (rising : IsStrictlySortedBy group_id_cmp (keys_of lists)) where
    fails : (x : X) → is_eq (group_id_cmp k (group x)) ≡ false → t x ≡ false
    fails x other = of (t x) refl
      where
        of : (b : Bool) → t x ≡ b → t x ≡ false
        of true is = let yes : is_eq (group_id_cmp k (group x)) ≡ true = ap (λ n. is_eq (group_id_cmp k n)) (leads x is) ∙ ap is_eq (tied_itself group_id_total k) in absurd (cc (yes, other))
        of false is = is

    pub find_in_group : find t (list_of_group k lists) ≡ find t (rows_of_lists lists)
    find_in_group = ap (λ (l : List X). find t l) (sym (rows_of_group k lists own rising)) ∙ find-filter t (λ r. is_eq (group_id_cmp k (group r))) (rows_of_lists lists) (λ x here. fails x)

    pub any_in_group : list_any t (list_of_group k lists) ≡ list_any t (rows_of_lists lists)
    any_in_group = sym (is_some-find t (list_of_group k lists)) ∙ ap is_some find_in_group ∙ is_some-find t (rows_of_lists lists)

    pub filter_in_group : filter t (list_of_group k lists) ≡ filter t (rows_of_lists lists)
    filter_in_group = ap (λ (l : List X). filter t l) (sym (rows_of_group k lists own rising)) ∙ filter-filter t (λ r. is_eq (group_id_cmp k (group r))) (rows_of_lists lists) (λ x here. fails x)

  -- the only list has all rows
  pub only_list : ((x : X) → group x ≡ (0, 0)) → (lists : List (GroupId × List X)) → Own lists → IsStrictlySortedBy group_id_cmp (keys_of lists) → list_of_group (0, 0) lists ≡ rows_of_lists lists
  only_list only lists own rising = sym (rows_of_group (0, 0) lists own rising) ∙ all_pass (λ r. is_eq (group_id_cmp (0, 0) (group r))) (rows_of_lists lists) (λ x here. ap (λ n. is_eq (group_id_cmp (0, 0) n)) (only x))

  pub no_groups : (cmp : X → X → Ordering) (fits : X → Bool) (lists : List (GroupId × List X)) → lists ≡ [] → IsInGroups group cmp fits lists
  unfolding IsStrictlySortedBy
  no_groups cmp fits lists none = subst (IsInGroups group cmp fits) (sym none) (record { own = tt; rising = tt; table = IsTable-none cmp fits [] refl })

  -- ---- what is left without a row

  module _ (cmp : X → X → Ordering) (fits : X → Bool) where
    pub groups_without : (has_key : X → Bool) (k : GroupId) → ((x : X) → has_key x ≡ true → group x ≡ k) → (old new : List (GroupId × List X)) → IsInGroups group cmp fits old
        → IsTakenOut has_key k old new → IsStrictlySortedBy group_id_cmp (keys_of new)
        → IsInGroups group cmp fits new × (rows_of_lists new ≡ filter (λ r. not (has_key r)) (rows_of_lists old))
    groups_without has_key k leads old new was taken rising = (
      record {
        own = subst Own (sym taken) (own_set k _ (all_from_in (λ r. group r ≡ k) _ (λ x here. in_from_all (λ r. group r ≡ k) (list_of_group k old) (own_list k old was.own) x (in_from_filter (λ r. not (has_key r)) (list_of_group k old) x here).0)) old was.own);
        rising = rising;
        table = subst (λ (l : List X). IsTable cmp fits l) (sym rows) (table_kept cmp fits (λ r. not (has_key r)) (rows_of_lists old) was.table);
      },
      rows,
    )
      where
        turned : (b : Bool) → not b ≡ false → b ≡ true
        turned true e = refl
        turned false e = absurd (cc)

        rows : rows_of_lists new ≡ filter (λ r. not (has_key r)) (rows_of_lists old)
        rows = ap rows_of_lists taken ∙ rows_without (λ r. not (has_key r)) k (λ x out. leads x (turned (has_key x) out)) old was.own was.rising

    pub groups_dropped : (k : GroupId) (old new : List (GroupId × List X)) → IsInGroups group cmp fits old → IsWithoutEmpty k old new → IsStrictlySortedBy group_id_cmp (keys_of new)
        → IsInGroups group cmp fits new × (rows_of_lists new ≡ rows_of_lists old)
    groups_dropped k old new was (inl same) rising = (subst (IsInGroups group cmp fits) (sym same) was, ap rows_of_lists same)
    groups_dropped k old new was (inr dropped) rising = (
      record {
        own = subst Own (sym dropped.1) (own_dropped (is_at (group_id_cmp k)) old was.own);
        rising = rising;
        table = subst (λ (l : List X). IsTable cmp fits l) (sym (ap rows_of_lists dropped.1 ∙ rows_without_empty k old dropped.0)) was.table;
      },
      ap rows_of_lists dropped.1 ∙ rows_without_empty k old dropped.0,
    )

-- what was found for a group is its list
pub list_of : {X : Type 0} (k : GroupId) (lists : List (GroupId × List X)) (found : Option (List X)) → found ≡ lookup (is_at (group_id_cmp k)) lists → list_of_group k lists ≡ unwrap_or found []
list_of k lists found is = ap (λ o. unwrap_or o []) (sym is)

-- so what passes a test in one group alone passes it there
module _ {X : Type 0} (group : X → GroupId) (cmp : X → X → Ordering) (fits : X → Bool) (t : X → Bool) (k : GroupId) (leads : (x : X) → t x ≡ true → group x ≡ k) (lists : List (GroupId × List X))
    (was : IsInGroups group cmp fits lists) (rows : List X) (view : rows_of_lists lists ≡ rows) (found : Option (List X)) (is : found ≡ lookup (is_at (group_id_cmp k)) lists) where
  pub find_led : find t (unwrap_or found []) ≡ find t rows
  find_led = ap (λ (l : List X). find t l) (sym (list_of k lists found is)) ∙ find_in_group group t k leads lists was.own was.rising ∙ ap (λ (l : List X). find t l) view

  pub any_led : list_any t (unwrap_or found []) ≡ list_any t rows
  any_led = ap (λ (l : List X). list_any t l) (sym (list_of k lists found is)) ∙ any_in_group group t k leads lists was.own was.rising ∙ ap (λ (l : List X). list_any t l) view

  pub filter_led : filter t (unwrap_or found []) ≡ filter t rows
  filter_led = ap (λ (l : List X). filter t l) (sym (list_of k lists found is)) ∙ filter_in_group group t k leads lists was.own was.rising ∙ ap (λ (l : List X). filter t l) view

-- where a group has no list, none takes its place
pub set_none : {X : Type 0} (k : GroupId) (lists : List (GroupId × List X)) (list : List X) → lookup (is_at (group_id_cmp k)) lists ≡ None → set_value (is_at (group_id_cmp k)) lists list ≡ lists
set_none k [] list none = refl
set_none k (e ∷ lists) list none =
    elim (is_eq (group_id_cmp k e.0)) as (λ b. cond b (Some e.1) (lookup (is_at (group_id_cmp k)) lists) ≡ None → cond b ((e.0, list) ∷ lists) (e ∷ set_value (is_at (group_id_cmp k)) lists list) ≡ e ∷ lists) [
      | true ↦ λ found. absurd (cc)
      | false ↦ λ later. ap (λ l. e ∷ l) (set_none k lists list later)
    ] none
