-- Keys by which rows are looked for beside their own, as rows are put and dropped.
use Rattle.std.proofs.Common.{◌≡◌, ℕ, Bool, true, false, List, [], Option, Some, None, ◌∷◌, ◌⊎◌, inl, inr, refl, sym, ap, ◌∙◌, subst}
use Rattle.std.specs.Prelude.{cond, find, filter, not, ◌&&◌, ◌||◌}
use Rattle.std.specs.BTreeSet.{replace_key}
use Rattle.std.specs.List.{AllByRecursion, list_any}
use Rattle.std.specs.List.Sorted.{IsStrictlySortedBy}
use Rattle.std.specs.declared.cmp.Ordering.{Ordering}
use Rattle.std.specs.declared.cmp.Ordering.TheVariants.{Less, Equal, Greater}
use Rattle.std.specs.Ordering.{is_eq, eq_by_cmp, match_ordering, ordering_reverse}
use Rattle.std.specs.Cmp.{IsTotalOrder, first_so, second_so, both_ways}
use Rattle.std.proofs.lemmas.Cmp.{tied_itself}
use Rattle.std.proofs.lemmas.List.Kept.{IsStrictlySortedBy-filter}
use Rattle.grid_model.specs.Rows.{with_row}
use Rattle.grid_model.proofs.TableLemmas.{all-map, IsTable-with_row}
use Rattle.grid_model.proofs.FoundRows.{none_passes}
use Rattle.tables_laws.proofs.Rows.{IsIn, in_from_any, any_from_in, in_from_all, all_from_in, in_from_find, in_from_filter, filter_from_in, in_from_with_row, new_in_with_row, old_in_with_row, in_once, apart_in_with_row}
use Rattle.grid_tables.specs.IndexKeys.{AreKeysOf, replaced_at}
use Rattle.grid_tables.specs.Probes.{tied}
use Rattle.grid_tables.proofs.Indexes.{all_pass}

-- ---- keys as they are put

-- the words of a set, and those of a table
pub replaced_row : {K : Type 0} (cmp : K → K → Ordering) (keys : List K) (key : K) → replace_key cmp keys key ≡ with_row cmp keys key
replaced_row cmp [] key = refl
replaced_row cmp (k ∷ keys) key = by (cmp key k) (replaced_row cmp keys key)
  where
    by : (o : Ordering) → replace_key cmp keys key ≡ with_row cmp keys key
        → match_ordering o (key ∷ k ∷ keys) (key ∷ keys) (k ∷ replace_key cmp keys key) ≡ elim o [ Less ↦ key ∷ k ∷ keys | Equal ↦ key ∷ keys | Greater ↦ k ∷ with_row cmp keys key ]
    by Less later = refl
    by Equal later = refl
    by Greater later = ap (λ l. k ∷ l) later

-- the keys that a key does not tie with, told from either side
others_tied : {K : Type 0} (cmp : K → K → Ordering) → IsTotalOrder cmp → (key : K) (keys : List K)
    → filter (λ k. not (is_eq (cmp key k))) keys ≡ filter (λ k. not (eq_by_cmp cmp k key)) keys
others_tied cmp total key [] = refl
others_tied {K} cmp total key (k ∷ keys) =
    ap (λ b. cond (not b) (k ∷ filter (λ q. not (is_eq (cmp key q))) keys) (filter (λ q. not (is_eq (cmp key q))) keys)) (sym (tied total key k))
    ∙ ap (λ (l : List K). cond (not (eq_by_cmp cmp k key)) (k ∷ l) l) (others_tied cmp total key keys)

kept_all : {K : Type 0} (test : K → Bool) (ks : List K) → list_any test ks ≡ false → filter (λ k. not (test k)) ks ≡ ks
kept_all test [] none = refl
kept_all {K} test (k ∷ ks) none = by (test k) refl (λ later. kept_all test ks later)
  where
    by : (b : Bool) → test k ≡ b → (list_any test ks ≡ false → filter (λ q. not (test q)) ks ≡ ks) → filter (λ q. not (test q)) (k ∷ ks) ≡ k ∷ ks
    by true e more = let some : list_any test (k ∷ ks) ≡ true = ap (λ b. b || list_any test ks) e in absurd (cc (some, none))
    by false e more =
        ap (λ b. cond (not b) (k ∷ filter (λ q. not (test q)) ks) (filter (λ q. not (test q)) ks)) e ∙ ap (λ l. k ∷ l) (more (sym (ap (λ b. b || list_any test ks) e) ∙ none))

-- a key that tied with none is taken out again
pub put_undone : {K : Type 0} (cmp : K → K → Ordering) → IsTotalOrder cmp → (key : K) (keys : List K) → list_any (λ k. is_eq (cmp key k)) keys ≡ false
    → filter (λ k. not (is_eq (cmp key k))) (replace_key cmp keys key) ≡ keys
put_undone cmp total key [] none = let self : is_eq (cmp key key) ≡ true = ap is_eq (tied_itself total key) in rw self refl
put_undone {K} cmp total key (k ∷ keys) none = by (cmp key k) refl (λ later. put_undone cmp total key keys later)
  where
    ties : K → Bool
    ties q = is_eq (cmp key q)

    self : ties key ≡ true
    self = ap is_eq (tied_itself total key)

    first : (b : Bool) → ties k ≡ b → b ≡ false
    first true e = let some : list_any ties (k ∷ keys) ≡ true = ap (λ b. b || list_any ties keys) e in absurd (cc (some, none))
    first false e = refl

    later : list_any ties keys ≡ false
    later = sym (ap (λ b. b || list_any ties keys) (first (ties k) refl)) ∙ none

    all_stay : (qs : List K) → list_any ties qs ≡ false → filter (λ q. not (ties q)) qs ≡ qs
    all_stay qs e = kept_all ties qs e

    by : (o : Ordering) → cmp key k ≡ o → (list_any ties keys ≡ false → filter (λ q. not (ties q)) (replace_key cmp keys key) ≡ keys)
        → filter (λ q. not (ties q)) (match_ordering o (key ∷ k ∷ keys) (key ∷ keys) (k ∷ replace_key cmp keys key)) ≡ k ∷ keys
    by Less e more = ap (λ b. cond (not b) (key ∷ filter (λ q. not (ties q)) (k ∷ keys)) (filter (λ q. not (ties q)) (k ∷ keys))) self ∙ all_stay (k ∷ keys) none
    by Equal e more = let wrong : ties k ≡ true = ap is_eq e in absurd (cc (wrong, first (ties k) refl))
    by Greater e more =
        ap (λ b. cond (not b) (k ∷ filter (λ q. not (ties q)) (replace_key cmp keys key)) (filter (λ q. not (ties q)) (replace_key cmp keys key))) (ap is_eq e)
        ∙ ap (λ l. k ∷ l) (more later)

none_of_all : {K : Type 0} (test : K → Bool) (ks : List K) → AllByRecursion (λ k. test k ≡ false) ks → list_any test ks ≡ false
none_of_all test [] all = refl
none_of_all test (k ∷ ks) all = ap (λ b. b || list_any test ks) all.0 ∙ none_of_all test ks all.1

-- a key that is there already changes nothing
pub put_again : {K : Type 0} (cmp : K → K → Ordering) → IsTotalOrder cmp → ((a b : K) → cmp a b ≡ Equal → a ≡ b) → (key : K) (keys : List K) → IsStrictlySortedBy cmp keys
    → list_any (λ k. is_eq (cmp key k)) keys ≡ true → replace_key cmp keys key ≡ keys
unfolding IsStrictlySortedBy
put_again cmp total whole key [] sorted some = absurd (cc)
put_again {K} cmp total whole key (k ∷ keys) sorted some = by (cmp key k) refl (λ later. put_again cmp total whole key keys sorted.1 later)
  where
    ties : K → Bool
    ties q = is_eq (cmp key q)

    none_later : (qs : List K) → AllByRecursion (λ q. cmp k q ≡ Less) qs → cmp key k ≡ Less → list_any ties qs ≡ false
    none_later qs above e = none_of_all ties qs (all-map (λ q. cmp k q ≡ Less) (λ q. ties q ≡ false) (λ q less. ap is_eq (total.trans key k q e less)) qs above)

    by : (o : Ordering) → cmp key k ≡ o → (list_any ties keys ≡ true → replace_key cmp keys key ≡ keys) → match_ordering o (key ∷ k ∷ keys) (key ∷ keys) (k ∷ replace_key cmp keys key) ≡ k ∷ keys
    by Less e more =
        let none : list_any ties (k ∷ keys) ≡ false = ap (λ b. b || list_any ties keys) (ap is_eq e) ∙ none_later keys sorted.0 e in
        absurd (cc (some, none))
    by Equal e more = ap (λ q. q ∷ keys) (whole key k e)
    by Greater e more = ap (λ l. k ∷ l) (more (sym (ap (λ b. b || list_any ties keys) (ap is_eq e)) ∙ some))

module _ {X K : Type 0} (of : X → K) (cmp : K → K → Ordering) where
  pub keys-none : (rows : List X) (keys : List K) → rows ≡ [] → keys ≡ [] → AreKeysOf of cmp rows keys
  unfolding IsStrictlySortedBy
  keys-none rows keys none empty = subst (λ (l : List X). AreKeysOf of cmp l keys) (sym none) (subst (λ (l : List K). AreKeysOf of cmp [] l) (sym empty) (record { ordered = tt; all = λ x here. absurd here; none_else = λ k here. absurd here }))

  -- those that pass a test
  pub keys-at : (q : K → Bool) (rows : List X) (keys found : List K) → found ≡ filter q keys → AreKeysOf of cmp rows keys → AreKeysOf of cmp (filter (λ r. q (of r)) rows) found
  keys-at q rows keys found is are =
      subst (λ (l : List K). AreKeysOf of cmp (filter (λ r. q (of r)) rows) l) (sym is) (record {
        ordered = IsStrictlySortedBy-filter cmp q keys are.ordered;
        all = λ x here. let was = in_from_filter (λ r. q (of r)) rows x here in filter_from_in q keys (of x) (are.all x was.0) was.1;
        none_else = λ k here.
            let was = in_from_filter q keys k here in
            let row = are.none_else k was.0 in
            (row.0, filter_from_in (λ r. q (of r)) rows row.0 row.1 (ap q row.2 ∙ was.1), row.2);
      })

  -- some key passes a test where that of some row does
  pub any-of-rows : (test : K → Bool) (rows : List X) (keys : List K) → AreKeysOf of cmp rows keys → list_any test keys ≡ list_any (λ r. test (of r)) rows
  any-of-rows test rows keys are =
      both_ways (list_any test keys) (list_any (λ r. test (of r)) rows)
      (λ e.
      let key = in_from_any test keys e in
      let row = are.none_else key.0 key.1 in
      any_from_in (λ r. test (of r)) rows row.0 row.1 (ap test row.2 ∙ key.2))
      (λ e.
      let row = in_from_any (λ r. test (of r)) rows e in
      any_from_in test keys (of row.0) (are.all row.0 row.1) row.2)

  pub any-key : (q test : K → Bool) (rows : List X) (found : List K) → AreKeysOf of cmp (filter (λ r. q (of r)) rows) found → list_any test found ≡ list_any (λ r. q (of r) && test (of r)) rows
  any-key q test rows found are =
      both_ways (list_any test found) (list_any (λ r. q (of r) && test (of r)) rows)
      (λ e.
      let key = in_from_any test found e in
      let row = are.none_else key.0 key.1 in
      let kept = in_from_filter (λ r. q (of r)) rows row.0 row.1 in
      any_from_in (λ r. q (of r) && test (of r)) rows row.0 kept.0 (ap (λ b. b && test (of row.0)) kept.1 ∙ ap test row.2 ∙ key.2))
      (λ e.
      let row = in_from_any (λ r. q (of r) && test (of r)) rows e in
      let kept = filter_from_in (λ r. q (of r)) rows row.0 row.1 (first_so _ _ row.2) in
      any_from_in test found (of row.0) (are.all row.0 kept) (second_so _ _ row.2))

module _ {X K : Type 0} (row_cmp : X → X → Ordering) (total : IsTotalOrder row_cmp) (of : X → K) (cmp : K → K → Ordering) (key_total : IsTotalOrder cmp) (whole : (a b : K) → cmp a b ≡ Equal → a ≡ b) where
  tie_is : (a b : K) → eq_by_cmp cmp a b ≡ true → cmp a b ≡ Equal
  tie_is a b e = by (cmp a b) e
    where
      by : (o : Ordering) → is_eq o ≡ true → o ≡ Equal
      by Less e = absurd (cc)
      by Equal e = refl
      by Greater e = absurd (cc)

  module _ (rows : List X) (sorted : IsStrictlySortedBy row_cmp rows) where
    -- the keys without that of the one row that passes a test, where no other row has it
    pub key-forgot : ((a b : X) → of a ≡ of b → row_cmp a b ≡ Equal) → (is_key : X → Bool) (row : X) → Some row ≡ find is_key rows
        → ((test : X → Bool) → list_any (λ r. is_key r && test r) rows ≡ test row)
        → (keys left : List K) → left ≡ filter (λ k. not (is_eq (cmp (of row) k))) keys → AreKeysOf of cmp rows keys → AreKeysOf of cmp (filter (λ r. not (is_key r)) rows) left
    key-forgot own is_key row found alone keys left is are =
        subst (λ (l : List K). AreKeysOf of cmp (filter (λ r. not (is_key r)) rows) l) (sym (is ∙ others_tied cmp key_total (of row) keys)) (record {
          ordered = IsStrictlySortedBy-filter cmp (λ k. not (eq_by_cmp cmp k (of row))) keys are.ordered;
          all = λ x here.
              let was = in_from_filter (λ r. not (is_key r)) rows x here in
              filter_from_in (λ k. not (eq_by_cmp cmp k (of row))) keys (of x) (are.all x was.0) (other x was.0 was.1 (eq_by_cmp cmp (of x) (of row)) refl);
          none_else = λ k here.
              let was = in_from_filter (λ (k : K). not (eq_by_cmp cmp k (of row))) keys k here in
              let x = are.none_else k was.0 in
              (x.0, filter_from_in (λ r. not (is_key r)) rows x.0 x.1 (kept x.0 k x.1 x.2 was.1 (is_key x.0) refl), x.2);
        })
      where
        there : IsIn rows row × (is_key row ≡ true)
        there = in_from_find is_key rows row (sym found)

        other : (x : X) → IsIn rows x → not (is_key x) ≡ true → (b : Bool) → eq_by_cmp cmp (of x) (of row) ≡ b → not b ≡ true
        other x here fails true e =
            let same : x ≡ row = in_once row_cmp total rows x row sorted here there.0 (own x row (whole (of x) (of row) (tie_is (of x) (of row) e))) in
            let wrong : is_key x ≡ true = ap is_key same ∙ there.1 in
            absurd (cc (fails, wrong))
        other x here fails false e = refl

        one : (x : X) → IsIn rows x → is_key x ≡ true → eq_by_cmp row_cmp x row ≡ true
        one x here passes = by (eq_by_cmp row_cmp x row) refl
          where
            by : (b : Bool) → eq_by_cmp row_cmp x row ≡ b → b ≡ true
            by true e = refl
            by false e =
                let some = any_from_in (λ r. is_key r && not (eq_by_cmp row_cmp r row)) rows x here (ap (λ b. b && not (eq_by_cmp row_cmp x row)) passes ∙ ap not e) in
                let none : list_any (λ r. is_key r && not (eq_by_cmp row_cmp r row)) rows ≡ false = alone (λ r. not (eq_by_cmp row_cmp r row)) ∙ ap (λ o. not (is_eq o)) (tied_itself total row) in
                absurd (cc (some, none))

        kept : (x : X) (k : K) → IsIn rows x → of x ≡ k → not (eq_by_cmp cmp k (of row)) ≡ true → (b : Bool) → is_key x ≡ b → not b ≡ true
        kept x k here has fails true e =
            let same : x ≡ row = in_once row_cmp total rows x row sorted here there.0 (tie_row (row_cmp x row) (one x here e)) in
            let key : k ≡ of row = sym has ∙ ap of same in
            let yes : eq_by_cmp cmp k (of row) ≡ true = ap (λ q. eq_by_cmp cmp q (of row)) key ∙ ap is_eq (tied_itself key_total (of row)) in
            absurd (cc (fails, yes))
          where
            tie_row : (o : Ordering) → is_eq o ≡ true → o ≡ Equal
            tie_row Less e = absurd (cc)
            tie_row Equal e = refl
            tie_row Greater e = absurd (cc)
        kept x k here has fails false e = refl

    -- ---- a row that is put

    module _ (row : X) (key : K) (key_is : key ≡ of row) (keys : List K) (are : AreKeysOf of cmp rows keys) (more : List K) (put : more ≡ replace_key cmp keys key) where
      with_key : more ≡ with_row cmp keys key
      with_key = put ∙ replaced_row cmp keys key

      ordered_more : IsStrictlySortedBy cmp more
      ordered_more = subst (λ (l : List K). IsStrictlySortedBy cmp l) (sym with_key) (IsTable-with_row cmp key_total (λ _. true) keys key refl (record { ordered = are.ordered; fit = all_from_in _ keys (λ x here. refl) })).ordered

      own_key : IsIn more (of row)
      own_key = subst (λ (l : List K). IsIn l (of row)) (sym with_key) (subst (λ k. IsIn (with_row cmp keys key) k) key_is (new_in_with_row cmp keys key))

      old_key : (k : K) → IsIn keys k → IsIn more k
      old_key k here = subst (λ (l : List K). IsIn l k) (sym with_key) (by (cmp key k) refl)
        where
          by : (o : Ordering) → cmp key k ≡ o → IsIn (with_row cmp keys key) k
          by Less e = old_in_with_row cmp keys key k here (λ same. absurd (cc (same, e)))
          by Equal e = subst (λ q. IsIn (with_row cmp keys key) q) (whole key k e) (new_in_with_row cmp keys key)
          by Greater e = old_in_with_row cmp keys key k here (λ same. absurd (cc (same, e)))

      some_key : (k : K) → IsIn more k → (of row ≡ k) ⊎ IsIn keys k
      some_key k here =
          elim (in_from_with_row cmp keys key k (subst (λ (l : List K). IsIn l k) with_key here)) [
            | inl same ↦ inl (sym key_is ∙ same)
            | inr was ↦ inr was
          ]

      all_keys : (x : X) → IsIn (with_row row_cmp rows row) x → IsIn more (of x)
      all_keys x here = elim (apart_in_with_row row_cmp total rows row x sorted here) [
        | inl same ↦ subst (λ y. IsIn more (of y)) same own_key
        | inr was ↦ old_key (of x) (are.all x was.0)
      ]

      -- where a row that is not replaced stays
      stays : (x : X) → IsIn rows x → (row_cmp row x ≡ Equal → of x ≡ of row) → (y : X) × IsIn (with_row row_cmp rows row) y × (of y ≡ of x)
      stays x here tied_so = by (row_cmp row x) refl
        where
          by : (o : Ordering) → row_cmp row x ≡ o → (y : X) × IsIn (with_row row_cmp rows row) y × (of y ≡ of x)
          by Less e = (x, old_in_with_row row_cmp rows row x here (λ same. absurd (cc (same, e))), refl)
          by Equal e = (row, new_in_with_row row_cmp rows row, sym (tied_so e))
          by Greater e = (x, old_in_with_row row_cmp rows row x here (λ same. absurd (cc (same, e))), refl)

      put_so : ((x : X) → IsIn rows x → row_cmp row x ≡ Equal → of x ≡ of row) → AreKeysOf of cmp (with_row row_cmp rows row) more
      put_so tied_so = record {
        ordered = ordered_more;
        all = all_keys;
        none_else = λ k here. elim (some_key k here) [
          | inl same ↦ (row, new_in_with_row row_cmp rows row, same)
          | inr was ↦
              let x = are.none_else k was in
              let y = stays x.0 x.1 (tied_so x.0 x.1) in
              (y.0, y.1, y.2 ∙ x.2)
        ];
      }

      none_tied_with : (x : X) → IsIn rows x → None ≡ find (λ r. eq_by_cmp row_cmp r row) rows → row_cmp row x ≡ Equal → ⊥
      none_tied_with x here none e =
          let fails : eq_by_cmp row_cmp x row ≡ false = in_from_all (λ r. eq_by_cmp row_cmp r row ≡ false) rows (none_passes (λ r. eq_by_cmp row_cmp r row) rows (sym none)) x here in
          let passes : eq_by_cmp row_cmp x row ≡ true = tied total row x ∙ ap is_eq e in
          absurd (cc (fails, passes))

      -- a new row
      pub key-new : None ≡ find (λ r. eq_by_cmp row_cmp r row) rows → AreKeysOf of cmp (with_row row_cmp rows row) more
      key-new none = put_so (λ x here e. absurd (none_tied_with x here none e))

      module _ (own : (a b : X) → of a ≡ of b → row_cmp a b ≡ Equal) where
        -- where a row has the key, it is the one that is replaced
        key-same : list_any (λ k. is_eq (cmp key k)) keys ≡ true → AreKeysOf of cmp (with_row row_cmp rows row) more
        key-same some =
            let there = in_from_any (λ k. is_eq (cmp key k)) keys some in
            let at = are.none_else there.0 there.1 in
            let has : of at.0 ≡ of row = at.2 ∙ sym (whole key there.0 (tie_order (cmp key there.0) there.2)) ∙ key_is in
            put_so (λ x here e. let same : x ≡ at.0 = in_once row_cmp total rows x at.0 sorted here at.1 (total.congr x row at.0 (turned_tie row x e) ∙ turned_tie at.0 row (own at.0 row has)) in ap of same ∙ has)
          where
            tie_order : (o : Ordering) → is_eq o ≡ true → o ≡ Equal
            tie_order Less e = absurd (cc)
            tie_order Equal e = refl
            tie_order Greater e = absurd (cc)

            turned_tie : (x y : X) → row_cmp x y ≡ Equal → row_cmp y x ≡ Equal
            turned_tie x y e = total.antisymm y x ∙ ap ordering_reverse e

        -- where no row is replaced whose key goes
        pub key-put : None ≡ replaced_at (λ r. eq_by_cmp row_cmp r row) rows (λ k. is_eq (cmp key k)) keys → AreKeysOf of cmp (with_row row_cmp rows row) more
        key-put none = by (list_any (λ k. is_eq (cmp key k)) keys) refl
          where
            by : (b : Bool) → list_any (λ k. is_eq (cmp key k)) keys ≡ b → AreKeysOf of cmp (with_row row_cmp rows row) more
            by true e = key-same e
            by false e = key-new (none ∙ ap (λ b. cond b None (find (λ r. eq_by_cmp row_cmp r row) rows)) e)

        -- where one is
        pub key-moved : (old : X) → Some old ≡ replaced_at (λ r. eq_by_cmp row_cmp r row) rows (λ k. is_eq (cmp key k)) keys
            → (left : List K) → left ≡ filter (λ k. not (is_eq (cmp (of old) k))) more → AreKeysOf of cmp (with_row row_cmp rows row) left
        key-moved old replaced left is = subst (λ (l : List K). AreKeysOf of cmp (with_row row_cmp rows row) l) (sym is) (record {
          ordered = IsStrictlySortedBy-filter cmp (λ k. not (is_eq (cmp (of old) k))) more ordered_more;
          all = λ x here. elim (apart_in_with_row row_cmp total rows row x sorted here) [
            | inl same ↦ subst (λ y. IsIn (filter (λ k. not (is_eq (cmp (of old) k))) more) (of y)) same (filter_from_in (λ k. not (is_eq (cmp (of old) k))) more (of row) own_key (apart_row (cmp (of old) (of row)) refl))
            | inr was ↦ filter_from_in (λ k. not (is_eq (cmp (of old) k))) more (of x) (old_key (of x) (are.all x was.0)) (apart_other x was.1 (cmp (of old) (of x)) refl)
          ];
          none_else = λ k here.
              let kept = in_from_filter (λ k. not (is_eq (cmp (of old) k))) more k here in
              elim (some_key k kept.0) [
                | inl same ↦ (row, new_in_with_row row_cmp rows row, same)
                | inr was ↦
                    let x = are.none_else k was in
                    let y = stays x.0 x.1 (λ e. absurd (no_longer x.0 k x.1 x.2 e kept.1)) in
                    (y.0, y.1, y.2 ∙ x.2)
              ];
        })
          where
            ties : K → Bool
            ties k = is_eq (cmp key k)

            is_old : X → Bool
            is_old r = eq_by_cmp row_cmp r row

            found : (b : Bool) → list_any ties keys ≡ b → (b ≡ false) × (find is_old rows ≡ Some old)
            found true e = let wrong : Some old ≡ None = replaced ∙ ap (λ b. cond b None (find is_old rows)) e in absurd (cc (wrong))
            found false e = (refl, sym (replaced ∙ ap (λ b. cond b None (find is_old rows)) e))

            untied : list_any ties keys ≡ false
            untied = (found (list_any ties keys) refl).0

            there : IsIn rows old × (is_old old ≡ true)
            there = in_from_find is_old rows old (found (list_any ties keys) refl).1

            tie_order : (o : Ordering) → is_eq o ≡ true → o ≡ Equal
            tie_order Less e = absurd (cc)
            tie_order Equal e = refl
            tie_order Greater e = absurd (cc)

            tie : row_cmp old row ≡ Equal
            tie = tie_order (row_cmp old row) there.1

            turned : (x y : X) → row_cmp x y ≡ Equal → row_cmp y x ≡ Equal
            turned x y e = total.antisymm y x ∙ ap ordering_reverse e

            apart_row : (o : Ordering) → cmp (of old) (of row) ≡ o → not (is_eq (cmp (of old) (of row))) ≡ true
            apart_row Less e = ap (λ o. not (is_eq o)) e
            apart_row Equal e =
                let same : key ≡ of old = key_is ∙ sym (whole (of old) (of row) e) in
                let some = any_from_in ties keys (of old) (are.all old there.0) (ap (λ k. is_eq (cmp key k)) (sym same) ∙ ap is_eq (tied_itself key_total key)) in
                absurd (cc (some, untied))
            apart_row Greater e = ap (λ o. not (is_eq o)) e

            apart_other : (x : X) → (row_cmp row x ≡ Equal → ⊥) → (o : Ordering) → cmp (of old) (of x) ≡ o → not (is_eq (cmp (of old) (of x))) ≡ true
            apart_other x apart Less e = ap (λ o. not (is_eq o)) e
            apart_other x apart Equal e = absurd (apart (total.congr row old x (turned old row tie) ∙ own old x (whole (of old) (of x) e)))
            apart_other x apart Greater e = ap (λ o. not (is_eq o)) e

            no_longer : (x : X) (k : K) → IsIn rows x → of x ≡ k → row_cmp row x ≡ Equal → not (is_eq (cmp (of old) k)) ≡ true → ⊥
            no_longer x k here has e kept =
                let same : x ≡ old = in_once row_cmp total rows x old sorted here there.0 (total.congr x row old (turned row x e) ∙ turned old row tie) in
                let key_same : of old ≡ k = ap of (sym same) ∙ has in
                let yes : is_eq (cmp (of old) k) ≡ true = ap (λ q. is_eq (cmp (of old) q)) (sym key_same) ∙ ap is_eq (tied_itself key_total (of old)) in
                absurd (cc (yes, kept))

-- where no row passes a test, none is dropped
pub keys-same : {X K : Type 0} (of : X → K) (cmp : K → K → Ordering) (is_key : X → Bool) (rows : List X) (keys : List K) → None ≡ find is_key rows → AreKeysOf of cmp rows keys
    → AreKeysOf of cmp (filter (λ r. not (is_key r)) rows) keys
keys-same {X = X} of cmp is_key rows keys none are = subst (λ (l : List X). AreKeysOf of cmp l keys) (sym (all_pass is_key rows (none_passes is_key rows (sym none)))) are

-- ---- keys that rows share

module _ {X K : Type 0} (row_cmp : X → X → Ordering) (of : X → K) (cmp : K → K → Ordering) (key_total : IsTotalOrder cmp) (whole : (a b : K) → cmp a b ≡ Equal → a ≡ b)
    (steady : (a b : X) → row_cmp a b ≡ Equal → of a ≡ of b) (rows : List X) (row : X) (keys : List K) (are : AreKeysOf of cmp rows keys) where
  tie_of : (o : Ordering) → is_eq o ≡ true → o ≡ Equal
  tie_of Less e = absurd (cc)
  tie_of Equal e = refl
  tie_of Greater e = absurd (cc)

  abbrev left : List X
  left = filter (λ r. not (eq_by_cmp row_cmp r row)) rows

  -- a row is dropped, and another one has its key
  pub key-shared : (y : X) → IsIn left y → of y ≡ of row → AreKeysOf of cmp left keys
  key-shared y there same = record {
    ordered = are.ordered;
    all = λ x here. are.all x (in_from_filter (λ r. not (eq_by_cmp row_cmp r row)) rows x here).0;
    none_else = λ k here. let x = are.none_else k here in by x.0 k x.1 x.2 (eq_by_cmp row_cmp x.0 row) refl;
  }
    where
      by : (x : X) (k : K) → IsIn rows x → of x ≡ k → (b : Bool) → eq_by_cmp row_cmp x row ≡ b → (z : X) × IsIn left z × (of z ≡ k)
      by x k here has true e = (y, there, same ∙ sym (steady x row (tie_of (row_cmp x row) e)) ∙ has)
      by x k here has false e = (x, filter_from_in (λ r. not (eq_by_cmp row_cmp r row)) rows x here (ap not e), has)

  -- or none
  pub key-alone : (more : List K) → more ≡ filter (λ k. not (is_eq (cmp (of row) k))) keys → ((y : X) → IsIn left y → of y ≡ of row → ⊥) → AreKeysOf of cmp left more
  key-alone more is alone = subst (λ (l : List K). AreKeysOf of cmp left l) (sym (is ∙ others_tied cmp key_total (of row) keys)) (record {
    ordered = IsStrictlySortedBy-filter cmp (λ k. not (eq_by_cmp cmp k (of row))) keys are.ordered;
    all = λ x here.
        let was = in_from_filter (λ r. not (eq_by_cmp row_cmp r row)) rows x here in
        filter_from_in (λ k. not (eq_by_cmp cmp k (of row))) keys (of x) (are.all x was.0) (other x here (eq_by_cmp cmp (of x) (of row)) refl);
    none_else = λ k here.
        let was = in_from_filter (λ (k : K). not (eq_by_cmp cmp k (of row))) keys k here in
        let x = are.none_else k was.0 in
        (x.0, filter_from_in (λ r. not (eq_by_cmp row_cmp r row)) rows x.0 x.1 (kept x.0 k x.2 was.1 (eq_by_cmp row_cmp x.0 row) refl), x.2);
  })
    where
      other : (x : X) → IsIn left x → (b : Bool) → eq_by_cmp cmp (of x) (of row) ≡ b → not b ≡ true
      other x here true e = absurd (alone x here (whole (of x) (of row) (tie_of (cmp (of x) (of row)) e)))
      other x here false e = refl

      kept : (x : X) (k : K) → of x ≡ k → not (eq_by_cmp cmp k (of row)) ≡ true → (b : Bool) → eq_by_cmp row_cmp x row ≡ b → not b ≡ true
      kept x k has fails true e =
          let key : k ≡ of row = sym has ∙ steady x row (tie_of (row_cmp x row) e) in
          let ties : eq_by_cmp cmp k (of row) ≡ true = ap (λ q. eq_by_cmp cmp q (of row)) key ∙ ap is_eq (tied_itself key_total (of row)) in
          absurd (cc (fails, ties))
      kept x k has fails false e = refl

-- where none passes, none is found
pub absent_found : {X : Type 0} (p : X → Bool) (rows : List X) → list_any p rows ≡ false → None ≡ find p rows
absent_found {X = X} p rows none = by (find p rows) refl
  where
    by : (o : Option X) → find p rows ≡ o → None ≡ find p rows
    by None is = sym is
    by (Some x) is =
        let here = in_from_find p rows x is in
        let some = any_from_in p rows x here.0 here.1 in
        absurd (cc (none, some))
