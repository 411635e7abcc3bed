-- How many rows there are as one is put or taken out.
use Rattle.std.proofs.Common.{◌≡◌, ℕ, suc, ◌+◌, ◌-◌, Bool, true, false, cond, List, [], ◌∷◌, Option, Some, None, length, inl, inr, refl, sym, ap, ◌∙◌, arith}
use Rattle.std.specs.Prelude.{filter, find, not, ◌≤◌, IsTrue}
use Rattle.std.specs.Map.{keys_of}
use Rattle.std.specs.List.{AllByRecursion, list_any}
use Rattle.std.specs.List.Sorted.{IsStrictlySortedBy}
use Rattle.std.specs.declared.cmp.Ordering.{Ordering}
use Rattle.std.specs.declared.cmp.Ordering.TheVariants.{Less, Equal, Greater}
use Rattle.std.specs.Ordering.{is_eq, is_le, eq_by_cmp}
use Rattle.std.specs.Cmp.{IsTotalOrder}
use Rattle.std.proofs.lemmas.Cmp.{tied_itself}
use Rattle.grid_model.specs.Rows.{with_row}
use Rattle.grid_model.proofs.FoundRows.{none_passes}
use Rattle.tables_laws.proofs.Rows.{IsIn, in_from_all, in_from_find}
use Rattle.grid_tables.specs.GroupLaws.{tied_group}
use Rattle.grid_tables.specs.GroupLists.{GroupId, group_id_cmp, list_of_group, rows_of_lists, IsInGroups, AreCounted, IsPutIn, IsTakenOut, IsWithoutEmpty}
use Rattle.grid_tables.specs.Probes.{tied}
use Rattle.grid_tables.proofs.GroupLists.{find_in_group, groups_dropped, groups_put, groups_without, rows_put}
use Rattle.grid_tables.proofs.Indexes.{all_pass}
use Rattle.grid_tables.proofs.Searching.{one_key}

module _ {X : Type 0} (cmp : X → X → Ordering) (total : IsTotalOrder cmp) where
  -- where no row is replaced there is one more
  pub count_new : (rows : List X) (row : X) → None ≡ find (λ r. eq_by_cmp cmp r row) rows → length (with_row cmp rows row) ≡ suc (length rows)
  count_new [] row none = refl
  count_new (r ∷ rows) row none = by (cmp row r) refl (λ later. count_new rows row later)
    where
      rest : (b : Bool) → eq_by_cmp cmp r row ≡ b → b ≡ false → None ≡ find (λ q. eq_by_cmp cmp q row) rows
      rest b e is = none ∙ ap (λ b. cond b (Some r) (find (λ q. eq_by_cmp cmp q row) rows)) (e ∙ is)

      by : (o : Ordering) → cmp row r ≡ o → (None ≡ find (λ q. eq_by_cmp cmp q row) rows → length (with_row cmp rows row) ≡ suc (length rows))
          → length {A = X} (elim o [ Less ↦ row ∷ r ∷ rows | Equal ↦ row ∷ rows | Greater ↦ r ∷ with_row cmp rows row ]) ≡ suc (suc (length rows))
      by Less e more = refl
      by Equal e more =
          let there : eq_by_cmp cmp r row ≡ true = tied total row r ∙ ap is_eq e in
          let wrong : None ≡ Some r = none ∙ ap (λ b. cond b (Some r) (find (λ q. eq_by_cmp cmp q row) rows)) there in
          absurd (cc (wrong))
      by Greater e more = ap suc (more (rest (eq_by_cmp cmp r row) refl (tied total row r ∙ ap is_eq e)))

  none_above : (row r : X) (rows : List X) → cmp row r ≡ Less → AllByRecursion (λ y. cmp r y ≡ Less) rows → find (λ q. eq_by_cmp cmp q row) rows ≡ None
  none_above row r [] low all = refl
  none_above row r (y ∷ rows) low all =
      let apart : eq_by_cmp cmp y row ≡ false = tied total row y ∙ ap is_eq (total.trans row r y low all.0) in
      rw apart (none_above row r rows low all.1)

  -- else as many
  pub count_same : (rows : List X) (row old : X) → IsStrictlySortedBy cmp rows → Some old ≡ find (λ r. eq_by_cmp cmp r row) rows → length (with_row cmp rows row) ≡ length rows
  unfolding IsStrictlySortedBy
  count_same [] row old sorted found = absurd (cc)
  count_same (r ∷ rows) row old sorted found = by (cmp row r) refl (λ later. count_same rows row old sorted.1 later)
    where
      by : (o : Ordering) → cmp row r ≡ o → (Some old ≡ find (λ q. eq_by_cmp cmp q row) rows → length (with_row cmp rows row) ≡ length rows)
          → length {A = X} (elim o [ Less ↦ row ∷ r ∷ rows | Equal ↦ row ∷ rows | Greater ↦ r ∷ with_row cmp rows row ]) ≡ suc (length rows)
      by Less e more =
          let apart : eq_by_cmp cmp r row ≡ false = tied total row r ∙ ap is_eq e in
          let wrong : Some old ≡ None = found ∙ ap (λ b. cond b (Some r) (find (λ q. eq_by_cmp cmp q row) rows)) apart ∙ none_above row r rows e sorted.0 in
          absurd (cc (wrong))
      by Equal e more = refl
      by Greater e more = ap suc (more (found ∙ ap (λ b. cond b (Some r) (find (λ q. eq_by_cmp cmp q row) rows)) (tied total row r ∙ ap is_eq e)))

  -- ---- a row that is taken out

  all_kept : (p : X → Bool) (rows : List X) → ((x : X) → IsIn rows x → p x ≡ false) → length (filter (λ r. not (p r)) rows) ≡ length rows
  all_kept p [] each = refl
  all_kept p (r ∷ rows) each = let first : p r ≡ false = each r (inl refl) in rw first (ap suc (all_kept p rows (λ x later. each x (inr later))))

  pub count_gone : (p : X → Bool) (rows : List X) (row : X) → IsStrictlySortedBy cmp rows → Some row ≡ find p rows → ((x : X) → IsIn rows x → p x ≡ true → x ≡ row)
      → suc (length (filter (λ r. not (p r)) rows)) ≡ length rows
  unfolding IsStrictlySortedBy
  count_gone p [] row sorted found one = absurd (cc)
  count_gone p (r ∷ rows) row sorted found one = by (p r) refl (λ later. count_gone p rows row sorted.1 later (λ x there. one x (inr there)))
    where
      later_fails : p r ≡ true → (x : X) → IsIn rows x → (b : Bool) → p x ≡ b → b ≡ false
      later_fails is x there true e =
          let same : r ≡ x = one r (inl refl) is ∙ sym (one x (inr there) e) in
          let low : cmp r x ≡ Less = in_from_all (λ y. cmp r y ≡ Less) rows sorted.0 x there in
          let tie : cmp r x ≡ Equal = ap (cmp r) (sym same) ∙ tied_itself total r in
          absurd (cc (low, tie))
      later_fails is x there false e = refl

      by : (b : Bool) → p r ≡ b → (Some row ≡ find p rows → suc (length (filter (λ q. not (p q)) rows)) ≡ length rows)
          → suc (length (cond (not b) (r ∷ filter (λ q. not (p q)) rows) (filter (λ q. not (p q)) rows))) ≡ suc (length rows)
      by true e more = ap suc (all_kept p rows (λ x there. later_fails e x there (p x) refl))
      by false e more = ap suc (more (found ∙ ap (λ b. cond b (Some r) (find p rows)) e))

-- ---- rows in groups

-- a row was put in the list of its group
module _ {X : Type 0} (group : X → GroupId) (cmp : X → X → Ordering) (total : IsTotalOrder cmp) (below : (a b : X) → group_id_cmp (group a) (group b) ≡ Less → cmp a b ≡ Less)
    (tied_so : (a b : X) → cmp a b ≡ Equal → group a ≡ group b) (fits : X → Bool) (row : X) (fit : fits row ≡ true) (old new : List (GroupId × List X)) (count : ℕ)
    (was : AreCounted group cmp fits old count) (put : IsPutIn cmp (group row) row old new) (rising : IsStrictlySortedBy group_id_cmp (keys_of new)) where
  abbrev is_old : X → Bool
  is_old r = eq_by_cmp cmp r row

  pub put_rows : rows_of_lists new ≡ with_row cmp (rows_of_lists old) row
  put_rows = rows_put group cmp total below fits (group row) row refl old new was.groups put

  put_groups : IsInGroups group cmp fits new
  put_groups = groups_put group cmp total below fits (group row) row refl fit old new was.groups put rising

  pub put_found : find is_old (list_of_group (group row) old) ≡ find is_old (rows_of_lists old)
  put_found = find_in_group group is_old (group row) (λ x. tied_group cmp group tied_so x row) old was.groups.own was.groups.rising

  pub counted_same : (replaced : X) → Some replaced ≡ find is_old (list_of_group (group row) old) → AreCounted group cmp fits new count
  counted_same replaced found = record {
    groups = put_groups;
    counted = was.counted ∙ sym (ap length put_rows ∙ count_same cmp total (rows_of_lists old) row replaced was.groups.table.ordered (found ∙ put_found));
  }

  pub counted_new : None ≡ find is_old (list_of_group (group row) old) → AreCounted group cmp fits new (count + 1)
  counted_new none = record {
    groups = put_groups;
    counted = omega (arith, was.counted, ap length put_rows ∙ count_new cmp total (rows_of_lists old) row (none ∙ put_found));
  }

-- the row with a key was taken out of the list of a group
module _ {X : Type 0} (group : X → GroupId) (cmp : X → X → Ordering) (total : IsTotalOrder cmp) (fits : X → Bool) (key : X → Ordering)
    (below : (a b : X) → cmp a b ≡ Less → IsTrue (is_le (key a)) → key b ≡ Less) (has_key : X → Bool) (decides : (r : X) → has_key r ≡ is_eq (key r)) (k : GroupId)
    (leads : (x : X) → has_key x ≡ true → group x ≡ k) (old new : List (GroupId × List X)) (count : ℕ) (was : AreCounted group cmp fits old count) (taken : IsTakenOut has_key k old new)
    (rising : IsStrictlySortedBy group_id_cmp (keys_of new)) where
  abbrev left : List X
  left = filter (λ r. not (has_key r)) (rows_of_lists old)

  without : IsInGroups group cmp fits new × (rows_of_lists new ≡ left)
  without = groups_without group cmp fits has_key k leads old new was.groups taken rising

  pub gone_found : find has_key (list_of_group k old) ≡ find has_key (rows_of_lists old)
  gone_found = find_in_group group has_key k leads old was.groups.own was.groups.rising

  pub gone_rows : rows_of_lists new ≡ left
  gone_rows = without.1

  one_less : (row : X) → Some row ≡ find has_key (list_of_group k old) → suc (length left) ≡ count
  one_less row found =
      let sorted = was.groups.table.ordered in
      let there = in_from_find has_key (rows_of_lists old) row (sym (found ∙ gone_found)) in
      count_gone cmp total has_key (rows_of_lists old) row sorted (found ∙ gone_found)
      (λ x here has. one_key cmp key below has_key decides total (rows_of_lists old) sorted x row here there.0 has there.1)
      ∙ sym was.counted

  pub some_counted : (row : X) → Some row ≡ find has_key (list_of_group k old) → 1 ≤ count
  some_counted row found = omega (arith, one_less row found)

  pub counted_none : None ≡ find has_key (list_of_group k old) → AreCounted group cmp fits new count
  counted_none none = record {
    groups = without.0;
    counted = was.counted ∙ sym (ap length (without.1 ∙ all_pass has_key (rows_of_lists old) (none_passes has_key (rows_of_lists old) (sym (none ∙ gone_found)))));
  }

  module _ (q : GroupId) (last : List (GroupId × List X)) (dropped : IsWithoutEmpty q new last) (rises : IsStrictlySortedBy group_id_cmp (keys_of last)) where
    rest : IsInGroups group cmp fits last × (rows_of_lists last ≡ rows_of_lists new)
    rest = groups_dropped group cmp fits q new last without.0 dropped rises

    pub last_rows : rows_of_lists last ≡ left
    last_rows = rest.1 ∙ without.1

    pub counted_gone : (row : X) → Some row ≡ find has_key (list_of_group k old) → AreCounted group cmp fits last (count - 1)
    counted_gone row found = record {
      groups = rest.0;
      counted = omega (arith, one_less row found, ap length last_rows);
    }
