-- The numbers of the files of replicas, as replicas are put and dropped.
use Rattle.std.proofs.Common.{◌≡◌, ◌==◌, ℕ, Bool, true, false, List, Some, None, Option, ◌⊎◌, inl, inr, refl, sym, ap, ◌∙◌, arith, eqb-true, eq-eqb}
use Rattle.std.specs.Prelude.{find, filter, not, ◌&&◌, ◌||◌, option_map}
use Rattle.std.specs.List.{list_any}
use Rattle.std.specs.List.Sorted.{IsStrictlySortedBy}
use Rattle.std.specs.declared.cmp.Ordering.{Ordering}
use Rattle.std.specs.declared.cmp.Ordering.TheVariants.{Less, Equal, Greater}
use Rattle.std.specs.Ordering.{is_eq, nat_cmp}
use Rattle.std.specs.Cmp.{first_so, second_so, both_ways, ranked}
use Rattle.grid_model.specs.Applying.{is_replica}
use Rattle.grid_model.specs.Rows.{with_row, replica_cmp}
use Rattle.grid_model.specs.declared.deltas.ReplicaRow.{ReplicaRow}
use Rattle.grid_model.proofs.RowOrders.{replica_cmp_total}
use Rattle.grid_tables.specs.declared.vaults.Vault.{Vault}
use Rattle.grid_tables.specs.Places.{passes}
use Rattle.grid_tables.specs.Vaults.{IsVaults, is_left}
use Rattle.grid_tables.proofs.Indexes.{any_found}
use Rattle.grid_tables.specs.Probes.{same_pair}
use Rattle.tables_laws.proofs.Rows.{IsIn, in_from_any, any_from_in, in_from_find, find_from_in, in_from_filter, filter_from_in, in_from_with_row, new_in_with_row, old_in_with_row, any_with_row, in_once, apart_in_with_row}

abbrev pub vault_cmp : Vault → Vault → Ordering
vault_cmp a b = nat_cmp a.vault b.vault

abbrev pub holds : List Vault → ℕ → Bool
holds vaults n = list_any (λ v. v.vault == n) vaults

-- whether a number is the one that was there
abbrev pub was_there : Option ℕ → ℕ → Bool
was_there None n = false
was_there (Some old) n = n == old

or_left : (a b : Bool) → a ≡ true → (a || b) ≡ true
or_left true b e = refl
or_left false b e = absurd (cc)

or_right : (a b : Bool) → b ≡ true → (a || b) ≡ true
or_right true b e = refl
or_right false b e = e

-- one more
pub holds_put : (vaults : List Vault) (v : Vault) (n : ℕ) → holds (with_row vault_cmp vaults v) n ≡ ((v.vault == n) || holds vaults n)
holds_put vaults v n =
    both_ways _ _
    (λ e.
    let found = in_from_any (λ (x : Vault). x.vault == n) (with_row vault_cmp vaults v) e in
    elim (in_from_with_row vault_cmp vaults v found.0 found.1) [
      | inl is ↦ or_left (v.vault == n) (holds vaults n) (ap (λ (x : Vault). x.vault == n) is ∙ found.2)
      | inr was ↦ or_right (v.vault == n) (holds vaults n) (any_from_in (λ x. x.vault == n) vaults found.0 was found.2)
    ])
    (λ e. by_new (v.vault == n) refl e)
  where
    by_new : (b : Bool) → (v.vault == n) ≡ b → (b || holds vaults n) ≡ true → holds (with_row vault_cmp vaults v) n ≡ true
    by_new true is e = any_from_in (λ x. x.vault == n) (with_row vault_cmp vaults v) v (new_in_with_row vault_cmp vaults v) is
    by_new false is e = any_with_row vault_cmp (λ x. x.vault == n) vaults v e (λ x here tie passes. ap (λ m. m == n) (ranked v.vault x.vault Equal (sym tie)) ∙ passes)

-- one less
pub holds_dropped : (vaults : List Vault) (o n : ℕ) → holds (filter (λ v. not (v.vault == o)) vaults) n ≡ (holds vaults n && not (n == o))
holds_dropped vaults o n =
    both_ways _ _
    (λ e.
    let found = in_from_any (λ (x : Vault). x.vault == n) (filter (λ v. not (v.vault == o)) vaults) e in
    let kept = in_from_filter (λ (v : Vault). not (v.vault == o)) vaults found.0 found.1 in
    let there : holds vaults n ≡ true = any_from_in (λ x. x.vault == n) vaults found.0 kept.0 found.2 in
    let other : not (n == o) ≡ true = ap (λ m. not (m == o)) (sym (eqb-true found.0.vault n found.2)) ∙ kept.1 in
    ap (λ b. b && not (n == o)) there ∙ other)
    (λ e.
    let found = in_from_any (λ (x : Vault). x.vault == n) vaults (first_so _ _ e) in
    let other : not (found.0.vault == o) ≡ true = ap (λ m. not (m == o)) (eqb-true found.0.vault n found.2) ∙ second_so _ _ e in
    any_from_in (λ x. x.vault == n) (filter (λ v. not (v.vault == o)) vaults) found.0 (filter_from_in (λ v. not (v.vault == o)) vaults found.0 found.1 other) found.2)

-- the same numbers in another list
pub vaults_moved : (rows : List ReplicaRow) (vaults other : List Vault) → ((n : ℕ) → holds other n ≡ holds vaults n) → IsVaults rows vaults → IsVaults rows other
vaults_moved rows vaults other same was = record {
  all = λ x here. same x.vault ∙ was.all x here;
  none_else = λ n e. was.none_else n (sym (same n) ∙ e);
  once = was.once;
}

-- a number that is put and taken out again, or was there
pub undone : (vaults put other : List Vault) (v : ℕ) (known : Bool) → known ≡ holds vaults v → ((n : ℕ) → holds put n ≡ ((v == n) || holds vaults n))
    → ((n : ℕ) → holds other n ≡ (holds put n && not (not known && (n == v)))) → (n : ℕ) → holds other n ≡ holds vaults n
undone vaults put other v known is more less n =
    less n ∙ ap (λ b. b && not (not known && (n == v))) (more n) ∙ by_same (v == n) (n == v) known refl refl refl
  where
    by_same : (a b k : Bool) → (v == n) ≡ a → (n == v) ≡ b → known ≡ k → ((a || holds vaults n) && not (not k && b)) ≡ holds vaults n
    by_same true true true p q r = sym r ∙ is ∙ ap (holds vaults) (eqb-true v n p)
    by_same true true false p q r = sym r ∙ is ∙ ap (holds vaults) (eqb-true v n p)
    by_same true false k p q r = let same : (n == v) ≡ true = eq-eqb n v (sym (eqb-true v n p)) in absurd (cc)
    by_same false true k p q r = let same : (v == n) ≡ true = eq-eqb v n (sym (eqb-true n v q)) in absurd (cc)
    by_same false false k p q r = and_true k
      where
        and_true : (k : Bool) → (holds vaults n && not (not k && false)) ≡ holds vaults n
        and_true true = whole (holds vaults n)
          where
            whole : (b : Bool) → (b && true) ≡ b
            whole true = refl
            whole false = refl
        and_true false = whole (holds vaults n)
          where
            whole : (b : Bool) → (b && true) ≡ b
            whole true = refl
            whole false = refl

is_key : (object number : ℕ) (r x : ReplicaRow) → r.object ≡ object → r.number ≡ number → is_replica object number x ≡ is_eq (replica_cmp r x)
is_key object number r x e f =
    ap (λ n. (x.object == n) && (x.number == number)) (sym e) ∙ ap (λ n. (x.object == r.object) && (x.number == n)) (sym f) ∙ same_pair r.object r.number x.object x.number

tie_of : (o : Ordering) → is_eq o ≡ true → o ≡ Equal
tie_of Less e = absurd (cc)
tie_of Equal e = refl
tie_of Greater e = absurd (cc)

pub has_vault : (rows : List ReplicaRow) (vaults : List Vault) → IsVaults rows vaults → (n : ℕ) → holds vaults n ≡ list_any (λ o. o.vault == n) rows
has_vault rows vaults was n =
    both_ways _ _ (was.none_else n)
    (λ e. let found = in_from_any (λ (o : ReplicaRow). o.vault == n) rows e in ap (holds vaults) (sym (eqb-true found.0.vault n found.2)) ∙ was.all found.0 found.1)

module _ (rows : List ReplicaRow) (sorted : IsStrictlySortedBy replica_cmp rows) (vaults : List Vault) (was : IsVaults rows vaults) where
  -- a replica by its key
  one_key : (object number : ℕ) (x y : ReplicaRow) → IsIn rows x → IsIn rows y → is_replica object number x ≡ true → is_replica object number y ≡ true → x ≡ y
  one_key object number x y here there p q =
      in_once replica_cmp replica_cmp_total rows x y sorted here there
      (tie_of _ (sym (is_key object number x y (eqb-true _ _ (first_so _ _ p)) (eqb-true _ _ (second_so _ _ p))) ∙ q))

  found_key : (object number : ℕ) (x : ReplicaRow) → IsIn rows x → is_replica object number x ≡ true → find (λ r. is_replica object number r) rows ≡ Some x
  found_key object number x here p = find_from_in (λ r. is_replica object number r) rows x here p (λ y there q. one_key object number y x there here q p)

  -- the vault number of another replica
  pub own_vault : (object number n : ℕ) (own : ℕ) → Some own ≡ option_map (λ r. r.vault) (find (λ r. is_replica object number r) rows) → own ≡ n
      → false ≡ list_any (λ o. (o.vault == n) && not (is_replica object number o)) rows
  own_vault object number n own found same = none (list_any (λ o. (o.vault == n) && not (is_replica object number o)) rows) refl
    where
      by_row : (row : Option ReplicaRow) → find (λ r. is_replica object number r) rows ≡ row → Some own ≡ option_map (λ r. r.vault) row
          → list_any (λ o. (o.vault == n) && not (is_replica object number o)) rows ≡ true → ⊥
      by_row None is e some = absurd (cc)
      by_row (Some r) is e some =
          let here = in_from_find (λ (x : ReplicaRow). is_replica object number x) rows r is in
          let other = in_from_any (λ (o : ReplicaRow). (o.vault == n) && not (is_replica object number o)) rows some in
          let its : own ≡ r.vault = cc in
          let row : other.0 ≡ r = was.once other.0 r other.1 here.0 (eqb-true _ _ (first_so _ _ other.2) ∙ sym same ∙ its) in
          let no : not (is_replica object number other.0) ≡ true = second_so _ _ other.2 in
          let yes : is_replica object number other.0 ≡ true = ap (is_replica object number) row ∙ here.1 in
          absurd (cc)

      none : (b : Bool) → list_any (λ o. (o.vault == n) && not (is_replica object number o)) rows ≡ b → false ≡ b
      none true e = absurd (by_row (find (λ r. is_replica object number r) rows) refl found e)
      none false e = refl

  -- a number that no replica has
  pub no_vault : (object number n : ℕ) → holds vaults n ≡ false → false ≡ list_any (λ o. (o.vault == n) && not (is_replica object number o)) rows
  no_vault object number n free = none (list_any (λ o. (o.vault == n) && not (is_replica object number o)) rows) refl
    where
      none : (b : Bool) → list_any (λ o. (o.vault == n) && not (is_replica object number o)) rows ≡ b → false ≡ b
      none true e =
          let other = in_from_any (λ (o : ReplicaRow). (o.vault == n) && not (is_replica object number o)) rows e in
          let here : holds vaults n ≡ true = has_vault rows vaults was n ∙ any_from_in (λ o. o.vault == n) rows other.0 other.1 (first_so _ _ other.2) in
          absurd (cc)
      none false e = refl

  pub other_vault : (object number n : ℕ) → ((own : ℕ) → Some own ≡ option_map (λ r. r.vault) (find (λ r. is_replica object number r) rows) → own ≡ n → ⊥)
      → holds vaults n ≡ list_any (λ o. (o.vault == n) && not (is_replica object number o)) rows
  other_vault object number n apart =
      has_vault rows vaults was n ∙ both_ways _ _
      (λ e.
      let found = in_from_any (λ (o : ReplicaRow). o.vault == n) rows e in
      any_from_in (λ o. (o.vault == n) && not (is_replica object number o)) rows found.0 found.1
      (ap (λ b. b && not (is_replica object number found.0)) found.2 ∙ not_own found.0 found.1 found.2 (is_replica object number found.0) refl))
      (λ e.
      let found = in_from_any (λ (o : ReplicaRow). (o.vault == n) && not (is_replica object number o)) rows e in
      any_from_in (λ o. o.vault == n) rows found.0 found.1 (first_so _ _ found.2))
    where
      not_own : (x : ReplicaRow) → IsIn rows x → (x.vault == n) ≡ true → (b : Bool) → is_replica object number x ≡ b → not b ≡ true
      not_own x here at true e = absurd (apart x.vault (ap (option_map (λ (r : ReplicaRow). r.vault)) (sym (found_key object number x here e))) (eqb-true _ _ at))
      not_own x here at false e = refl

  -- the numbers with those of a replica that is put
  pub vaults_put : (row : ReplicaRow) (before : Option ℕ) (other : List Vault) → list_any (λ o. (o.vault == row.vault) && not (is_replica row.object row.number o)) rows ≡ false
      → before ≡ option_map (λ r. r.vault) (find (λ r. is_replica row.object row.number r) rows)
      → ((n : ℕ) → holds other n ≡ (((row.vault == n) || holds vaults n) && not (is_left before row.vault n))) → IsVaults (with_row replica_cmp rows row) other
  vaults_put row before other free is now = record {
    all = λ x here. now x.vault ∙ all_by x (apart_in_with_row replica_cmp replica_cmp_total rows row x sorted here);
    none_else = λ n e. none_by n (row.vault == n) refl (sym (now n) ∙ e);
    once = λ x y here there same. once_by x y (apart_in_with_row replica_cmp replica_cmp_total rows row x sorted here) (apart_in_with_row replica_cmp replica_cmp_total rows row y sorted there) same;
  }
    where
      key_of : (x : ReplicaRow) → replica_cmp row x ≡ Equal → is_replica row.object row.number x ≡ true
      key_of x tie = is_key row.object row.number row x refl refl ∙ ap is_eq tie

      not_key : (x : ReplicaRow) → (replica_cmp row x ≡ Equal → ⊥) → (b : Bool) → is_replica row.object row.number x ≡ b → not b ≡ true
      not_key x apart true e = absurd (apart (tie_of _ (sym (is_key row.object row.number row x refl refl) ∙ e)))
      not_key x apart false e = refl

      stays : (x : ReplicaRow) → IsIn rows x → (replica_cmp row x ≡ Equal → ⊥) → (o : Option ReplicaRow) → find (λ r. is_replica row.object row.number r) rows ≡ o
          → not (is_left (option_map (λ r. r.vault) o) row.vault x.vault) ≡ true
      stays x here apart None e = refl
      stays x here apart (Some r) e = by (x.vault == r.vault) refl
        where
          by : (b : Bool) → (x.vault == r.vault) ≡ b → not (not (r.vault == row.vault) && b) ≡ true
          by true at =
              let old = in_from_find (λ (y : ReplicaRow). is_replica row.object row.number y) rows r e in
              let same : x ≡ r = was.once x r here old.0 (eqb-true _ _ at) in
              absurd (apart (tie_of _ (sym (is_key row.object row.number row x refl refl) ∙ ap (is_replica row.object row.number) same ∙ old.1)))
          by false at = never (not (r.vault == row.vault))
            where
              never : (b : Bool) → not (b && false) ≡ true
              never true = refl
              never false = refl

      here_now : (o : Option ℕ) (n : ℕ) → row.vault ≡ n → not (is_left o row.vault n) ≡ true
      here_now None n e = refl
      here_now (Some old) n e = by (old == row.vault) (n == old) refl refl
        where
          by : (a b : Bool) → (old == row.vault) ≡ a → (n == old) ≡ b → not (not a && b) ≡ true
          by true b p q = refl
          by false true p q = let same : (old == row.vault) ≡ true = eq-eqb old row.vault (sym (eqb-true n old q) ∙ sym e) in absurd (cc)
          by false false p q = refl

      all_by : (x : ReplicaRow) → (row ≡ x) ⊎ (IsIn rows x × (replica_cmp row x ≡ Equal → ⊥)) → (((row.vault == x.vault) || holds vaults x.vault) && not (is_left before row.vault x.vault)) ≡ true
      all_by x (inl same) =
          let at : row.vault ≡ x.vault = ap (λ (r : ReplicaRow). r.vault) same in
          ap (λ b. b && not (is_left before row.vault x.vault)) (or_left (row.vault == x.vault) (holds vaults x.vault) (eq-eqb _ _ at)) ∙ here_now before x.vault at
      all_by x (inr old) =
          ap (λ b. b && not (is_left before row.vault x.vault)) (or_right (row.vault == x.vault) (holds vaults x.vault) (was.all x old.0))
          ∙ ap (λ o. not (is_left o row.vault x.vault)) is ∙ stays x old.0 old.1 (find (λ r. is_replica row.object row.number r) rows) refl

      none_by : (n : ℕ) (b : Bool) → (row.vault == n) ≡ b → (((b || holds vaults n)) && not (is_left before row.vault n)) ≡ true → list_any (λ o. o.vault == n) (with_row replica_cmp rows row) ≡ true
      none_by n true at e = any_from_in (λ o. o.vault == n) (with_row replica_cmp rows row) row (new_in_with_row replica_cmp rows row) at
      none_by n false at e =
          let found = in_from_any (λ (o : ReplicaRow). o.vault == n) rows (was.none_else n (first_so _ _ e)) in
          any_from_in (λ o. o.vault == n) (with_row replica_cmp rows row) found.0 (old_in_with_row replica_cmp rows row found.0 found.1 (λ tie. gone found.0 found.1 tie (eqb-true _ _ found.2) (second_so _ _ e))) found.2
        where
          gone : (x : ReplicaRow) → IsIn rows x → replica_cmp row x ≡ Equal → x.vault ≡ n → not (is_left before row.vault n) ≡ true → ⊥
          gone x here tie vault stay =
              let old : before ≡ Some n = is ∙ ap (option_map (λ (r : ReplicaRow). r.vault)) (found_key row.object row.number x here (key_of x tie)) ∙ ap Some vault in
              let apart : (n == row.vault) ≡ false = turned (n == row.vault) refl in
              let left : is_left before row.vault n ≡ true =
              ap (λ o. is_left o row.vault n) old ∙ ap (λ b. not b && (n == n)) apart ∙ eq-eqb n n refl in
              absurd (cc)
            where
              turned : (b : Bool) → (n == row.vault) ≡ b → b ≡ false
              turned true e = let same : (row.vault == n) ≡ true = eq-eqb row.vault n (sym (eqb-true n row.vault e)) in absurd (cc)
              turned false e = refl

      clash : (y : ReplicaRow) → IsIn rows y → (replica_cmp row y ≡ Equal → ⊥) → row.vault ≡ y.vault → ⊥
      clash y here apart same =
          let passed : ((y.vault == row.vault) && not (is_replica row.object row.number y)) ≡ true =
          ap (λ b. b && not (is_replica row.object row.number y)) (eq-eqb y.vault row.vault (sym same)) ∙ not_key y apart (is_replica row.object row.number y) refl in
          let some = any_from_in (λ o. (o.vault == row.vault) && not (is_replica row.object row.number o)) rows y here passed in
          absurd (cc)

      once_by : (x y : ReplicaRow) → (row ≡ x) ⊎ (IsIn rows x × (replica_cmp row x ≡ Equal → ⊥)) → (row ≡ y) ⊎ (IsIn rows y × (replica_cmp row y ≡ Equal → ⊥)) → x.vault ≡ y.vault → x ≡ y
      once_by x y (inl is) (inl also) same = sym is ∙ also
      once_by x y (inl is) (inr old) same = absurd (clash y old.0 old.1 (ap (λ (r : ReplicaRow). r.vault) is ∙ same))
      once_by x y (inr old) (inl is) same = absurd (clash x old.0 old.1 (ap (λ (r : ReplicaRow). r.vault) is ∙ sym same))
      once_by x y (inr old) (inr other) same = was.once x y old.0 other.0 same

  -- the numbers without that of a replica that is dropped
  pub vaults_dropped : (object number : ℕ) (other : List Vault)
      → ((n : ℕ) → holds other n ≡ (holds vaults n && not (list_any (λ r. is_replica object number r && (r.vault == n)) rows)))
      → IsVaults (filter (λ r. not (is_replica object number r)) rows) other
  vaults_dropped object number other now = record {
    all = λ x here.
        let kept = in_from_filter (λ r. not (is_replica object number r)) rows x here in
        now x.vault ∙ ap (λ b. b && not (list_any (λ r. is_replica object number r && (r.vault == x.vault)) rows)) (was.all x kept.0) ∙ none_gone x kept.0 kept.1;
    none_else = λ n e.
        let both = sym (now n) ∙ e in
        let found = in_from_any (λ (o : ReplicaRow). o.vault == n) rows (was.none_else n (first_so _ _ both)) in
        any_from_in (λ o. o.vault == n) (filter (λ r. not (is_replica object number r)) rows) found.0
        (filter_from_in (λ r. not (is_replica object number r)) rows found.0 found.1 (not_it n found.0 found.1 found.2 (second_so _ _ both) (is_replica object number found.0) refl)) found.2;
    once = λ x y here there same.
        was.once x y (in_from_filter (λ r. not (is_replica object number r)) rows x here).0 (in_from_filter (λ r. not (is_replica object number r)) rows y there).0 same;
  }
    where
      none_gone : (x : ReplicaRow) → IsIn rows x → not (is_replica object number x) ≡ true → not (list_any (λ r. is_replica object number r && (r.vault == x.vault)) rows) ≡ true
      none_gone x here kept = by (list_any (λ r. is_replica object number r && (r.vault == x.vault)) rows) refl
        where
          by : (b : Bool) → list_any (λ r. is_replica object number r && (r.vault == x.vault)) rows ≡ b → not b ≡ true
          by true e =
              let found = in_from_any (λ (r : ReplicaRow). is_replica object number r && (r.vault == x.vault)) rows e in
              let same : found.0 ≡ x = was.once found.0 x found.1 here (eqb-true _ _ (second_so _ _ found.2)) in
              let yes : is_replica object number x ≡ true = ap (is_replica object number) (sym same) ∙ first_so _ _ found.2 in
              absurd (cc)
          by false e = refl

      not_it : (n : ℕ) (x : ReplicaRow) → IsIn rows x → (x.vault == n) ≡ true → not (list_any (λ r. is_replica object number r && (r.vault == n)) rows) ≡ true → (b : Bool) → is_replica object number x ≡ b → not b ≡ true
      not_it n x here at none true e =
          let some = any_from_in (λ r. is_replica object number r && (r.vault == n)) rows x here (ap (λ b. b && (x.vault == n)) e ∙ at) in
          absurd (cc)
      not_it n x here at none false e = refl

  -- where that number is known
  pub vaults_without : (object number : ℕ) (other : List Vault) (before : Option ℕ) → before ≡ option_map (λ r. r.vault) (find (λ r. is_replica object number r) rows)
      → ((n : ℕ) → holds other n ≡ (holds vaults n && not (was_there before n))) → IsVaults (filter (λ r. not (is_replica object number r)) rows) other
  vaults_without object number other before is now =
      vaults_dropped object number other (λ n. now n ∙ ap (λ b. holds vaults n && not b)
      (ap (λ o. was_there o n) is ∙ told n (find (λ r. is_replica object number r) rows)
      ∙ sym (any_found (is_replica object number) (λ r. r.vault == n) rows (one_key object number))))
    where
      told : (n : ℕ) (o : Option ReplicaRow) → was_there (option_map (λ r. r.vault) o) n ≡ passes (λ r. r.vault == n) o
      told n None = refl
      told n (Some r) = either_way n r.vault
        where
          either_way : (a b : ℕ) → (a == b) ≡ (b == a)
          either_way a b = grind arith

pub some_same : {X : Type 0} (a b : X) (o : Option X) → Some a ≡ o → Some b ≡ o → a ≡ b
some_same a b o e f = cc

pub some_none : {X : Type 0} (a : X) (o : Option X) → Some a ≡ o → None ≡ o → ⊥
some_none a None e f = absurd (cc)
some_none a (Some x) e f = absurd (cc)
