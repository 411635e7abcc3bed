-- Which rows stand in a table, and what a row that is put or dropped makes of that.
use Rattle.std.proofs.Common.{◌≡◌, Bool, true, false, List, [], ◌∷◌, Some, ◌⊎◌, inl, inr, refl, sym, ap, ◌∙◌, subst}
use Rattle.std.specs.Prelude.{find, filter, cond, ◌||◌}
use Rattle.std.specs.List.{list_any, AllByRecursion}
use Rattle.std.specs.List.Sorted.{IsStrictlySortedBy}
use Rattle.std.specs.declared.cmp.Ordering.{Ordering}
use Rattle.std.specs.declared.cmp.Ordering.TheVariants.{Less, Equal, Greater}
use Rattle.std.specs.Ordering.{ordering_reverse}
use Rattle.std.specs.Cmp.{IsTotalOrder}
use Rattle.grid_model.specs.Rows.{with_row, IsTable}

-- a row stands in a table
abbrev pub IsIn : {X : Type 0} → List X → X → Type 0
IsIn [] x = ⊥
IsIn (r ∷ rows) x = (r ≡ x) ⊎ IsIn rows x

module _ {X : Type 0} where
  -- a row that passes, where one does
  pub in_from_any : (p : X → Bool) (rows : List X) → list_any p rows ≡ true → (x : X) × IsIn rows x × (p x ≡ true)
  in_from_any p [] e = absurd cc
  in_from_any p (r ∷ rows) e =
      elim (p r) as (λ b. p r ≡ b → (b || list_any p rows) ≡ true → (x : X) × IsIn (r ∷ rows) x × (p x ≡ true)) [
        | true ↦ λ is _. (r, inl refl, is)
        | false ↦ λ is later. let found = in_from_any p rows later in (found.0, inr found.1, found.2)
      ] refl e

  pub any_from_in : (p : X → Bool) (rows : List X) (x : X) → IsIn rows x → p x ≡ true → list_any p rows ≡ true
  any_from_in p [] x here e = absurd here
  any_from_in p (r ∷ rows) x (inl is) e = let first : p r ≡ true = ap p is ∙ e in rw first refl
  any_from_in p (r ∷ rows) x (inr later) e =
      elim (p r) as (λ b. (b || list_any p rows) ≡ true) [ true ↦ refl | false ↦ any_from_in p rows x later e ]

  pub in_from_all : (P : X → Type 0) (rows : List X) → AllByRecursion P rows → (x : X) → IsIn rows x → P x
  in_from_all P [] all x here = absurd here
  in_from_all P (r ∷ rows) all x (inl is) = subst P is all.0
  in_from_all P (r ∷ rows) all x (inr later) = in_from_all P rows all.1 x later

  pub all_from_in : (P : X → Type 0) (rows : List X) → ((x : X) → IsIn rows x → P x) → AllByRecursion P rows
  all_from_in P [] each = tt
  all_from_in P (r ∷ rows) each = (each r (inl refl), all_from_in P rows (λ x later. each x (inr later)))

  -- ---- a row that is found

  pub in_from_find : (p : X → Bool) (rows : List X) (x : X) → find p rows ≡ Some x → IsIn rows x × (p x ≡ true)
  in_from_find p [] x e = absurd cc
  in_from_find p (r ∷ rows) x e =
      elim (p r) as (λ b. p r ≡ b → cond b (Some r) (find p rows) ≡ Some x → IsIn (r ∷ rows) x × (p x ≡ true)) [
        | true ↦ λ is found. let same : r ≡ x = cc in (inl same, sym (ap p same) ∙ is)
        | false ↦ λ is found. let later = in_from_find p rows x found in (inr later.0, later.1)
      ] refl e

  -- the only row that passes is found
  pub find_from_in : (p : X → Bool) (rows : List X) (x : X) → IsIn rows x → p x ≡ true → ((y : X) → IsIn rows y → p y ≡ true → y ≡ x) → find p rows ≡ Some x
  find_from_in p [] x here passes alone = absurd here
  find_from_in p (r ∷ rows) x here passes alone =
      elim (p r) as (λ b. p r ≡ b → cond b (Some r) (find p rows) ≡ Some x) [
        | true ↦ λ is. ap Some (alone r (inl refl) is)
        | false ↦ λ is. find_from_in p rows x (behind is here) passes (λ y later. alone y (inr later))
      ] refl
    where
      behind : p r ≡ false → IsIn (r ∷ rows) x → IsIn rows x
      behind fails (inl same) = let wrong : p r ≡ true = ap p same ∙ passes in absurd cc
      behind fails (inr later) = later

  -- ---- what a test keeps

  pub in_from_filter : (q : X → Bool) (rows : List X) (x : X) → IsIn (filter q rows) x → IsIn rows x × (q x ≡ true)
  in_from_filter q [] x here = absurd here
  in_from_filter q (r ∷ rows) x here =
      elim (q r) as (λ b. q r ≡ b → IsIn (cond b (r ∷ filter q rows) (filter q rows)) x → IsIn (r ∷ rows) x × (q x ≡ true)) [
        | true ↦ λ is h. elim h [
          | inl same ↦ (inl same, sym (ap q same) ∙ is)
          | inr kept ↦ let later = in_from_filter q rows x kept in (inr later.0, later.1)
        ]
        | false ↦ λ is h. let later = in_from_filter q rows x h in (inr later.0, later.1)
      ] refl here

  pub filter_from_in : (q : X → Bool) (rows : List X) (x : X) → IsIn rows x → q x ≡ true → IsIn (filter q rows) x
  filter_from_in q [] x here passes = absurd here
  filter_from_in q (r ∷ rows) x (inl is) passes = let first : q r ≡ true = ap q is ∙ passes in rw first (inl is)
  filter_from_in q (r ∷ rows) x (inr later) passes =
      elim (q r) as (λ b. IsIn (cond b (r ∷ filter q rows) (filter q rows)) x) [
        | true ↦ inr (filter_from_in q rows x later passes)
        | false ↦ filter_from_in q rows x later passes
      ]

  pub all_kept : (P : X → Type 0) (q : X → Bool) (rows : List X) → AllByRecursion P rows → AllByRecursion P (filter q rows)
  all_kept P q rows all = all_from_in P (filter q rows) (λ x here. in_from_all P rows all x (in_from_filter q rows x here).0)

-- ---- a row that is put

module _ {X : Type 0} (cmp : X → X → Ordering) where
  IsStrictlySortedBy-filter : (q : X → Bool) (rows : List X) → IsStrictlySortedBy cmp rows → IsStrictlySortedBy cmp (filter q rows)
  unfolding IsStrictlySortedBy
  IsStrictlySortedBy-filter q [] sorted = tt
  IsStrictlySortedBy-filter q (r ∷ rows) sorted =
      elim (q r) as (λ b. IsStrictlySortedBy cmp (cond b (r ∷ filter q rows) (filter q rows))) [
        | true ↦ (all_kept (λ y. cmp r y ≡ Less) q rows sorted.0, IsStrictlySortedBy-filter q rows sorted.1)
        | false ↦ IsStrictlySortedBy-filter q rows sorted.1
      ]

  pub IsTable-filter : (fits q : X → Bool) (rows : List X) → IsTable cmp fits rows → IsTable cmp fits (filter q rows)
  IsTable-filter fits q rows table = record {
    ordered = IsStrictlySortedBy-filter q rows table.ordered;
    fit = all_kept (λ r. fits r ≡ true) q rows table.fit;
  }

  -- the new row, or one from before
  pub in_from_with_row : (rows : List X) (row x : X) → IsIn (with_row cmp rows row) x → (row ≡ x) ⊎ IsIn rows x
  in_from_with_row [] row x (inl is) = inl is
  in_from_with_row [] row x (inr none) = absurd none
  in_from_with_row (r ∷ rows) row x here =
      elim (cmp row r) as (λ o. IsIn (elim o [ Less ↦ row ∷ r ∷ rows | Equal ↦ row ∷ rows | Greater ↦ r ∷ with_row cmp rows row ]) x → (row ≡ x) ⊎ IsIn (r ∷ rows) x) [
        | Less ↦ λ h. h
        | Equal ↦ λ h. elim h [ inl is ↦ inl is | inr later ↦ inr (inr later) ]
        | Greater ↦ λ h. elim h [ inl is ↦ inr (inl is) | inr later ↦ elim (in_from_with_row rows row x later) [ inl is ↦ inl is | inr was ↦ inr (inr was) ] ]
      ] here

  pub new_in_with_row : (rows : List X) (row : X) → IsIn (with_row cmp rows row) row
  new_in_with_row [] row = inl refl
  new_in_with_row (r ∷ rows) row =
      elim (cmp row r) as (λ o. IsIn (elim o [ Less ↦ row ∷ r ∷ rows | Equal ↦ row ∷ rows | Greater ↦ r ∷ with_row cmp rows row ]) row) [
        | Less ↦ inl refl
        | Equal ↦ inl refl
        | Greater ↦ inr (new_in_with_row rows row)
      ]

  -- rows with other keys stay
  pub old_in_with_row : (rows : List X) (row x : X) → IsIn rows x → (cmp row x ≡ Equal → ⊥) → IsIn (with_row cmp rows row) x
  old_in_with_row [] row x here apart = absurd here
  old_in_with_row (r ∷ rows) row x here apart =
      elim (cmp row r) as (λ o. cmp row r ≡ o → IsIn (elim o [ Less ↦ row ∷ r ∷ rows | Equal ↦ row ∷ rows | Greater ↦ r ∷ with_row cmp rows row ]) x) [
        | Less ↦ λ e. inr here
        | Equal ↦ λ e. inr (behind e here)
        | Greater ↦ λ e. elim here [ inl is ↦ inl is | inr later ↦ inr (old_in_with_row rows row x later apart) ]
      ] refl
    where
      behind : cmp row r ≡ Equal → IsIn (r ∷ rows) x → IsIn rows x
      behind e (inl is) = absurd (apart (sym (ap (cmp row) is) ∙ e))
      behind e (inr later) = later

  -- what some row passes, some row passes where the new one passes with the one that it replaces
  pub any_with_row : (p : X → Bool) (rows : List X) (row : X) → list_any p rows ≡ true → ((x : X) → IsIn rows x → cmp row x ≡ Equal → p x ≡ true → p row ≡ true)
      → list_any p (with_row cmp rows row) ≡ true
  any_with_row p rows row e carries =
      let found = in_from_any p rows e in
      elim (cmp row found.0) as (λ o. cmp row found.0 ≡ o → list_any p (with_row cmp rows row) ≡ true) [
        | Less ↦ λ is. any_from_in p _ found.0 (old_in_with_row rows row found.0 found.1 (λ h. absurd cc)) found.2
        | Equal ↦ λ is. any_from_in p _ row (new_in_with_row rows row) (carries found.0 found.1 is found.2)
        | Greater ↦ λ is. any_from_in p _ found.0 (old_in_with_row rows row found.0 found.1 (λ h. absurd cc)) found.2
      ] refl

  module _ (o : IsTotalOrder cmp) where
    -- one row a key
    pub in_once : (rows : List X) (x y : X) → IsStrictlySortedBy cmp rows → IsIn rows x → IsIn rows y → cmp x y ≡ Equal → x ≡ y
    unfolding IsStrictlySortedBy
    in_once [] x y sorted here there e = absurd here
    in_once (r ∷ rows) x y sorted (inl is) (inl also) e = sym is ∙ also
    in_once (r ∷ rows) x y sorted (inl is) (inr later) e =
        let below : cmp r y ≡ Less = in_from_all (λ z. cmp r z ≡ Less) rows sorted.0 y later in
        let equal : cmp r y ≡ Equal = ap (λ z. cmp z y) is ∙ e in
        absurd cc
    in_once (r ∷ rows) x y sorted (inr later) (inl is) e =
        let below : cmp r x ≡ Less = in_from_all (λ z. cmp r z ≡ Less) rows sorted.0 x later in
        let equal : cmp r x ≡ Equal = ap (λ z. cmp z x) is ∙ o.antisymm y x ∙ ap ordering_reverse e in
        absurd cc
    in_once (r ∷ rows) x y sorted (inr later) (inr also) e = in_once rows x y sorted.1 later also e

    -- one from before has another key
    pub apart_in_with_row : (rows : List X) (row x : X) → IsStrictlySortedBy cmp rows → IsIn (with_row cmp rows row) x → (row ≡ x) ⊎ (IsIn rows x × (cmp row x ≡ Equal → ⊥))
    unfolding IsStrictlySortedBy
    apart_in_with_row [] row x sorted (inl is) = inl is
    apart_in_with_row [] row x sorted (inr none) = absurd none
    apart_in_with_row (r ∷ rows) row x sorted here =
        elim (cmp row r) as (λ q. cmp row r ≡ q → IsIn (elim q [ Less ↦ row ∷ r ∷ rows | Equal ↦ row ∷ rows | Greater ↦ r ∷ with_row cmp rows row ]) x
        → (row ≡ x) ⊎ (IsIn (r ∷ rows) x × (cmp row x ≡ Equal → ⊥))) [
          | Less ↦ λ e h. elim h [ inl is ↦ inl is | inr later ↦ inr (later, above e later) ]
          | Equal ↦ λ e h. elim h [ inl is ↦ inl is | inr later ↦ inr (inr later, beyond e later) ]
          | Greater ↦ λ e h. elim h [
            | inl is ↦ inr (inl is, λ equal. let wrong : cmp row r ≡ Equal = ap (cmp row) is ∙ equal in absurd cc)
            | inr later ↦ elim (apart_in_with_row rows row x sorted.1 later) [ inl is ↦ inl is | inr was ↦ inr (inr was.0, was.1) ]
          ]
        ] refl here
      where
        behind : IsIn rows x → cmp r x ≡ Less
        behind later = in_from_all (λ z. cmp r z ≡ Less) rows sorted.0 x later

        above : cmp row r ≡ Less → IsIn (r ∷ rows) x → cmp row x ≡ Equal → ⊥
        above e (inl is) equal = let wrong : cmp row r ≡ Equal = ap (cmp row) is ∙ equal in absurd cc
        above e (inr later) equal = let wrong : cmp row x ≡ Less = o.trans row r x e (behind later) in absurd cc

        beyond : cmp row r ≡ Equal → IsIn rows x → cmp row x ≡ Equal → ⊥
        beyond e later equal = let wrong : cmp row x ≡ Less = o.congr row r x e ∙ behind later in absurd cc
