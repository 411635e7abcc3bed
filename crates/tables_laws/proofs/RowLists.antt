-- What maps, finds and filters make of lists of rows, and of tables in which a row is put.
use Rattle.std.proofs.Common.{◌≡◌, Bool, true, false, cond, List, [], ◌∷◌, Some, inl, inr, refl, sym, ap, ◌∙◌}
use Rattle.std.specs.Prelude.{map, find, filter, not}
use Rattle.std.specs.List.{AllByRecursion}
use Rattle.std.specs.List.Sorted.{IsStrictlySortedBy}
use Rattle.std.specs.declared.cmp.Ordering.{Ordering}
use Rattle.std.specs.declared.cmp.Ordering.TheVariants.{Less, Equal, Greater}
use Rattle.std.specs.Ordering.{is_eq, ordering_reverse}
use Rattle.std.specs.Cmp.{IsTotalOrder, tied_itself}
use Rattle.grid_model.specs.Rows.{with_row}
use Rattle.tables_laws.proofs.Rows.{IsIn, in_from_all, all_from_in, all_kept}

pub not_not : (b : Bool) → b ≡ not (not b)
not_not true = refl
not_not false = refl

pub map-congr : {X Y : Type 0} (f g : X → Y) (rows : List X) → ((x : X) → IsIn rows x → f x ≡ g x) → map f rows ≡ map g rows
map-congr f g [] same = refl
map-congr f g (r ∷ rows) same = ap (λ y. y ∷ map f rows) (same r (inl refl)) ∙ ap (λ ys. g r ∷ ys) (map-congr f g rows (λ x later. same x (inr later)))

pub find-congr : {X : Type 0} (s t : X → Bool) (rows : List X) → ((x : X) → IsIn rows x → s x ≡ t x) → find s rows ≡ find t rows
find-congr s t [] same = refl
find-congr s t (r ∷ rows) same = ap (λ b. cond b (Some r) (find s rows)) (same r (inl refl)) ∙ ap (λ o. cond (t r) (Some r) o) (find-congr s t rows (λ x later. same x (inr later)))

-- rows that are left out, and fail, are not missed
pub find-filter : {X : Type 0} (p keep : X → Bool) (rows : List X) → ((x : X) → IsIn rows x → keep x ≡ false → p x ≡ false) → find p (filter keep rows) ≡ find p rows
find-filter p keep [] fails = refl
find-filter p keep (r ∷ rows) fails =
    elim (keep r) as (λ b. keep r ≡ b → find p (cond b (r ∷ filter keep rows) (filter keep rows)) ≡ cond (p r) (Some r) (find p rows)) [
      | true ↦ λ is. ap (λ o. cond (p r) (Some r) o) (find-filter p keep rows (λ x later. fails x (inr later)))
      | false ↦ λ is. find-filter p keep rows (λ x later. fails x (inr later)) ∙ sym (ap (λ b. cond b (Some r) (find p rows)) (fails r (inl refl) is))
    ] refl

pub filter-filter : {X : Type 0} (p keep : X → Bool) (rows : List X) → ((x : X) → IsIn rows x → keep x ≡ false → p x ≡ false) → filter p (filter keep rows) ≡ filter p rows
filter-filter p keep [] fails = refl
filter-filter p keep (r ∷ rows) fails =
    elim (keep r) as (λ b. keep r ≡ b → filter p (cond b (r ∷ filter keep rows) (filter keep rows)) ≡ cond (p r) (r ∷ filter p rows) (filter p rows)) [
      | true ↦ λ is. ap (λ (kept : List _). cond (p r) (r ∷ kept) kept) (filter-filter p keep rows (λ x later. fails x (inr later)))
      | false ↦ λ is. filter-filter p keep rows (λ x later. fails x (inr later)) ∙ sym (ap (λ b. cond b (r ∷ filter p rows) (filter p rows)) (fails r (inl refl) is))
    ] refl

pub filter-swap : {X : Type 0} (p q : X → Bool) (rows : List X) → filter p (filter q rows) ≡ filter q (filter p rows)
filter-swap p q [] = refl
filter-swap p q (r ∷ rows) =
    elim (q r) as (λ b. q r ≡ b → filter p (cond b (r ∷ filter q rows) (filter q rows)) ≡ filter q (cond (p r) (r ∷ filter p rows) (filter p rows))) [
      | true ↦ λ is.
          ap (λ (kept : List _). cond (p r) (r ∷ kept) kept) (filter-swap p q rows)
          ∙ elim (p r) as (λ b. cond b (r ∷ filter q (filter p rows)) (filter q (filter p rows)) ≡ filter q (cond b (r ∷ filter p rows) (filter p rows))) [
            | true ↦ sym (ap (λ b. cond b (r ∷ filter q (filter p rows)) (filter q (filter p rows))) is)
            | false ↦ refl
          ]
      | false ↦ λ is.
          filter-swap p q rows
          ∙ elim (p r) as (λ b. filter q (filter p rows) ≡ filter q (cond b (r ∷ filter p rows) (filter p rows))) [
            | true ↦ sym (ap (λ b. cond b (r ∷ filter q (filter p rows)) (filter q (filter p rows))) is)
            | false ↦ refl
          ]
    ] refl

pub none_kept : {X : Type 0} (p : X → Bool) (rows : List X) → ((x : X) → IsIn rows x → p x ≡ false) → filter p rows ≡ []
none_kept p [] none = refl
none_kept p (r ∷ rows) none = let first : p r ≡ false = none r (inl refl) in rw first (none_kept p rows (λ x later. none x (inr later)))

with_row-first : {X : Type 0} (cmp : X → X → Ordering) (rows : List X) (row : X) → AllByRecursion (λ x. cmp row x ≡ Less) rows → with_row cmp rows row ≡ row ∷ rows
with_row-first cmp [] row above = refl
with_row-first cmp (r ∷ rows) row above = let first : cmp row r ≡ Less = above.0 in rw (first, with_row) refl

-- ---- a row that is put again

module _ {X : Type 0} {cmp : X → X → Ordering} (o : IsTotalOrder cmp) where
  -- in the place of itself
  pub with_row-itself : (rows : List X) (row : X) → IsStrictlySortedBy cmp rows → IsIn rows row → with_row cmp rows row ≡ rows
  unfolding IsStrictlySortedBy
  with_row-itself [] row sorted here = absurd here
  with_row-itself (r ∷ rows) row sorted (inl is) =
      let tied : cmp row r ≡ Equal = ap (cmp row) is ∙ tied_itself o row in
      ap (λ q. elim q as (λ _. List X) [ Less ↦ row ∷ r ∷ rows | Equal ↦ row ∷ rows | Greater ↦ r ∷ with_row cmp rows row ]) tied ∙ ap (λ x. x ∷ rows) (sym is)
  with_row-itself (r ∷ rows) row sorted (inr later) =
      let below : cmp row r ≡ Greater = o.antisymm row r ∙ ap ordering_reverse (in_from_all (λ y. cmp r y ≡ Less) rows sorted.0 row later) in
      ap (λ q. elim q as (λ _. List X) [ Less ↦ row ∷ r ∷ rows | Equal ↦ row ∷ rows | Greater ↦ r ∷ with_row cmp rows row ]) below ∙ ap (λ rest. r ∷ rest) (with_row-itself rows row sorted.1 later)

  all_left : (keep : X → Bool) (rows : List X) (row : X) → ((x : X) → IsIn rows x → keep x ≡ not (is_eq (cmp row x))) → AllByRecursion (λ x. cmp row x ≡ Less) rows → filter keep rows ≡ rows
  all_left keep [] row told above = refl
  all_left keep (r ∷ rows) row told above =
      let first : keep r ≡ true = told r (inl refl) ∙ ap (λ q. not (is_eq q)) above.0 in
      ap (λ b. cond b (r ∷ filter keep rows) (filter keep rows)) first ∙ ap (λ rest. r ∷ rest) (all_left keep rows row (λ x later. told x (inr later)) above.1)

  -- where the one that it replaces was taken away before
  pub with_row-without : (keep : X → Bool) (rows : List X) (row : X) → IsStrictlySortedBy cmp rows → ((x : X) → IsIn rows x → keep x ≡ not (is_eq (cmp row x)))
      → with_row cmp (filter keep rows) row ≡ with_row cmp rows row
  unfolding IsStrictlySortedBy
  with_row-without keep [] row sorted told = refl
  with_row-without keep (r ∷ rows) row sorted told =
      elim (cmp row r) as (λ q. cmp row r ≡ q → with_row cmp (filter keep (r ∷ rows)) row ≡ elim q as (λ _. List X) [ Less ↦ row ∷ r ∷ rows | Equal ↦ row ∷ rows | Greater ↦ r ∷ with_row cmp rows row ]) [
        | Less ↦ λ e.
            let above : AllByRecursion (λ x. cmp row x ≡ Less) (r ∷ rows) = (e, all_from_in (λ x. cmp row x ≡ Less) rows (λ x later. o.trans row r x e (in_from_all (λ y. cmp r y ≡ Less) rows sorted.0 x later))) in
            ap (λ (rest : List X). with_row cmp rest row) (all_left keep (r ∷ rows) row told above) ∙ with_row-first cmp (r ∷ rows) row above
        | Equal ↦ λ e.
            let above : AllByRecursion (λ x. cmp row x ≡ Less) rows = all_from_in (λ x. cmp row x ≡ Less) rows (λ x later. o.congr row r x e ∙ in_from_all (λ y. cmp r y ≡ Less) rows sorted.0 x later) in
            ap (λ b. with_row cmp (cond b (r ∷ filter keep rows) (filter keep rows)) row) (told r (inl refl) ∙ ap (λ q. not (is_eq q)) e)
            ∙ ap (λ (rest : List X). with_row cmp rest row) (all_left keep rows row (λ x later. told x (inr later)) above) ∙ with_row-first cmp rows row above
        | Greater ↦ λ e.
            ap (λ b. with_row cmp (cond b (r ∷ filter keep rows) (filter keep rows)) row) (told r (inl refl) ∙ ap (λ q. not (is_eq q)) e)
            ∙ ap (λ q. elim q as (λ _. List X) [ Less ↦ row ∷ r ∷ filter keep rows | Equal ↦ row ∷ filter keep rows | Greater ↦ r ∷ with_row cmp (filter keep rows) row ]) e
            ∙ ap (λ rest. r ∷ rest) (with_row-without keep rows row sorted.1 (λ x later. told x (inr later)))
      ] refl

-- ---- what a test keeps of a table with a row put

module _ {X : Type 0} (cmp : X → X → Ordering) (p : X → Bool) where
  -- a row that fails, as the one that it replaces does
  pub filter-with_row_other : (rows : List X) (row : X) → p row ≡ false → ((x : X) → IsIn rows x → cmp row x ≡ Equal → p x ≡ false) → filter p (with_row cmp rows row) ≡ filter p rows
  filter-with_row_other [] row fails also = rw fails refl
  filter-with_row_other (r ∷ rows) row fails also =
      elim (cmp row r) as (λ o. cmp row r ≡ o → filter p (elim o [ Less ↦ row ∷ r ∷ rows | Equal ↦ row ∷ rows | Greater ↦ r ∷ with_row cmp rows row ]) ≡ filter p (r ∷ rows)) [
        | Less ↦ λ e. rw fails refl
        | Equal ↦ λ e. let first : p r ≡ false = also r (inl refl) e in rw (fails, first) refl
        | Greater ↦ λ e. ap (λ (kept : List X). cond (p r) (r ∷ kept) kept) (filter-with_row_other rows row fails (λ x later. also x (inr later)))
      ] refl

  -- a row that passes, as the one that it replaces does
  pub filter-with_row : IsTotalOrder cmp → (rows : List X) (row : X) → IsStrictlySortedBy cmp rows → p row ≡ true → ((x : X) → IsIn rows x → cmp row x ≡ Equal → p x ≡ true)
      → filter p (with_row cmp rows row) ≡ with_row cmp (filter p rows) row
  unfolding IsStrictlySortedBy
  filter-with_row o [] row sorted passes also = rw passes refl
  filter-with_row o (r ∷ rows) row sorted passes also =
      elim (cmp row r) as (λ q. cmp row r ≡ q → filter p (elim q [ Less ↦ row ∷ r ∷ rows | Equal ↦ row ∷ rows | Greater ↦ r ∷ with_row cmp rows row ]) ≡ with_row cmp (filter p (r ∷ rows)) row) [
        | Less ↦ λ e. ap (λ b. cond b (row ∷ filter p (r ∷ rows)) (filter p (r ∷ rows))) passes
            ∙ sym (with_row-first cmp (filter p (r ∷ rows)) row (all_kept (λ x. cmp row x ≡ Less) p (r ∷ rows) (e, above e sorted.0)))
        | Equal ↦ λ e. let first : p r ≡ true = also r (inl refl) e in rw (passes, first, e, with_row) refl
        | Greater ↦ λ e.
            ap (λ (kept : List X). cond (p r) (r ∷ kept) kept) (filter-with_row o rows row sorted.1 passes (λ x later. also x (inr later)))
            ∙ elim (p r) as (λ b. cond b (r ∷ with_row cmp (filter p rows) row) (with_row cmp (filter p rows) row) ≡ with_row cmp (cond b (r ∷ filter p rows) (filter p rows)) row) [
              | true ↦ rw (e, with_row) refl
              | false ↦ refl
            ]
      ] refl
    where
      above : cmp row r ≡ Less → AllByRecursion (λ y. cmp r y ≡ Less) rows → AllByRecursion (λ y. cmp row y ≡ Less) rows
      above e all = all_above rows all
        where
          all_above : (ys : List X) → AllByRecursion (λ y. cmp r y ≡ Less) ys → AllByRecursion (λ y. cmp row y ≡ Less) ys
          all_above [] h = tt
          all_above (y ∷ ys) h = (o.trans row r y e h.0, all_above ys h.1)
