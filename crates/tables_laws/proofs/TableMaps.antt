-- The map of a table's rows: what it answers, and what it is once a row is put, replaced, dropped or changed.
use Rattle.std.proofs.Common.{◌≡◌, Bool, true, false, cond, List, [], ◌∷◌, Option, Some, None, inl, inr, refl, sym, ap, ◌∙◌}
use Rattle.std.specs.Prelude.{map, find, filter, not, option_map}
use Rattle.std.specs.declared.cmp.Ordering.{Ordering}
use Rattle.std.specs.declared.cmp.Ordering.TheVariants.{Less, Equal, Greater}
use Rattle.std.specs.Ordering.{eq_by_cmp, is_eq}
use Rattle.std.specs.Cmp.{IsTotalOrder, IsEquivalence, Equal-is, both_ways, eq_by_cmp_equiv}
use Rattle.std.specs.FinMap.{IsAntisymmetric}
use Rattle.std.proofs.lemmas.Bool.{false_from_ne_true}
use Rattle.grid_model.specs.Maps.{get, put, remove, from_list}
use Rattle.grid_model.specs.Rows.{with_row}
use Rattle.grid_model.proofs.Comparing.{eq_by_cmp-Decides}
use Rattle.grid_model.proofs.MapLemmas.{get-put, get-remove, same_map}
use Rattle.tables_laws.proofs.Rows.{IsIn, in_from_find, in_from_filter, find_from_in}
use Rattle.tables_laws.proofs.RowLists.{map-congr, find-filter}

abbrev pub entries_of : {K V X : Type 0} → (X → K) → (X → V) → List X → List (K × V)
entries_of key value rows = map (λ x. (key x, value x)) rows

-- which of two keys is looked at first makes no difference where they are apart
swapped : {V : Type 0} (a b : Bool) (x y : V) (m : Option V) → (a ≡ true → b ≡ true → ⊥) → cond a (Some x) (cond b (Some y) m) ≡ cond b (Some y) (cond a (Some x) m)
swapped true true x y m apart = absurd (apart refl refl)
swapped true false x y m apart = refl
swapped false true x y m apart = refl
swapped false false x y m apart = refl

hidden : {V : Type 0} (a b : Bool) (x y : V) (m : Option V) → a ≡ b → cond a (Some x) m ≡ cond a (Some x) (cond b (Some y) m)
hidden true b x y m e = refl
hidden false true x y m e = absurd cc
hidden false false x y m e = refl

module _ {K V X : Type 0} {R : K → K → Ordering} where
  -- keys and values that are the same of each row
  pub from_list-same : (key other : X → K) (value next : X → V) (rows : List X) → ((x : X) → IsIn rows x → key x ≡ other x) → ((x : X) → IsIn rows x → value x ≡ next x)
      → from_list {R = R} (entries_of key value rows) ≡ from_list (entries_of other next rows)
  from_list-same key other value next rows keys values =
      ap (λ (es : List (K × V)). from_list {R = R} es) (map-congr (λ x. (key x, value x)) (λ x. (other x, next x)) rows (λ x here i. (keys x here i, values x here i)))

module _ {K : Type 0} {R : K → K → Ordering} (o : IsTotalOrder R) where
  -- a key ties with another where a test says so, and only there
  pub tied_so : IsAntisymmetric R → (a b : K) (t : Bool) → (a ≡ b → t ≡ true) → (t ≡ true → a ≡ b) → eq_by_cmp R a b ≡ t
  tied_so same a b t to from =
      both_ways (eq_by_cmp R a b) t (λ e. to ((eq_by_cmp-Decides o same a b).0 e)) (λ e. (eq_by_cmp-Decides o same a b).1 (from e))

module _ {K V X : Type 0} {R : K → K → Ordering} (o : IsTotalOrder R) where
  -- the value of the first row with the key
  pub get-rows : (key : X → K) (value : X → V) (rows : List X) (q : K)
      → get (from_list {R = R} (entries_of key value rows)) q ≡ option_map value (find (λ x. eq_by_cmp R (key x) q) rows)
  get-rows key value [] q = refl
  get-rows key value (r ∷ rows) q =
      get-put o (from_list (entries_of key value rows)) (key r) (value r) q
      ∙ ap (λ (m : Option V). cond (eq_by_cmp R q (key r)) (Some (value r)) m) (get-rows key value rows q)
      ∙ ap (λ (b : Bool). cond b (Some (value r)) (option_map value (find (λ x. eq_by_cmp R (key x) q) rows))) ((eq_by_cmp_equiv o).symm q (key r))
      ∙ picked (eq_by_cmp R (key r) q)
    where
      picked : (b : Bool) → cond b (Some (value r)) (option_map value (find (λ x. eq_by_cmp R (key x) q) rows)) ≡ option_map value (cond b (Some r) (find (λ x. eq_by_cmp R (key x) q) rows))
      picked true = refl
      picked false = refl

  module _ (cmp : X → X → Ordering) (key : X → K) (value : X → V) where
    get-with_row : (rows : List X) (row : X) → ((x : X) → IsIn rows x → eq_by_cmp R (key x) (key row) ≡ is_eq (cmp row x)) → (q : K)
        → get (from_list {R = R} (entries_of key value (with_row cmp rows row))) q ≡ cond (eq_by_cmp R q (key row)) (Some (value row)) (get (from_list {R = R} (entries_of key value rows)) q)
    get-with_row [] row own q = get-put o (from_list (entries_of key value [])) (key row) (value row) q
    get-with_row (r ∷ rows) row own q =
        elim (cmp row r) as (λ s. cmp row r ≡ s → get (from_list {R = R} (entries_of key value (elim s [ Less ↦ row ∷ r ∷ rows | Equal ↦ row ∷ rows | Greater ↦ r ∷ with_row cmp rows row ]))) q
        ≡ cond (eq_by_cmp R q (key row)) (Some (value row)) (get (from_list {R = R} (entries_of key value (r ∷ rows))) q)) [
          | Less ↦ λ e. get-put o (from_list (entries_of key value (r ∷ rows))) (key row) (value row) q
          | Equal ↦ λ e.
              get-put o (from_list (entries_of key value rows)) (key row) (value row) q
              ∙ hidden (eq_by_cmp R q (key row)) (eq_by_cmp R q (key r)) (value row) (value r) (get (from_list (entries_of key value rows)) q) (tied (own r (inl refl) ∙ ap is_eq e))
              ∙ ap (λ (m : Option V). cond (eq_by_cmp R q (key row)) (Some (value row)) m) (sym (get-put o (from_list (entries_of key value rows)) (key r) (value r) q))
          | Greater ↦ λ e.
              get-put o (from_list (entries_of key value (with_row cmp rows row))) (key r) (value r) q
              ∙ ap (λ (m : Option V). cond (eq_by_cmp R q (key r)) (Some (value r)) m) (get-with_row rows row (λ x later. own x (inr later)) q)
              ∙ swapped (eq_by_cmp R q (key r)) (eq_by_cmp R q (key row)) (value r) (value row) (get (from_list (entries_of key value rows)) q) (apart (own r (inl refl) ∙ ap is_eq e))
              ∙ ap (λ (m : Option V). cond (eq_by_cmp R q (key row)) (Some (value row)) m) (sym (get-put o (from_list (entries_of key value rows)) (key r) (value r) q))
        ] refl
      where
        tied : eq_by_cmp R (key r) (key row) ≡ true → eq_by_cmp R q (key row) ≡ eq_by_cmp R q (key r)
        tied same = let laws = eq_by_cmp_equiv o in laws.symm q (key row) ∙ sym (laws.congr (key r) (key row) q same) ∙ laws.symm (key r) q

        apart : eq_by_cmp R (key r) (key row) ≡ false → eq_by_cmp R q (key r) ≡ true → eq_by_cmp R q (key row) ≡ true → ⊥
        apart differs one other =
            let laws = eq_by_cmp_equiv o in
            let back : eq_by_cmp R (key r) q ≡ true = laws.symm (key r) q ∙ one in
            let both : eq_by_cmp R (key r) (key row) ≡ true = laws.congr (key r) q (key row) back ∙ other in
            cc

    -- a row whose key is that of the row that it replaces, and of no other
    pub from_list-with_row : IsAntisymmetric R → (rows : List X) (row : X) → ((x : X) → IsIn rows x → eq_by_cmp R (key x) (key row) ≡ is_eq (cmp row x))
        → from_list {R = R} (entries_of key value (with_row cmp rows row)) ≡ put (from_list (entries_of key value rows)) (key row) (value row)
    from_list-with_row same rows row own =
        same_map o same (from_list (entries_of key value (with_row cmp rows row))) (put (from_list (entries_of key value rows)) (key row) (value row))
        (λ q. get-with_row rows row own q ∙ sym (get-put o (from_list (entries_of key value rows)) (key row) (value row) q))

    -- a new row, whose key no other one has
    pub from_list-new : IsAntisymmetric R → (rows : List X) (row : X) → ((x : X) → IsIn rows x → cmp row x ≡ Equal → ⊥) → ((x : X) → IsIn rows x → eq_by_cmp R (key x) (key row) ≡ false)
        → from_list {R = R} (entries_of key value (with_row cmp rows row)) ≡ put (from_list (entries_of key value rows)) (key row) (value row)
    from_list-new same rows row new apart =
        from_list-with_row same rows row (λ x here. apart x here ∙ sym (false_from_ne_true (is_eq (cmp row x)) (λ e. new x here ((Equal-is (cmp row x)).0 e))))

    -- without the rows with a key
    pub from_list-without : IsAntisymmetric R → (rows : List X) (keep : X → Bool) (k : K) → ((x : X) → IsIn rows x → eq_by_cmp R (key x) k ≡ not (keep x))
        → from_list {R = R} (entries_of key value (filter keep rows)) ≡ remove (from_list (entries_of key value rows)) k
    from_list-without same rows keep k own =
        same_map o same (from_list (entries_of key value (filter keep rows))) (remove (from_list (entries_of key value rows)) k) (λ q.
        get-rows key value (filter keep rows) q ∙ at q (eq_by_cmp R q k) refl ∙ ap (λ (m : Option V). cond (eq_by_cmp R q k) None m) (sym (get-rows key value rows q))
        ∙ sym (get-remove o (from_list (entries_of key value rows)) k q))
      where
        laws : IsEquivalence (eq_by_cmp R)
        laws = eq_by_cmp_equiv o

        at : (q : K) (b : Bool) → eq_by_cmp R q k ≡ b
            → option_map value (find (λ x. eq_by_cmp R (key x) q) (filter keep rows)) ≡ cond (eq_by_cmp R q k) None (option_map value (find (λ x. eq_by_cmp R (key x) q) rows))
        at q true is = taken (find (λ x. eq_by_cmp R (key x) q) (filter keep rows)) refl ∙ sym (ap (λ b. cond b None (option_map value (find (λ x. eq_by_cmp R (key x) q) rows))) is)
          where
            taken : (f : Option X) → find (λ x. eq_by_cmp R (key x) q) (filter keep rows) ≡ f → option_map value f ≡ None
            taken None e = refl
            taken (Some x) e =
                let found = in_from_find (λ y. eq_by_cmp R (key y) q) (filter keep rows) x e in
                let kept = in_from_filter keep rows x found.0 in
                let differs : eq_by_cmp R (key x) k ≡ false = own x kept.0 ∙ ap not kept.1 in
                let same_key : eq_by_cmp R (key x) k ≡ true = laws.congr (key x) q k found.1 ∙ is in
                absurd cc
        at q false is =
            ap (option_map value) (find-filter (λ x. eq_by_cmp R (key x) q) keep rows (λ x here dropped. false_from_ne_true (eq_by_cmp R (key x) q) (λ e.
            let gone : eq_by_cmp R (key x) k ≡ true = own x here ∙ ap not dropped in
            let wrong : eq_by_cmp R q k ≡ true = sym (laws.congr (key x) q k e) ∙ gone in
            cc))) ∙ sym (ap (λ b. cond b None (option_map value (find (λ x. eq_by_cmp R (key x) q) rows))) is)

  -- one row with another value
  pub from_list-changed : IsAntisymmetric R → (key : X → K) (value next : X → V) (rows : List X) (x : X) → IsIn rows x
      → ((y : X) → IsIn rows y → eq_by_cmp R (key y) (key x) ≡ true → y ≡ x) → ((y : X) → IsIn rows y → (y ≡ x → ⊥) → next y ≡ value y)
      → from_list {R = R} (entries_of key next rows) ≡ put (from_list (entries_of key value rows)) (key x) (next x)
  from_list-changed same key value next rows x here alone others =
      same_map o same (from_list (entries_of key next rows)) (put (from_list (entries_of key value rows)) (key x) (next x)) (λ q.
      get-rows key next rows q ∙ at q (eq_by_cmp R q (key x)) refl ∙ ap (λ (m : Option V). cond (eq_by_cmp R q (key x)) (Some (next x)) m) (sym (get-rows key value rows q))
      ∙ sym (get-put o (from_list (entries_of key value rows)) (key x) (next x) q))
    where
      laws : IsEquivalence (eq_by_cmp R)
      laws = eq_by_cmp_equiv o

      at : (q : K) (b : Bool) → eq_by_cmp R q (key x) ≡ b
          → option_map next (find (λ y. eq_by_cmp R (key y) q) rows) ≡ cond (eq_by_cmp R q (key x)) (Some (next x)) (option_map value (find (λ y. eq_by_cmp R (key y) q) rows))
      at q true is =
          let back : eq_by_cmp R (key x) q ≡ true = laws.symm (key x) q ∙ is in
          let found : find (λ y. eq_by_cmp R (key y) q) rows ≡ Some x =
          find_from_in (λ y. eq_by_cmp R (key y) q) rows x here back (λ y there passes. alone y there (laws.congr (key y) q (key x) passes ∙ is)) in
          rw (found, is) refl
      at q false is = taken (find (λ y. eq_by_cmp R (key y) q) rows) refl ∙ sym (ap (λ (b : Bool). cond b (Some (next x)) (option_map value (find (λ y. eq_by_cmp R (key y) q) rows))) is)
        where
          taken : (f : Option X) → find (λ y. eq_by_cmp R (key y) q) rows ≡ f → option_map next f ≡ option_map value f
          taken None e = refl
          taken (Some y) e =
              let its = in_from_find (λ z. eq_by_cmp R (key z) q) rows y e in
              let back : eq_by_cmp R q (key y) ≡ true = laws.symm q (key y) ∙ its.1 in
              ap Some (others y its.0 (λ is_x. let wrong : eq_by_cmp R q (key x) ≡ true = ap (λ (z : X). eq_by_cmp R q (key z)) (sym is_x) ∙ back in cc))
