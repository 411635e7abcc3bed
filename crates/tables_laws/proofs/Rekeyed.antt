-- The map of a table whose rows have other keys or values.
use Rattle.std.proofs.Common.{◌≡◌, Bool, true, false, cond, List, [], ◌∷◌, Option, Some, None, ◌⊎◌, inl, inr, refl, sym, ap, ◌∙◌, subst}
use Rattle.std.specs.Prelude.{map, find, option_map}
use Rattle.std.specs.declared.cmp.Ordering.{Ordering}
use Rattle.std.specs.declared.cmp.Ordering.TheVariants.{Less, Equal, Greater}
use Rattle.std.specs.Ordering.{eq_by_cmp}
use Rattle.std.specs.Cmp.{IsTotalOrder, eq_by_cmp_equiv}
use Rattle.std.specs.FinMap.{IsAntisymmetric, find as find_entry, put as put_entry}
use Rattle.std.specs.FinMap.Entries.{by_order}
use Rattle.grid_model.specs.Maps.{Map, from_list, rekey, with_values}
use Rattle.grid_model.proofs.Comparing.{eq_by_cmp-Decides}
use Rattle.grid_model.proofs.MapLemmas.{same_map, entries-put}
use Rattle.tables_laws.proofs.Rows.{IsIn, in_from_find, find_from_in}
use Rattle.tables_laws.proofs.RowLists.{find-congr}
use Rattle.tables_laws.proofs.TableMaps.{entries_of, get-rows}

-- where none is found, none passes
none_found : {X : Type 0} (p : X → Bool) (rows : List X) (x : X) → find p rows ≡ None → IsIn rows x → p x ≡ true → ⊥
none_found p [] x e here passes = here
none_found p (r ∷ rows) x e here passes =
    elim (p r) as (λ b. p r ≡ b → cond b (Some r) (find p rows) ≡ None → ⊥) [
      | true ↦ λ is f. cc
      | false ↦ λ is f. elim here [
        | inl same ↦ let wrong : p r ≡ true = ap p same ∙ passes in cc
        | inr later ↦ none_found p rows x f later passes
      ]
    ] refl e

module _ {K V : Type 0} {R : K → K → Ordering} where
  -- what is put, or was there
  in_from_put : IsAntisymmetric R → (k : K) (v : V) (es : List (K × V)) (x : K × V) → IsIn (put_entry R k v es) x → ((k, v) ≡ x) ⊎ IsIn es x
  in_from_put same k v [] x (inl is) = inl is
  in_from_put same k v [] x (inr none) = absurd none
  in_from_put same k v (e ∷ es) x here =
      elim (R k e.0) as (λ o. R k e.0 ≡ o → IsIn (by_order o ((k, v) ∷ e ∷ es) ((e.0, v) ∷ es) (e ∷ put_entry R k v es)) x → ((k, v) ≡ x) ⊎ IsIn (e ∷ es) x) [
        | Less ↦ λ is h. h
        | Equal ↦ λ is h. elim h [ inl first ↦ inl (let own : k ≡ e.0 = same k e.0 is in ap (λ (q : K). (q, v)) own ∙ first) | inr later ↦ inr (inr later) ]
        | Greater ↦ λ is h. elim h [ inl first ↦ inr (inl first) | inr later ↦ elim (in_from_put same k v es x later) [ inl new ↦ inl new | inr was ↦ inr (inr was) ] ]
      ] refl here

-- what is found stands there
module _ {K V : Type 0} (R : K → K → Ordering) where
  pub in_from_find_entry : (q : K) (es : List (K × V)) (v : V) → find_entry R q es ≡ Some v → (e : K × V) × IsIn es e × (eq_by_cmp R q e.0 ≡ true) × (e.1 ≡ v)
  in_from_find_entry q [] v f = absurd cc
  in_from_find_entry q (e ∷ es) v f =
      elim (eq_by_cmp R q e.0) as (λ b. eq_by_cmp R q e.0 ≡ b → cond b (Some e.1) (find_entry R q es) ≡ Some v → (x : K × V) × IsIn (e ∷ es) x × (eq_by_cmp R q x.0 ≡ true) × (x.1 ≡ v)) [
        | true ↦ λ is h. (e, inl refl, is, cc)
        | false ↦ λ is h. let later = in_from_find_entry q es v h in (later.0, inr later.1, later.2, later.3)
      ] refl f

module _ {K V X : Type 0} {R : K → K → Ordering} (o : IsTotalOrder R) (same : IsAntisymmetric R) where
  -- each entry comes from a row
  pub row_of : (key : X → K) (value : X → V) (rows : List X) (e : K × V) → IsIn (from_list {R = R} (entries_of key value rows)).entries e → (x : X) × IsIn rows x × ((key x, value x) ≡ e)
  row_of key value [] e here = absurd here
  row_of key value (r ∷ rows) e here =
      elim (in_from_put same (key r) (value r) (from_list {R = R} (entries_of key value rows)).entries e
      (subst (λ (es : List (K × V)). IsIn es e) (entries-put o (from_list (entries_of key value rows)) (key r) (value r)) here)) [
        | inl is ↦ (r, inl refl, is)
        | inr was ↦ let later = row_of key value rows e was in (later.0, inr later.1, later.2)
      ]

  module _ (key next : X → K) (value other : X → V) (f : K → K) (g : V → V) (rows : List X) (moves : (x : X) → IsIn rows x → next x ≡ f (key x)) (turns : (x : X) → IsIn rows x → other x ≡ g (value x))
      (apart : (x y : X) → IsIn rows x → IsIn rows y → next x ≡ next y → x ≡ y) where
    abbrev before : Map R V
    before = from_list (entries_of key value rows)

    equal : (a b : K) → eq_by_cmp R a b ≡ true → a ≡ b
    equal a b e = (eq_by_cmp-Decides o same a b).0 e

    ties : (a b : K) → a ≡ b → eq_by_cmp R a b ≡ true
    ties a b e = (eq_by_cmp-Decides o same a b).1 e

    one_row : (x y : X) → IsIn rows x → IsIn rows y → f (key x) ≡ f (key y) → x ≡ y
    one_row x y here there e = apart x y here there (moves x here ∙ e ∙ sym (moves y there))

    -- the entry of a row that is known by its key
    entry_is : (x y : X) (e : K × V) → (key y, value y) ≡ e → IsIn rows x → IsIn rows y → f e.0 ≡ f (key x) → e ≡ (key x, value x)
    entry_is x y e its here there same =
        let is : y ≡ x = one_row y x there here (ap (λ (h : K × V). f h.0) its ∙ same) in
        sym its ∙ ap (λ (z : X). (key z, value z)) is

    -- a row's own entry
    entry_there : (x : X) → IsIn rows x → IsIn before.entries (key x, value x)
    entry_there x here =
        let found : find (λ y. eq_by_cmp R (key y) (key x)) rows ≡ Some x =
        find_from_in (λ y. eq_by_cmp R (key y) (key x)) rows x here (ties (key x) (key x) refl) (λ y there e. one_row y x there here (ap f (equal (key y) (key x) e))) in
        let its = in_from_find_entry R (key x) before.entries (value x) (get-rows o key value rows (key x) ∙ ap (option_map value) found) in
        let row = row_of key value rows its.0 its.1 in
        subst (λ (e : K × V). IsIn before.entries e) (entry_is x row.0 its.0 row.2 here row.1 (ap f (sym (equal (key x) its.0.0 its.2)))) its.1

    abbrev passes : K → K × V → Bool
    passes q e = eq_by_cmp R (f e.0) q

    at : (q : K) (t : Option X) → find (λ x. eq_by_cmp R (next x) q) rows ≡ t → option_map other t ≡ option_map (λ (e : K × V). g e.1) (find (passes q) before.entries)
    at q (Some x) e =
        let its = in_from_find (λ y. eq_by_cmp R (next y) q) rows x e in
        let to_q : f (key x) ≡ q = sym (moves x its.0) ∙ equal (next x) q its.1 in
        let found : find (passes q) before.entries ≡ Some (key x, value x) =
        find_from_in (passes q) before.entries (key x, value x) (entry_there x its.0) (ties (f (key x)) q to_q) (λ h there tied.
        let row = row_of key value rows h there in
        entry_is x row.0 h row.2 its.0 row.1 (equal (f h.0) q tied ∙ sym to_q)) in
        ap Some (turns x its.0) ∙ sym (ap (option_map (λ (h : K × V). g h.1)) found)
    at q None e = taken (find (passes q) before.entries) refl
      where
        taken : (t : Option (K × V)) → find (passes q) before.entries ≡ t → None ≡ option_map (λ (h : K × V). g h.1) t
        taken None is = refl
        taken (Some h) is =
            let its = in_from_find (passes q) before.entries h is in
            let row = row_of key value rows h its.0 in
            absurd (none_found (λ y. eq_by_cmp R (next y) q) rows row.0 e row.1 (ties (next row.0) q (moves row.0 row.1 ∙ ap (λ (k : K × V). f k.0) row.2 ∙ equal (f h.0) q its.1)))

    -- each key and each value is another
    pub from_list-mapped : from_list {R = R} (entries_of next other rows) ≡ from_list (map (λ e. (f e.0, g e.1)) (from_list {R = R} (entries_of key value rows)).entries)
    from_list-mapped =
        same_map o same (from_list (entries_of next other rows)) (from_list (map (λ e. (f e.0, g e.1)) before.entries)) (λ q.
        get-rows o next other rows q ∙ at q (find (λ x. eq_by_cmp R (next x) q) rows) refl ∙ sym (get-rows o (λ (e : K × V). f e.0) (λ (e : K × V). g e.1) before.entries q))

  pub from_list-rekey : (key next : X → K) (value : X → V) (f : K → K) (rows : List X) → ((x : X) → IsIn rows x → next x ≡ f (key x)) → ((x y : X) → IsIn rows x → IsIn rows y → next x ≡ next y → x ≡ y)
      → from_list {R = R} (entries_of next value rows) ≡ rekey f (from_list (entries_of key value rows))
  from_list-rekey key next value f rows moves apart = from_list-mapped key next value value f (λ v. v) rows moves (λ x here. refl) apart

  pub from_list-values : (key : X → K) (value other : X → V) (g : V → V) (rows : List X) → ((x : X) → IsIn rows x → other x ≡ g (value x)) → ((x y : X) → IsIn rows x → IsIn rows y → key x ≡ key y → x ≡ y)
      → from_list {R = R} (entries_of key other rows) ≡ with_values g (from_list (entries_of key value rows))
  from_list-values key value other g rows turns apart = from_list-mapped key key value other (λ k. k) g rows (λ x here. refl) turns apart

-- where no key changes
module _ {K V : Type 0} {R : K → K → Ordering} (o : IsTotalOrder R) where
  find-entries : (q : K) (es : List (K × V)) → find_entry R q es ≡ option_map (λ (e : K × V). e.1) (find (λ e. eq_by_cmp R e.0 q) es)
  find-entries q [] = refl
  find-entries q (e ∷ es) =
      ap (λ (t : Option V). cond (eq_by_cmp R q e.0) (Some e.1) t) (find-entries q es)
      ∙ ap (λ b. cond b (Some e.1) (option_map (λ (g : K × V). g.1) (find (λ g. eq_by_cmp R g.0 q) es))) ((eq_by_cmp_equiv o).symm q e.0) ∙ picked (eq_by_cmp R e.0 q)
    where
      picked : (b : Bool) → cond b (Some e.1) (option_map (λ (g : K × V). g.1) (find (λ g. eq_by_cmp R g.0 q) es)) ≡ option_map (λ (g : K × V). g.1) (cond b (Some e) (find (λ g. eq_by_cmp R g.0 q) es))
      picked true = refl
      picked false = refl

  pub rekey-same : IsAntisymmetric R → (f : K → K) (m : Map R V) → ((k : K) → f k ≡ k) → rekey f m ≡ m
  rekey-same same f m stays =
      same_map o same (rekey f m) m (λ q.
      get-rows o (λ (e : K × V). f e.0) (λ (e : K × V). e.1) m.entries q
      ∙ ap (option_map (λ (e : K × V). e.1)) (find-congr (λ (e : K × V). eq_by_cmp R (f e.0) q) (λ (e : K × V). eq_by_cmp R e.0 q) m.entries (λ e here. ap (λ (k : K). eq_by_cmp R k q) (stays e.0)))
      ∙ sym (find-entries q m.entries))
