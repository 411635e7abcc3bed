-- The entries of the map of a table's rows are those rows' keys and values; and what maps and tests make of lists.
use Rattle.std.proofs.Common.{◌≡◌, Bool, true, false, cond, List, [], ◌∷◌, Some, inl, inr, refl, sym, ap, ◌∙◌}
use Rattle.std.specs.Prelude.{map, find, option_map, is_some, ◌||◌}
use Rattle.std.specs.List.{list_any}
use Rattle.std.specs.declared.cmp.Ordering.{Ordering}
use Rattle.std.specs.Ordering.{eq_by_cmp}
use Rattle.std.specs.Cmp.{IsTotalOrder}
use Rattle.std.specs.FinMap.{IsAntisymmetric}
use Rattle.grid_model.specs.Maps.{from_list}
use Rattle.grid_model.proofs.Comparing.{eq_by_cmp-Decides}
use Rattle.tables_laws.proofs.Rows.{IsIn, find_from_in}
use Rattle.tables_laws.proofs.TableMaps.{entries_of, get-rows}
use Rattle.tables_laws.proofs.Rekeyed.{in_from_find_entry, row_of}

-- ---- lists

module _ {X Y : Type 0} where
  pub in_from_map : (f : X → Y) (xs : List X) (y : Y) → IsIn (map f xs) y → (x : X) × IsIn xs x × (f x ≡ y)
  in_from_map f [] y here = absurd here
  in_from_map f (x ∷ xs) y (inl is) = (x, inl refl, is)
  in_from_map f (x ∷ xs) y (inr later) = let its = in_from_map f xs y later in (its.0, inr its.1, its.2)

  pub map_from_in : (f : X → Y) (xs : List X) (x : X) → IsIn xs x → IsIn (map f xs) (f x)
  map_from_in f [] x here = absurd here
  map_from_in f (a ∷ xs) x (inl is) = inl (ap f is)
  map_from_in f (a ∷ xs) x (inr later) = inr (map_from_in f xs x later)

  -- one is found where one passes
  pub found-any : (p q : X → Bool) (f : X → Y) (xs : List X) → ((x : X) → IsIn xs x → p x ≡ q x) → is_some (option_map f (find p xs)) ≡ list_any q xs
  found-any p q f [] same = refl
  found-any p q f (x ∷ xs) same =
      ap (λ b. is_some (option_map f (cond b (Some x) (find p xs)))) (same x (inl refl))
      ∙ elim (q x) as (λ b. is_some (option_map f (cond b (Some x) (find p xs))) ≡ (b || list_any q xs)) [
        | true ↦ refl
        | false ↦ found-any p q f xs (λ y later. same y (inr later))
      ]

-- ---- entries of maps

module _ {K V X : Type 0} {R : K → K → Ordering} (o : IsTotalOrder R) (same : IsAntisymmetric R) (key : X → K) (value : X → V) where
  -- each entry comes of a row
  pub row_of_entry : (rows : List X) (e : K × V) → IsIn (from_list {R = R} (entries_of key value rows)).entries e → (x : X) × IsIn rows x × (key x ≡ e.0) × (value x ≡ e.1)
  row_of_entry rows e here = let x = row_of o same key value rows e here in (x.0, x.1, ap (λ (p : K × V). p.0) x.2, ap (λ (p : K × V). p.1) x.2)

  -- and a row whose key no other one has is an entry
  pub entry_of_row : (rows : List X) (x : X) → IsIn rows x → ((y : X) → IsIn rows y → key y ≡ key x → y ≡ x)
      → (e : K × V) × IsIn (from_list {R = R} (entries_of key value rows)).entries e × (key x ≡ e.0) × (value x ≡ e.1)
  entry_of_row rows x here alone =
      let found : find (λ y. eq_by_cmp R (key y) (key x)) rows ≡ Some x =
      find_from_in (λ y. eq_by_cmp R (key y) (key x)) rows x here ((eq_by_cmp-Decides o same (key x) (key x)).1 refl) (λ y there e. alone y there ((eq_by_cmp-Decides o same (key y) (key x)).0 e)) in
      let its = in_from_find_entry R (key x) (from_list {R = R} (entries_of key value rows)).entries (value x) (get-rows o key value rows (key x) ∙ ap (option_map value) found) in
      (its.0, its.1, (eq_by_cmp-Decides o same (key x) its.0.0).0 its.2, sym its.3)
