-- What is put again where it was moved to changes nothing.
use Rattle.std.proofs.Common.{◌≡◌, ◌++◌, true, false, List, [], ◌∷◌, Option, Some, None, refl, sym, ap, ◌∙◌}
use Rattle.std.specs.Prelude.{find, option_map, is_some}
use Rattle.std.specs.List.{list_any}
use Rattle.std.specs.declared.cmp.Ordering.{Ordering}
use Rattle.std.specs.Ordering.{eq_by_cmp}
use Rattle.std.specs.Cmp.{IsTotalOrder}
use Rattle.std.specs.FinMap.{IsAntisymmetric}
use Rattle.grid_model.specs.Maps.{put, from_list, rekey}
use Rattle.grid_model.specs.Moves.{moved}
use Rattle.grid_model.specs.Names.{Path, path_below}
use Rattle.grid_model.proofs.Comparing.{eq_by_cmp-Decides}
use Rattle.grid_model.proofs.FoundRows.{is_some-find}
use Rattle.tables_laws.proofs.Rows.{IsIn, in_from_find, any_from_in}
use Rattle.tables_laws.proofs.TableMaps.{entries_of, get-rows}
use Rattle.grid_access.proofs.MapEntries.{row_of_entry, entry_of_row}
use Rattle.plan_base.proofs.OtherMaps.{put-same}

module _ {K V X : Type 0} {R : K → K → Ordering} (o : IsTotalOrder R) (same : IsAntisymmetric R) where
  abbrev all_entries : (X → K) → (X → V) → List X → List (K × V)
  all_entries key value rows = (from_list {R = R} (entries_of key value rows)).entries

  pub put-moved : (key : X → K) (value : X → V) (f : K → K) (rows : List X) (x : X) (b : K) → IsIn rows x → f (key x) ≡ b → ((y : X) → IsIn rows y → f (key y) ≡ b → y ≡ x)
      → put (rekey f (from_list {R = R} (entries_of key value rows))) b (value x) ≡ rekey f (from_list {R = R} (entries_of key value rows))
  put-moved key value f rows x b here to alone =
      put-same o same (rekey f (from_list {R = R} (entries_of key value rows))) b (value x)
      (get-rows o (λ (e : K × V). f e.0) (λ (e : K × V). e.1) (all_entries key value rows) b ∙ by (find (λ e. eq_by_cmp R (f e.0) b) (all_entries key value rows)) refl)
    where
      passes : list_any (λ (e : K × V). eq_by_cmp R (f e.0) b) (all_entries key value rows) ≡ true
      passes =
          let e = entry_of_row o same key value rows x here (λ y there is. alone y there (ap f is ∙ to)) in
          any_from_in (λ (e : K × V). eq_by_cmp R (f e.0) b) (all_entries key value rows) e.0 e.1 ((eq_by_cmp-Decides o same (f e.0.0) b).1 (ap f (sym e.2) ∙ to))

      by : (t : Option (K × V)) → find (λ e. eq_by_cmp R (f e.0) b) (all_entries key value rows) ≡ t → option_map (λ (e : K × V). e.1) t ≡ Some (value x)
      by None none = let wrong : true ≡ false = sym passes ∙ sym (is_some-find (λ (e : K × V). eq_by_cmp R (f e.0) b) (all_entries key value rows)) ∙ ap is_some none in absurd cc
      by (Some e) some =
          let found = in_from_find (λ (e : K × V). eq_by_cmp R (f e.0) b) (all_entries key value rows) e some in
          let y = row_of_entry o same key value rows e found.0 in
          let its : y.0 ≡ x = alone y.0 y.1 (ap f y.2 ∙ (eq_by_cmp-Decides o same (f e.0) b).0 found.1) in
          ap Some (sym y.3 ∙ ap value its)

-- only what was there is moved there
pub moved_hits : (a b q : Path) → moved a b q ≡ b → (q ≡ b → ⊥) → ((rest : Path) → path_below a q ≡ Some rest → q ≡ a ++ rest) → q ≡ a
moved_hits a b q e apart spelled = by (path_below a q) refl e
  where
    none_more : (x rest : Path) → x ++ rest ≡ x → rest ≡ []
    none_more [] rest is = is
    none_more (n ∷ x) rest is = none_more x rest cc

    trailing : (x : Path) → x ++ [] ≡ x
    trailing [] = refl
    trailing (n ∷ x) = ap (λ (y : Path). n ∷ y) (trailing x)

    by : (o : Option Path) → path_below a q ≡ o → elim o as (λ _. Path) [ Some rest ↦ b ++ rest | None ↦ q ] ≡ b → q ≡ a
    by None is h = absurd (apart h)
    by (Some rest) is h = spelled rest is ∙ ap (λ (r : Path). a ++ r) (none_more b rest h) ∙ trailing a
