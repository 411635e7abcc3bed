-- A map of rows whose keys are apart has as many entries as there are rows.
use Rattle.std.proofs.Common.{◌≡◌, ℕ, suc, ◌+◌, Bool, true, false, cond, List, [], ◌∷◌, length, Option, Some, None, inl, inr, refl, sym, ap, ◌∙◌, arith}
use Rattle.std.specs.Prelude.{find, option_map, is_some}
use Rattle.std.specs.List.Sorted.{IsStrictlySortedBy}
use Rattle.std.specs.declared.cmp.Ordering.{Ordering}
use Rattle.std.specs.declared.cmp.Ordering.TheVariants.{Less, Equal}
use Rattle.std.specs.Ordering.{eq_by_cmp}
use Rattle.std.specs.Cmp.{IsTotalOrder}
use Rattle.std.specs.FinMap as fin
use Rattle.std.proofs.lemmas.Bool.{false_from_ne_true}
use Rattle.grid_model.specs.Maps.{get, from_list}
use Rattle.grid_model.specs.MapLists.{size}
use Rattle.grid_model.specs.Names.{text_cmp}
use Rattle.grid_model.specs.Rows.{Cat, resource_cmp}
use Rattle.grid_model.specs.RowGrids.{grid_of, resource_of}
use Rattle.grid_model.specs.declared.deltas.ResourceRow.{ResourceRow}
use Rattle.grid_model.proofs.Comparing.{text_cmp_total, text_cmp-IsAntisymmetric, eq_by_cmp-Decides}
use Rattle.grid_model.proofs.MapLemmas.{entries-put}
use Rattle.tables_laws.proofs.Rows.{IsIn, in_from_all}
use Rattle.tables_laws.proofs.Numbered.{equal_number}
use Rattle.tables_laws.proofs.TableMaps.{entries_of, get-rows}
use Rattle.tables_laws.proofs.Sound.{IsSound}

pub find-none : {X : Type 0} (p : X → Bool) (rows : List X) → ((x : X) → IsIn rows x → p x ≡ false) → find p rows ≡ None
find-none p [] none = refl
find-none p (r ∷ rows) none = let first : p r ≡ false = none r (inl refl) in rw first (find-none p rows (λ x later. none x (inr later)))

module _ {K V X : Type 0} {R : K → K → Ordering} (o : IsTotalOrder R) (cmp : X → X → Ordering) (key : X → K) (value : X → V) where
  pub size-rows : (rows : List X) → IsStrictlySortedBy cmp rows → ((x y : X) → IsIn rows x → IsIn rows y → eq_by_cmp R (key y) (key x) ≡ true → cmp x y ≡ Equal)
      → size (from_list {R = R} (entries_of key value rows)) ≡ length rows
  unfolding IsStrictlySortedBy
  size-rows [] sorted tied = refl
  size-rows (r ∷ rows) sorted tied =
      ap length (entries-put o (from_list (entries_of key value rows)) (key r) (value r))
      ∙ fin.Entries.length-put R o (key r) (value r) (from_list {R = R} (entries_of key value rows)).entries (from_list {R = R} (entries_of key value rows)).sorted
      ∙ ap (λ (f : Option V). cond (is_some f) (size (from_list {R = R} (entries_of key value rows))) (size (from_list {R = R} (entries_of key value rows)) + 1)) absent
      ∙ more (size-rows rows sorted.1 (λ x y here there e. tied x y (inr here) (inr there) e))
    where
      more : size (from_list {R = R} (entries_of key value rows)) ≡ length rows → size (from_list {R = R} (entries_of key value rows)) + 1 ≡ suc (length rows)
      more e = omega (arith, e)

      other : (x : X) → IsIn rows x → eq_by_cmp R (key x) (key r) ≡ false
      other x here = false_from_ne_true (eq_by_cmp R (key x) (key r)) (λ e.
          let equal : cmp r x ≡ Equal = tied r x (inl refl) (inr here) e in
          let less : cmp r x ≡ Less = in_from_all (λ y. cmp r y ≡ Less) rows sorted.0 x here in
          cc)

      absent : fin.find R (key r) (from_list {R = R} (entries_of key value rows)).entries ≡ None
      absent = get-rows o key value rows (key r) ∙ ap (option_map value) (find-none (λ x. eq_by_cmp R (key x) (key r)) rows other)

module _ (c : Cat) (s : IsSound c) where
  pub resources-size : size (grid_of c).resources ≡ length c.resources
  resources-size =
      size-rows text_cmp_total resource_cmp (λ (r : ResourceRow). r.name) (resource_of c) c.resources s.cat.resources.ordered (λ x y here there e.
      equal_number x.id y.id (sym (s.names.resources_apart y x there here ((eq_by_cmp-Decides text_cmp_total text_cmp-IsAntisymmetric y.name x.name).0 e))))
