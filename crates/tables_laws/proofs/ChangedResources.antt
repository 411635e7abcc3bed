-- The grid once a resource was put again at its place, with another slot or status.
use Rattle.std.proofs.Common.{◌≡◌, ◌==◌, ℕ, true, false, List, Some, Ok, refl, sym, ap, ◌∙◌, eqb-true}
use Rattle.std.specs.Prelude.{◌&&◌, nat_lt}
use Rattle.grid_model.specs.Maps.{put}
use Rattle.grid_model.specs.Rows.{Cat, resource, resource_cmp, with_row, empty_cat}
use Rattle.grid_model.specs.RowGrids.{grid_of, resource_of, place_of}
use Rattle.grid_model.specs.Applying.{apply, apply_all, resource_fits}
use Rattle.grid_model.specs.declared.deltas.Delta.{Delta}
use Rattle.grid_model.specs.declared.deltas.Delta.TheVariants as delta
use Rattle.grid_model.specs.declared.deltas.ResourceRow.{ResourceRow}
use Rattle.grid_model.proofs.RowOrders.{resource_cmp_total}
use Rattle.tables_laws.proofs.Rows.{IsIn, in_from_all, in_from_find}
use Rattle.tables_laws.proofs.Numbered.{same_number, equal_number, one_number}
use Rattle.tables_laws.proofs.Counting.{count-replaced}
use Rattle.tables_laws.proofs.TableMaps.{from_list-same}
use Rattle.tables_laws.proofs.Standing.{ResourceStands}
use Rattle.tables_laws.proofs.Ties.{new_stands, replaced}
use Rattle.tables_laws.proofs.Resources.{parent_of, parent_kept, grid-with_resource}
use Rattle.tables_laws.proofs.Sound.{IsSound, sound-made, fits_so}

module _ (c : Cat) (s : IsSound c) (r old : ResourceRow) (found : resource c r.id ≡ Some old) (name : r.name ≡ old.name) (parent : r.parent ≡ old.parent) (place : r.place ≡ old.place) (fits : resource_fits c r ≡ true) where
  abbrev after : Cat
  after = record c { resources = with_row resource_cmp c.resources r }

  was : IsIn c.resources old × (old.id ≡ r.id)
  was = let its = in_from_find (λ x. x.id == r.id) c.resources old found in (its.0, eqb-true old.id r.id its.1)

  is_old : (x : ResourceRow) → IsIn c.resources x → x.id ≡ r.id → x ≡ old
  is_old x here is = one_number (λ (y : ResourceRow). y.id) c.resources x old s.cat.resources.ordered here was.0 (is ∙ sym was.1)

  named : (x : ResourceRow) → IsIn c.resources x → x.id ≡ r.id → x.name ≡ r.name
  named x here is = ap (λ (y : ResourceRow). y.name) (is_old x here is) ∙ sym name

  place_kept : (x : ResourceRow) → place_of after x ≡ place_of c x
  place_kept x =
      ap (λ (n : ℕ). elim (x.parent == 0) as (λ _. ℕ) [ true ↦ 0 | false ↦ n ])
      (count-replaced resource_cmp (λ o. (o.parent == x.parent) && nat_lt o.place x.place) resource_cmp_total c.resources r old s.cat.resources.ordered was.0 (equal_number r.id old.id (sym was.1)) (λ y there e.
      ap (λ (z : ResourceRow). (z.parent == x.parent) && nat_lt z.place x.place) (is_old y there (sym (same_number r.id y.id e))) ∙ (λ i. (sym parent i == x.parent) && nat_lt (sym place i) x.place)))

  resource_kept : (x : ResourceRow) → ResourceStands c x → resource_of after x ≡ resource_of c x
  resource_kept x stands = λ i. record { kind = x.kind; slot = x.slot; up = x.up; parent = parent_kept c s r fits named x stands i; place = place_kept x i }

  -- another slot and status, and all else as it was
  its : resource_of c r ≡ record (resource_of c old) { slot = r.slot; up = r.up }
  its = λ i. record {
    kind = sym (replaced c r fits old was.0 was.1) i;
    slot = r.slot;
    up = r.up;
    parent = ap (λ (p : ℕ). parent_of c (record r { parent = p })) parent i;
    place = (ap (λ (p : ℕ). place_of c (record r { parent = p })) parent ∙ ap (λ (n : ℕ). place_of c (record old { place = n })) place) i;
  }

  pub grid-changed_resource : grid_of after ≡ record (grid_of c) { resources = put (grid_of c).resources r.name (record (resource_of c old) { slot = r.slot; up = r.up }) }
  grid-changed_resource =
      grid-with_resource c s r fits named (grid_of c).resources (record (resource_of c old) { slot = r.slot; up = r.up })
      (from_list-same (λ (x : ResourceRow). x.name) (λ (x : ResourceRow). x.name) (resource_of after) (resource_of c) c.resources (λ x here. refl)
      (λ x here. resource_kept x (in_from_all (ResourceStands c) c.resources s.tied.resources x here)))
      (resource_kept r (new_stands c r fits) ∙ its)

pub grid-resource_changed : (deltas : List Delta) (c d : Cat) (row old : ResourceRow) → apply_all empty_cat deltas ≡ Ok c → resource c row.id ≡ Some old → row.name ≡ old.name → row.parent ≡ old.parent → row.place ≡ old.place
    → apply c (delta.Resource row) ≡ Ok d → grid_of d ≡ record (grid_of c) { resources = put (grid_of c).resources row.name (record (resource_of c old) { slot = row.slot; up = row.up }) }
grid-resource_changed deltas c d row old made found name parent place e =
    let so = fits_so (resource_fits c row) 15 (record c { resources = with_row resource_cmp c.resources row }) d e in
    ap (λ (x : Cat). grid_of x) (sym so.1) ∙ grid-changed_resource c (sound-made deltas c made) row old found name parent place so.0
