-- The grid once a resource was put that had no parent before: those behind it among its siblings stand one further.
use Rattle.std.proofs.Common.{◌≡◌, ◌==◌, ℕ, ◌+◌, Bool, true, false, cond, List, Some, Ok, inl, inr, refl, sym, ap, ◌∙◌, arith, eq-eqb, eqb-true}
use Rattle.std.specs.Prelude.{◌&&◌, nat_lt, nat_le}
use Rattle.std.proofs.lemmas.Bool.{ne_eqb, eqb-false}
use Rattle.std.proofs.lemmas.Bool.Decides.{eqb_tells}
use Rattle.grid_model.specs.Maps.{with_values}
use Rattle.grid_model.specs.Siblings.{are_siblings, beside, with_resource}
use Rattle.grid_model.specs.Grid.{Resource}
use Rattle.grid_model.specs.Rows.{Cat, resource, has_resource, resource_cmp, with_row, empty_cat}
use Rattle.grid_model.specs.RowGrids.{grid_of, resource_of, place_of}
use Rattle.grid_model.specs.Applying.{apply, apply_all, resource_fits}
use Rattle.grid_model.specs.declared.deltas.Delta.{Delta}
use Rattle.grid_model.specs.declared.deltas.Delta.TheVariants as delta
use Rattle.grid_model.specs.declared.deltas.ResourceRow.{ResourceRow}
use Rattle.grid_model.proofs.Comparing.{text_cmp_total, text_cmp-IsAntisymmetric}
use Rattle.tables_laws.proofs.Rows.{IsIn, in_from_all, in_from_find}
use Rattle.tables_laws.proofs.Numbered.{same_number, one_number}
use Rattle.tables_laws.proofs.Counting.{count, count-put}
use Rattle.tables_laws.proofs.Rekeyed.{from_list-values}
use Rattle.tables_laws.proofs.Ranks.{among, among_itself, most_before, places_apart, siblings_none, siblings_are}
use Rattle.tables_laws.proofs.Standing.{ResourceStands}
use Rattle.tables_laws.proofs.Forest.{none_in}
use Rattle.tables_laws.proofs.Ties.{new_stands}
use Rattle.tables_laws.proofs.Resources.{parent_kept, grid-with_resource}
use Rattle.tables_laws.proofs.Sound.{IsSound, sound-made, fits_so}

module _ (c : Cat) (s : IsSound c) (r : ResourceRow) (fits : resource_fits c r ≡ true) (named : (x : ResourceRow) → IsIn c.resources x → x.id ≡ r.id → x.name ≡ r.name)
    (lone : (x : ResourceRow) → IsIn c.resources x → x.id ≡ r.id → x.parent ≡ 0) where
  abbrev after : Cat
  after = record c { resources = with_row resource_cmp c.resources r }

  -- the row that it replaces counts nowhere
  count_after : (x : ResourceRow) → (x.parent ≡ 0 → ⊥) → count (among x) after.resources ≡ cond (among x r) 1 0 + count (among x) c.resources
  count_after x below = count-put resource_cmp (among x) c.resources r (λ y here e.
      let differs : (y.parent == x.parent) ≡ false = ne_eqb y.parent x.parent (λ is. below (sym is ∙ lone y here (sym (same_number r.id y.id e)))) in
      ap (λ b. b && nat_lt y.place x.place) differs)

  own_place : place_of after r ≡ place_of c r
  own_place = told (r.parent == 0) refl
    where
      told : (b : Bool) → (r.parent == 0) ≡ b → elim b as (λ _. ℕ) [ true ↦ 0 | false ↦ count (among r) after.resources ] ≡ elim b as (λ _. ℕ) [ true ↦ 0 | false ↦ count (among r) c.resources ]
      told true e = refl
      told false e =
          let nothing : 0 + count (among r) c.resources ≡ count (among r) c.resources = omega arith in
          count_after r (eqb-false r.parent 0 e) ∙ ap (λ b. cond b 1 0 + count (among r) c.resources) (among_itself r) ∙ nothing

  new_is : resource_of after r ≡ resource_of c r
  new_is = λ i. record { kind = r.kind; slot = r.slot; up = r.up; parent = parent_kept c s r fits named r (new_stands c r fits) i; place = own_place i }

  -- ---- another resource

  module _ (x : ResourceRow) (here : IsIn c.resources x) where
    stands : ResourceStands c x
    stands = in_from_all (ResourceStands c) c.resources s.tied.resources x here

    abbrev place_by : Bool → ResourceRow → ℕ
    place_by b y = elim b [ true ↦ 0 | false ↦ count (among y) c.resources ]

    -- whether the new one stands before it, by names and by rows
    test_is : (x.parent == 0) ≡ false → (are_siblings (resource_of c r) (resource_of c x) && nat_le (place_of c r) (place_of c x)) ≡ among x r
    test_is below = ap (λ b. b && nat_le (place_of c r) (place_of c x)) (siblings_are c s r x (new_stands c r fits) stands below) ∙ elim (eqb_tells r.parent x.parent) [
      | inl is ↦
          let r_below : (r.parent == 0) ≡ false = ne_eqb r.parent 0 (λ e. eqb-false x.parent 0 below (sym is.1 ∙ e)) in
          ap (λ b. (r.parent == x.parent) && b) ((λ i. nat_le (place_by (r_below i) r) (place_by (below i) x)) ∙ most_before c.resources r x is.1 here (places_apart c r fits x here (λ e. eqb-false x.parent 0 below (lone x here e)) r_below (sym is.1)))
      | inr differs ↦ ap (λ b. b && nat_le (place_of c r) (place_of c x)) differs.0 ∙ sym (ap (λ b. b && nat_lt r.place x.place) differs.0)
    ]

    further : (t : Bool) (n : ℕ) → cond t 1 0 + n ≡ cond t (n + 1) n
    further true n = omega arith
    further false n = omega arith

    place_told : (b : Bool) → (x.parent == 0) ≡ b
        → elim b as (λ _. ℕ) [ true ↦ 0 | false ↦ count (among x) after.resources ] ≡ cond (are_siblings (resource_of c r) (resource_of c x) && nat_le (place_of c r) (place_of c x)) (place_by b x + 1) (place_by b x)
    place_told true e = sym (ap (λ b. cond (b && nat_le (place_of c r) (place_of c x)) 1 0) (siblings_none c (resource_of c r) x e))
    place_told false e =
        count_after x (eqb-false x.parent 0 e) ∙ further (among x r) (count (among x) c.resources)
        ∙ ap (λ (b : Bool). cond b (count (among x) c.resources + 1) (count (among x) c.resources)) (sym (test_is e))

    kept : resource_of after x ≡ beside (resource_of c r) (resource_of c x)
    kept =
        (λ i. record { kind = x.kind; slot = x.slot; up = x.up; parent = parent_kept c s r fits named x stands i; place = place_told (x.parent == 0) refl i })
        ∙ picked (are_siblings (resource_of c r) (resource_of c x) && nat_le (resource_of c r).place (resource_of c x).place)
      where
        picked : (b : Bool) → record (resource_of c x) { place = cond b (place_of c x + 1) (place_of c x) }
            ≡ elim b as (λ _. Resource) [ true ↦ record (resource_of c x) { place = place_of c x + 1 } | false ↦ resource_of c x ]
        picked true = refl
        picked false = refl

  pub grid-put_resource : grid_of after ≡ record (grid_of c) { resources = with_resource (grid_of c).resources r.name (resource_of c r) }
  grid-put_resource =
      grid-with_resource c s r fits named (with_values (beside (resource_of c r)) (grid_of c).resources) (resource_of c r)
      (from_list-values text_cmp_total text_cmp-IsAntisymmetric (λ (x : ResourceRow). x.name) (resource_of c) (resource_of after) (beside (resource_of c r)) c.resources kept
      (λ x y here there same. one_number (λ (z : ResourceRow). z.id) c.resources x y s.cat.resources.ordered here there (s.names.resources_apart x y here there same)))
      new_is

pub grid-new_resource : (deltas : List Delta) (c d : Cat) (row : ResourceRow) → apply_all empty_cat deltas ≡ Ok c → has_resource c row.id ≡ false → apply c (delta.Resource row) ≡ Ok d
    → grid_of d ≡ record (grid_of c) { resources = with_resource (grid_of c).resources row.name (resource_of c row) }
grid-new_resource deltas c d row made new e =
    let so = fits_so (resource_fits c row) 15 (record c { resources = with_row resource_cmp c.resources row }) d e in
    ap (λ (x : Cat). grid_of x) (sym so.1) ∙ grid-put_resource c (sound-made deltas c made) row so.0 (λ x here is. absurd (taken x here is)) (λ x here is. absurd (taken x here is))
  where
    taken : (x : ResourceRow) → IsIn c.resources x → x.id ≡ row.id → ⊥
    taken x here is = none_in (λ o. o.id == row.id) c.resources new x here (eq-eqb x.id row.id is)

-- one that had no parent is given one
pub grid-child_resource : (deltas : List Delta) (c d : Cat) (row old : ResourceRow) → apply_all empty_cat deltas ≡ Ok c → resource c row.id ≡ Some old → old.parent ≡ 0 → row.name ≡ old.name
    → apply c (delta.Resource row) ≡ Ok d → grid_of d ≡ record (grid_of c) { resources = with_resource (grid_of c).resources row.name (resource_of c row) }
grid-child_resource deltas c d row old made found lone name e =
    let so = fits_so (resource_fits c row) 15 (record c { resources = with_row resource_cmp c.resources row }) d e in
    ap (λ (x : Cat). grid_of x) (sym so.1)
    ∙ grid-put_resource c sound row so.0 (λ x here is. ap (λ (y : ResourceRow). y.name) (is_old x here is) ∙ sym name) (λ x here is. ap (λ (y : ResourceRow). y.parent) (is_old x here is) ∙ lone)
  where
    sound : IsSound c
    sound = sound-made deltas c made

    is_old : (x : ResourceRow) → IsIn c.resources x → x.id ≡ row.id → x ≡ old
    is_old x here is =
        let its = in_from_find (λ y. y.id == row.id) c.resources old found in
        one_number (λ (y : ResourceRow). y.id) c.resources x old sound.cat.resources.ordered here its.0 (is ∙ sym (eqb-true old.id row.id its.1))
