-- The grid once a resource was put again, with another name, parent or place.
use Rattle.std.proofs.Common.{◌≡◌, ◌==◌, ℕ, ◌+◌, ◌-◌, Bool, true, false, cond, List, Option, Some, None, Ok, inl, inr, refl, sym, ap, ◌∙◌, subst, arith, eq-eqb, eqb-true}
use Rattle.std.specs.Prelude.{not, filter, option_map, ◌&&◌, ◌||◌, nat_lt, nat_le}
use Rattle.std.specs.declared.cmp.Ordering.TheVariants.{Equal}
use Rattle.std.specs.Ordering.{eq_by_cmp, is_eq}
use Rattle.std.specs.Cmp.{nat_cmp_total, eq_by_cmp_equiv, unsigned_ties}
use Rattle.std.proofs.lemmas.Bool.{ne_eqb, eqb-false}
use Rattle.std.proofs.lemmas.Bool.Decides.{eqb_tells}
use Rattle.grid_model.specs.Maps.{Map, get, put, remove, from_list, rekey, with_values}
use Rattle.grid_model.specs.Names.{Text, text_cmp}
use Rattle.grid_model.specs.Siblings.{are_siblings, beside, nearer, with_resource, without_resource}
use Rattle.grid_model.specs.Renames.{renamed_leaves, renamed_parent, renamed_grid}
use Rattle.grid_model.specs.Grid.{Grid, Resource}
use Rattle.grid_model.specs.Rows.{Cat, resource, resource_cmp, with_row, empty_cat}
use Rattle.grid_model.specs.RowPaths.{collection_path}
use Rattle.grid_model.specs.RowGrids.{grid_at, grid_of, object_place, object_of, resource_of, resource_name, place_of}
use Rattle.grid_model.specs.Applying.{apply, apply_all, resource_fits, is_node}
use Rattle.grid_model.specs.declared.deltas.Delta.{Delta}
use Rattle.grid_model.specs.declared.deltas.Delta.TheVariants as delta
use Rattle.grid_model.specs.declared.deltas.ResourceRow.{ResourceRow}
use Rattle.grid_model.proofs.Comparing.{text_cmp_total, text_cmp-IsAntisymmetric, same_text-Decides, other_text, path_cmp_total, path_cmp-IsAntisymmetric}
use Rattle.grid_model.proofs.RowOrders.{resource_cmp_total}
use Rattle.tables_laws.proofs.Rows.{IsIn, in_from_all, in_from_filter, find_from_in}
use Rattle.tables_laws.proofs.Numbered.{same_number}
use Rattle.tables_laws.proofs.Counting.{count, count-put}
use Rattle.tables_laws.proofs.RowLists.{not_not, with_row-itself, with_row-without}
use Rattle.tables_laws.proofs.TableMaps.{entries_of, tied_so, get-rows, from_list-same, from_list-new, from_list-without}
use Rattle.tables_laws.proofs.Rekeyed.{from_list-rekey, from_list-values}
use Rattle.tables_laws.proofs.Ranks.{among, among_itself, fewer_before, most_before, places_apart, siblings_none, siblings_are}
use Rattle.tables_laws.proofs.Resources.{parent_of, node_there}
use Rattle.tables_laws.proofs.RenamedResources.{called, was, is_old, own_name, other_name, names_after, names_apart, object_after, triples_renamed}
use Rattle.tables_laws.proofs.Standing.{ResourceStands}
use Rattle.tables_laws.proofs.Ties.{new_stands, stands_again}
use Rattle.tables_laws.proofs.Places.{objects_apart}
use Rattle.tables_laws.proofs.Frame.{same_grid}
use Rattle.tables_laws.proofs.Sound.{IsSound, sound-resource, sound-made, fits_so}
use Rattle.tables_laws.proofs.Grids.{grid-same}

nearer_count : (t : Bool) (n : ℕ) → cond t ((cond t 1 0 + n) - 1) (cond t 1 0 + n) ≡ n
nearer_count true n = omega arith
nearer_count false n = omega arith

further_count : (t : Bool) (n : ℕ) → cond t 1 0 + n ≡ cond t (n + 1) n
further_count true n = omega arith
further_count false n = omega arith

module _ (c : Cat) (s : IsSound c) (r old : ResourceRow) (found : resource c r.id ≡ Some old) (fits : resource_fits c r ≡ true) where
  abbrev after : Cat
  after = record c { resources = with_row resource_cmp c.resources r }

  sound : IsSound after
  sound = sound-resource c s r fits

  abbrev at : Text → Text
  at = called c s r old found fits

  before : IsIn c.resources old × (old.id ≡ r.id)
  before = was c s r old found fits

  -- ---- the other rows

  abbrev others : List ResourceRow
  others = filter (λ x. not (x.id == r.id)) c.resources

  other_row : (x : ResourceRow) → IsIn others x → IsIn c.resources x × (x.id ≡ r.id → ⊥)
  other_row x here =
      let kept = in_from_filter (λ y. not (y.id == r.id)) c.resources x here in
      (kept.0, λ e. let same : not (x.id == r.id) ≡ false = ap not (eq-eqb x.id r.id e) in let kept_so : not (x.id == r.id) ≡ true = kept.1 in cc)

  tests : (y x : ResourceRow) → y.id ≡ r.id → not (x.id == r.id) ≡ not (is_eq (resource_cmp y x))
  tests y x is = ap not (ap (λ i. x.id == i) (sym is) ∙ unsigned_ties x.id y.id ∙ (eq_by_cmp_equiv nat_cmp_total).symm x.id y.id)

  apart_from : (y x : ResourceRow) → y.id ≡ r.id → IsIn others x → resource_cmp y x ≡ Equal → ⊥
  apart_from y x is here e = (other_row x here).1 (sym (same_number y.id x.id e) ∙ is)

  rows_after : with_row resource_cmp others r ≡ after.resources
  rows_after = with_row-without resource_cmp_total (λ x. not (x.id == r.id)) c.resources r s.cat.resources.ordered (λ x here. tests r x refl)

  rows_before : with_row resource_cmp others old ≡ c.resources
  rows_before =
      with_row-without resource_cmp_total (λ x. not (x.id == r.id)) c.resources old s.cat.resources.ordered (λ x here. tests old x before.1)
      ∙ with_row-itself resource_cmp_total c.resources old s.cat.resources.ordered before.0

  count_after : (x : ResourceRow) → count (among x) after.resources ≡ cond (among x r) 1 0 + count (among x) others
  count_after x = ap (λ (rows : List ResourceRow). count (among x) rows) (sym rows_after) ∙ count-put resource_cmp (among x) others r (λ y here e. absurd (apart_from r y refl here e))

  count_before : (x : ResourceRow) → count (among x) c.resources ≡ cond (among x old) 1 0 + count (among x) others
  count_before x = ap (λ (rows : List ResourceRow). count (among x) rows) (sym rows_before) ∙ count-put resource_cmp (among x) others old (λ y here e. absurd (apart_from old y before.1 here e))

  -- ---- names first: the places are still as they were

  abbrev mid : ResourceRow → Resource
  mid x = record (resource_of after x) { place = place_of c x }

  stands : (x : ResourceRow) → IsIn c.resources x → ResourceStands c x
  stands x here = in_from_all (ResourceStands c) c.resources s.tied.resources x here

  stands_now : (x : ResourceRow) → IsIn c.resources x → ResourceStands after x
  stands_now x here = stands_again c r fits x (stands x here)

  new_stands_now : ResourceStands after r
  new_stands_now = stands_again c r fits r (new_stands c r fits)

  turned_is : (x : ResourceRow) → IsIn c.resources x → renamed_parent at (resource_of c x) ≡ mid x
  turned_is x here = λ i. record { kind = x.kind; slot = x.slot; up = x.up; parent = told (x.parent == 0) (stands x here).1 i; place = place_of c x }
    where
      told : (b : Bool) → (b || is_node c x.parent) ≡ true
          → option_map at (elim b as (λ _. Option Text) [ true ↦ None | false ↦ Some (resource_name c x.parent) ]) ≡ elim b as (λ _. Option Text) [ true ↦ None | false ↦ Some (resource_name after x.parent) ]
      told true e = refl
      told false e = ap Some (sym (names_after c s r old found fits x.parent (node_there c x.parent e)))

  -- ---- then the places

  module _ (x : ResourceRow) (here : IsIn others x) where
    abbrev behind_old : Bool
    behind_old = are_siblings (mid old) (mid x) && nat_lt (place_of c old) (place_of c x)

    abbrev thinned : ℕ
    thinned = cond behind_old (place_of c x - 1) (place_of c x)

    abbrev behind_new : Bool
    behind_new = are_siblings (resource_of after r) (resource_of after x) && nat_le (place_of after r) thinned

    abbrev place_by : Cat → Bool → ResourceRow → ℕ
    place_by e b y = elim b [ true ↦ 0 | false ↦ count (among y) e.resources ]

    old_is : (x.parent == 0) ≡ false → behind_old ≡ among x old
    old_is below =
        ap (λ b. b && nat_lt (place_of c old) (place_of c x)) (siblings_are after sound old x (stands_now old before.0) (stands_now x (other_row x here).0) below) ∙ elim (eqb_tells old.parent x.parent) [
          | inl is ↦
              let old_below : (old.parent == 0) ≡ false = ne_eqb old.parent 0 (λ e. eqb-false x.parent 0 below (sym is.1 ∙ e)) in
              ap (λ b. (old.parent == x.parent) && b) ((λ i. nat_lt (place_by c (old_below i) old) (place_by c (below i) x)) ∙ fewer_before c.resources old x is.1 before.0)
          | inr differs ↦ ap (λ b. b && nat_lt (place_of c old) (place_of c x)) differs.0 ∙ sym (ap (λ b. b && nat_lt old.place x.place) differs.0)
        ]

    -- without the old one, as many stand before it as of the other rows
    thinned_is : (x.parent == 0) ≡ false → thinned ≡ count (among x) others
    thinned_is below =
        let counted : place_of c x ≡ cond (among x old) 1 0 + count (among x) others = ap (λ b. place_by c b x) below ∙ count_before x in
        (λ i. cond (old_is below i) (counted i - 1) (counted i)) ∙ nearer_count (among x old) (count (among x) others)

    thinned_none : (x.parent == 0) ≡ true → thinned ≡ 0
    thinned_none e =
        let nobody : are_siblings (mid old) (resource_of after x) ≡ false = siblings_none after (mid old) x e in
        ap (λ b. cond (b && nat_lt (place_of c old) (place_of c x)) (place_of c x - 1) (place_of c x)) nobody ∙ ap (λ b. place_by c b x) e

    new_is : (x.parent == 0) ≡ false → behind_new ≡ among x r
    new_is below =
        ap (λ b. b && nat_le (place_of after r) thinned) (siblings_are after sound r x new_stands_now (stands_now x (other_row x here).0) below) ∙ elim (eqb_tells r.parent x.parent) [
          | inl is ↦
              let r_below : (r.parent == 0) ≡ false = ne_eqb r.parent 0 (λ e. eqb-false x.parent 0 below (sym is.1 ∙ e)) in
              let nothing : 0 + count (among r) others ≡ count (among r) others = omega arith in
              let counted : place_of after r ≡ count (among r) others = ap (λ b. place_by after b r) r_below ∙ count_after r ∙ ap (λ b. cond b 1 0 + count (among r) others) (among_itself r) ∙ nothing in
              ap (λ b. (r.parent == x.parent) && b)
              ((λ i. nat_le (counted i) (thinned_is below i)) ∙ most_before others r x is.1 here (places_apart c r fits x (other_row x here).0 (other_row x here).1 r_below (sym is.1)))
          | inr differs ↦ ap (λ b. b && nat_le (place_of after r) thinned) differs.0 ∙ sym (ap (λ b. b && nat_lt r.place x.place) differs.0)
        ]

    place_told : (b : Bool) → (x.parent == 0) ≡ b → place_of after x ≡ cond behind_new (thinned + 1) thinned
    place_told true e =
        ap (λ b. place_by after b x) e ∙ sym (thinned_none e) ∙ sym (ap (λ b. cond (b && nat_le (place_of after r) thinned) (thinned + 1) thinned) (siblings_none after (resource_of after r) x e))
    place_told false e =
        ap (λ b. place_by after b x) e ∙ count_after x ∙ further_count (among x r) (count (among x) others)
        ∙ sym (λ i. cond (new_is e i) (thinned_is e i + 1) (thinned_is e i))

    -- one nearer for the old one, one further for the new one
    kept : resource_of after x ≡ beside (resource_of after r) (nearer (mid old) (mid x))
    kept =
        (λ i. record { kind = x.kind; slot = x.slot; up = x.up; parent = parent_of after x; place = place_told (x.parent == 0) refl i })
        ∙ picked behind_new ∙ ap (beside (resource_of after r)) (taken behind_old)
      where
        picked : (b : Bool) → record (resource_of after x) { place = cond b (thinned + 1) thinned }
            ≡ elim b as (λ _. Resource) [ true ↦ record (resource_of after x) { place = thinned + 1 } | false ↦ record (resource_of after x) { place = thinned } ]
        picked true = refl
        picked false = refl

        taken : (b : Bool) → record (resource_of after x) { place = cond b (place_of c x - 1) (place_of c x) } ≡ elim b as (λ _. Resource) [ true ↦ record (mid x) { place = place_of c x - 1 } | false ↦ mid x ]
        taken true = refl
        taken false = refl

  -- ---- the maps

  abbrev all : Map text_cmp Resource
  all = rekey at (with_values (renamed_parent at) (grid_of c).resources)

  abbrev turned : ResourceRow → Resource
  turned x = renamed_parent at (resource_of c x)

  abbrev gone : Resource
  gone = turned old

  apart_by_names : (x y : ResourceRow) → IsIn c.resources x → IsIn c.resources y → at x.name ≡ at y.name → x ≡ y
  apart_by_names = names_apart c s r old found fits

  all_is : all ≡ from_list (entries_of (λ (x : ResourceRow). at x.name) turned c.resources)
  all_is =
      ap (rekey at) (sym (from_list-values text_cmp_total text_cmp-IsAntisymmetric (λ (x : ResourceRow). x.name) (resource_of c) turned (renamed_parent at) c.resources (λ x here. refl)
      (λ x y here there same. apart_by_names x y here there (ap at same))))
      ∙ sym (from_list-rekey text_cmp_total text_cmp-IsAntisymmetric (λ (x : ResourceRow). x.name) (λ (x : ResourceRow). at x.name) turned at c.resources (λ x here. refl) apart_by_names)

  called_new : (x : ResourceRow) → IsIn c.resources x → at x.name ≡ r.name → x ≡ old
  called_new x here same = apart_by_names x old here before.0 (same ∙ sym (own_name c s r old found fits))

  old_there : get all r.name ≡ Some gone
  old_there =
      ap (λ (m : Map text_cmp Resource). get m r.name) all_is ∙ get-rows text_cmp_total (λ (x : ResourceRow). at x.name) turned c.resources r.name
      ∙ ap (option_map turned) (find_from_in (λ x. eq_by_cmp text_cmp (at x.name) r.name) c.resources old before.0 ((same_text-Decides (at old.name) r.name).1 (own_name c s r old found fits))
      (λ y there passes. called_new y there ((same_text-Decides (at y.name) r.name).0 passes)))

  without_old : without_resource all r.name ≡ from_list (entries_of (λ (x : ResourceRow). at x.name) (λ x. nearer gone (turned x)) others)
  without_old =
      ap (λ (o : Option Resource). elim o as (λ _. Map text_cmp Resource) [ None ↦ all | Some g ↦ remove (with_values (nearer g) all) r.name ]) old_there
      ∙ ap (λ (m : Map text_cmp Resource). remove (with_values (nearer gone) m) r.name) all_is
      ∙ ap (λ (m : Map text_cmp Resource). remove m r.name)
      (sym (from_list-values text_cmp_total text_cmp-IsAntisymmetric (λ (x : ResourceRow). at x.name) turned (λ x. nearer gone (turned x)) (nearer gone) c.resources (λ x here. refl) apart_by_names))
      ∙ sym (from_list-without text_cmp_total resource_cmp (λ (x : ResourceRow). at x.name) (λ x. nearer gone (turned x)) text_cmp-IsAntisymmetric c.resources (λ x. not (x.id == r.id)) r.name (λ x here.
      tied_so text_cmp_total text_cmp-IsAntisymmetric (at x.name) r.name (x.id == r.id) (λ same. eq-eqb x.id r.id (ap (λ (y : ResourceRow). y.id) (called_new x here same) ∙ before.1))
      (λ e. ap (λ (y : ResourceRow). at y.name) (is_old c s r old found fits x here (eqb-true x.id r.id e)) ∙ own_name c s r old found fits)
      ∙ not_not (x.id == r.id)))

  rest_is : from_list (entries_of (λ (x : ResourceRow). x.name) (resource_of after) others) ≡ with_values (beside (resource_of after r)) (without_resource all r.name)
  rest_is =
      from_list-same (λ (x : ResourceRow). x.name) (λ (x : ResourceRow). at x.name) (resource_of after) (λ x. beside (resource_of after r) (nearer gone (turned x))) others
      (λ x here. let row = other_row x here in sym (other_name c s r old found fits x row.0 row.1))
      (λ x here. kept x here ∙ (λ i. beside (resource_of after r) (nearer (sym (turned_is old before.0) i) (sym (turned_is x (other_row x here).0) i))))
      ∙ from_list-values text_cmp_total text_cmp-IsAntisymmetric (λ (x : ResourceRow). at x.name) (λ x. nearer gone (turned x)) (λ x. beside (resource_of after r) (nearer gone (turned x))) (beside (resource_of after r)) others
      (λ x here. refl) (λ x y here there. apart_by_names x y (other_row x here).0 (other_row y there).0)
      ∙ ap (with_values (beside (resource_of after r))) (sym without_old)

  resources_are : from_list {R = text_cmp} (entries_of (λ (x : ResourceRow). x.name) (resource_of after) after.resources) ≡ with_resource (without_resource all r.name) r.name (resource_of after r)
  resources_are =
      ap (λ (rows : List ResourceRow). from_list {R = text_cmp} (entries_of (λ (x : ResourceRow). x.name) (resource_of after) rows)) (sym rows_after)
      ∙ from_list-new text_cmp_total resource_cmp (λ (x : ResourceRow). x.name) (resource_of after) text_cmp-IsAntisymmetric others r (λ x here e. apart_from r x refl here e)
      (λ x here. let row = other_row x here in
      other_text x.name r.name (λ same. row.1 (ap (λ (y : ResourceRow). y.id) (called_new x row.0 (other_name c s r old found fits x row.0 row.1 ∙ same)) ∙ before.1)))
      ∙ ap (λ (m : Map text_cmp Resource). put m r.name (resource_of after r)) rest_is

  abbrev goal : Grid
  goal = record (renamed_grid old.name r.name (grid_of c)) { resources = with_resource (without_resource all r.name) r.name (resource_of after r) }

  pub grid-replaced_resource : grid_of after ≡ goal
  grid-replaced_resource =
      grid-same c after refl goal (
      same_grid (grid_at after (collection_path c)) goal refl refl refl refl refl
      (from_list-values path_cmp_total path_cmp-IsAntisymmetric (object_place (collection_path c)) (object_of c) (object_of after) (renamed_leaves at) c.objects (λ o here. object_after c s r old found fits o) (objects_apart c s))
      (triples_renamed c s r old found fits) refl resources_are)

pub grid-resource_again : (deltas : List Delta) (c d : Cat) (row old : ResourceRow) → apply_all empty_cat deltas ≡ Ok c → resource c row.id ≡ Some old → apply c (delta.Resource row) ≡ Ok d
    → let g = renamed_grid old.name row.name (grid_of c) in
    grid_of d ≡ record g { resources = with_resource (without_resource g.resources row.name) row.name (resource_of d row) }
grid-resource_again deltas c d row old made found e =
    let so = fits_so (resource_fits c row) 15 (record c { resources = with_row resource_cmp c.resources row }) d e in
    subst (λ (x : Cat). grid_of x ≡ record (renamed_grid old.name row.name (grid_of c)) { resources = with_resource (without_resource (renamed_grid old.name row.name (grid_of c)).resources row.name) row.name (resource_of x row) }) so.1
    (grid-replaced_resource c (sound-made deltas c made) row old found so.0)
