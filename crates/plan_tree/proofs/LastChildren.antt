-- The grid once a resource without a parent is put behind all children of another one.
use Rattle.std.proofs.Common.{◌≡◌, ◌==◌, inl, inr, ℕ, zero, suc, ◌+◌, ◌<◌, ◌≤◌, Bool, true, false, length, Option, Some, None, refl, sym, ap, ◌∙◌, arith, eq-eqb, eqb-true}
use Rattle.std.specs.Prelude.{not, ◌&&◌, nat_lt, nat_le}
use Rattle.std.proofs.lemmas.Bool.{and_parts, and_from, lt-ltb, le-ltb, ne_eqb}
use Rattle.std.proofs.lemmas.Bool.Decides.{eqb_tells}
use Rattle.grid_model.specs.Maps.{put}
use Rattle.grid_model.specs.Names.{Text}
use Rattle.grid_model.specs.Grid.{Resource}
use Rattle.grid_model.specs.Rows.{Cat, resource}
use Rattle.grid_model.specs.RowGrids.{grid_of, resource_of, resource_name, place_of}
use Rattle.grid_model.specs.Applying.{IsMade, resource_fits, is_node, stands_in, stands_within}
use Rattle.grid_model.specs.Siblings.{are_siblings, beside}
use Rattle.grid_model.specs.Trees.{is_in}
use Rattle.grid_model.specs.declared.deltas.ResourceRow.{ResourceRow}
use Rattle.grid_tree.specs.Reading.{in_within, parent_by}
use Rattle.grid_tree.specs.Steps.{lies_below}
use Rattle.grid_tree.proofs.WaysUp.{stands_is, within-hit, within-up}
use Rattle.tables_laws.proofs.Counting.{count, count-more}
use Rattle.tables_laws.proofs.NewResources.{grid-put_resource}
use Rattle.tables_laws.proofs.Numbered.{one_number}
use Rattle.tables_laws.proofs.Ranks.{among, most_before, siblings_none, siblings_are}
use Rattle.tables_laws.proofs.Resources.{node_there}
use Rattle.tables_laws.proofs.Rows.{IsIn, in_from_all, any_from_in}
use Rattle.tables_laws.proofs.Sound.{IsSound}
use Rattle.tables_laws.proofs.Standing.{ResourceStands}
use Rattle.tables_laws.proofs.Ties.{new_stands}
use Rattle.plan_tree.proofs.FittingResources.{fits_all, owns_still, parent_some}
use Rattle.plan_tree.proofs.MadeResources.{unmoved}
use Rattle.plan_tree.proofs.ResourcePlans.{with_resource}
use Rattle.plan_tree.proofs.ResourceWays.{HasSomeIds, none_at, stand_lost, stand_up}
use Rattle.plan_tree.proofs.RootedResources.{IsRooted}

-- ---- what does not stand below another one by the tree does not by the test of rows

module _ (c : Cat) (some : HasSomeIds c.resources) (upper : ℕ) (not_zero : upper ≡ 0 → ⊥) where
  stands_nowhere : (k : ℕ) → stands_within k c upper 0 ≡ false
  stands_nowhere zero = refl
  stands_nowhere (suc k) = by (resource c 0) refl
    where
      by : (o : Option ResourceRow) → resource c 0 ≡ o → stands_within (suc k) c upper 0 ≡ false
      by None none = stand_lost c upper 0 k (λ e. not_zero (sym e)) none
      by (Some r) found = absurd (none_at c.resources some 0 r refl found)

  pub stands_less : (k id : ℕ) → in_within (suc k) c upper id ≡ false → stands_within k c upper id ≡ false
  stands_less zero id e = refl
  stands_less (suc k) id e = elim (eqb_tells id upper) [
    | inl is ↦ absurd (let hit : in_within (suc (suc k)) c upper id ≡ true = within-hit c upper id (suc k) is.1 in let wrong : true ≡ false = sym hit ∙ e in cc)
    | inr other ↦ by (λ parent. stands_less k parent) other.1 (resource c id) refl
  ]
    where
      below : ((parent : ℕ) → in_within (suc k) c upper parent ≡ false → stands_within k c upper parent ≡ false) → (id ≡ upper → ⊥) → (r : ResourceRow) → resource c id ≡ Some r → (b : Bool) → (r.parent == 0) ≡ b → stands_within k c upper r.parent ≡ false
      below more other r found true is = ap (stands_within k c upper) (eqb-true r.parent 0 is) ∙ stands_nowhere k
      below more other r found false is =
          let up : parent_by (resource c id) ≡ Some r.parent = ap parent_by found ∙ ap (λ b. elim b as (λ _. Option ℕ) [ true ↦ None | false ↦ Some r.parent ]) is in
          more r.parent (sym (within-up c upper id (suc k) r.parent other up) ∙ e)

      by : ((parent : ℕ) → in_within (suc k) c upper parent ≡ false → stands_within k c upper parent ≡ false) → (id ≡ upper → ⊥) → (o : Option ResourceRow) → resource c id ≡ o → stands_within (suc k) c upper id ≡ false
      by more other None none = stand_lost c upper id k other none
      by more other (Some r) found = stand_up c upper id k r other found ∙ below more other r found (r.parent == 0) refl

-- ---- the resource behind all children

module _ (c : Cat) (made : IsMade c) (s : IsSound c) (rooted : IsRooted c.resources) (x : ResourceRow) (here : IsIn c.resources x) (lone : x.parent ≡ 0) (parent : ℕ) (some : parent ≡ 0 → ⊥) (node : is_node c parent ≡ true)
    (outside : is_in (grid_of c).resources (resource_name c x.id) (resource_name c parent) ≡ false) (q : ℕ) (low : (y : ResourceRow) → IsIn c.resources y → y.parent ≡ parent → y.place < q) where
  abbrev r : ResourceRow
  r = record x { parent = parent; place = q }

  is_x : (y : ResourceRow) → IsIn c.resources y → y.id ≡ x.id → y ≡ x
  is_x y there is = one_number (λ (z : ResourceRow). z.id) c.resources y x s.cat.resources.ordered there here is

  not_below : stands_in c x.id parent ≡ false
  not_below = stands_less c rooted.some x.id (rooted.some x here) (length c.resources) parent
      (sym (stands_is c made x.id (any_from_in (λ o. o.id == x.id) c.resources x here (eq-eqb x.id x.id refl)) parent (node_there c parent node)) ∙ outside)

  pub last_fits : resource_fits c (record x { parent = parent; place = q }) ≡ true
  last_fits = fits_all c r (owns_still c s rooted x here x.up parent q) (parent_some c r some node not_below (λ o there other parents places. let less : o.place < q = low o there parents in omega (arith, less, places)))

  named : (y : ResourceRow) → IsIn c.resources y → y.id ≡ x.id → y.name ≡ x.name
  named y there is = ap (λ (z : ResourceRow). z.name) (is_x y there is)

  lone_there : (y : ResourceRow) → IsIn c.resources y → y.id ≡ x.id → y.parent ≡ 0
  lone_there y there is = ap (λ (z : ResourceRow). z.parent) (is_x y there is) ∙ lone

  below : (parent == 0) ≡ false
  below = ne_eqb parent 0 some

  place_is : place_of c r ≡ count (lies_below parent) c.resources
  place_is =
      ap (λ b. elim b as (λ _. ℕ) [ true ↦ 0 | false ↦ count (among r) c.resources ]) below
      ∙ (let most : count (among r) c.resources ≤ count (lies_below parent) c.resources = count-more (among r) (lies_below parent) c.resources (λ y there e.
      let parts = and_parts (y.parent == parent) (nat_lt y.place q) e in
      let is : y.parent ≡ parent = eqb-true y.parent parent parts.0 in
      and_from (not (y.parent == 0)) (y.parent == parent) (ap not (ne_eqb y.parent 0 (λ z. some (sym is ∙ z)))) parts.0) in
      let least : count (lies_below parent) c.resources ≤ count (among r) c.resources = count-more (lies_below parent) (among r) c.resources (λ y there e.
      let parts = and_parts (not (y.parent == 0)) (y.parent == parent) e in
      and_from (y.parent == parent) (nat_lt y.place q) parts.1 (lt-ltb y.place q (low y there (eqb-true y.parent parent parts.1)))) in
      omega (arith, most, least))

  -- no other resource moves
  stays : (y : ResourceRow) → IsIn c.resources y → beside (resource_of c r) (resource_of c y) ≡ resource_of c y
  stays y there = ap (λ b. elim b as (λ _. Resource) [ true ↦ record (resource_of c y) { place = place_of c y + 1 } | false ↦ resource_of c y ]) (test (y.parent == 0) refl)
    where
      both : (a b : Bool) → a ≡ false → (a && b) ≡ false
      both true b e = absurd cc
      both false b e = refl

      second : (a b : Bool) → b ≡ false → (a && b) ≡ false
      second true b e = e
      second false b e = refl

      stands : ResourceStands c y
      stands = in_from_all (ResourceStands c) c.resources s.tied.resources y there

      rank : (z : ResourceRow) → (z.parent == 0) ≡ false → place_of c z ≡ count (among z) c.resources
      rank z is = ap (λ b. elim b as (λ _. ℕ) [ true ↦ 0 | false ↦ count (among z) c.resources ]) is

      test : (b : Bool) → (y.parent == 0) ≡ b → (are_siblings (resource_of c r) (resource_of c y) && nat_le (place_of c r) (place_of c y)) ≡ false
      test true is = both _ _ (siblings_none c (resource_of c r) y is)
      test false is = elim (eqb_tells parent y.parent) [
        | inr differs ↦ both _ _ (siblings_are c s r y (new_stands c r last_fits) stands is ∙ differs.0)
        | inl same ↦
            let less : y.place < q = low y there (sym same.1) in
            second _ _ ((λ i. nat_le (rank r below i) (rank y is i)) ∙ most_before c.resources r y same.1 there (λ places. omega (arith, less, places)) ∙ le-ltb q y.place (omega (arith, less)))
      ]

  pub grid-last_child : grid_of (with_resource c (record x { parent = parent; place = q }))
      ≡ record (grid_of c) { resources = put (grid_of c).resources x.name (record (resource_of c x) { parent = Some (resource_name c parent); place = count (lies_below parent) c.resources }) }
  grid-last_child =
      grid-put_resource c s r last_fits named lone_there
      ∙ (λ i. record (grid_of c) {
        resources = put (unmoved c s (resource_of c r) stays i) x.name (record {
          kind = x.kind;
          slot = x.slot;
          up = x.up;
          parent = ap (λ b. elim b as (λ _. Option Text) [ true ↦ None | false ↦ Some (resource_name c parent) ]) below i;
          place = place_is i;
        });
      })
