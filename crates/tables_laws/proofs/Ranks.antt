-- Where resources stand among the children of their parent.
use Rattle.std.proofs.Common.{◌≡◌, ◌==◌, ◌<◌, ◌≤◌, Bool, true, false, List, Option, Some, None, inl, inr, refl, sym, ap, ◌∙◌, arith, eq-eqb, eqb-true}
use Rattle.std.specs.Prelude.{not, ◌&&◌, ◌||◌, nat_lt, nat_le}
use Rattle.std.specs.Cmp.{both_ways}
use Rattle.std.proofs.lemmas.Bool.{and_parts, and_from, and_right, not-true, ne_eqb, eqb-false, ltb-true, ltb-false, lt-ltb, le-ltb, leb-true, le-leb}
use Rattle.std.proofs.lemmas.Bool.Decides.{eqb_tells}
use Rattle.grid_model.specs.Siblings.{are_siblings}
use Rattle.grid_model.specs.Names.{Text, same_text}
use Rattle.grid_model.specs.Grid.{Resource}
use Rattle.grid_model.specs.Rows.{Cat, has_resource}
use Rattle.grid_model.specs.RowGrids.{resource_of, resource_name}
use Rattle.grid_model.specs.Applying.{resource_fits, is_node, stands_in, parent_fits}
use Rattle.grid_model.specs.declared.deltas.ResourceRow.{ResourceRow}
use Rattle.grid_model.proofs.Comparing.{same_text-Decides, other_text}
use Rattle.tables_laws.proofs.Rows.{IsIn}
use Rattle.tables_laws.proofs.Counting.{count, count-more, count-less}
use Rattle.std.specs.List.{list_any}
use Rattle.tables_laws.proofs.Forest.{none_in}
use Rattle.tables_laws.proofs.Ties.{its_parent}
use Rattle.tables_laws.proofs.Standing.{ResourceStands}
use Rattle.tables_laws.proofs.Places.{resource_names_apart}
use Rattle.tables_laws.proofs.Resources.{node_there}
use Rattle.tables_laws.proofs.Sound.{IsSound}

-- a child of a row's parent that stands before it
abbrev pub among : ResourceRow → ResourceRow → Bool
among x o = (o.parent == x.parent) && nat_lt o.place x.place

among_so : (x o : ResourceRow) → o.parent ≡ x.parent → o.place < x.place → among x o ≡ true
among_so x o parents low = and_from (o.parent == x.parent) (nat_lt o.place x.place) (eq-eqb o.parent x.parent parents) (lt-ltb o.place x.place low)

pub among_itself : (x : ResourceRow) → among x x ≡ false
among_itself x = and_right (x.parent == x.parent) (nat_lt x.place x.place) (le-ltb x.place x.place (omega arith))

-- children of one parent
module _ (rows : List ResourceRow) (x y : ResourceRow) (same : x.parent ≡ y.parent) where
  -- what stands before the first stands before the second
  more : x.place ≤ y.place → (o : ResourceRow) → IsIn rows o → among x o ≡ true → among y o ≡ true
  more low o here passes =
      let parts = and_parts (o.parent == x.parent) (nat_lt o.place x.place) passes in
      let lower : o.place < x.place = ltb-true o.place x.place parts.1 in
      among_so y o (eqb-true o.parent x.parent parts.0 ∙ same) (omega (arith, low, lower))

  count_most : x.place ≤ y.place → count (among x) rows ≤ count (among y) rows
  count_most low = count-more (among x) (among y) rows (more low)

  count_fewer : IsIn rows x → x.place < y.place → count (among x) rows < count (among y) rows
  count_fewer here low =
      let weak : x.place ≤ y.place = omega (arith, low) in
      count-less (among x) (among y) rows x (more weak) here (among_itself x) (among_so y x same low)

module _ (rows : List ResourceRow) (x y : ResourceRow) (same : x.parent ≡ y.parent) where
  -- the first is one of the rows
  pub fewer_before : IsIn rows x → nat_lt (count (among x) rows) (count (among y) rows) ≡ nat_lt x.place y.place
  fewer_before here = both_ways (nat_lt (count (among x) rows) (count (among y) rows)) (nat_lt x.place y.place) forward
      (λ e. lt-ltb (count (among x) rows) (count (among y) rows) (count_fewer rows x y same here (ltb-true x.place y.place e)))
    where
      forward : nat_lt (count (among x) rows) (count (among y) rows) ≡ true → nat_lt x.place y.place ≡ true
      forward e = told (nat_lt x.place y.place) refl
        where
          told : (b : Bool) → nat_lt x.place y.place ≡ b → nat_lt x.place y.place ≡ true
          told true is = is
          told false is =
              let fewer : count (among x) rows < count (among y) rows = ltb-true (count (among x) rows) (count (among y) rows) e in
              let most : count (among y) rows ≤ count (among x) rows = count_most rows y x (sym same) (ltb-false x.place y.place is) in
              absurd (omega (arith, fewer, most))

  -- the second is one of the rows, at another place
  pub most_before : IsIn rows y → (y.place ≡ x.place → ⊥) → nat_le (count (among x) rows) (count (among y) rows) ≡ nat_lt x.place y.place
  most_before here apart = both_ways (nat_le (count (among x) rows) (count (among y) rows)) (nat_lt x.place y.place) forward back
    where
      back : nat_lt x.place y.place ≡ true → nat_le (count (among x) rows) (count (among y) rows) ≡ true
      back e =
          let low : x.place < y.place = ltb-true x.place y.place e in
          let weak : x.place ≤ y.place = omega (arith, low) in
          le-leb (count (among x) rows) (count (among y) rows) (count_most rows x y same weak)

      beyond : y.place < x.place → nat_le (count (among x) rows) (count (among y) rows) ≡ true → ⊥
      beyond low e =
          let most : count (among x) rows ≤ count (among y) rows = leb-true (count (among x) rows) (count (among y) rows) e in
          let fewer : count (among y) rows < count (among x) rows = count_fewer rows y x (sym same) here low in
          omega (arith, most, fewer)

      forward : nat_le (count (among x) rows) (count (among y) rows) ≡ true → nat_lt x.place y.place ≡ true
      forward e = told (nat_lt x.place y.place) refl
        where
          told : (b : Bool) → nat_lt x.place y.place ≡ b → nat_lt x.place y.place ≡ true
          told true is = is
          told false is =
              let most : y.place ≤ x.place = ltb-false x.place y.place is in
              absurd (beyond (omega (arith, most, apart)) e)

-- no two children of one parent have one place
pub places_apart : (c : Cat) (r : ResourceRow) → resource_fits c r ≡ true → (x : ResourceRow) → IsIn c.resources x → (x.id ≡ r.id → ⊥) → (r.parent == 0) ≡ false → x.parent ≡ r.parent → x.place ≡ r.place → ⊥
places_apart c r fits x here other below parents places =
    let fitting : parent_fits c r ≡ true = its_parent c r fits in
    let asked : (is_node c r.parent && not (stands_in c r.id r.parent) && not (list_any (λ o. not (o.id == r.id) && (o.parent == r.parent) && (o.place == r.place)) c.resources)) ≡ true = rw (below, parent_fits) at fitting in
    let free = (and_parts (is_node c r.parent && not (stands_in c r.id r.parent)) (not (list_any (λ o. not (o.id == r.id) && (o.parent == r.parent) && (o.place == r.place)) c.resources)) asked).1 in
    none_in (λ o. not (o.id == r.id) && (o.parent == r.parent) && (o.place == r.place)) c.resources (not-true _ free) x here
    (rw (ne_eqb x.id r.id other, eq-eqb x.parent r.parent parents, eq-eqb x.place r.place places) refl)

-- ---- siblings by names and by rows

abbrev parent_by : Cat → Bool → ResourceRow → Option Text
parent_by c b y = elim b [ true ↦ None | false ↦ Some (resource_name c y.parent) ]

abbrev siblings_by : Option Text → Option Text → Bool
siblings_by a b = elim a [
  | None ↦ false
  | Some p ↦
      elim b [ None ↦ false | Some q ↦ same_text p q ]
]

none_beside : (a : Option Text) → siblings_by a None ≡ false
none_beside None = refl
none_beside (Some p) = refl

module _ (c : Cat) where
  -- a resource without a parent is nobody's sibling
  pub siblings_none : (a : Resource) (x : ResourceRow) → (x.parent == 0) ≡ true → are_siblings a (resource_of c x) ≡ false
  siblings_none a x e = ap (λ b. siblings_by a.parent (parent_by c b x)) e ∙ none_beside a.parent

  parent_there : (y : ResourceRow) → ResourceStands c y → (y.parent == 0) ≡ false → has_resource c y.parent ≡ true
  parent_there y ok e = node_there c y.parent (sym (ap (λ b. b || is_node c y.parent) e) ∙ ok.1)

  pub siblings_are : IsSound c → (y x : ResourceRow) → ResourceStands c y → ResourceStands c x → (x.parent == 0) ≡ false → are_siblings (resource_of c y) (resource_of c x) ≡ (y.parent == x.parent)
  siblings_are s y x y_stands x_stands below = told (y.parent == 0) refl
    where
      named : (y.parent == 0) ≡ false → same_text (resource_name c y.parent) (resource_name c x.parent) ≡ (y.parent == x.parent)
      named e = elim (eqb_tells y.parent x.parent) [
        | inl is ↦ (same_text-Decides (resource_name c y.parent) (resource_name c x.parent)).1 (ap (resource_name c) is.1) ∙ sym is.0
        | inr differs ↦
            other_text (resource_name c y.parent) (resource_name c x.parent) (λ same.
            differs.1 (resource_names_apart c s y.parent x.parent (parent_there y y_stands e) (parent_there x x_stands below) same)) ∙ sym differs.0
      ]

      told : (b : Bool) → (y.parent == 0) ≡ b → are_siblings (resource_of c y) (resource_of c x) ≡ (y.parent == x.parent)
      told true e =
          ap (λ b. siblings_by (parent_by c b y) (parent_by c (x.parent == 0) x)) e
          ∙ sym (ne_eqb y.parent x.parent (λ is. eqb-false x.parent 0 below (sym is ∙ eqb-true y.parent 0 e)))
      told false e = (λ i. siblings_by (parent_by c (e i) y) (parent_by c (below i) x)) ∙ named e
