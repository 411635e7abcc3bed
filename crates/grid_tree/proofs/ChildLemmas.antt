-- The children of a resource in the grid are those that its rows have, in the order of their places.
use Rattle.std.proofs.Common.{◌≡◌, ◌==◌, ℕ, suc, ◌+◌, ◌<◌, ◌≤◌, Bool, true, false, List, [], ◌∷◌, length, map, get_or, Option, Some, None, inl, inr, IsTrue, refl, sym, ap, ◌∙◌, subst, arith, eqb-true, eq-eqb}
use Rattle.std.specs.Prelude.{◌&&◌, ◌||◌, not, nat_lt, filter, option_map}
use Rattle.std.specs.Option.{option_map_or}
use Rattle.std.specs.List.{AllByRecursion, IsDistinct}
use Rattle.std.specs.List.Sorted.{IsStrictlySortedBy, IsNonDecreasingBy, IsPermutation}
use Rattle.std.specs.declared.cmp.Ordering.{Ordering}
use Rattle.std.specs.declared.cmp.Ordering.TheVariants.{Less}
use Rattle.std.specs.Ordering.{nat_cmp}
use Rattle.std.specs.Cmp.{nat_cmp_total, on_total, ranked}
use Rattle.std.proofs.lemmas.Bool.{and_parts, ltb-true, lt-ltb, eqb-false, ne_eqb}
use Rattle.std.proofs.lemmas.Bool.Decides.{eqb_tells}
use Rattle.std.proofs.lemmas.List.Sorted.{Contains-permutation, IsPermutation-sym}
use Rattle.std.proofs.lemmas.Map.Keys.{IsDistinct-cons, IsDistinct-IsPermutation, apart_from_distinct, sorted_from_all_adjacent}
use Rattle.grid_model.specs.Maps.{get}
use Rattle.grid_model.specs.Names.{Text, text_cmp, same_text}
use Rattle.grid_model.specs.Grid.{Resource}
use Rattle.grid_model.specs.Rows.{Cat, resource, has_resource, resource_cmp}
use Rattle.grid_model.specs.RowGrids.{grid_of, place_of, resource_name, resource_of}
use Rattle.grid_model.specs.Applying.{IsMade, is_node}
use Rattle.grid_model.specs.Trees.{Resources, children, is_child_of, in_place_order}
use Rattle.grid_model.specs.declared.deltas.ResourceRow.{ResourceRow}
use Rattle.grid_model.proofs.Comparing.{text_cmp_total, text_cmp-IsAntisymmetric, same_text-Decides, other_text}
use Rattle.tables_laws.proofs.Rows.{IsIn, IsTable-filter, in_from_all, all_from_in, in_from_filter, filter_from_in, any_from_in}
use Rattle.tables_laws.proofs.Numbered.{found_in, one_number}
use Rattle.tables_laws.proofs.Places.{resource_names_apart}
use Rattle.tables_laws.proofs.Ranks.{among, fewer_before}
use Rattle.tables_laws.proofs.Resources.{node_there}
use Rattle.tables_laws.proofs.Rekeyed.{row_of}
use Rattle.tables_laws.proofs.Standing.{ResourceStands}
use Rattle.tables_laws.proofs.Sound.{IsSound}
use Rattle.grid_access.proofs.MapEntries.{in_from_map, map_from_in, entry_of_row}
use Rattle.grid_tree.specs.Names.{AreNamed}
use Rattle.grid_tree.specs.Ordered.{child_of, AreByPlace}
use Rattle.grid_tree.specs.Steps.{lies_below}
use Rattle.grid_tree.specs.declared.siblings.Child.{Child}
use Rattle.grid_tree.proofs.Named.{sound_of, get-row, name_is}
use Rattle.grid_tree.proofs.OwnPlaces.{places-made}
use Rattle.grid_tree.proofs.Alike.{same_sorted, in_of, contains_of, less_number, sorted-map, sorted-entries, by_number, in_from_placed, placed_from_in, placed-sorted}

pub in_order : (c : Cat) (parent : ℕ) (found kids : List Child) → found ≡ map child_of (filter (lies_below parent) c.resources) → IsPermutation found kids → IsNonDecreasingBy (λ (k : Child). k.place) kids → AreByPlace c parent kids
in_order c parent found kids is moved rise = record { are = subst (λ (ks : List Child). IsPermutation ks kids) is moved; rise = rise }

module _ (c : Cat) (m : IsMade c) (parent : ℕ) (has : has_resource c parent ≡ true) where
  s : IsSound c
  s = sound_of c m

  abbrev tree : Resources
  tree = (grid_of c).resources

  abbrev name : Text
  name = resource_name c parent

  abbrev rows : List ResourceRow
  rows = filter (lies_below parent) c.resources

  abbrev pair : ResourceRow → Text × ℕ
  pair r = (r.name, place_of c r)

  stands : (r : ResourceRow) → IsIn c.resources r → ResourceStands c r
  stands r here = in_from_all (ResourceStands c) c.resources s.tied.resources r here

  -- ---- by names and by ids

  is_child : (r : ResourceRow) → IsIn c.resources r → is_child_of name (resource_of c r) ≡ lies_below parent r
  is_child r here = by (r.parent == 0) refl
    where
      named : (r.parent == 0) ≡ false → same_text (resource_name c r.parent) name ≡ (r.parent == parent)
      named below = elim (eqb_tells r.parent parent) [
        | inl is ↦ (same_text-Decides (resource_name c r.parent) name).1 (ap (resource_name c) is.1) ∙ sym is.0
        | inr differs ↦
            other_text (resource_name c r.parent) name (λ same.
            differs.1 (resource_names_apart c s r.parent parent (node_there c r.parent (sym (ap (λ b. b || is_node c r.parent) below) ∙ (stands r here).1)) has same)) ∙ sym differs.0
      ]

      by : (b : Bool) → (r.parent == 0) ≡ b
          → option_map_or (λ above. same_text above name) (elim b as (λ _. Option Text) [ true ↦ None | false ↦ Some (resource_name c r.parent) ]) false ≡ (not b && (r.parent == parent))
      by true below = refl
      by false below = named below

  below_parts : (r : ResourceRow) → lies_below parent r ≡ true → ((r.parent == 0) ≡ false) × (r.parent ≡ parent)
  below_parts r e = by (r.parent == 0) refl (and_parts (not (r.parent == 0)) (r.parent == parent) e)
    where
      by : (b : Bool) → (r.parent == 0) ≡ b → (not (r.parent == 0) ≡ true) × ((r.parent == parent) ≡ true) → ((r.parent == 0) ≡ false) × (r.parent ≡ parent)
      by true is parts = absurd (let wrong : not true ≡ true = ap not (sym is) ∙ parts.0 in cc)
      by false is parts = (is, eqb-true r.parent parent parts.1)

  -- ---- the children as the grid has them

  abbrev listed : List (Text × ℕ)
  listed = map (λ e. (e.0, e.1.place)) (filter (λ e. is_child_of name e.1) tree.entries)

  from_listed : (p : Text × ℕ) → IsIn listed p → (r : ResourceRow) × IsIn rows r × (pair r ≡ p)
  from_listed p here =
      let e = in_from_map (λ (e : Text × Resource). (e.0, e.1.place)) (filter (λ e. is_child_of name e.1) tree.entries) p here in
      let kept = in_from_filter (λ (e : Text × Resource). is_child_of name e.1) tree.entries e.0 e.1 in
      let r = row_of text_cmp_total text_cmp-IsAntisymmetric (λ (x : ResourceRow). x.name) (resource_of c) c.resources e.0 kept.0 in
      let child : is_child_of name (resource_of c r.0) ≡ true = ap (λ (x : Text × Resource). is_child_of name x.1) r.2 ∙ kept.1 in
      (r.0, filter_from_in (lies_below parent) c.resources r.0 r.1 (sym (is_child r.0 r.1) ∙ child), ap (λ (x : Text × Resource). (x.0, x.1.place)) r.2 ∙ e.2)

  to_listed : (r : ResourceRow) → IsIn rows r → IsIn listed (pair r)
  to_listed r here =
      let old = in_from_filter (lies_below parent) c.resources r here in
      let e = entry_of_row text_cmp_total text_cmp-IsAntisymmetric (λ (x : ResourceRow). x.name) (resource_of c) c.resources r old.0
      (λ y there same. one_number (λ (z : ResourceRow). z.id) c.resources y r s.cat.resources.ordered there old.0 (s.names.resources_apart y r there old.0 same)) in
      let kept : IsIn (filter (λ (x : Text × Resource). is_child_of name x.1) tree.entries) e.0 =
      filter_from_in (λ (x : Text × Resource). is_child_of name x.1) tree.entries e.0 e.1 (ap (is_child_of name) (sym e.3) ∙ is_child r old.0 ∙ old.1) in
      let its = map_from_in (λ (x : Text × Resource). (x.0, x.1.place)) (filter (λ x. is_child_of name x.1) tree.entries) e.0 kept in
      let same : (e.0.0, e.0.1.place) ≡ pair r = λ i. (sym e.2 i, (sym e.3 i).place) in
      subst (λ (p : Text × ℕ). IsIn listed p) same its

  -- places and ranks rise together
  rank_rises : (x y : ResourceRow) → IsIn rows x → IsIn rows y → x.place < y.place → place_of c x < place_of c y
  rank_rises x y here there low =
      let a = in_from_filter (lies_below parent) c.resources x here in
      let b = in_from_filter (lies_below parent) c.resources y there in
      let x_below = below_parts x a.1 in
      let y_below = below_parts y b.1 in
      let fewer = fewer_before c.resources x y (x_below.1 ∙ sym y_below.1) a.0 in
      let lower : nat_lt (length (filter (among x) c.resources)) (length (filter (among y) c.resources)) ≡ true = fewer ∙ lt-ltb x.place y.place low in
      let places : length (filter (among x) c.resources) < length (filter (among y) c.resources) = ltb-true _ _ lower in
      subst (λ (n : ℕ). n < place_of c y) (sym (rank x x_below.0)) (subst (λ (n : ℕ). length (filter (among x) c.resources) < n) (sym (rank y y_below.0)) places)
    where
      rank : (r : ResourceRow) → (r.parent == 0) ≡ false → place_of c r ≡ length (filter (among r) c.resources)
      rank r below = ap (λ b. elim b as (λ _. ℕ) [ true ↦ 0 | false ↦ length (filter (λ o. (o.parent == r.parent) && nat_lt o.place r.place) c.resources) ]) below

  one_place : (x y : ResourceRow) → IsIn rows x → IsIn rows y → x.place ≡ y.place → x.id ≡ y.id
  one_place x y here there same =
      let a = in_from_filter (lies_below parent) c.resources x here in
      let b = in_from_filter (lies_below parent) c.resources y there in
      let y_below = below_parts y b.1 in
      places-made c m x y a.0 b.0 y_below.0 ((below_parts x a.1).1 ∙ sym y_below.1) same

  -- two with one rank have one name
  one_rank : (a b : Text × ℕ) → IsIn listed a → IsIn listed b → a.1 ≡ b.1 → a.0 ≡ b.0
  one_rank a b here there same =
      let x = from_listed a here in
      let y = from_listed b there in
      let ranks : place_of c x.0 ≡ place_of c y.0 = ap (λ (p : Text × ℕ). p.1) x.2 ∙ same ∙ ap (λ (p : Text × ℕ). p.1) (sym y.2) in
      let names : x.0.name ≡ y.0.name = ap (λ (r : ResourceRow). r.name) (row_same x.0 y.0 x.1 y.1 (by x.0 y.0 x.1 y.1 ranks)) in
      ap (λ (p : Text × ℕ). p.0) (sym x.2) ∙ names ∙ ap (λ (p : Text × ℕ). p.0) y.2
    where
      row_same : (x y : ResourceRow) → IsIn rows x → IsIn rows y → x.place ≡ y.place → x ≡ y
      row_same x y here there places =
          one_number (λ (z : ResourceRow). z.id) c.resources x y s.cat.resources.ordered (in_from_filter (lies_below parent) c.resources x here).0 (in_from_filter (lies_below parent) c.resources y there).0
          (one_place x y here there places)

      by : (x y : ResourceRow) → IsIn rows x → IsIn rows y → place_of c x ≡ place_of c y → x.place ≡ y.place
      by x y here there ranks = elim (eqb_tells x.place y.place) [
        | inl is ↦ is.1
        | inr other ↦ absurd (lower x y here there ranks (λ low. omega (arith, rank_rises x y here there low, ranks)) (λ low. omega (arith, rank_rises y x there here low, ranks)) other.1)
      ]
        where
          lower : (x y : ResourceRow) → IsIn rows x → IsIn rows y → place_of c x ≡ place_of c y → (x.place < y.place → ⊥) → (y.place < x.place → ⊥) → (x.place ≡ y.place → ⊥) → ⊥
          lower x y here there ranks below above apart = omega (arith, below, above, apart)

  listed_sorted : IsStrictlySortedBy by_number (in_place_order listed)
  listed_sorted =
      placed-sorted text_cmp_total listed
      (sorted-map (λ (a b : Text × Resource). text_cmp a.0 b.0) (λ (a b : Text × ℕ). text_cmp a.0 b.0) (λ (e : Text × Resource). (e.0, e.1.place)) (filter (λ e. is_child_of name e.1) tree.entries) (λ x y here there less. less)
      (IsTable-filter (λ (a b : Text × Resource). text_cmp a.0 b.0) (λ _. true) (λ e. is_child_of name e.1) tree.entries (record {
        ordered = sorted-entries text_cmp tree.entries tree.sorted;
        fit = all_from_in (λ e. true ≡ true) tree.entries (λ e here. refl);
      })).ordered)
      one_rank

  -- ---- the children as they are sorted

  -- the name and the rank of a child
  abbrev shown : Child → Text × ℕ
  shown k = (resource_name c k.id, option_map_or (place_of c) (resource c k.id) 0)

  shown_is : (r : ResourceRow) → IsIn c.resources r → shown (child_of r) ≡ pair r
  shown_is r here =
      let found : resource c r.id ≡ Some r = found_in (λ (z : ResourceRow). z.id) c.resources r s.cat.resources.ordered here in
      λ i. (name_is c r.id r found i, option_map_or (place_of c) (found i) 0)

  places_distinct : (xs : List ResourceRow) → IsStrictlySortedBy resource_cmp xs → ((x : ResourceRow) → IsIn xs x → IsIn rows x) → IsDistinct (λ (a b : Child). a.place == b.place) (map child_of xs)
  unfolding IsDistinct IsStrictlySortedBy
  places_distinct [] sorted are = tt
  places_distinct (x ∷ xs) sorted are = (all xs sorted.0 (λ y here. are y (inr here)), places_distinct xs sorted.1 (λ y here. are y (inr here)))
    where
      all : (ys : List ResourceRow) → AllByRecursion (λ y. resource_cmp x y ≡ Less) ys → ((y : ResourceRow) → IsIn ys y → IsIn rows y) → AllByRecursion (λ (b : Child). (x.place == b.place) ≡ false) (map child_of ys)
      all [] less are_rows = tt
      all (y ∷ ys) less are_rows = (
        ne_eqb x.place y.place (λ same.
            let ids : x.id ≡ y.id = one_place x y (are x (inl refl)) (are_rows y (inl refl)) same in
            let low : x.id < y.id = ranked x.id y.id Less (sym less.0) in
            omega (arith, ids, low)),
        all ys less.1 (λ z here. are_rows z (inr here)),
      )

  rows_sorted : IsStrictlySortedBy resource_cmp rows
  rows_sorted = (IsTable-filter resource_cmp (λ _. true) (lies_below parent) c.resources (record { ordered = s.cat.resources.ordered; fit = all_from_in (λ r. true ≡ true) c.resources (λ r here. refl) })).ordered

  module _ (found kids : List Child) (found_is : found ≡ map child_of rows) (moved : IsPermutation found kids) (rises : IsNonDecreasingBy (λ (k : Child). k.place) kids) where
    pub row_of_kid : (k : Child) → IsIn kids k → (r : ResourceRow) × IsIn rows r × (child_of r ≡ k)
    row_of_kid k here =
        let old : IsIn found k = in_of found k (Contains-permutation kids found k (IsPermutation-sym found kids moved) (contains_of kids k here)) in
        in_from_map child_of rows k (subst (λ (ks : List Child). IsIn ks k) found_is old)

    pub kid_of_row : (r : ResourceRow) → IsIn rows r → IsIn kids (child_of r)
    kid_of_row r here =
        let old : IsIn found (child_of r) = subst (λ (ks : List Child). IsIn ks (child_of r)) (sym found_is) (map_from_in child_of rows r here) in
        in_of kids (child_of r) (Contains-permutation found kids (child_of r) moved (contains_of found (child_of r) old))

    pub kids_sorted : IsStrictlySortedBy (λ (a b : Child). nat_cmp a.place b.place) kids
    unfolding IsStrictlySortedBy
    kids_sorted = by kids refl
      where
        distinct : IsDistinct (λ (a b : Child). a.place == b.place) kids
        distinct =
            IsDistinct-IsPermutation (λ (a b : Child). a.place == b.place) (λ x y. turned x.place y.place) found kids moved
            (subst (λ (ks : List Child). IsDistinct (λ (a b : Child). a.place == b.place) ks) (sym found_is) (places_distinct rows rows_sorted (λ x here. here)))
          where
            turned : (a b : ℕ) → (a == b) ≡ (b == a)
            turned a b = elim (eqb_tells a b) [
              | inl is ↦ is.0 ∙ sym (eq-eqb b a (sym is.1))
              | inr other ↦ other.0 ∙ sym (ne_eqb b a (λ e. other.1 (sym e)))
            ]

        by : (ks : List Child) → kids ≡ ks → IsStrictlySortedBy (λ (a b : Child). nat_cmp a.place b.place) kids
        by [] is = subst (λ (ks : List Child). IsStrictlySortedBy (λ (a b : Child). nat_cmp a.place b.place) ks) (sym is) tt
        by (first ∷ ks) is = sorted_from_all_adjacent (on_total (λ (k : Child). k.place) nat_cmp_total) kids first (λ k within.
            let one = get_or kids k first in
            let other = get_or kids (k + 1) first in
            let apart : (one.place == other.place) ≡ false = apart_from_distinct (λ (a b : Child). a.place == b.place) kids k (k + 1) first distinct (omega arith) within in
            let low : one.place ≤ other.place = rises k (k + 1) first (omega arith) within in
            less_number one.place other.place (omega (arith, low, eqb-false one.place other.place apart)))

    kids_shown : IsStrictlySortedBy by_number (map shown kids)
    kids_shown = sorted-map (λ (a b : Child). nat_cmp a.place b.place) by_number shown kids (λ a b here there less.
        let x = row_of_kid a here in
        let y = row_of_kid b there in
        let low : a.place < b.place = ranked a.place b.place Less (sym less) in
        let rows_low : x.0.place < y.0.place = omega (arith, low, ap (λ (k : Child). k.place) x.2, ap (λ (k : Child). k.place) y.2) in
        let up : place_of c x.0 < place_of c y.0 = rank_rises x.0 y.0 x.1 y.1 rows_low in
        let one : (shown a).1 ≡ place_of c x.0 = ap (λ (k : Child). (shown k).1) (sym x.2) ∙ ap (λ (p : Text × ℕ). p.1) (shown_is x.0 (in_from_filter (lies_below parent) c.resources x.0 x.1).0) in
        let other : (shown b).1 ≡ place_of c y.0 = ap (λ (k : Child). (shown k).1) (sym y.2) ∙ ap (λ (p : Text × ℕ). p.1) (shown_is y.0 (in_from_filter (lies_below parent) c.resources y.0 y.1).0) in
        less_number (shown a).1 (shown b).1 (omega (arith, up, one, other))) kids_sorted

    same_children : in_place_order listed ≡ map shown kids
    same_children = same_sorted (on_total (λ (p : Text × ℕ). p.1) nat_cmp_total) (in_place_order listed) (map shown kids) listed_sorted kids_shown
        (λ p here.
        let r = from_listed p (in_from_placed listed p here) in
        let old = (in_from_filter (lies_below parent) c.resources r.0 r.1).0 in
        subst (λ (q : Text × ℕ). IsIn (map shown kids) q) (shown_is r.0 old ∙ r.2) (map_from_in shown kids (child_of r.0) (kid_of_row r.0 r.1)))
        (λ p here.
        let k = in_from_map shown kids p here in
        let r = row_of_kid k.0 k.1 in
        let old = (in_from_filter (lies_below parent) c.resources r.0 r.1).0 in
        let same : pair r.0 ≡ p = sym (shown_is r.0 old) ∙ ap shown r.2 ∙ k.2 in
        placed_from_in listed p (subst (λ (q : Text × ℕ). IsIn listed q) same (to_listed r.0 r.1)))

    pub children_named : (ids : List ℕ) → ids ≡ map (λ (k : Child). k.id) kids → AreNamed c ids (children tree name)
    children_named ids are = record {
      there = subst (λ (js : List ℕ). AllByRecursion (λ id. IsTrue (has_resource c id)) js) (sym are) (all kids (λ k here. here));
      named = ap (map (resource_name c)) are ∙ names kids ∙ sym (ap (map (λ (p : Text × ℕ). p.0)) same_children);
    }
      where
        all : (ks : List Child) → ((k : Child) → IsIn ks k → IsIn kids k) → AllByRecursion (λ id. IsTrue (has_resource c id)) (map (λ (k : Child). k.id) ks)
        all [] are_kids = tt
        all (k ∷ ks) are_kids = (
          (let r = row_of_kid k (are_kids k (inl refl)) in any_from_in (λ x. x.id == k.id) c.resources r.0 (in_from_filter (lies_below parent) c.resources r.0 r.1).0 (eq-eqb r.0.id k.id (ap (λ (x : Child). x.id) r.2))),
          all ks (λ x here. are_kids x (inr here)),
        )

        names : (ks : List Child) → map (resource_name c) (map (λ (k : Child). k.id) ks) ≡ map (λ (p : Text × ℕ). p.0) (map shown ks)
        names [] = refl
        names (k ∷ ks) = ap (λ (ns : List Text). resource_name c k.id ∷ ns) (names ks)
