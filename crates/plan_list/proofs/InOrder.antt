-- The items in a collection, put in the order of their names.
use Rattle.std.proofs.Common.{◌≡◌, ◌==◌, ◌⊎◌, ℕ, ◌+◌, Bool, true, false, cond, List, [], ◌∷◌, ◌++◌, get_or, map, Some, inl, inr, refl, sym, ap, ◌∙◌, subst, arith, eqb-true, eq-eqb}
use Rattle.std.specs.Prelude.{filter, not}
use Rattle.std.specs.List.{AllByRecursion, IsDistinct}
use Rattle.std.specs.List.Sorted.{IsStrictlySortedBy, IsPermutation, IsSortedBy}
use Rattle.std.specs.declared.cmp.Ordering.{Ordering}
use Rattle.std.specs.declared.cmp.Ordering.TheVariants.{Less, Equal, Greater}
use Rattle.std.specs.Ordering.{ordering_then, is_lt, ordering_reverse}
use Rattle.std.specs.Cmp.{on_total, tied_itself}
use Rattle.std.proofs.lemmas.Bool.{ne_eqb}
use Rattle.std.proofs.lemmas.List.Sorted.{Contains-permutation, IsPermutation-sym}
use Rattle.std.proofs.lemmas.Map.Keys.{IsDistinct-cons, IsDistinct-head, IsDistinct-tail, IsDistinct-IsPermutation, apart_from_distinct, sorted_from_all_adjacent}
use Rattle.grid_model.specs.Names.{Text, text_cmp, same_text}
use Rattle.grid_model.specs.Rows.{Cat, collection, object}
use Rattle.grid_model.specs.declared.deltas.CollectionRow.{CollectionRow}
use Rattle.grid_model.specs.declared.deltas.ObjectRow.{ObjectRow}
use Rattle.grid_model.specs.declared.deltas.Item.{Item}
use Rattle.grid_model.specs.declared.deltas.Item.TheVariants as item
use Rattle.grid_model.proofs.Comparing.{text_cmp_total, text_cmp-IsAntisymmetric, same_text-Decides, other_text}
use Rattle.tables_laws.proofs.Rows.{IsIn, in_from_all, all_from_in, in_from_filter, filter_from_in, in_from_find}
use Rattle.tables_laws.proofs.Numbered.{equal_number, found_in}
use Rattle.tables_laws.proofs.Sound.{IsSound}
use Rattle.grid_tables.specs.Indexes.{IsIndex, place_cmp}
use Rattle.grid_access.proofs.MapEntries.{in_from_map, map_from_in}
use Rattle.grid_tree.proofs.Alike.{in_of, contains_of}
use Rattle.plan_list.specs.Inside.{IsChildOf, AreChildren, item_name}
use Rattle.plan_list.proofs.ChildPaths.{one_child}

-- ---- lists

module _ {X Y : Type 0} where
  filter-map : (p : Y → Bool) (f : X → Y) (xs : List X) → filter p (map f xs) ≡ map f (filter (λ x. p (f x)) xs)
  filter-map p f [] = refl
  filter-map p f (x ∷ xs) =
      ap (λ (ys : List Y). cond (p (f x)) (f x ∷ ys) ys) (filter-map p f xs)
      ∙ elim (p (f x)) as (λ b. cond b (f x ∷ map f (filter (λ x. p (f x)) xs)) (map f (filter (λ x. p (f x)) xs)) ≡ map f (cond b (x ∷ filter (λ x. p (f x)) xs) (filter (λ x. p (f x)) xs))) [ true ↦ refl | false ↦ refl ]

module _ {X : Type 0} where
  in_append : (xs ys : List X) (x : X) → IsIn (xs ++ ys) x → IsIn xs x ⊎ IsIn ys x
  in_append [] ys x here = inr here
  in_append (y ∷ xs) ys x (inl is) = inl (inl is)
  in_append (y ∷ xs) ys x (inr later) = elim (in_append xs ys x later) [ inl first ↦ inl (inr first) | inr second ↦ inr second ]

  append_first : (xs ys : List X) (x : X) → IsIn xs x → IsIn (xs ++ ys) x
  append_first [] ys x here = absurd here
  append_first (y ∷ xs) ys x (inl is) = inl is
  append_first (y ∷ xs) ys x (inr later) = inr (append_first xs ys x later)

  append_second : (xs ys : List X) (x : X) → IsIn ys x → IsIn (xs ++ ys) x
  append_second [] ys x here = here
  append_second (y ∷ xs) ys x here = inr (append_second xs ys x here)

  distinct_append : (e : X → X → Bool) (xs ys : List X) → IsDistinct e xs → IsDistinct e ys → ((x y : X) → IsIn xs x → IsIn ys y → e x y ≡ false) → IsDistinct e (xs ++ ys)
  distinct_append e [] ys one other apart = other
  distinct_append e (x ∷ xs) ys one other apart =
      IsDistinct-cons e x (xs ++ ys)
      (all_from_in (λ y. e x y ≡ false) (xs ++ ys) (λ y here. elim (in_append xs ys y here) [
        | inl first ↦ in_from_all (λ z. e x z ≡ false) xs (IsDistinct-head e x xs one) y first
        | inr second ↦ apart x y (inl refl) second
      ]))
      (distinct_append e xs ys (IsDistinct-tail e x xs one) other (λ a b here there. apart a b (inr here) there))

distinct_map : {X Y : Type 0} (e : Y → Y → Bool) (cmp : X → X → Ordering) (f : X → Y) (xs : List X) → IsStrictlySortedBy cmp xs → ((x y : X) → IsIn xs x → IsIn xs y → cmp x y ≡ Less → e (f x) (f y) ≡ false) → IsDistinct e (map f xs)
unfolding IsDistinct IsStrictlySortedBy
distinct_map e cmp f [] sorted apart = tt
distinct_map e cmp f (x ∷ xs) sorted apart = (all xs sorted.0 (λ y here. apart x y (inl refl) (inr here)), distinct_map e cmp f xs sorted.1 (λ a b here there. apart a b (inr here) (inr there)))
  where
    all : (ys : List _) → AllByRecursion (λ y. cmp x y ≡ Less) ys → ((y : _) → IsIn ys y → cmp x y ≡ Less → e (f x) (f y) ≡ false) → AllByRecursion (λ y. e (f x) y ≡ false) (map f ys)
    all [] less out = tt
    all (y ∷ ys) less out = (out y (inl refl) less.0, all ys less.1 (λ z here. out z (inr here)))

sorted_kept : {X : Type 0} (cmp : X → X → Ordering) (p : X → Bool) (xs : List X) → IsStrictlySortedBy cmp xs → IsStrictlySortedBy cmp (filter p xs)
unfolding IsStrictlySortedBy
sorted_kept cmp p [] sorted = tt
sorted_kept {X = X} cmp p (x ∷ xs) sorted = elim (p x) as (λ b. IsStrictlySortedBy cmp (cond b (x ∷ filter p xs) (filter p xs))) [
  | true ↦ (all_from_in (λ y. cmp x y ≡ Less) (filter p xs) (λ y here. in_from_all (λ z. cmp x z ≡ Less) xs sorted.0 y (in_from_filter p xs y here).0), sorted_kept cmp p xs sorted.1)
  | false ↦ sorted_kept cmp p xs sorted.1
]

-- ---- the items

module _ (c : Cat) (s : IsSound c) (cid : ℕ) (collections objects : List ℕ)
    (inner : IsIndex (λ (r : CollectionRow). r.id) (place_cmp (λ r. r.parent) (λ r. r.name)) (filter (λ r. r.parent == cid) c.collections) collections)
    (held : IsIndex (λ (o : ObjectRow). o.id) (place_cmp (λ o. o.collection) (λ o. o.name)) (filter (λ o. o.collection == cid) c.objects) objects) where
  abbrev below_root : ℕ → Bool
  below_root id = not (id == 0)

  abbrev all_items : List Item
  all_items = map item.Collection (filter below_root collections) ++ map item.Object objects

  abbrev same_names : Item → Item → Bool
  same_names x y = same_text (item_name c x) (item_name c y)

  not_zero : (n : ℕ) → not (n == 0) ≡ true → n ≡ 0 → ⊥
  not_zero n e z = let wrong : (n == 0) ≡ true = eq-eqb n 0 z in cc

  inner_child : (r : CollectionRow) → IsIn inner.named r → not (r.id == 0) ≡ true → IsChildOf c cid (item.Collection r.id)
  inner_child r here some =
      let its = in_from_filter (λ (x : CollectionRow). x.parent == cid) c.collections r (inner.none_else r here) in
      (not_zero r.id some, r, found_in (λ (x : CollectionRow). x.id) c.collections r s.cat.collections.ordered its.0, eqb-true r.parent cid its.1)

  held_child : (o : ObjectRow) → IsIn held.named o → IsChildOf c cid (item.Object o.id)
  held_child o here =
      let its = in_from_filter (λ (x : ObjectRow). x.collection == cid) c.objects o (held.none_else o here) in
      (o, found_in (λ (x : ObjectRow). x.id) c.objects o s.cat.objects.ordered its.0, eqb-true o.collection cid its.1)

  collections_are : map item.Collection (filter below_root collections) ≡ map (λ (r : CollectionRow). item.Collection r.id) (filter (λ r. below_root r.id) inner.named)
  collections_are =
      ap (λ (ids : List ℕ). map item.Collection (filter below_root ids)) inner.ids_are ∙ ap (map item.Collection) (filter-map below_root (λ (r : CollectionRow). r.id) inner.named)
      ∙ twice (filter (λ r. below_root r.id) inner.named)
    where
      twice : (rows : List CollectionRow) → map item.Collection (map (λ (r : CollectionRow). r.id) rows) ≡ map (λ (r : CollectionRow). item.Collection r.id) rows
      twice [] = refl
      twice (r ∷ rows) = ap (λ (xs : List Item). item.Collection r.id ∷ xs) (twice rows)

  objects_are : map item.Object objects ≡ map (λ (o : ObjectRow). item.Object o.id) held.named
  objects_are = ap (map item.Object) held.ids_are ∙ twice held.named
    where
      twice : (rows : List ObjectRow) → map item.Object (map (λ (o : ObjectRow). o.id) rows) ≡ map (λ (o : ObjectRow). item.Object o.id) rows
      twice [] = refl
      twice (o ∷ rows) = ap (λ (xs : List Item). item.Object o.id ∷ xs) (twice rows)

  abbrev listed_items : List Item
  listed_items = map (λ (r : CollectionRow). item.Collection r.id) (filter (λ r. below_root r.id) inner.named) ++ map (λ (o : ObjectRow). item.Object o.id) held.named

  items_are : all_items ≡ listed_items
  items_are i = collections_are i ++ objects_are i

  -- each of these is a child, and each child is one of them
  listed_child : (x : Item) → IsIn listed_items x → IsChildOf c cid x
  listed_child x here = elim (in_append (map (λ (r : CollectionRow). item.Collection r.id) (filter (λ r. below_root r.id) inner.named)) (map (λ (o : ObjectRow). item.Object o.id) held.named) x here) [
    | inl first ↦
        let r = in_from_map (λ (r : CollectionRow). item.Collection r.id) (filter (λ r. below_root r.id) inner.named) x first in
        let kept = in_from_filter (λ (r : CollectionRow). below_root r.id) inner.named r.0 r.1 in
        subst (IsChildOf c cid) r.2 (inner_child r.0 kept.0 kept.1)
    | inr second ↦
        let o = in_from_map (λ (o : ObjectRow). item.Object o.id) held.named x second in
        subst (IsChildOf c cid) o.2 (held_child o.0 o.1)
  ]

  child_listed : (x : Item) → IsChildOf c cid x → IsIn listed_items x
  child_listed (item.Collection id) child =
      let its = in_from_find (λ (r : CollectionRow). r.id == id) c.collections child.1 child.2 in
      let id_is : child.1.id ≡ id = eqb-true child.1.id id its.1 in
      let there = inner.all child.1 (filter_from_in (λ (r : CollectionRow). r.parent == cid) c.collections child.1 its.0 (eq-eqb child.1.parent cid child.3)) in
      let kept = filter_from_in (λ (r : CollectionRow). below_root r.id) inner.named child.1 there (ap not (ne_eqb child.1.id 0 (λ e. child.0 (sym id_is ∙ e)))) in
      append_first (map (λ (r : CollectionRow). item.Collection r.id) (filter (λ r. below_root r.id) inner.named)) (map (λ (o : ObjectRow). item.Object o.id) held.named) (item.Collection id)
      (subst (λ n. IsIn (map (λ (r : CollectionRow). item.Collection r.id) (filter (λ r. below_root r.id) inner.named)) (item.Collection n)) id_is
      (map_from_in (λ (r : CollectionRow). item.Collection r.id) (filter (λ r. below_root r.id) inner.named) child.1 kept))
  child_listed (item.Object id) child =
      let its = in_from_find (λ (o : ObjectRow). o.id == id) c.objects child.0 child.1 in
      let id_is : child.0.id ≡ id = eqb-true child.0.id id its.1 in
      let there = held.all child.0 (filter_from_in (λ (o : ObjectRow). o.collection == cid) c.objects child.0 its.0 (eq-eqb child.0.collection cid child.2)) in
      append_second (map (λ (r : CollectionRow). item.Collection r.id) (filter (λ r. below_root r.id) inner.named)) (map (λ (o : ObjectRow). item.Object o.id) held.named) (item.Object id)
      (subst (λ n. IsIn (map (λ (o : ObjectRow). item.Object o.id) held.named) (item.Object n)) id_is (map_from_in (λ (o : ObjectRow). item.Object o.id) held.named child.0 there))
  child_listed (item.Resource id) child = absurd child
  child_listed (item.User id) child = absurd child

  -- those that differ have other names
  names_apart : (x y : Item) → IsChildOf c cid x → IsChildOf c cid y → (x ≡ y → ⊥) → same_names x y ≡ false
  names_apart x y one other apart = other_text (item_name c x) (item_name c y) (λ same. apart (one_child c s cid x y one other same))

  abbrev below_itself : {X : Type 0} → (X → X → Ordering) → Type 0
  below_itself {X} cmp = (x y : X) → cmp x y ≡ Less → x ≡ y → ⊥

  itself : {X : Type 0} (above : X → ℕ) (name : X → Text) → below_itself (place_cmp above name)
  itself above name x y less same =
      let tied : place_cmp above name x x ≡ Equal = λ i. ordering_then (equal_number (above x) (above x) refl i) (tied_itself text_cmp_total (name x) i) in
      let wrong : place_cmp above name x x ≡ Less = ap (place_cmp above name x) same ∙ less in
      cc

  listed_apart : IsDistinct same_names listed_items
  listed_apart =
      distinct_append same_names (map (λ (r : CollectionRow). item.Collection r.id) (filter (λ r. below_root r.id) inner.named)) (map (λ (o : ObjectRow). item.Object o.id) held.named)
      (distinct_map same_names (place_cmp (λ (r : CollectionRow). r.parent) (λ r. r.name)) (λ (r : CollectionRow). item.Collection r.id) (filter (λ r. below_root r.id) inner.named)
      (sorted_kept (place_cmp (λ (r : CollectionRow). r.parent) (λ r. r.name)) (λ r. below_root r.id) inner.named inner.ordered) (λ x y here there less.
      let a = in_from_filter (λ (r : CollectionRow). below_root r.id) inner.named x here in
      let b = in_from_filter (λ (r : CollectionRow). below_root r.id) inner.named y there in
      names_apart (item.Collection x.id) (item.Collection y.id) (inner_child x a.0 a.1) (inner_child y b.0 b.1) (λ same.
      let ids : x.id ≡ y.id = cc in
      itself (λ (r : CollectionRow). r.parent) (λ r. r.name) x y less (row_same x y a.0 b.0 ids))))
      (distinct_map same_names (place_cmp (λ (o : ObjectRow). o.collection) (λ o. o.name)) (λ (o : ObjectRow). item.Object o.id) held.named held.ordered (λ x y here there less.
      names_apart (item.Object x.id) (item.Object y.id) (held_child x here) (held_child y there) (λ same.
      let ids : x.id ≡ y.id = cc in
      itself (λ (o : ObjectRow). o.collection) (λ o. o.name) x y less (object_same x y here there ids))))
      (λ x y here there.
      let r = in_from_map (λ (r : CollectionRow). item.Collection r.id) (filter (λ r. below_root r.id) inner.named) x here in
      let o = in_from_map (λ (o : ObjectRow). item.Object o.id) held.named y there in
      names_apart x y (listed_child x (append_first _ _ x here)) (listed_child y (append_second _ _ y there)) (λ same.
      let wrong : item.Collection r.0.id ≡ item.Object o.0.id = r.2 ∙ same ∙ sym o.2 in
      cc))
    where
      row_same : (x y : CollectionRow) → IsIn inner.named x → IsIn inner.named y → x.id ≡ y.id → x ≡ y
      row_same x y here there ids =
          let a = in_from_filter (λ (r : CollectionRow). r.parent == cid) c.collections x (inner.none_else x here) in
          let b = in_from_filter (λ (r : CollectionRow). r.parent == cid) c.collections y (inner.none_else y there) in
          let found : Some x ≡ Some y = sym (found_in (λ (r : CollectionRow). r.id) c.collections x s.cat.collections.ordered a.0) ∙ ap (collection c) ids ∙ found_in (λ (r : CollectionRow). r.id) c.collections y s.cat.collections.ordered b.0 in
          cc

      object_same : (x y : ObjectRow) → IsIn held.named x → IsIn held.named y → x.id ≡ y.id → x ≡ y
      object_same x y here there ids =
          let a = in_from_filter (λ (o : ObjectRow). o.collection == cid) c.objects x (held.none_else x here) in
          let b = in_from_filter (λ (o : ObjectRow). o.collection == cid) c.objects y (held.none_else y there) in
          let found : Some x ≡ Some y = sym (found_in (λ (o : ObjectRow). o.id) c.objects x s.cat.objects.ordered a.0) ∙ ap (object c) ids ∙ found_in (λ (o : ObjectRow). o.id) c.objects y s.cat.objects.ordered b.0 in
          cc

  module _ (items sorted : List Item) (items_as : items ≡ all_items) (moved : IsPermutation items sorted) (rises : IsSortedBy (λ x y. is_lt (text_cmp (item_name c x) (item_name c y))) sorted) where
    distinct : IsDistinct same_names sorted
    distinct = IsDistinct-IsPermutation same_names (λ x y. turned (item_name c x) (item_name c y)) items sorted moved (subst (IsDistinct same_names) (sym (items_as ∙ items_are)) listed_apart)
      where
        turned : (a b : Text) → same_text a b ≡ same_text b a
        turned a b = by (same_text a b) refl
          where
            by : (t : Bool) → same_text a b ≡ t → same_text a b ≡ same_text b a
            by true is = is ∙ sym ((same_text-Decides b a).1 (sym ((same_text-Decides a b).0 is)))
            by false is = is ∙ sym (other_text b a (λ e. let wrong : same_text a b ≡ true = (same_text-Decides a b).1 (sym e) in cc))

    strictly : IsStrictlySortedBy (λ x y. text_cmp (item_name c x) (item_name c y)) sorted
    unfolding IsStrictlySortedBy
    strictly = by sorted refl
      where
        by : (xs : List Item) → sorted ≡ xs → IsStrictlySortedBy (λ x y. text_cmp (item_name c x) (item_name c y)) sorted
        by [] is = subst (λ (xs : List Item). IsStrictlySortedBy (λ x y. text_cmp (item_name c x) (item_name c y)) xs) (sym is) tt
        by (first ∷ xs) is = sorted_from_all_adjacent (on_total (item_name c) text_cmp_total) sorted first (λ k within.
            let one = get_or sorted k first in
            let other = get_or sorted (k + 1) first in
            less_of (item_name c one) (item_name c other) (rises k first (omega arith) within) (apart_from_distinct same_names sorted k (k + 1) first distinct (omega arith) within))
          where
            less_of : (a b : Text) → is_lt (text_cmp b a) ≡ false → same_text a b ≡ false → text_cmp a b ≡ Less
            less_of a b not_more apart = elim (text_cmp a b) as (λ o. text_cmp a b ≡ o → text_cmp a b ≡ Less) [
              | Less ↦ λ e. e
              | Equal ↦ λ e. let wrong : same_text a b ≡ true = (same_text-Decides a b).1 (text_cmp-IsAntisymmetric a b e) in absurd cc
              | Greater ↦ λ e. let turned : text_cmp b a ≡ Less = text_cmp_total.antisymm b a ∙ ap ordering_reverse e in let wrong : is_lt (text_cmp b a) ≡ true = ap is_lt turned in absurd cc
            ] refl

    pub are_children : AreChildren c cid sorted
    are_children = record {
      each = λ x here.
          listed_child x (subst (λ (xs : List Item). IsIn xs x) (items_as ∙ items_are) (in_of items x (Contains-permutation sorted items x (IsPermutation-sym items sorted moved) (contains_of sorted x here))));
      all = λ x child.
          in_of sorted x (Contains-permutation items sorted x moved (contains_of items x (subst (λ (xs : List Item). IsIn xs x) (sym (items_as ∙ items_are)) (child_listed x child))));
      ordered = strictly;
    }
