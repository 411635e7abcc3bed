-- Where the items in a collection are, and that each has a name of its own.
use Rattle.std.proofs.Common.{◌≡◌, ◌==◌, ℕ, true, false, [], ◌∷◌, ◌++◌, Option, Some, None, refl, sym, ap, ◌∙◌, eqb-true, eq-eqb}
use Rattle.std.specs.Prelude.{◌||◌, option_map, unwrap_or}
use Rattle.grid_model.specs.Names.{Text, Path, is_name, parent}
use Rattle.grid_model.specs.Rows.{Cat, collection, object, has_collection, item_there, kind_of, id_of, is_named_collection, is_named_object}
use Rattle.grid_model.specs.RowPaths.{collection_path, collection_at, object_at}
use Rattle.grid_model.specs.RowGrids.{item_place, object_place, collection_place}
use Rattle.grid_model.specs.Applying.{IsMade, gives_access}
use Rattle.grid_model.specs.declared.deltas.CollectionRow.{CollectionRow}
use Rattle.grid_model.specs.declared.deltas.ObjectRow.{ObjectRow}
use Rattle.grid_model.specs.declared.deltas.Item.{Item}
use Rattle.grid_model.specs.declared.deltas.Item.TheVariants as item
use Rattle.grid_model.proofs.Below.{parent-push}
use Rattle.grid_model.proofs.NewCollections.{at_of}
use Rattle.tables_laws.proofs.Rows.{IsIn, in_from_all, in_from_find, any_from_in}
use Rattle.tables_laws.proofs.Places.{place_is, child_place, parent_has, collections_apart, row_there, root_place, item_at, tree_of}
use Rattle.tables_laws.proofs.Sound.{IsSound}
use Rattle.plan_base.specs.Found.{IsAt}
use Rattle.plan_base.proofs.AtPaths.{placed}
use Rattle.plan_list.specs.Inside.{IsChildOf, item_name}
use Rattle.plan_list.specs.Listing.{child_path}

collection_name : (c : Cat) (id : ℕ) (r : CollectionRow) → collection c id ≡ Some r → item_name c (item.Collection id) ≡ r.name
collection_name c id r found = ap (λ (o : Option CollectionRow). unwrap_or (option_map (λ x. x.name) o) []) found

object_name : (c : Cat) (id : ℕ) (o : ObjectRow) → object c id ≡ Some o → item_name c (item.Object id) ≡ o.name
object_name c id o found = ap (λ (x : Option ObjectRow). unwrap_or (option_map (λ y. y.name) x) []) found

second_of : (a b : _) → (a || b) ≡ true → a ≡ false → b ≡ true
second_of true b e none = absurd cc
second_of false b e none = e

module _ (c : Cat) (s : IsSound c) (cid : ℕ) where
  collection_row : (id : ℕ) (r : CollectionRow) → collection c id ≡ Some r → IsIn c.collections r × (r.id ≡ id)
  collection_row id r found = let its = in_from_find (λ (x : CollectionRow). x.id == id) c.collections r found in (its.0, eqb-true r.id id its.1)

  object_row : (id : ℕ) (o : ObjectRow) → object c id ≡ Some o → IsIn c.objects o × (o.id ≡ id)
  object_row id o found = let its = in_from_find (λ (x : ObjectRow). x.id == id) c.objects o found in (its.0, eqb-true o.id id its.1)

  -- a child has a name
  pub child_named : (x : Item) → IsChildOf c cid x → is_name (item_name c x) ≡ true
  child_named (item.Collection id) child =
      let its = collection_row id child.1 child.2 in
      let other : (child.1.id == 0) ≡ false = zero_no (child.1.id) (λ e. child.0 (sym its.1 ∙ e)) in
      ap is_name (collection_name c id child.1 child.2)
      ∙ second_of (child.1.id == 0) (is_name child.1.name) (in_from_all (λ x. is_named_collection x ≡ true) c.collections s.cat.collections.fit child.1 its.0) other
    where
      zero_no : (n : ℕ) → (n ≡ 0 → ⊥) → (n == 0) ≡ false
      zero_no n ne = by (n == 0) refl
        where
          by : (b : _) → (n == 0) ≡ b → (n == 0) ≡ false
          by true is = absurd (ne (eqb-true n 0 is))
          by false is = is
  child_named (item.Object id) child =
      ap is_name (object_name c id child.0 child.1) ∙ in_from_all (λ x. is_named_object x ≡ true) c.objects s.cat.objects.fit child.0 (object_row id child.0 child.1).0
  child_named (item.Resource id) child = absurd child
  child_named (item.User id) child = absurd child

  -- two children with one name are one
  pub one_child : (x y : Item) → IsChildOf c cid x → IsChildOf c cid y → item_name c x ≡ item_name c y → x ≡ y
  one_child (item.Collection a) (item.Collection b) one other same =
      let x = collection_row a one.1 one.2 in
      let y = collection_row b other.1 other.2 in
      let names : one.1.name ≡ other.1.name = sym (collection_name c a one.1 one.2) ∙ same ∙ collection_name c b other.1 other.2 in
      ap item.Collection (sym x.1 ∙ s.forest.collections one.1 other.1 x.0 y.0 (λ e. one.0 (sym x.1 ∙ e)) (λ e. other.0 (sym y.1 ∙ e)) (one.3 ∙ sym other.3) names ∙ y.1)
  one_child (item.Collection a) (item.Object b) one other same =
      let x = collection_row a one.1 one.2 in
      let y = object_row b other.0 other.1 in
      let names : other.0.name ≡ one.1.name = sym (object_name c b other.0 other.1) ∙ sym same ∙ collection_name c a one.1 one.2 in
      absurd (s.forest.mixed one.1 other.0 x.0 y.0 (λ e. one.0 (sym x.1 ∙ e)) (other.2 ∙ sym one.3) names)
  one_child (item.Object a) (item.Collection b) one other same =
      let x = object_row a one.0 one.1 in
      let y = collection_row b other.1 other.2 in
      let names : one.0.name ≡ other.1.name = sym (object_name c a one.0 one.1) ∙ same ∙ collection_name c b other.1 other.2 in
      absurd (s.forest.mixed other.1 one.0 y.0 x.0 (λ e. other.0 (sym y.1 ∙ e)) (one.2 ∙ sym other.3) names)
  one_child (item.Object a) (item.Object b) one other same =
      let x = object_row a one.0 one.1 in
      let y = object_row b other.0 other.1 in
      let names : one.0.name ≡ other.0.name = sym (object_name c a one.0 one.1) ∙ same ∙ object_name c b other.0 other.1 in
      ap item.Object (sym x.1 ∙ s.forest.objects one.0 other.0 x.0 y.0 (one.2 ∙ sym other.2) names ∙ y.1)
  one_child (item.Collection a) (item.Resource b) one other same = absurd other
  one_child (item.Collection a) (item.User b) one other same = absurd other
  one_child (item.Object a) (item.Resource b) one other same = absurd other
  one_child (item.Object a) (item.User b) one other same = absurd other
  one_child (item.Resource a) y one other same = absurd one
  one_child (item.User a) y one other same = absurd one

  module _ (p : Path) (at : collection_at c p ≡ Some cid) where
    above_is : (id : ℕ) → id ≡ cid → collection_place (collection_path c) id ≡ p
    above_is id is = ap (collection_place (collection_path c)) is ∙ place_is c cid p (at_of c cid p at).path

    -- a child is there, at the path of its name
    pub child_place_is : (x : Item) → IsChildOf c cid x → (gives_access (kind_of x) ≡ true) × (item_there c (kind_of x) (id_of x) ≡ true) × (item_place c (collection_path c) (kind_of x) (id_of x) ≡ child_path c p x)
    child_place_is (item.Collection id) child = (
      refl,
      (let its = collection_row id child.1 child.2 in any_from_in (λ x. x.id == id) c.collections child.1 its.0 (eq-eqb child.1.id id its.1)),
      child_place c s id child.1 child.0 child.2 ∙ (λ i. above_is child.1.parent child.3 i ++ sym (collection_name c id child.1 child.2) i ∷ []),
    )
    child_place_is (item.Object id) child = (
      refl,
      (let its = object_row id child.0 child.1 in any_from_in (λ x. x.id == id) c.objects child.0 its.0 (eq-eqb child.0.id id its.1)),
      ap (λ (o : Option ObjectRow). unwrap_or (option_map (object_place (collection_path c)) o) []) child.1
          ∙ (λ i. above_is child.0.collection child.2 i ++ sym (object_name c id child.0 child.1) i ∷ []),
    )
    child_place_is (item.Resource id) child = absurd child
    child_place_is (item.User id) child = absurd child

    pub child_at : (x : Item) → IsChildOf c cid x → IsAt c (child_path c p x) x
    child_at (item.Collection id) child =
        let its = child_place_is (item.Collection id) child in
        (tree_of c s).collections_found id (child_path c p (item.Collection id)) (item_at c s (kind_of (item.Collection id)) id its.0 its.1 ∙ ap Some its.2)
    child_at (item.Object id) child =
        let its = child_place_is (item.Object id) child in
        (tree_of c s).objects_found id (child_path c p (item.Object id)) (item_at c s (kind_of (item.Object id)) id its.0 its.1 ∙ ap Some its.2)
    child_at (item.Resource id) child = absurd child
    child_at (item.User id) child = absurd child

    -- the collection of a row whose place is so is this one
    its_parent : (id : ℕ) (n : Text) (q : Path) → has_collection c id ≡ true → collection_place (collection_path c) id ++ n ∷ [] ≡ q → parent q ≡ Some p → id ≡ cid
    its_parent id n q has place up =
        let both : Some (collection_place (collection_path c) id) ≡ Some p = sym (parent-push (collection_place (collection_path c) id) n) ∙ ap parent place ∙ up in
        let same : collection_place (collection_path c) id ≡ p = cc in
        collections_apart c s id cid has (at_of c cid p at).there (same ∙ sym (above_is cid refl))

    -- a collection directly below is a child
    pub collection_below : (q : Path) (id : ℕ) → collection_at c q ≡ Some id → parent q ≡ Some p → IsChildOf c cid (item.Collection id)
    collection_below q id found up =
        let its = at_of c id q found in
        let r = row_there (λ (x : CollectionRow). x.id) c.collections id its.there in
        let place : collection_place (collection_path c) id ≡ q = place_is c id q its.path in
        let not_root : id ≡ 0 → ⊥ = λ e. none_above q (sym place ∙ ap (collection_place (collection_path c)) e ∙ root_place c s (ap (has_collection c) (sym e) ∙ its.there)) up in
        (not_root, r.0, r.3, its_parent r.0.parent r.0.name q (parent_has c s id r.0 not_root r.3) (sym (child_place c s id r.0 not_root r.3) ∙ place) up)
      where
        none_above : (q : Path) → q ≡ [] → parent q ≡ Some p → ⊥
        none_above q root above = let wrong : None ≡ Some p = ap parent (sym root) ∙ above in cc

  -- and so is an object
  pub object_below : IsMade c → (p : Path) → collection_at c p ≡ Some cid → (q : Path) (id : ℕ) → object_at c q ≡ Some id → parent q ≡ Some p → IsChildOf c cid (item.Object id)
  object_below made p at q id found up =
      let its = placed c made q (item.Object id) found in
      let o = row_there (λ (x : ObjectRow). x.id) c.objects id its.there in
      let place : object_place (collection_path c) o.0 ≡ q = sym (ap (λ (x : Option ObjectRow). unwrap_or (option_map (object_place (collection_path c)) x) []) o.3) ∙ its.place in
      (o.0, o.3, its_parent p at o.0.collection o.0.name q (s.forest.housed o.0 o.1) place up)
