-- Collections that lead up to `/` and share no names with what lies beside them, and objects in them; kept by what puts
-- and drops collections and objects.
use Rattle.std.proofs.Common.{◌≡◌, ◌==◌, ℕ, suc, Bool, true, false, List, [], ◌∷◌, length, Some, inl, inr, refl, sym, ap, ◌∙◌, subst, eq-eqb, eqb-true}
use Rattle.std.specs.Prelude.{find, filter, not, ◌&&◌}
use Rattle.std.specs.List.{list_any}
use Rattle.std.specs.List.Sorted.{IsStrictlySortedBy}
use Rattle.std.proofs.lemmas.Bool.{ne_eqb, and_parts}
use Rattle.std.proofs.lemmas.Bool.Decides.{eqb_tells}
use Rattle.grid_model.specs.Names.{Text, Path, is_name, same_text}
use Rattle.grid_model.specs.Rows.{Cat, collection, has_collection, with_row, collection_cmp, object_cmp}
use Rattle.grid_model.specs.RowPaths.{names_within}
use Rattle.grid_model.specs.Applying.{lies_in, is_child, is_child_named, is_object_named, free_for_collection, free_for_object, collection_fits, is_empty_collection, may_drop_collection, object_fits, is_told_of}
use Rattle.grid_model.specs.declared.deltas.CollectionRow.{CollectionRow}
use Rattle.grid_model.specs.declared.deltas.ObjectRow.{ObjectRow}
use Rattle.grid_model.specs.declared.grid.ItemKind.TheVariants as kind
use Rattle.grid_model.proofs.Comparing.{same_text-Decides}
use Rattle.tables_laws.proofs.Rows.{IsIn, in_from_any, any_from_in}
use Rattle.tables_laws.proofs.Numbered.{put_found, put_other, put_in, put_has, dropped_other, dropped_has, dropped_in}
use Rattle.tables_laws.proofs.Ways.{HasParents, its_row, within_all, within_root, within_further}
use Rattle.tables_laws.proofs.Moving.{IsPlaced, within_kept, within_past, placed_again, within_beside}

pub record IsForest (c : Cat) : Type 0 where
  pub parents : HasParents c
  pub placed : (r : CollectionRow) → IsIn c.collections r → IsPlaced c r.id
  -- no two collections in one have one name, nor two objects, nor a collection and an object
  pub collections : (r s : CollectionRow) → IsIn c.collections r → IsIn c.collections s → (r.id ≡ 0 → ⊥) → (s.id ≡ 0 → ⊥) → r.parent ≡ s.parent → r.name ≡ s.name → r.id ≡ s.id
  pub objects : (o p : ObjectRow) → IsIn c.objects o → IsIn c.objects p → o.collection ≡ p.collection → o.name ≡ p.name → o.id ≡ p.id
  pub mixed : (r : CollectionRow) (o : ObjectRow) → IsIn c.collections r → IsIn c.objects o → (r.id ≡ 0 → ⊥) → o.collection ≡ r.parent → o.name ≡ r.name → ⊥
  pub housed : (o : ObjectRow) → IsIn c.objects o → has_collection c o.collection ≡ true

-- ---- tests taken apart

not_so : (b : Bool) → not b ≡ true → b ≡ false
not_so true e = absurd cc
not_so false e = refl

-- what no row passes, this one does not
pub none_in : {X : Type 0} (p : X → Bool) (rows : List X) → list_any p rows ≡ false → (x : X) → IsIn rows x → p x ≡ true → ⊥
none_in p rows e x here passes = let some : list_any p rows ≡ true = any_from_in p rows x here passes in absurd cc

same_names : (a b : Text) → a ≡ b → same_text a b ≡ true
same_names a b e = (same_text-Decides a b).1 e

-- what a collection but `/` asks
pub record AsksCollection (c : Cat) (r : CollectionRow) : Type 0 where
  pub parent_there : has_collection c r.parent ≡ true
  pub not_below : lies_in c r.id r.parent ≡ false
  pub named : is_name r.name ≡ true
  pub collections : (s : CollectionRow) → IsIn c.collections s → (s.id ≡ r.id → ⊥) → (s.id ≡ 0 → ⊥) → s.parent ≡ r.parent → s.name ≡ r.name → ⊥
  pub objects : (o : ObjectRow) → IsIn c.objects o → o.collection ≡ r.parent → o.name ≡ r.name → ⊥

object_named : (o : ObjectRow) (parent : ℕ) (name : Text) → o.collection ≡ parent → o.name ≡ name → is_object_named parent name o ≡ true
object_named o parent name is same = rw (eq-eqb o.collection parent is, same_names o.name name same) refl

child_named : (s : CollectionRow) (parent : ℕ) (name : Text) → (s.id ≡ 0 → ⊥) → s.parent ≡ parent → s.name ≡ name → is_child_named parent name s ≡ true
child_named s parent name not_root is same = rw (eq-eqb s.parent parent is, ne_eqb s.id 0 not_root, same_names s.name name same) refl

pub asks_collection : (c : Cat) (r : CollectionRow) → (r.id ≡ 0 → ⊥) → collection_fits c r ≡ true → AsksCollection c r
asks_collection c r not_root e =
    let other : (r.id == 0) ≡ false = ne_eqb r.id 0 not_root in
    let all : (has_collection c r.parent && not (lies_in c r.id r.parent) && is_name r.name && free_for_collection c r.id r.parent r.name) ≡ true = rw (other, collection_fits) at e in
    let parts = and_parts (has_collection c r.parent && not (lies_in c r.id r.parent) && is_name r.name) (free_for_collection c r.id r.parent r.name) all in
    let front = and_parts (has_collection c r.parent && not (lies_in c r.id r.parent)) (is_name r.name) parts.0 in
    let first = and_parts (has_collection c r.parent) (not (lies_in c r.id r.parent)) front.0 in
    let free = and_parts (not (list_any (λ o. not (o.id == r.id) && is_child_named r.parent r.name o) c.collections)) (not (list_any (λ o. is_object_named r.parent r.name o) c.objects)) parts.1 in
    record {
      parent_there = first.0;
      not_below = not_so (lies_in c r.id r.parent) first.1;
      named = front.1;
      collections = λ s here apart below is same.
          none_in (λ o. not (o.id == r.id) && is_child_named r.parent r.name o) c.collections (not_so _ free.0) s here
          (let differs : (s.id == r.id) ≡ false = ne_eqb s.id r.id apart in let named : is_child_named r.parent r.name s ≡ true = child_named s r.parent r.name below is same in rw (differs, named) refl);
      objects = λ o here is same. none_in (λ x. is_object_named r.parent r.name x) c.objects (not_so _ free.1) o here (object_named o r.parent r.name is same);
    }

-- what an object asks
pub record AsksObject (c : Cat) (r : ObjectRow) : Type 0 where
  pub house_there : has_collection c r.collection ≡ true
  pub named : is_name r.name ≡ true
  pub collections : (s : CollectionRow) → IsIn c.collections s → (s.id ≡ 0 → ⊥) → s.parent ≡ r.collection → s.name ≡ r.name → ⊥
  pub objects : (o : ObjectRow) → IsIn c.objects o → (o.id ≡ r.id → ⊥) → o.collection ≡ r.collection → o.name ≡ r.name → ⊥

pub asks_object : (c : Cat) (r : ObjectRow) → object_fits c r ≡ true → AsksObject c r
asks_object c r e =
    let parts = and_parts (has_collection c r.collection && is_name r.name) (free_for_object c r.id r.collection r.name) e in
    let front = and_parts (has_collection c r.collection) (is_name r.name) parts.0 in
    let free = and_parts (not (list_any (λ o. is_child_named r.collection r.name o) c.collections)) (not (list_any (λ o. not (o.id == r.id) && is_object_named r.collection r.name o) c.objects)) parts.1 in
    record {
      house_there = front.0;
      named = front.1;
      collections = λ s here below is same. none_in (λ o. is_child_named r.collection r.name o) c.collections (not_so _ free.0) s here (child_named s r.collection r.name below is same);
      objects = λ o here apart is same.
          none_in (λ x. not (x.id == r.id) && is_object_named r.collection r.name x) c.objects (not_so _ free.1) o here
          (let differs : (o.id == r.id) ≡ false = ne_eqb o.id r.id apart in let named : is_object_named r.collection r.name o ≡ true = object_named o r.collection r.name is same in rw (differs, named) refl);
    }

-- ---- rows put and dropped

abbrev pub with_collection : Cat → CollectionRow → Cat
with_collection c r = record c { collections = with_row collection_cmp c.collections r }

abbrev pub without_collection : Cat → ℕ → Cat
without_collection c id = record c { collections = filter (λ r. not (r.id == id)) c.collections }

abbrev pub with_object : Cat → ObjectRow → Cat
with_object c r = record c { objects = with_row object_cmp c.objects r }

abbrev pub without_object : Cat → ℕ → Cat
without_object c id = record c { objects = filter (λ r. not (r.id == id)) c.objects }

-- a collection that is there has a way, in as many steps as there are collections
pub way_of : (c : Cat) → IsForest c → (id : ℕ) → has_collection c id ≡ true → (names : Path) × (names_within (length c.collections) c id ≡ Some names)
way_of c f id has =
    let found = in_from_any (λ r. r.id == id) c.collections has in
    let way = f.placed found.0 found.1 in
    let up : names_within way.0 c id ≡ Some way.1 = subst (λ i. names_within way.0 c i ≡ Some way.1) (eqb-true found.0.id id found.2) way.2 in
    (way.1, within_all c f.parents way.0 id way.1 up has)

module _ (c : Cat) (f : IsForest c) (sorted : IsStrictlySortedBy collection_cmp c.collections) where
  module _ (r : CollectionRow) (fits : collection_fits c r ≡ true) where
    same_rows : (j : ℕ) → (j ≡ r.id → ⊥) → collection (with_collection c r) j ≡ collection c j
    same_rows j apart = put_other (λ (x : CollectionRow). x.id) c.collections r j apart

    its_way : IsPlaced (with_collection c r) r.id
    its_way = elim (eqb_tells r.id 0) [
      | inl is ↦ (1, [], within_root (with_collection c r) 0 r.id is.1)
      | inr not_root ↦
          let asks = asks_collection c r not_root.1 fits in
          let way = way_of c f r.parent asks.parent_there in
          let past : names_within (length c.collections) (with_collection c r) r.parent ≡ Some way.0 =
          within_past c (with_collection c r) r.id same_rows (length c.collections) r.parent way.0 way.1 asks.not_below in
          (suc (length c.collections), r.name ∷ way.0, within_further (with_collection c r) (length c.collections) r.id r way.0 not_root.1 (put_found (λ (x : CollectionRow). x.id) c.collections r) past)
    ]

    pub forest-with_collection : IsForest (with_collection c r)
    forest-with_collection = record {
      parents = λ x here not_root. elim (put_in (λ (y : CollectionRow). y.id) c.collections r x sorted here) [
        | inl is ↦ stays x.parent (subst (λ (y : CollectionRow). has_collection c y.parent ≡ true) is (asks_collection c r (λ e. not_root (ap (λ (y : CollectionRow). y.id) (sym is) ∙ e)) fits).parent_there)
        | inr was ↦ stays x.parent (f.parents x was.0 not_root)
      ];
      placed = λ x here. elim (put_in (λ (y : CollectionRow). y.id) c.collections r x sorted here) [
        | inl is ↦ subst (λ (y : CollectionRow). IsPlaced (with_collection c r) y.id) is its_way
        | inr was ↦ let way = f.placed x was.0 in placed_again c (with_collection c r) r.id same_rows its_way way.0 x.id way.1 way.2
      ];
      collections = λ x y here there x_below y_below is same. elim (put_in (λ (z : CollectionRow). z.id) c.collections r x sorted here) [
        | inl x_is ↦ elim (put_in (λ (z : CollectionRow). z.id) c.collections r y sorted there) [
          | inl y_is ↦ ap (λ (z : CollectionRow). z.id) (sym x_is ∙ y_is)
          | inr y_was ↦ absurd (taken y y_was.0 y_was.1 y_below (sym is ∙ ap (λ (z : CollectionRow). z.parent) (sym x_is)) (sym same ∙ ap (λ (z : CollectionRow). z.name) (sym x_is))
              (λ e. x_below (ap (λ (z : CollectionRow). z.id) (sym x_is) ∙ e)))
        ]
        | inr x_was ↦ elim (put_in (λ (z : CollectionRow). z.id) c.collections r y sorted there) [
          | inl y_is ↦ absurd (taken x x_was.0 x_was.1 x_below (is ∙ ap (λ (z : CollectionRow). z.parent) (sym y_is)) (same ∙ ap (λ (z : CollectionRow). z.name) (sym y_is))
              (λ e. y_below (ap (λ (z : CollectionRow). z.id) (sym y_is) ∙ e)))
          | inr y_was ↦ f.collections x y x_was.0 y_was.0 x_below y_below is same
        ]
      ];
      objects = f.objects;
      mixed = λ x o here there x_below is same. elim (put_in (λ (z : CollectionRow). z.id) c.collections r x sorted here) [
        | inl x_is ↦ (asks_collection c r (λ e. x_below (ap (λ (z : CollectionRow). z.id) (sym x_is) ∙ e)) fits).objects o there
            (is ∙ ap (λ (z : CollectionRow). z.parent) (sym x_is)) (same ∙ ap (λ (z : CollectionRow). z.name) (sym x_is))
        | inr x_was ↦ f.mixed x o x_was.0 there x_below is same
      ];
      housed = λ o here. stays o.collection (f.housed o here);
    }
      where
        stays : (j : ℕ) → has_collection c j ≡ true → has_collection (with_collection c r) j ≡ true
        stays j has = put_has (λ (x : CollectionRow). x.id) c.collections r j has

        taken : (s : CollectionRow) → IsIn c.collections s → (s.id ≡ r.id → ⊥) → (s.id ≡ 0 → ⊥) → s.parent ≡ r.parent → s.name ≡ r.name → (r.id ≡ 0 → ⊥) → ⊥
        taken s here apart below is same not_root = (asks_collection c r not_root fits).collections s here apart below is same

  module _ (id : ℕ) (fits : may_drop_collection c id ≡ true) where
    empty : is_empty_collection c id ≡ true
    empty = (and_parts (has_collection c id) (is_empty_collection c id) (and_parts (has_collection c id && is_empty_collection c id) (not (is_told_of c kind.Collection id)) fits).0).1

    pub no_child : (s : CollectionRow) → IsIn c.collections s → (s.id ≡ 0 → ⊥) → s.parent ≡ id → ⊥
    no_child s here below is =
        none_in (λ x. is_child id x) c.collections (not_so _ (and_parts (not (list_any (λ x. is_child id x) c.collections)) (not (list_any (λ x. x.collection == id) c.objects)) empty).0) s here
        (rw (eq-eqb s.parent id is, ne_eqb s.id 0 below) refl)

    pub no_object : (o : ObjectRow) → IsIn c.objects o → o.collection ≡ id → ⊥
    no_object o here is =
        none_in (λ x. x.collection == id) c.objects (not_so _ (and_parts (not (list_any (λ x. is_child id x) c.collections)) (not (list_any (λ x. x.collection == id) c.objects)) empty).1) o here
        (eq-eqb o.collection id is)

    pub forest-without_collection : IsForest (without_collection c id)
    forest-without_collection = record {
      parents = λ x here not_root. let was = dropped_in (λ (y : CollectionRow). y.id) c.collections id x here in
          stays x.parent (no_child x was.0 not_root) (f.parents x was.0 not_root);
      placed = λ x here.
          let was = dropped_in (λ (y : CollectionRow). y.id) c.collections id x here in
          let way = f.placed x was.0 in (
            way.0,
            way.1,
            within_beside c (without_collection c id) id (λ j apart. dropped_other (λ (y : CollectionRow). y.id) c.collections id j apart)
                (λ s j below is. let its = its_row c j s is in no_child s its.0 (λ e. below (sym its.1 ∙ e))) way.0 x.id way.1 was.1 way.2,
          );
      collections = λ x y here there. f.collections x y (dropped_in (λ (z : CollectionRow). z.id) c.collections id x here).0 (dropped_in (λ (z : CollectionRow). z.id) c.collections id y there).0;
      objects = f.objects;
      mixed = λ x o here there. f.mixed x o (dropped_in (λ (z : CollectionRow). z.id) c.collections id x here).0 there;
      housed = λ o here. stays o.collection (no_object o here) (f.housed o here);
    }
      where
        stays : (j : ℕ) → (j ≡ id → ⊥) → has_collection c j ≡ true → has_collection (without_collection c id) j ≡ true
        stays j apart has = dropped_has (λ (x : CollectionRow). x.id) c.collections id j apart has

-- the same collections are placed where they were
same_way : (c d : Cat) → ((j : ℕ) → collection d j ≡ collection c j) → (id : ℕ) → IsPlaced c id → IsPlaced d id
same_way c d same id way = (way.0, way.1, within_kept c d same way.0 id way.1 way.2)

module _ (c : Cat) (f : IsForest c) (sorted : IsStrictlySortedBy object_cmp c.objects) where
  module _ (r : ObjectRow) (fits : object_fits c r ≡ true) where
    pub forest-with_object : IsForest (with_object c r)
    forest-with_object = record {
      parents = f.parents;
      placed = λ x here. same_way c (with_object c r) (λ j. refl) x.id (f.placed x here);
      collections = f.collections;
      objects = λ x y here there is same. elim (put_in (λ (z : ObjectRow). z.id) c.objects r x sorted here) [
        | inl x_is ↦ elim (put_in (λ (z : ObjectRow). z.id) c.objects r y sorted there) [
          | inl y_is ↦ ap (λ (z : ObjectRow). z.id) (sym x_is ∙ y_is)
          | inr y_was ↦ absurd (asks.objects y y_was.0 y_was.1 (sym is ∙ ap (λ (z : ObjectRow). z.collection) (sym x_is)) (sym same ∙ ap (λ (z : ObjectRow). z.name) (sym x_is)))
        ]
        | inr x_was ↦ elim (put_in (λ (z : ObjectRow). z.id) c.objects r y sorted there) [
          | inl y_is ↦ absurd (asks.objects x x_was.0 x_was.1 (is ∙ ap (λ (z : ObjectRow). z.collection) (sym y_is)) (same ∙ ap (λ (z : ObjectRow). z.name) (sym y_is)))
          | inr y_was ↦ f.objects x y x_was.0 y_was.0 is same
        ]
      ];
      mixed = λ s o here there below is same. elim (put_in (λ (z : ObjectRow). z.id) c.objects r o sorted there) [
        | inl o_is ↦ asks.collections s here below (sym is ∙ ap (λ (z : ObjectRow). z.collection) (sym o_is)) (sym same ∙ ap (λ (z : ObjectRow). z.name) (sym o_is))
        | inr o_was ↦ f.mixed s o here o_was.0 below is same
      ];
      housed = λ o here. elim (put_in (λ (z : ObjectRow). z.id) c.objects r o sorted here) [
        | inl o_is ↦ subst (λ (z : ObjectRow). has_collection c z.collection ≡ true) o_is asks.house_there
        | inr o_was ↦ f.housed o o_was.0
      ];
    }
      where
        asks : AsksObject c r
        asks = asks_object c r fits

  pub forest-without_object : (id : ℕ) → IsForest (without_object c id)
  forest-without_object id = record {
    parents = f.parents;
    placed = λ x here. same_way c (without_object c id) (λ j. refl) x.id (f.placed x here);
    collections = f.collections;
    objects = λ x y here there. f.objects x y (was x here) (was y there);
    mixed = λ s o here there. f.mixed s o here (was o there);
    housed = λ o here. f.housed o (was o here);
  }
    where
      was : (o : ObjectRow) → IsIn (without_object c id).objects o → IsIn c.objects o
      was o here = (dropped_in (λ (z : ObjectRow). z.id) c.objects id o here).0

-- where collections and objects are the same
pub forest-same : (c d : Cat) → d.collections ≡ c.collections → d.objects ≡ c.objects → IsForest c → IsForest d
forest-same c d collections_same objects_same f = record {
  parents = λ x here not_root. subst (λ (rows : List CollectionRow). list_any (λ r. r.id == x.parent) rows ≡ true) (sym collections_same) (f.parents x (was x here) not_root);
  placed = λ x here. same_way c d (λ j. ap (λ (rows : List CollectionRow). find (λ r. r.id == j) rows) collections_same) x.id (f.placed x (was x here));
  collections = λ x y here there. f.collections x y (was x here) (was y there);
  objects = λ x y here there. f.objects x y (object_was x here) (object_was y there);
  mixed = λ s o here there. f.mixed s o (was s here) (object_was o there);
  housed = λ o here. subst (λ (rows : List CollectionRow). list_any (λ r. r.id == o.collection) rows ≡ true) (sym collections_same) (f.housed o (object_was o here));
}
  where
    was : (r : CollectionRow) → IsIn d.collections r → IsIn c.collections r
    was r here = subst (λ (rows : List CollectionRow). IsIn rows r) collections_same here

    object_was : (o : ObjectRow) → IsIn d.objects o → IsIn c.objects o
    object_was o here = subst (λ (rows : List ObjectRow). IsIn rows o) objects_same here
