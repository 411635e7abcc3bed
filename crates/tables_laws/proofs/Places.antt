-- Each collection and each object of a sound catalogue is at a place of its own, and each user and each resource has a
-- name of its own.
use Rattle.std.proofs.Common.{◌≡◌, ◌==◌, ◌++◌, ℕ, suc, true, cond, length, List, [], ◌∷◌, Option, Some, None, inl, inr, refl, sym, ap, ◌∙◌, subst, eq-eqb}
use Rattle.std.specs.Prelude.{find, option_map, reverse, unwrap_or}
use Rattle.std.specs.List.{list_any}
use Rattle.std.proofs.lemmas.Bool.Decides.{eqb_tells}
use Rattle.std.proofs.lemmas.List.{reverse-append}
use Rattle.grid_model.specs.Names.{Text, Path}
use Rattle.grid_model.specs.Rows.{Cat, collection, object, has_collection, has_object, has_user, has_resource, item_there, kind_of, id_of}
use Rattle.grid_model.specs.RowPaths.{names_up, collection_path, object_path, item_path}
use Rattle.grid_model.specs.RowTrees.{IsTree}
use Rattle.grid_model.specs.Applying.{gives_access}
use Rattle.grid_model.specs.Grid.{Thing, object_at, collection_at, resource_named, user_named, thing_names}
use Rattle.grid_model.specs.RowGrids.{CollectionPaths, collection_place, object_place, item_place, thing_of, user_name, resource_name}
use Rattle.grid_model.specs.declared.deltas.Item.{Item}
use Rattle.grid_model.specs.declared.deltas.Item.TheVariants as item
use Rattle.grid_model.specs.declared.grid.ItemKind.{ItemKind}
use Rattle.grid_model.specs.declared.grid.ItemKind.TheVariants as kind
use Rattle.grid_model.specs.declared.deltas.UserRow.{UserRow}
use Rattle.grid_model.specs.declared.deltas.ResourceRow.{ResourceRow}
use Rattle.grid_model.specs.declared.deltas.CollectionRow.{CollectionRow}
use Rattle.grid_model.specs.declared.deltas.ObjectRow.{ObjectRow}
use Rattle.tables_laws.proofs.Rows.{IsIn, any_from_in}
use Rattle.tables_laws.proofs.Numbered.{found_in, one_number}
use Rattle.tables_laws.proofs.Ways.{its_row, within_root, within_further, within_same, within_all}
use Rattle.tables_laws.proofs.Forest.{way_of}
use Rattle.tables_laws.proofs.Trees.{tree_from_forest}
use Rattle.tables_laws.proofs.Sound.{IsSound}

pub place_is : (c : Cat) (id : ℕ) (path : Path) → collection_path c id ≡ Some path → collection_place (collection_path c) id ≡ path
place_is c id path e = ap (λ (o : Option Path). unwrap_or o []) e

module _ (c : Cat) (s : IsSound c) where
  pub tree_of : IsTree c
  tree_of = tree_from_forest c s.forest s.cat.collections.ordered s.cat.objects.ordered

  pub collection_there : (x : CollectionRow) → IsIn c.collections x → has_collection c x.id ≡ true
  collection_there x here = any_from_in (λ y. y.id == x.id) c.collections x here (eq-eqb x.id x.id refl)

  pub object_there : (x : ObjectRow) → IsIn c.objects x → has_object c x.id ≡ true
  object_there x here = any_from_in (λ y. y.id == x.id) c.objects x here (eq-eqb x.id x.id refl)

  pub collection_placed : (id : ℕ) → has_collection c id ≡ true → collection_path c id ≡ Some (collection_place (collection_path c) id)
  collection_placed id has =
      let way = way_of c s.forest id has in
      let at : collection_path c id ≡ Some (reverse way.0) = ap (λ (o : Option Path). option_map reverse o) way.1 in
      at ∙ ap Some (sym (place_is c id (reverse way.0) at))

  pub object_placed : (x : ObjectRow) → IsIn c.objects x → object_path c x ≡ Some (object_place (collection_path c) x)
  object_placed x here =
      let way = way_of c s.forest x.collection (s.forest.housed x here) in
      let at : collection_path c x.collection ≡ Some (reverse way.0) = ap (λ (o : Option Path). option_map reverse o) way.1 in
      ap (λ (o : Option Path). option_map (λ names. reverse (x.name ∷ names)) o) way.1
      ∙ ap Some (reverse-append (x.name ∷ []) way.0 ∙ ap (λ (p : Path). p ++ x.name ∷ []) (sym (place_is c x.collection (reverse way.0) at)))

  pub object_found : (x : ObjectRow) → IsIn c.objects x → object c x.id ≡ Some x
  object_found x here = found_in (λ (y : ObjectRow). y.id) c.objects x s.cat.objects.ordered here

  item_placed : (x : ObjectRow) → IsIn c.objects x → item_path c (item.Object x.id) ≡ Some (object_place (collection_path c) x)
  item_placed x here = ap (λ (o : Option ObjectRow). elim o as (λ _. Option Path) [ None ↦ None | Some r ↦ object_path c r ]) (object_found x here) ∙ object_placed x here

  pub collections_apart : (a b : ℕ) → has_collection c a ≡ true → has_collection c b ≡ true → collection_place (collection_path c) a ≡ collection_place (collection_path c) b → a ≡ b
  collections_apart a b a_has b_has same =
      ap (λ (i : Item). id_of i) (tree_of.apart (item.Collection a) (item.Collection b) (collection_place (collection_path c) b) (collection_placed a a_has ∙ ap Some same) (collection_placed b b_has))

  pub objects_apart : (x y : ObjectRow) → IsIn c.objects x → IsIn c.objects y → object_place (collection_path c) x ≡ object_place (collection_path c) y → x ≡ y
  objects_apart x y here there same =
      one_number (λ (z : ObjectRow). z.id) c.objects x y s.cat.objects.ordered here there
      (ap (λ (i : Item). id_of i) (tree_of.apart (item.Object x.id) (item.Object y.id) (object_place (collection_path c) y) (item_placed x here ∙ ap Some same) (item_placed y there)))

  -- no object is where a collection is
  pub mixed_apart : (id : ℕ) (o : ObjectRow) → has_collection c id ≡ true → IsIn c.objects o → collection_place (collection_path c) id ≡ object_place (collection_path c) o → ⊥
  mixed_apart id o has here same =
      let items : item.Collection id ≡ item.Object o.id = tree_of.apart (item.Collection id) (item.Object o.id) (object_place (collection_path c) o) (collection_placed id has ∙ ap Some same) (item_placed o here) in
      cc

  -- `/` has no names, and another collection has its own behind those of its parent
  pub root_place : has_collection c 0 ≡ true → collection_place (collection_path c) 0 ≡ []
  root_place has =
      let way = way_of c s.forest 0 has in
      let none : way.0 ≡ [] = within_same c (length c.collections) 1 0 way.0 [] way.1 (within_root c 0 0 refl) in
      ap (λ (o : Option Path). unwrap_or (option_map reverse o) []) (way.1 ∙ ap Some none)

  pub row_has : (id : ℕ) (r : CollectionRow) → collection c id ≡ Some r → has_collection c id ≡ true
  row_has id r found = let its = its_row c id r found in subst (λ i. has_collection c i ≡ true) its.1 (collection_there r its.0)

  pub parent_has : (id : ℕ) (r : CollectionRow) → (id ≡ 0 → ⊥) → collection c id ≡ Some r → has_collection c r.parent ≡ true
  parent_has id r not_root found = let its = its_row c id r found in s.forest.parents r its.0 (λ h. not_root (sym its.1 ∙ h))

  pub child_place : (id : ℕ) (r : CollectionRow) → (id ≡ 0 → ⊥) → collection c id ≡ Some r → collection_place (collection_path c) id ≡ collection_place (collection_path c) r.parent ++ r.name ∷ []
  child_place id r not_root found =
      let way = way_of c s.forest r.parent (parent_has id r not_root found) in
      let all : names_up c id ≡ Some (r.name ∷ way.0) =
      within_all c s.forest.parents (suc (length c.collections)) id (r.name ∷ way.0) (within_further c (length c.collections) id r way.0 not_root found way.1) (row_has id r found) in
      ap (λ (o : Option Path). unwrap_or (option_map reverse o) []) all
      ∙ reverse-append (r.name ∷ []) way.0
      ∙ ap (λ (p : Path). p ++ r.name ∷ []) (sym (place_is c r.parent (reverse way.0) (ap (λ (o : Option Path). option_map reverse o) way.1)))

-- ---- items by kind and id

abbrev pub item_of : ItemKind → ℕ → Item
item_of kind.Object id = item.Object id
item_of kind.Collection id = item.Collection id
item_of kind.Resource id = item.Resource id
item_of kind.User id = item.User id

kind-item_of : (k : ItemKind) (id : ℕ) → kind_of (item_of k id) ≡ k
kind-item_of kind.Object id = refl
kind-item_of kind.Collection id = refl
kind-item_of kind.Resource id = refl
kind-item_of kind.User id = refl

id-item_of : (k : ItemKind) (id : ℕ) → id_of (item_of k id) ≡ id
id-item_of kind.Object id = refl
id-item_of kind.Collection id = refl
id-item_of kind.Resource id = refl
id-item_of kind.User id = refl

thing_kind : Thing → ItemKind
thing_kind (object_at p) = kind.Object
thing_kind (collection_at p) = kind.Collection
thing_kind (resource_named n) = kind.Resource
thing_kind (user_named n) = kind.User

-- the one name of a resource or a user
thing_name : Thing → Text
thing_name (object_at p) = []
thing_name (collection_at p) = []
thing_name (resource_named n) = n
thing_name (user_named n) = n

kind-thing_of : (c : Cat) (paths : CollectionPaths) (k : ItemKind) (id : ℕ) → thing_kind (thing_of c paths k id) ≡ k
unfolding thing_kind
kind-thing_of c paths kind.Object id = refl
kind-thing_of c paths kind.Collection id = refl
kind-thing_of c paths kind.Resource id = refl
kind-thing_of c paths kind.User id = refl

-- a row that is there by its id
pub row_there : {X : Type 0} (number : X → ℕ) (rows : List X) (id : ℕ) → list_any (λ r. number r == id) rows ≡ true → (x : X) × IsIn rows x × (number x ≡ id) × (find (λ r. number r == id) rows ≡ Some x)
row_there number [] id has = absurd cc
row_there number (r ∷ rows) id has = elim (eqb_tells (number r) id) [
  | inl is ↦ (r, inl refl, is.1, ap (λ b. cond b (Some r) (find (λ x. number x == id) rows)) is.0)
  | inr not ↦
      let later = row_there number rows id (rw not.0 at has) in
      (later.0, inr later.1, later.2, ap (λ b. cond b (Some r) (find (λ x. number x == id) rows)) not.0 ∙ later.3)
]

module _ (c : Cat) (s : IsSound c) where
  -- users and resources have names of their own
  pub user_names_apart : (a b : ℕ) → has_user c a ≡ true → has_user c b ≡ true → user_name c a ≡ user_name c b → a ≡ b
  user_names_apart a b a_has b_has same =
      let x = row_there (λ (r : UserRow). r.id) c.users a a_has in
      let y = row_there (λ (r : UserRow). r.id) c.users b b_has in
      let x_name : user_name c a ≡ x.0.name = ap (λ (o : Option UserRow). unwrap_or (option_map (λ r. r.name) o) []) x.3 in
      let y_name : user_name c b ≡ y.0.name = ap (λ (o : Option UserRow). unwrap_or (option_map (λ r. r.name) o) []) y.3 in
      sym x.2 ∙ s.names.users_apart x.0 y.0 x.1 y.1 (sym x_name ∙ same ∙ y_name) ∙ y.2

  pub resource_names_apart : (a b : ℕ) → has_resource c a ≡ true → has_resource c b ≡ true → resource_name c a ≡ resource_name c b → a ≡ b
  resource_names_apart a b a_has b_has same =
      let x = row_there (λ (r : ResourceRow). r.id) c.resources a a_has in
      let y = row_there (λ (r : ResourceRow). r.id) c.resources b b_has in
      let x_name : resource_name c a ≡ x.0.name = ap (λ (o : Option ResourceRow). unwrap_or (option_map (λ r. r.name) o) []) x.3 in
      let y_name : resource_name c b ≡ y.0.name = ap (λ (o : Option ResourceRow). unwrap_or (option_map (λ r. r.name) o) []) y.3 in
      sym x.2 ∙ s.names.resources_apart x.0 y.0 x.1 y.1 (sym x_name ∙ same ∙ y_name) ∙ y.2

  -- an item that gives access has its place
  pub item_at : (k : ItemKind) (id : ℕ) → gives_access k ≡ true → item_there c k id ≡ true → item_path c (item_of k id) ≡ Some (item_place c (collection_path c) k id)
  item_at kind.Object id gives has =
      let x = row_there (λ (r : ObjectRow). r.id) c.objects id has in
      let place : item_place c (collection_path c) kind.Object id ≡ object_place (collection_path c) x.0 = ap (λ (o : Option ObjectRow). unwrap_or (option_map (object_place (collection_path c)) o) []) x.3 in
      ap (λ i. item_path c (item.Object i)) (sym x.2) ∙ item_placed c s x.0 x.1 ∙ ap Some (sym place)
  item_at kind.Collection id gives has = collection_placed c s id has
  item_at kind.Resource id gives has = absurd cc
  item_at kind.User id gives has = absurd cc

  pub items_apart : (k l : ItemKind) (a b : ℕ) → gives_access k ≡ true → gives_access l ≡ true → item_there c k a ≡ true → item_there c l b ≡ true
      → item_place c (collection_path c) k a ≡ item_place c (collection_path c) l b → (k ≡ l) × (a ≡ b)
  items_apart k l a b k_gives l_gives a_has b_has same =
      let items = (tree_of c s).apart (item_of k a) (item_of l b) (item_place c (collection_path c) l b) (item_at k a k_gives a_has ∙ ap Some same) (item_at l b l_gives b_has) in
      (sym (kind-item_of k a) ∙ ap (λ (i : Item). kind_of i) items ∙ kind-item_of l b, sym (id-item_of k a) ∙ ap (λ (i : Item). id_of i) items ∙ id-item_of l b)

  same_kind_apart : (k : ItemKind) (a b : ℕ) → item_there c k a ≡ true → item_there c k b ≡ true → thing_of c (collection_path c) k a ≡ thing_of c (collection_path c) k b → a ≡ b
  unfolding thing_name
  same_kind_apart kind.Object a b a_has b_has same = (items_apart kind.Object kind.Object a b refl refl a_has b_has (ap thing_names same)).1
  same_kind_apart kind.Collection a b a_has b_has same = (items_apart kind.Collection kind.Collection a b refl refl a_has b_has (ap thing_names same)).1
  same_kind_apart kind.Resource a b a_has b_has same = resource_names_apart a b a_has b_has (ap thing_name same)
  same_kind_apart kind.User a b a_has b_has same = user_names_apart a b a_has b_has (ap thing_name same)

  -- each item is another thing
  pub things_apart : (k l : ItemKind) (a b : ℕ) → item_there c k a ≡ true → item_there c l b ≡ true → thing_of c (collection_path c) k a ≡ thing_of c (collection_path c) l b → (k ≡ l) × (a ≡ b)
  things_apart k l a b a_has b_has same =
      let kinds : k ≡ l = sym (kind-thing_of c (collection_path c) k a) ∙ ap thing_kind same ∙ kind-thing_of c (collection_path c) l b in
      (kinds, same_kind_apart k a b a_has (subst (λ m. item_there c m b ≡ true) (sym kinds) b_has) (same ∙ ap (λ m. thing_of c (collection_path c) m b) (sym kinds)))
