-- In a forest each collection and each object has one path of its own.
use Rattle.std.proofs.Common.{◌≡◌, ◌==◌, ◌++◌, ℕ, zero, suc, Bool, true, false, List, [], ◌∷◌, length, Option, Some, None, inl, refl, sym, ap, ◌∙◌, subst, arith, eq-eqb, eqb-true}
use Rattle.std.specs.Prelude.{find, option_map, reverse, is_some, cond, ◌||◌}
use Rattle.std.specs.List.{list_any}
use Rattle.std.specs.List.Sorted.{IsStrictlySortedBy}
use Rattle.std.specs.Cmp.{both_ways}
use Rattle.std.proofs.lemmas.List.{reverse-append, reverse-reverse}
use Rattle.std.proofs.lemmas.Option.{same_Some}
use Rattle.grid_model.specs.Names.{Text, Path, parent}
use Rattle.grid_model.specs.Rows.{Cat, object, has_collection, has_object, item_there, kind_of, id_of, collection_cmp, object_cmp}
use Rattle.grid_model.specs.RowPaths.{names_within, names_up, collection_path, object_path, item_path, is_path_of, collection_at, object_at}
use Rattle.grid_model.specs.Applying.{gives_access}
use Rattle.grid_model.specs.RowTrees.{IsTree}
use Rattle.grid_model.specs.declared.deltas.Item.{Item}
use Rattle.grid_model.specs.declared.deltas.Item.TheVariants as item
use Rattle.grid_model.specs.declared.deltas.CollectionRow.{CollectionRow}
use Rattle.grid_model.specs.declared.deltas.ObjectRow.{ObjectRow}
use Rattle.grid_model.proofs.Below.{parent-push}
use Rattle.grid_model.proofs.Comparing.{same_path-Decides}
use Rattle.tables_laws.proofs.Rows.{IsIn, in_from_any, any_from_in, in_from_find, find_from_in}
use Rattle.tables_laws.proofs.Numbered.{found_in, one_number}
use Rattle.tables_laws.proofs.Ways.{at_root, further, leads_up, within_more, its_row, root_there}
use Rattle.tables_laws.proofs.Forest.{IsForest, way_of}

reverse-same : (a b : Path) → reverse a ≡ reverse b → a ≡ b
reverse-same a b e = sym (reverse-reverse a) ∙ ap (λ (p : Path). reverse p) e ∙ reverse-reverse b

reverse-first : (n : Text) (names : Path) → reverse (n ∷ names) ≡ reverse names ++ n ∷ []
reverse-first n names = reverse-append (n ∷ []) names

parent-reverse : (n : Text) (names : Path) → parent (reverse (n ∷ names)) ≡ Some (reverse names)
parent-reverse n names = ap (λ (p : Path). parent p) (reverse-first n names) ∙ parent-push (reverse names) n

at_path : (o : Option Path) (path : Path) → is_path_of o path ≡ true → o ≡ Some path
at_path None path e = absurd cc
at_path (Some p) path e = ap Some ((same_path-Decides p path).0 e)

-- a row that is found where one passes
find_some : {X : Type 0} (p : X → Bool) (rows : List X) → list_any p rows ≡ true → (x : X) × (find p rows ≡ Some x)
find_some p [] e = absurd cc
find_some p (r ∷ rows) e =
    elim (p r) as (λ b. (b || list_any p rows) ≡ true → (x : _) × (cond b (Some r) (find p rows) ≡ Some x)) [ true ↦ λ h. (r, refl) | false ↦ λ h. find_some p rows h ] e

-- ---- what an item's path is made of

module _ (c : Cat) where
  -- a collection: the names up to `/` the other way round
  names_of : (id : ℕ) (path : Path) → collection_path c id ≡ Some path → names_up c id ≡ Some (reverse path)
  names_of id path e = taken (names_up c id) refl e
    where
      taken : (up : Option Path) → names_up c id ≡ up → option_map reverse up ≡ Some path → names_up c id ≡ Some (reverse path)
      taken None is h = absurd cc
      taken (Some names) is h = is ∙ ap Some (sym (reverse-reverse names) ∙ ap (λ (p : Path). reverse p) (same_Some (reverse names) path h))

  -- an object: its name behind those of its collection
  record IsNamed (r : ObjectRow) (path : Path) : Type 0 where
    above : Path
    up : names_up c r.collection ≡ Some above
    is : path ≡ reverse (r.name ∷ above)

  named_of : (r : ObjectRow) (path : Path) → object_path c r ≡ Some path → IsNamed r path
  named_of r path e = taken (names_up c r.collection) refl e
    where
      taken : (up : Option Path) → names_up c r.collection ≡ up → option_map (λ names. reverse (r.name ∷ names)) up ≡ Some path → IsNamed r path
      taken None is h = absurd cc
      taken (Some names) is h = record { above = names; up = is; is = sym (same_Some (reverse (r.name ∷ names)) path h) }

  record IsObjectAt (id : ℕ) (path : Path) : Type 0 where
    row : ObjectRow
    found : object c id ≡ Some row
    stands : IsIn c.objects row
    has_id : row.id ≡ id
    path_is : object_path c row ≡ Some path

  object_of : (id : ℕ) (path : Path) → item_path c (item.Object id) ≡ Some path → IsObjectAt id path
  object_of id path e = taken (object c id) refl e
    where
      taken : (o : Option ObjectRow) → object c id ≡ o → elim o [ None ↦ None | Some r ↦ object_path c r ] ≡ Some path → IsObjectAt id path
      taken None is h = absurd cc
      taken (Some r) is h =
          let its = in_from_find (λ x. x.id == id) c.objects r is in
          record { row = r; found = is; stands = its.0; has_id = eqb-true r.id id its.1; path_is = h }

module _ (c : Cat) (f : IsForest c) (sorted : IsStrictlySortedBy collection_cmp c.collections) (objects_sorted : IsStrictlySortedBy object_cmp c.objects) where
  -- one collection a way
  one_place : (k j a b : ℕ) (names : Path) → names_within k c a ≡ Some names → names_within j c b ≡ Some names → a ≡ b
  one_place zero j a b names e g = absurd cc
  one_place (suc k) zero a b names e g = absurd cc
  one_place (suc k) (suc j) a b names e g = elim (leads_up c k a names e) [
    | at_root a_is none ↦ elim (leads_up c j b names g) [
      | at_root b_is _ ↦ a_is ∙ sym b_is
      | further _ s rest _ _ is ↦ absurd cc
    ]
    | further a_below r rest r_some r_up r_is ↦ elim (leads_up c j b names g) [
      | at_root _ none ↦ absurd cc
      | further b_below s others s_some s_up s_is ↦
          let names_same : r.name ≡ s.name = cc in
          let rest_same : rest ≡ others = cc in
          let r_its = its_row c a r r_some in
          let s_its = its_row c b s s_some in
          let parents : r.parent ≡ s.parent = one_place k j r.parent s.parent rest r_up (s_up ∙ ap Some (sym rest_same)) in
          sym r_its.1 ∙ f.collections r s r_its.0 s_its.0 (λ h. a_below (sym r_its.1 ∙ h)) (λ h. b_below (sym s_its.1 ∙ h)) parents names_same ∙ s_its.1
    ]
  ]

  -- no object has the way of a collection
  no_object_there : (k id : ℕ) (r : ObjectRow) (above : Path) → IsIn c.objects r → names_within k c id ≡ Some (r.name ∷ above) → names_up c r.collection ≡ Some above → ⊥
  no_object_there zero id r above here e up = cc
  no_object_there (suc k) id r above here e up = elim (leads_up c k id (r.name ∷ above) e) [
    | at_root _ none ↦ cc
    | further below s rest some s_up is ↦
        let names_same : r.name ≡ s.name = cc in
        let rest_same : rest ≡ above = cc in
        let its = its_row c id s some in
        let parents : r.collection ≡ s.parent = one_place (length c.collections) k r.collection s.parent above up (s_up ∙ ap Some rest_same) in
        f.mixed s r its.0 here (λ h. below (sym its.1 ∙ h)) parents names_same
  ]

  collections_apart : (a b : ℕ) (path : Path) → collection_path c a ≡ Some path → collection_path c b ≡ Some path → a ≡ b
  collections_apart a b path e g = one_place (length c.collections) (length c.collections) a b (reverse path) (names_of c a path e) (names_of c b path g)

  mixed_apart : (a b : ℕ) (path : Path) → collection_path c a ≡ Some path → item_path c (item.Object b) ≡ Some path → ⊥
  mixed_apart a b path e g =
      let at = object_of c b path g in
      let named = named_of c at.row path at.path_is in
      let turned : reverse path ≡ at.row.name ∷ named.above = ap (λ (p : Path). reverse p) named.is ∙ reverse-reverse (at.row.name ∷ named.above) in
      no_object_there (length c.collections) a at.row named.above at.stands (names_of c a path e ∙ ap Some turned) named.up

  rows_apart : (r s : ObjectRow) (path : Path) → IsIn c.objects r → IsIn c.objects s → object_path c r ≡ Some path → object_path c s ≡ Some path → r.id ≡ s.id
  rows_apart r s path here there e g =
      let one = named_of c r path e in
      let other = named_of c s path g in
      let same : r.name ∷ one.above ≡ s.name ∷ other.above = reverse-same (r.name ∷ one.above) (s.name ∷ other.above) (sym one.is ∙ other.is) in
      let names_same : r.name ≡ s.name = cc in
      let above_same : one.above ≡ other.above = cc in
      f.objects r s here there (one_place (length c.collections) (length c.collections) r.collection s.collection one.above one.up (other.up ∙ ap Some (sym above_same))) names_same

  objects_apart : (a b : ℕ) (path : Path) → item_path c (item.Object a) ≡ Some path → item_path c (item.Object b) ≡ Some path → a ≡ b
  objects_apart a b path e g =
      let one = object_of c a path e in
      let other = object_of c b path g in
      sym one.has_id ∙ rows_apart one.row other.row path one.stands other.stands one.path_is other.path_is ∙ other.has_id

  items_apart : (x y : Item) (path : Path) → item_path c x ≡ Some path → item_path c y ≡ Some path → x ≡ y
  items_apart (item.Collection a) (item.Collection b) path e g = ap item.Collection (collections_apart a b path e g)
  items_apart (item.Collection a) (item.Object b) path e g = absurd (mixed_apart a b path e g)
  items_apart (item.Collection a) (item.Resource b) path e g = absurd cc
  items_apart (item.Collection a) (item.User b) path e g = absurd cc
  items_apart (item.Object a) (item.Collection b) path e g = absurd (mixed_apart b a path g e)
  items_apart (item.Object a) (item.Object b) path e g = ap item.Object (objects_apart a b path e g)
  items_apart (item.Object a) (item.Resource b) path e g = absurd cc
  items_apart (item.Object a) (item.User b) path e g = absurd cc
  items_apart (item.Resource a) y path e g = absurd cc
  items_apart (item.User a) y path e g = absurd cc

  -- ---- what is there has a path

  path_there : (id : ℕ) → has_collection c id ≡ true → is_some (collection_path c id) ≡ true
  path_there id has = let way = way_of c f id has in ap (λ (o : Option Path). is_some (option_map reverse o)) way.1

  there_by_way : (k id : ℕ) (names : Path) → length c.collections ≡ k → names_within k c id ≡ Some names → has_collection c id ≡ true
  there_by_way zero id names count e = absurd cc
  there_by_way (suc k) id names count e = elim (leads_up c k id names e) [
    | at_root is none ↦ ap (λ i. has_collection c i) is ∙ first c.collections refl count
    | further below r rest some up is ↦ let its = its_row c id r some in any_from_in (λ x. x.id == id) c.collections r its.0 (eq-eqb r.id id its.1)
  ]
    where
      first : (rows : List CollectionRow) → c.collections ≡ rows → length rows ≡ suc k → has_collection c 0 ≡ true
      first [] is h = absurd (omega arith)
      first (r ∷ rows) is h =
          let here : IsIn c.collections r = subst (λ (l : List CollectionRow). IsIn l r) (sym is) (inl refl) in
          let way = f.placed r here in
          root_there c f.parents way.0 r.id way.1 way.2 (any_from_in (λ x. x.id == r.id) c.collections r here (eq-eqb r.id r.id refl))

  path_only_there : (id : ℕ) → is_some (collection_path c id) ≡ true → has_collection c id ≡ true
  path_only_there id some = taken (collection_path c id) refl some
    where
      taken : (o : Option Path) → collection_path c id ≡ o → is_some o ≡ true → has_collection c id ≡ true
      taken None is h = absurd cc
      taken (Some path) is h = there_by_way (length c.collections) id (reverse path) refl (names_of c id path is)

  object_path_there : (r : ObjectRow) → IsIn c.objects r → (path : Path) × (object_path c r ≡ Some path)
  object_path_there r here =
      let way = way_of c f r.collection (f.housed r here) in
      (reverse (r.name ∷ way.0), ap (λ (o : Option Path). option_map (λ names. reverse (r.name ∷ names)) o) way.1)

  object_there : (id : ℕ) → has_object c id ≡ true → is_some (item_path c (item.Object id)) ≡ true
  object_there id has =
      let found = find_some (λ r. r.id == id) c.objects has in
      let its = in_from_find (λ r. r.id == id) c.objects found.0 found.1 in
      let way = object_path_there found.0 its.0 in
      ap (λ (o : Option ObjectRow). is_some (elim o as (λ _. Option Path) [ None ↦ None | Some r ↦ object_path c r ])) found.1 ∙ ap (λ (o : Option Path). is_some o) way.1

  object_only_there : (id : ℕ) → is_some (item_path c (item.Object id)) ≡ true → has_object c id ≡ true
  object_only_there id some = taken (item_path c (item.Object id)) refl some
    where
      taken : (o : Option Path) → item_path c (item.Object id) ≡ o → is_some o ≡ true → has_object c id ≡ true
      taken None is h = absurd cc
      taken (Some path) is h = let at = object_of c id path is in any_from_in (λ r. r.id == id) c.objects at.row at.stands (eq-eqb at.row.id id at.has_id)

  placed_there : (x : Item) → gives_access (kind_of x) ≡ true → is_some (item_path c x) ≡ item_there c (kind_of x) (id_of x)
  placed_there (item.Collection id) e = both_ways (is_some (collection_path c id)) (has_collection c id) (path_only_there id) (path_there id)
  placed_there (item.Object id) e = both_ways (is_some (item_path c (item.Object id))) (has_object c id) (object_only_there id) (object_there id)
  placed_there (item.Resource id) e = absurd cc
  placed_there (item.User id) e = absurd cc

  -- ---- what is above

  above_collection : (k id : ℕ) (path above : Path) → length c.collections ≡ k → names_within k c id ≡ Some (reverse path) → parent path ≡ Some above → (up : ℕ) × (collection_path c up ≡ Some above)
  above_collection zero id path above count e over = absurd cc
  above_collection (suc k) id path above count e over = elim (leads_up c k id (reverse path) e) [
    | at_root is none ↦
        let empty : path ≡ [] = sym (reverse-reverse path) ∙ ap (λ (p : Path). reverse p) none in
        absurd (let wrong : parent [] ≡ Some above = ap (λ (p : Path). parent p) (sym empty) ∙ over in cc)
    | further below r rest some up is ↦
        let turned : path ≡ reverse (r.name ∷ rest) = sym (reverse-reverse path) ∙ ap (λ (p : Path). reverse p) is in
        let over_is : above ≡ reverse rest = same_Some above (reverse rest) (sym over ∙ ap (λ (p : Path). parent p) turned ∙ parent-reverse r.name rest) in
        let all : names_up c r.parent ≡ Some rest = ap (λ n. names_within n c r.parent) count ∙ within_more c k r.parent rest up in
        (r.parent, ap (λ (o : Option Path). option_map reverse o) all ∙ ap Some (sym over_is))
  ]

  above_item : (x : Item) (path above : Path) → item_path c x ≡ Some path → parent path ≡ Some above → (id : ℕ) × (collection_path c id ≡ Some above)
  above_item (item.Collection id) path above e over = above_collection (length c.collections) id path above refl (names_of c id path e) over
  above_item (item.Object id) path above e over =
      let at = object_of c id path e in
      let named = named_of c at.row path at.path_is in
      let over_is : above ≡ reverse named.above = same_Some above (reverse named.above) (sym over ∙ ap (λ (p : Path). parent p) named.is ∙ parent-reverse at.row.name named.above) in
      (at.row.collection, ap (λ (o : Option Path). option_map reverse o) named.up ∙ ap Some (sym over_is))
  above_item (item.Resource id) path above e over = absurd cc
  above_item (item.User id) path above e over = absurd cc

  -- ---- what is found at a path

  collection_found : (id : ℕ) (path : Path) → collection_path c id ≡ Some path → collection_at c path ≡ Some id
  collection_found id path e =
      let has : has_collection c id ≡ true = path_only_there id (ap (λ (o : Option Path). is_some o) e) in
      let row = in_from_any (λ r. r.id == id) c.collections has in
      let its : row.0.id ≡ id = eqb-true row.0.id id row.2 in
      let there : collection_path c row.0.id ≡ Some path = ap (λ i. collection_path c i) its ∙ e in
      let passes : is_path_of (collection_path c row.0.id) path ≡ true = ap (λ (o : Option Path). is_path_of o path) there ∙ (same_path-Decides path path).1 refl in
      let found : find (λ r. is_path_of (collection_path c r.id) path) c.collections ≡ Some row.0 =
      find_from_in (λ r. is_path_of (collection_path c r.id) path) c.collections row.0 row.1 passes
      (λ s stands at. one_number (λ (x : CollectionRow). x.id) c.collections s row.0 sorted stands row.1
      (collections_apart s.id row.0.id path (at_path (collection_path c s.id) path at) there)) in
      ap (λ (o : Option CollectionRow). option_map (λ r. r.id) o) found ∙ ap Some its

  collection_only : (id : ℕ) (path : Path) → collection_at c path ≡ Some id → collection_path c id ≡ Some path
  collection_only id path e = taken (find (λ r. is_path_of (collection_path c r.id) path) c.collections) refl e
    where
      taken : (o : Option CollectionRow) → find (λ r. is_path_of (collection_path c r.id) path) c.collections ≡ o → option_map (λ r. r.id) o ≡ Some id → collection_path c id ≡ Some path
      taken None is h = absurd cc
      taken (Some r) is h =
          let passes = in_from_find (λ s. is_path_of (collection_path c s.id) path) c.collections r is in
          let its : r.id ≡ id = same_Some r.id id h in
          ap (λ i. collection_path c i) (sym its) ∙ at_path (collection_path c r.id) path passes.1

  object_found : (id : ℕ) (path : Path) → item_path c (item.Object id) ≡ Some path → object_at c path ≡ Some id
  object_found id path e =
      let at = object_of c id path e in
      let passes : is_path_of (object_path c at.row) path ≡ true = ap (λ (o : Option Path). is_path_of o path) at.path_is ∙ (same_path-Decides path path).1 refl in
      let found : find (λ r. is_path_of (object_path c r) path) c.objects ≡ Some at.row =
      find_from_in (λ r. is_path_of (object_path c r) path) c.objects at.row at.stands passes
      (λ s stands there. one_number (λ (x : ObjectRow). x.id) c.objects s at.row objects_sorted stands at.stands
      (rows_apart s at.row path stands at.stands (at_path (object_path c s) path there) at.path_is)) in
      ap (λ (o : Option ObjectRow). option_map (λ r. r.id) o) found ∙ ap Some at.has_id

  object_only : (id : ℕ) (path : Path) → object_at c path ≡ Some id → item_path c (item.Object id) ≡ Some path
  object_only id path e = taken (find (λ r. is_path_of (object_path c r) path) c.objects) refl e
    where
      taken : (o : Option ObjectRow) → find (λ r. is_path_of (object_path c r) path) c.objects ≡ o → option_map (λ r. r.id) o ≡ Some id → item_path c (item.Object id) ≡ Some path
      taken None is h = absurd cc
      taken (Some r) is h =
          let passes = in_from_find (λ s. is_path_of (object_path c s) path) c.objects r is in
          let its : r.id ≡ id = same_Some r.id id h in
          let row : object c id ≡ Some r = ap (λ i. object c i) (sym its) ∙ found_in (λ (x : ObjectRow). x.id) c.objects r objects_sorted passes.0 in
          ap (λ (o : Option ObjectRow). elim o as (λ _. Option Path) [ None ↦ None | Some s ↦ object_path c s ]) row ∙ at_path (object_path c r) path passes.1

  pub tree_from_forest : IsTree c
  tree_from_forest = record {
    placed = placed_there;
    apart = items_apart;
    inside = above_item;
    collections_found = collection_found;
    objects_found = object_found;
    collections_only = collection_only;
    objects_only = object_only;
  }
