-- What is shown of the items in a collection, in the order of their names, is what the grid shows of it.
use Rattle.std.proofs.Common.{◌≡◌, ◌==◌, ℕ, Bool, true, false, cond, List, [], ◌∷◌, ◌++◌, map, Option, Some, None, Ok, Err, IsTrue, refl, sym, ap, ◌∙◌, subst, eqb-true}
use Rattle.std.specs.Prelude.{filter, find, flat_map, is_some, option_map}
use Rattle.std.specs.List.{AllByRecursion}
use Rattle.std.specs.List.Sorted.{IsStrictlySortedBy}
use Rattle.std.specs.Option.{option_map_or}
use Rattle.std.specs.declared.cmp.Ordering.{Ordering}
use Rattle.std.specs.declared.cmp.Ordering.TheVariants.{Less}
use Rattle.std.specs.Ordering.{eq_by_cmp, ordering_then}
use Rattle.std.specs.Cmp.{tied_itself}
use Rattle.std.proofs.lemmas.Bool.{and_parts, and_from}
use Rattle.std.proofs.lemmas.List.{append-nil}
use Rattle.grid_model.specs.Maps.{Map, get, from_list}
use Rattle.grid_model.specs.MapLists.{values}
use Rattle.grid_model.specs.Names.{Text, Path, path_cmp, text_cmp, same_path, parent}
use Rattle.grid_model.specs.Grid.{Grid, Object}
use Rattle.grid_model.specs.Levels.{may}
use Rattle.grid_model.specs.Listings.{collection_listing, object_rows, replica_listing, is_shown, listed, ls_rows}
use Rattle.grid_model.specs.Refusing.{Or, ◌>>=◌, unless}
use Rattle.grid_model.specs.Rows.{Cat, object, has_resource, replicas_of}
use Rattle.grid_model.specs.RowPaths.{collection_at, object_at}
use Rattle.grid_model.specs.RowGrids.{grid_of, object_of}
use Rattle.grid_model.specs.Applying.{IsMade}
use Rattle.grid_model.specs.declared.deltas.CollectionRow.{CollectionRow}
use Rattle.grid_model.specs.declared.deltas.ObjectRow.{ObjectRow}
use Rattle.grid_model.specs.declared.deltas.ReplicaRow.{ReplicaRow}
use Rattle.grid_model.specs.declared.deltas.Item.{Item}
use Rattle.grid_model.specs.declared.deltas.Item.TheVariants as item
use Rattle.grid_model.specs.declared.grid.Level.TheVariants.{Read}
use Rattle.grid_model.specs.declared.refusal.Refusal.TheVariants.{NoObject, NoAccess}
use Rattle.grid_model.proofs.Below.{parent-push}
use Rattle.grid_model.proofs.Comparing.{text_cmp_total, path_cmp_total, path_cmp-IsAntisymmetric, same_path-Decides, same_path-self}
use Rattle.grid_model.proofs.FoundRows.{is_some-find}
use Rattle.grid_model.proofs.MapLemmas.{same_map}
use Rattle.grid_model.proofs.NewCollections.{at_of}
use Rattle.tables_laws.proofs.Rows.{in_from_find, in_from_filter, filter_from_in, any_from_in, all_from_in, in_from_all}
use Rattle.tables_laws.proofs.TableMaps.{entries_of, get-rows}
use Rattle.tables_laws.proofs.LookUps.{has-collections, has-objects, get-collection_at, get-object_at}
use Rattle.tables_laws.proofs.Places.{tree_of, row_there}
use Rattle.tables_laws.proofs.Resources.{leaf_there}
use Rattle.tables_laws.proofs.Standing.{ReplicaStands}
use Rattle.tables_laws.proofs.Sound.{IsSound}
use Rattle.grid_tree.proofs.Candidates.{entries-sorted, replicas-entries, told}
use Rattle.plan_base.specs.Found.{IsAt, IsFree}
use Rattle.plan_base.proofs.AtPaths.{sound_of, taken-at, not_taken-free, placed}
use Rattle.plan_base.proofs.PutAccess.{or_else}
use Rattle.plan_list.specs.Inside.{IsChildOf, AreChildren, item_name}
use Rattle.plan_list.specs.Listing.{item_rows, child_path, shown, shown_at, numbered}
use Rattle.plan_list.proofs.ChildPaths.{child_at, collection_below, object_below}
use Rattle.plan_list.proofs.ShownMaps.{get-append, get-kept}

-- ---- order

path_push : (p : Path) (a b : Text) → text_cmp a b ≡ Less → path_cmp (p ++ a ∷ []) (p ++ b ∷ []) ≡ Less
path_push [] a b less = ap (λ (o : Ordering). ordering_then o (path_cmp [] [])) less
path_push (n ∷ p) a b less = ap (λ (o : Ordering). ordering_then o (path_cmp (p ++ a ∷ []) (p ++ b ∷ []))) (tied_itself text_cmp_total n) ∙ path_push p a b less

sorted_so : {X : Type 0} (one other : X → X → Ordering) (p : X → Bool) (xs : List X) → ((x y : X) → one x y ≡ Less → other x y ≡ Less) → IsStrictlySortedBy one xs → IsStrictlySortedBy other (filter p xs)
unfolding IsStrictlySortedBy
sorted_so one other p [] also sorted = tt
sorted_so one other p (x ∷ xs) also sorted = elim (p x) as (λ b. IsStrictlySortedBy other (cond b (x ∷ filter p xs) (filter p xs))) [
  | true ↦ (all_from_in (λ y. other x y ≡ Less) (filter p xs) (λ y here. also x y (in_from_all (λ z. one x z ≡ Less) xs sorted.0 y (in_from_filter p xs y here).0)), sorted_so one other p xs also sorted.1)
  | false ↦ sorted_so one other p xs also sorted.1
]

-- ---- an object

map_twice : {X Y Z : Type 0} (f : Y → Z) (g : X → Y) (xs : List X) → map f (map g xs) ≡ map (λ x. f (g x)) xs
map_twice f g [] = refl
map_twice f g (x ∷ xs) = ap (λ ys. f (g x) ∷ ys) (map_twice f g xs)

module _ (c : Cat) (made : IsMade c) (p : Path) where
  s : IsSound c
  s = sound_of c made

  abbrev g : Grid
  g = grid_of c

  object_rows_are : (id : ℕ) (o : ObjectRow) → object c id ≡ Some o → object_rows g (p, object_of c o) ≡ item_rows c p (item.Object id)
  object_rows_are id o found =
      ap (map (replica_listing g p)) (replicas-entries c s o) ∙ map_twice (replica_listing g p) (told c) (replicas_of c o.id)
      ∙ ap (λ n. map (λ (x : ReplicaRow). replica_listing g p (numbered c x)) (replicas_of c n)) id_is
    where
      id_is : o.id ≡ id
      id_is = eqb-true o.id id (in_from_find (λ (x : ObjectRow). x.id == id) c.objects o found).1

  -- a collection at a path is no object
  apart : (j id : ℕ) → collection_at c p ≡ Some j → object_at c p ≡ Some id → ⊥
  apart j id inner outer =
      let same = (tree_of c s).apart (item.Collection j) (item.Object id) p (at_of c j p inner).path ((tree_of c s).objects_only id p outer) in
      cc

  pub no_object : (j : ℕ) → collection_at c p ≡ Some j → get g.objects p ≡ None
  no_object j inner = by (get g.objects p) refl
    where
      by : (o : Option Object) → get g.objects p ≡ o → get g.objects p ≡ None
      by None is = is
      by (Some x) is = found (object_at c p) refl (sym (has-objects c s p) ∙ ap is_some is)
        where
          found : (o : Option ℕ) → object_at c p ≡ o → is_some o ≡ true → get g.objects p ≡ None
          found None at e = absurd cc
          found (Some id) at e = absurd (apart j id inner at)

  no_collection : (id : ℕ) → object_at c p ≡ Some id → get g.collections p ≡ None
  no_collection id outer = by (get g.collections p) refl
    where
      by : (o : Option Bool) → get g.collections p ≡ o → get g.collections p ≡ None
      by None is = is
      by (Some x) is = found (collection_at c p) refl (sym (has-collections c s p) ∙ ap is_some is)
        where
          found : (o : Option ℕ) → collection_at c p ≡ o → is_some o ≡ true → get g.collections p ≡ None
          found None at e = absurd cc
          found (Some j) at e = absurd (apart j id at outer)

  pub its_object : (id : ℕ) → object_at c p ≡ Some id → (o : ObjectRow) × (object c id ≡ Some o) × (get g.objects p ≡ Some (object_of c o))
  its_object id at =
      let there = (placed c made p (item.Object id) at).there in
      let o = row_there (λ (x : ObjectRow). x.id) c.objects id there in
      (o.0, o.3, get-object_at c s p id o.0 at o.3)

  its_collection : (id : ℕ) → collection_at c p ≡ Some id → (r : CollectionRow) × (get g.collections p ≡ Some r.inherit)
  its_collection id at =
      let r = row_there (λ (x : CollectionRow). x.id) c.collections id (at_of c id p at).there in
      (r.0, get-collection_at c s p id r.0 at r.3)

-- ---- what is shown of a collection

module _ (c : Cat) (made : IsMade c) (user : Text) (p : Path) (cid : ℕ) (at : collection_at c p ≡ Some cid) (items : List Item) (children : AreChildren c cid items) where
  abbrev seen : Item → Bool
  seen x = may (grid_of c) user (child_path c p x) Read

  abbrev rows : Item → List (List Text)
  rows x = item_rows c (child_path c p x) x

  flat : (xs : List Item) → flat_map (shown c user p) xs ≡ flat_map (λ rows. rows) (map (λ (e : Path × List (List Text)). e.1) (entries_of (child_path c p) rows (filter seen xs)))
  flat [] = refl
  flat (x ∷ xs) = elim (may (grid_of c) user (child_path c p x) Read) as (λ b. elim b as (λ _. List (List Text)) [ true ↦ item_rows c (child_path c p x) x | false ↦ [] ] ++ flat_map (shown c user p) xs
      ≡ flat_map (λ rows. rows) (map (λ (e : Path × List (List Text)). e.1) (entries_of (child_path c p) rows (cond b (x ∷ filter seen xs) (filter seen xs))))) [
        | true ↦ ap (λ (ys : List (List Text)). item_rows c (child_path c p x) x ++ ys) (flat xs)
        | false ↦ flat xs
      ]

  kept_sorted : IsStrictlySortedBy (λ x y. path_cmp (child_path c p x) (child_path c p y)) (filter seen items)
  kept_sorted = sorted_so (λ x y. text_cmp (item_name c x) (item_name c y)) (λ x y. path_cmp (child_path c p x) (child_path c p y)) seen items (λ x y less. path_push p (item_name c x) (item_name c y) less) children.ordered

  abbrev answer : Bool → Path → Option Bool → Option Object → Option (List (List Text))
  answer b q inner outer = or_else (cond b (option_map (λ v. collection_listing q ∷ []) inner) None) (cond b (option_map (λ o. object_rows (grid_of c) (q, o)) outer) None)

  -- what the grid shows, by what is there
  listed_is : (q : Path) → get (listed (grid_of c) user p) q ≡ answer (is_shown (grid_of c) user p q) q (get (grid_of c).collections q) (get (grid_of c).objects q)
  listed_is q =
      get-append path_cmp_total (map (λ e. (e.0, collection_listing e.0 ∷ [])) (filter (λ e. is_shown (grid_of c) user p e.0) (grid_of c).collections.entries))
      (map (λ e. (e.0, object_rows (grid_of c) e)) (filter (λ e. is_shown (grid_of c) user p e.0) (grid_of c).objects.entries)) q
      ∙ (λ i. or_else (get-kept path_cmp_total path_cmp-IsAntisymmetric (λ (e : Path × Bool). collection_listing e.0 ∷ []) (is_shown (grid_of c) user p) (grid_of c).collections.entries q i)
      (get-kept path_cmp_total path_cmp-IsAntisymmetric (object_rows (grid_of c)) (is_shown (grid_of c) user p) (grid_of c).objects.entries q i))

  shown_child : (x : Item) → seen x ≡ true → is_shown (grid_of c) user p (child_path c p x) ≡ true
  shown_child x sees =
      and_from (option_map_or (λ above. same_path above p) (parent (child_path c p x)) false) (may (grid_of c) user (child_path c p x) Read)
      (ap (λ (o : Option Path). option_map_or (λ above. same_path above p) o false) (parent-push p (item_name c x)) ∙ same_path-self p) sees

  -- what is seen is shown
  seen_answer : (x : Item) → IsChildOf c cid x → seen x ≡ true → Some (rows x) ≡ get (listed (grid_of c) user p) (child_path c p x)
  seen_answer (item.Collection id) child sees =
      let q = child_path c p (item.Collection id) in
      let found = its_collection c made q id (child_at c (sound_of c made) cid p at (item.Collection id) child) in
      sym (listed_is q ∙ (λ i. answer (shown_child (item.Collection id) sees i) q (found.1 i) (get (grid_of c).objects q)))
  seen_answer (item.Object id) child sees =
      let q = child_path c p (item.Object id) in
      let there = child_at c (sound_of c made) cid p at (item.Object id) child in
      let found = its_object c made q id there in
      sym (listed_is q ∙ (λ i. answer (shown_child (item.Object id) sees i) q (no_collection c made q id there i) (found.2 i)) ∙ ap Some (object_rows_are c made q id found.0 found.1))
  seen_answer (item.Resource id) child sees = absurd child
  seen_answer (item.User id) child sees = absurd child

  -- nothing else is
  none_answer : (q : Path) → find (λ x. eq_by_cmp path_cmp (child_path c p x) q) (filter seen items) ≡ None → None ≡ get (listed (grid_of c) user p) q
  none_answer q none = by (is_shown (grid_of c) user p q) refl ∙ sym (listed_is q)
    where
      no_child : (x : Item) → IsChildOf c cid x → child_path c p x ≡ q → may (grid_of c) user q Read ≡ true → ⊥
      no_child x child same allowed =
          let here = filter_from_in seen items x (children.all x child) (ap (λ (r : Path). may (grid_of c) user r Read) same ∙ allowed) in
          let passes = any_from_in (λ y. eq_by_cmp path_cmp (child_path c p y) q) (filter seen items) x here ((same_path-Decides (child_path c p x) q).1 same) in
          let wrong : true ≡ false = sym passes ∙ sym (is_some-find (λ y. eq_by_cmp path_cmp (child_path c p y) q) (filter seen items)) ∙ ap is_some none in
          cc

      above_q : (o : Option Path) → parent q ≡ o → option_map_or (λ above. same_path above p) o false ≡ true → parent q ≡ Some p
      above_q None is e = absurd cc
      above_q (Some above) is e = is ∙ ap Some ((same_path-Decides above p).0 e)

      nothing : is_shown (grid_of c) user p q ≡ true → (inner : Option Bool) → get (grid_of c).collections q ≡ inner → (outer : Option Object) → get (grid_of c).objects q ≡ outer → None ≡ answer true q inner outer
      nothing is None inner None outer = refl
      nothing is (Some v) inner o outer = found (collection_at c q) refl (sym (has-collections c (sound_of c made) q) ∙ ap is_some inner)
        where
          found : (d : Option ℕ) → collection_at c q ≡ d → is_some d ≡ true → None ≡ answer true q (Some v) o
          found None there e = absurd cc
          found (Some j) there e =
              let parts = and_parts (option_map_or (λ above. same_path above p) (parent q) false) (may (grid_of c) user q Read) is in
              let child = collection_below c (sound_of c made) cid p at q j there (above_q (parent q) refl parts.0) in
              let place = (at_of c j (child_path c p (item.Collection j)) (child_at c (sound_of c made) cid p at (item.Collection j) child)).path in
              let both : Some (child_path c p (item.Collection j)) ≡ Some q = sym place ∙ (at_of c j q there).path in
              absurd (no_child (item.Collection j) child (cc) parts.1)
      nothing is None inner (Some x) outer = found (object_at c q) refl (sym (has-objects c (sound_of c made) q) ∙ ap is_some outer)
        where
          found : (d : Option ℕ) → object_at c q ≡ d → is_some d ≡ true → None ≡ answer true q None (Some x)
          found None there e = absurd cc
          found (Some j) there e =
              let parts = and_parts (option_map_or (λ above. same_path above p) (parent q) false) (may (grid_of c) user q Read) is in
              let child = object_below c (sound_of c made) cid made p at q j there (above_q (parent q) refl parts.0) in
              let place = (tree_of c (sound_of c made)).objects_only j (child_path c p (item.Object j)) (child_at c (sound_of c made) cid p at (item.Object j) child) in
              let both : Some (child_path c p (item.Object j)) ≡ Some q = sym place ∙ (tree_of c (sound_of c made)).objects_only j q there in
              absurd (no_child (item.Object j) child (cc) parts.1)

      by : (b : Bool) → is_shown (grid_of c) user p q ≡ b → None ≡ answer (is_shown (grid_of c) user p q) q (get (grid_of c).collections q) (get (grid_of c).objects q)
      by false is = sym (ap (λ b. answer b q (get (grid_of c).collections q) (get (grid_of c).objects q)) is)
      by true is = nothing is (get (grid_of c).collections q) refl (get (grid_of c).objects q) refl ∙ sym (ap (λ b. answer b q (get (grid_of c).collections q) (get (grid_of c).objects q)) is)

  alike : (q : Path) → get (from_list {R = path_cmp} (entries_of (child_path c p) rows (filter seen items))) q ≡ get (listed (grid_of c) user p) q
  alike q = get-rows path_cmp_total (child_path c p) rows (filter seen items) q ∙ by (find (λ x. eq_by_cmp path_cmp (child_path c p x) q) (filter seen items)) refl
    where
      by : (o : Option Item) → find (λ x. eq_by_cmp path_cmp (child_path c p x) q) (filter seen items) ≡ o → option_map rows o ≡ get (listed (grid_of c) user p) q
      by None none = none_answer q none
      by (Some x) some =
          let found = in_from_find (λ y. eq_by_cmp path_cmp (child_path c p y) q) (filter seen items) x some in
          let kept = in_from_filter seen items x found.0 in
          seen_answer x (children.each x kept.0) kept.1 ∙ ap (get (listed (grid_of c) user p)) ((same_path-Decides (child_path c p x) q).0 found.1)

  pub shows : flat_map (shown c user p) items ≡ flat_map (λ rows. rows) (values (listed (grid_of c) user p))
  shows =
      flat items
      ∙ ap (λ (es : List (Path × List (List Text))). flat_map (λ rows. rows) (map (λ (e : Path × List (List Text)). e.1) es))
      (sym (entries-sorted path_cmp (child_path c p) rows path_cmp_total (filter seen items) kept_sorted)
      ∙ ap (λ (m : Map path_cmp (List (List Text))). m.entries) (same_map path_cmp_total path_cmp-IsAntisymmetric (from_list (entries_of (child_path c p) rows (filter seen items))) (listed (grid_of c) user p) alike))

-- ---- the rows of a listing, test by test

abbrev tests : Bool → Bool → Option Object → (Object → List (List Text)) → List (List Text) → Or (List (List Text))
tests taken allowed o of_object of_collection =
    unless taken NoObject >>= (λ _. unless allowed NoAccess >>= (λ _. Ok (elim o as (λ _. List (List Text)) [ Some x ↦ of_object x | None ↦ of_collection ])))

module _ (c : Cat) (made : IsMade c) (user : Text) (p : Path) where
  abbrev tests_in : Bool → Bool → Option Object → Or (List (List Text))
  tests_in taken allowed o = tests taken allowed o (λ x. object_rows (grid_of c) (p, x)) (flat_map (λ rows. rows) (values (listed (grid_of c) user p)))

  pub refused_nothing : IsFree c p → ls_rows (grid_of c) user p ≡ Err NoObject
  refused_nothing free i = tests_in (not_taken-free c made p free i) (may (grid_of c) user p Read) (get (grid_of c).objects p)

  module _ (x : Item) (at : IsAt c p x) where
    pub refused_level : may (grid_of c) user p Read ≡ false → ls_rows (grid_of c) user p ≡ Err NoAccess
    refused_level refused i = tests_in (taken-at c made p x at i) (refused i) (get (grid_of c).objects p)

  pub lists : (x : Item) → IsAt c p x → may (grid_of c) user p Read ≡ true → (rows : List (List Text)) → shown_at c user p x rows → ls_rows (grid_of c) user p ≡ Ok rows
  lists (item.Collection id) at allowed rows shown =
      (λ i. tests_in (taken-at c made p (item.Collection id) at i) (allowed i) (no_object c made p id at i)) ∙ ap Ok (sym (shows c made user p id at shown.0 shown.1) ∙ sym shown.2)
  lists (item.Object id) at allowed rows shown =
      let found = its_object c made p id at in
      (λ i. tests_in (taken-at c made p (item.Object id) at i) (allowed i) (found.2 i)) ∙ ap Ok (object_rows_are c made p id found.0 found.1 ∙ sym shown)
  lists (item.Resource id) at allowed rows shown = absurd at
  lists (item.User id) at allowed rows shown = absurd at

-- ---- what is shown of one child

pub shown_none : (c : Cat) (user : Text) (p : Path) (x : Item) → may (grid_of c) user (child_path c p x) Read ≡ false → (rows : List (List Text)) → rows ≡ rows ++ shown c user p x
shown_none c user p x refused rows =
    sym (append-nil rows) ∙ ap (λ (more : List (List Text)). rows ++ more) (sym (ap (λ b. elim b as (λ _. List (List Text)) [ true ↦ item_rows c (child_path c p x) x | false ↦ [] ]) refused))

pub shown_some : (c : Cat) (user : Text) (p : Path) (x : Item) → may (grid_of c) user (child_path c p x) Read ≡ true → item_rows c (child_path c p x) x ≡ shown c user p x
shown_some c user p x allowed = sym (ap (λ b. elim b as (λ _. List (List Text)) [ true ↦ item_rows c (child_path c p x) x | false ↦ [] ]) allowed)

-- replicas are on leaves that are there
pub leaves_there : (c : Cat) → IsMade c → (id : ℕ) (rows : List ReplicaRow) → rows ≡ replicas_of c id → AllByRecursion (λ x. IsTrue (has_resource c x.leaf)) rows
leaves_there c made id rows is =
    let P : List ReplicaRow → Type 0 = λ xs. AllByRecursion (λ (x : ReplicaRow). IsTrue (has_resource c x.leaf)) xs in
    subst P (sym is) (all_from_in (λ (x : ReplicaRow). IsTrue (has_resource c x.leaf)) (replicas_of c id) (λ x here.
    let stands : ReplicaStands c x = in_from_all (ReplicaStands c) c.replicas (sound_of c made).tied.replicas x (in_from_filter (λ (r : ReplicaRow). r.object == id) c.replicas x here).0 in
    leaf_there c x.leaf stands.1))

-- children that come later are children
pub later_child : (c : Cat) (cid : ℕ) (items : List Item) → AreChildren c cid items → AllByRecursion (IsChildOf c cid) items
later_child c cid items children = all_from_in (IsChildOf c cid) items children.each
