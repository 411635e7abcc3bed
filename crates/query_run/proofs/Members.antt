-- What is shown of the objects, or of the collections, one by one, has the rows that the grid's combinations have.
use Rattle.std.proofs.Common.{◌≡◌, ◌==◌, ℕ, Bool, true, false, List, [], ◌∷◌, Option, None, Some, IsTrue, map, refl, sym, ap, ◌∙◌, subst, eqb-true, eq-eqb}
use Rattle.std.specs.Prelude.{flat_map}
use Rattle.std.specs.List.{AllByRecursion, list_all, list_any}
use Rattle.std.specs.Option.{option_map_or}
use Rattle.grid_model.specs.MapLists.{keys}
use Rattle.grid_model.specs.Names.{Text, Path, parent}
use Rattle.grid_model.specs.Grid.{Grid, Object, object_at}
use Rattle.grid_model.specs.Listings.{triples_at}
use Rattle.grid_model.specs.QueryRows.{Combination, choices, columns_named, is_of_collection, is_of_replica, is_of_triple, of_collection, of_object}
use Rattle.grid_model.specs.Rows.{Cat, has_collection, object, triples_of}
use Rattle.grid_model.specs.RowPaths.{collection_path}
use Rattle.grid_model.specs.RowGrids.{grid_of, collection_place, object_place, object_of, triple_of}
use Rattle.grid_model.specs.declared.deltas.CollectionRow.{CollectionRow}
use Rattle.grid_model.specs.declared.deltas.ObjectRow.{ObjectRow}
use Rattle.grid_model.specs.declared.grid.ItemKind.TheVariants as kind
use Rattle.grid_model.specs.declared.queries.Query.{Query}
use Rattle.grid_model.proofs.Below.{parent-push}
use Rattle.grid_model.proofs.Comparing.{path_cmp_total, path_cmp-IsAntisymmetric}
use Rattle.tables_laws.proofs.Rows.{IsIn, any_from_in, all_from_in, in_from_all, in_from_find}
use Rattle.tables_laws.proofs.Numbered.{one_number}
use Rattle.tables_laws.proofs.Places.{collection_there, collections_apart, object_found, objects_apart, row_there}
use Rattle.tables_laws.proofs.Sound.{IsSound}
use Rattle.grid_access.proofs.MapEntries.{in_from_map, map_from_in, row_of_entry, entry_of_row}
use Rattle.grid_tree.proofs.Candidates.{replicas-entries}
use Rattle.query_run.specs.Narrowing.{HasShownCollections, HasShownObjects}
use Rattle.query_run.specs.Shown.{cells, shown_at_path, shown_collection, shown_object, shown_readable}
use Rattle.query_run.specs.Unsorted.{HasMembers, unsorted_rows}
use Rattle.query_run.proofs.ListLemmas.{in_from_flat, flat_from_in, kept, kept-flat}
use Rattle.query_run.proofs.Kept.{passes, with_each, kept_are}

module _ (c : Cat) (s : IsSound c) (user : Text) (q : Query)
    (triples_are : (o : ObjectRow) → IsIn c.objects o → triples_at (grid_of c) (object_at (object_place (collection_path c) o)) ≡ map (triple_of c (collection_path c)) (triples_of c kind.Object o.id)) where
  abbrev g : Grid
  g = grid_of c

  abbrev rows_kept : List Combination → List (List Text)
  rows_kept xs = kept (passes g user q) (cells g q) xs

  -- ---- collections

  abbrev place : ℕ → Path
  place id = collection_place (collection_path c) id

  abbrev shown_path : Path → List (List Text)
  shown_path p = shown_readable g user q (None ∷ []) (None ∷ []) (of_collection p)

  singles : (ps : List Path) → map of_collection ps ≡ flat_map (λ p. with_each g user q (None ∷ []) (None ∷ []) (of_collection p)) ps
  singles [] = refl
  singles (p ∷ ps) = ap (λ (xs : List Combination). of_collection p ∷ xs) (singles ps)

  module _ (alone : list_all is_of_collection (columns_named q) ≡ true) where
    collections_kept : unsorted_rows g user q ≡ flat_map shown_path (keys g.collections)
    collections_kept =
        ap (λ (b : Bool). rows_kept (elim b as (λ _. List Combination) [
          | true ↦ map of_collection (keys g.collections)
          | false ↦ flat_map (of_object g (list_any is_of_replica (columns_named q)) (list_any is_of_triple (columns_named q))) g.objects.entries
        ])) alone
        ∙ ap rows_kept (singles (keys g.collections))
        ∙ kept-flat (passes g user q) (cells g q) (λ p. with_each g user q (None ∷ []) (None ∷ []) (of_collection p)) (keys g.collections)
        ∙ (λ i. flat_map (λ p. kept_are g user q (of_collection p) (None ∷ []) (None ∷ []) i) (keys g.collections))

    row_alone : (x y : CollectionRow) → IsIn c.collections x → IsIn c.collections y → place y.id ≡ place x.id → y ≡ x
    row_alone x y here there same =
        one_number (λ (r : CollectionRow). r.id) c.collections y x s.cat.collections.ordered there here
        (collections_apart c s y.id x.id (collection_there c s y there) (collection_there c s x here) same)

    -- collections that are there, among which is each that is shown
    pub collections_shown : (ids : List ℕ) → AllByRecursion (λ id. IsTrue (has_collection c id)) ids → HasShownCollections c user q ids → HasMembers (flat_map (shown_collection c user q) ids) (unsorted_rows g user q)
    collections_shown ids there all = record {
      to = λ row here.
          let id = in_from_flat (shown_collection c user q) ids row here in
          let x = row_there (λ (r : CollectionRow). r.id) c.collections id.0 (in_from_all (λ n. IsTrue (has_collection c n)) ids there id.0 id.1) in
          let e = entry_of_row path_cmp_total path_cmp-IsAntisymmetric (λ (r : CollectionRow). place r.id) (λ (r : CollectionRow). r.inherit) c.collections x.0 x.1
          (λ y also same. row_alone x.0 y x.1 also same) in
          let at : place id.0 ≡ e.0.0 = ap place (sym x.2) ∙ e.2 in
          subst (λ (rows : List (List Text)). IsIn rows row) (sym collections_kept)
          (flat_from_in shown_path (keys g.collections) e.0.0 row (map_from_in (λ (f : Path × Bool). f.0) g.collections.entries e.0 e.1)
          (subst (λ (p : Path). IsIn (shown_path p) row) at id.2));
      from = λ row here.
          let p = in_from_flat shown_path (keys g.collections) row (subst (λ (rows : List (List Text)). IsIn rows row) collections_kept here) in
          let e = in_from_map (λ (f : Path × Bool). f.0) g.collections.entries p.0 p.1 in
          let x = row_of_entry path_cmp_total path_cmp-IsAntisymmetric (λ (r : CollectionRow). place r.id) (λ (r : CollectionRow). r.inherit) c.collections e.0 e.1 in
          let at : p.0 ≡ place x.0.id = sym e.2 ∙ sym x.2 in
          let shown : IsIn (shown_collection c user q x.0.id) row = subst (λ (y : Path). IsIn (shown_path y) row) at p.2 in
          flat_from_in (shown_collection c user q) ids x.0.id row (all x.0 row x.1 shown) shown;
    }

  -- ---- objects

  abbrev entry_combination : Path × Object → Combination
  entry_combination e = record { collection = option_map_or (λ p. p) (parent e.0) []; object = Some e; replica = None; triple = None }

  abbrev entry_rows : Path × Object → List (List Text)
  entry_rows e =
      shown_readable g user q (choices (list_any is_of_replica (columns_named q)) e.1.replicas.entries) (choices (list_any is_of_triple (columns_named q)) (triples_at g (object_at e.0))) (entry_combination e)

  -- what the grid has of an object is what its rows have
  object_rows : (o : ObjectRow) → IsIn c.objects o → entry_rows (object_place (collection_path c) o, object_of c o) ≡ shown_object c user q o.id
  object_rows o here =
      (λ i. shown_readable g user q
      (choices (list_any is_of_replica (columns_named q)) (replicas-entries c s o i))
      (choices (list_any is_of_triple (columns_named q)) (triples_are o here i))
      (record { collection = option_map_or (λ p. p) (parent-push (place o.collection) o.name i) []; object = Some (object_place (collection_path c) o, object_of c o); replica = None; triple = None }))
      ∙ sym (ap (λ (x : Option ObjectRow). option_map_or (λ y. shown_at_path c user q (place y.collection) (Some y)) x []) (object_found c s o here))

  module _ (more : list_all is_of_collection (columns_named q) ≡ false) where
    objects_kept : unsorted_rows g user q ≡ flat_map entry_rows g.objects.entries
    objects_kept =
        ap (λ (b : Bool). rows_kept (elim b as (λ _. List Combination) [
          | true ↦ map of_collection (keys g.collections)
          | false ↦ flat_map (of_object g (list_any is_of_replica (columns_named q)) (list_any is_of_triple (columns_named q))) g.objects.entries
        ])) more
        ∙ kept-flat (passes g user q) (cells g q) (of_object g (list_any is_of_replica (columns_named q)) (list_any is_of_triple (columns_named q))) g.objects.entries
        ∙ (λ i. flat_map (λ e. kept_are g user q (entry_combination e) (choices (list_any is_of_replica (columns_named q)) e.1.replicas.entries)
        (choices (list_any is_of_triple (columns_named q)) (triples_at g (object_at e.0))) i) g.objects.entries)

    -- what is shown is of an object
    object_of_row : (id : ℕ) (row : List Text) → IsIn (shown_object c user q id) row → (o : ObjectRow) × IsIn c.objects o × (o.id ≡ id)
    object_of_row id row here = by (object c id) refl here
      where
        by : (x : Option ObjectRow) → object c id ≡ x → IsIn (option_map_or (λ y. shown_at_path c user q (place y.collection) (Some y)) x []) row → (o : ObjectRow) × IsIn c.objects o × (o.id ≡ id)
        by None is none = absurd none
        by (Some o) is shown = let its = in_from_find (λ (y : ObjectRow). y.id == id) c.objects o is in (o, its.0, eqb-true o.id id its.1)

    -- objects, among which is each that something is shown of
    pub objects_shown : (ids : List ℕ) → HasShownObjects c user q ids → HasMembers (flat_map (shown_object c user q) ids) (unsorted_rows g user q)
    objects_shown ids all = record {
      to = λ row here.
          let id = in_from_flat (shown_object c user q) ids row here in
          let o = object_of_row id.0 row id.2 in
          let e = entry_of_row path_cmp_total path_cmp-IsAntisymmetric (object_place (collection_path c)) (object_of c) c.objects o.0 o.1 (λ y also same. objects_apart c s y o.0 also o.1 same) in
          let at : ◌≡◌ {A = Path × Object} (object_place (collection_path c) o.0, object_of c o.0) e.0 = λ i. (e.2 i, e.3 i) in
          subst (λ (rows : List (List Text)). IsIn rows row) (sym objects_kept)
          (flat_from_in entry_rows g.objects.entries e.0 row e.1
          (subst (λ (f : Path × Object). IsIn (entry_rows f) row) at
          (subst (λ (rows : List (List Text)). IsIn rows row) (sym (object_rows o.0 o.1)) (subst (λ n. IsIn (shown_object c user q n) row) (sym o.2) id.2))));
      from = λ row here.
          let e = in_from_flat entry_rows g.objects.entries row (subst (λ (rows : List (List Text)). IsIn rows row) objects_kept here) in
          let o = row_of_entry path_cmp_total path_cmp-IsAntisymmetric (object_place (collection_path c)) (object_of c) c.objects e.0 e.1 in
          let at : ◌≡◌ {A = Path × Object} e.0 (object_place (collection_path c) o.0, object_of c o.0) = λ i. (sym o.2 i, sym o.3 i) in
          let shown : IsIn (shown_object c user q o.0.id) row = subst (λ (rows : List (List Text)). IsIn rows row) (object_rows o.0 o.1) (subst (λ (f : Path × Object). IsIn (entry_rows f) row) at e.2) in
          flat_from_in (shown_object c user q) ids o.0.id row (all o.0 row o.1 shown) shown;
    }

-- each of the ids of all collections is there
pub ids_there : (c : Cat) → AllByRecursion (λ id. IsTrue (has_collection c id)) (map (λ (r : CollectionRow). r.id) c.collections)
ids_there c =
    all_from_in (λ id. IsTrue (has_collection c id)) (map (λ (r : CollectionRow). r.id) c.collections) (λ id here.
    let r = in_from_map (λ (r : CollectionRow). r.id) c.collections id here in
    any_from_in (λ (x : CollectionRow). x.id == id) c.collections r.0 r.1 (eq-eqb r.0.id id r.2))
