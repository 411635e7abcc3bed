-- The objects with the attribute and the value that a query asks for, and those in the collection that it asks for, are all of
-- which it shows something.
use Rattle.std.proofs.Common.{◌≡◌, ◌==◌, ℕ, Bool, true, List, [], ◌∷◌, ◌++◌, Option, None, Some, map, inl, refl, sym, ap, ◌∙◌, subst, eqb-true, eq-eqb}
use Rattle.std.specs.Prelude.{filter, find, option_map, ◌&&◌}
use Rattle.std.specs.List.{list_any}
use Rattle.std.specs.Option.{option_map_or}
use Rattle.std.proofs.lemmas.Bool.{and_from, and_parts, or_right}
use Rattle.grid_model.specs.Applying.{is_object_named}
use Rattle.grid_model.specs.Names.{Text, Path, same_text, print_path}
use Rattle.grid_model.specs.Grid.{Triple}
use Rattle.grid_model.specs.QueryRows.{cell, choices, columns_named}
use Rattle.grid_model.specs.Rows.{Cat, has_collection, item_number, same_item, triples_of}
use Rattle.grid_model.specs.RowPaths.{collection_path}
use Rattle.grid_model.specs.RowGrids.{grid_of, collection_place, triple_of}
use Rattle.grid_model.specs.declared.deltas.CollectionRow.{CollectionRow}
use Rattle.grid_model.specs.declared.deltas.ObjectRow.{ObjectRow}
use Rattle.grid_model.specs.declared.deltas.TripleRow.{TripleRow}
use Rattle.grid_model.specs.declared.grid.ItemKind.TheVariants as kind
use Rattle.grid_model.specs.declared.queries.Query.{Query}
use Rattle.grid_model.specs.declared.queries.Cond.{Cond}
use Rattle.grid_model.specs.declared.queries.Column.{Column}
use Rattle.grid_model.specs.declared.queries.Column.TheVariants as column
use Rattle.grid_model.proofs.Comparing.{same_text-Decides}
use Rattle.tables_laws.proofs.Rows.{IsIn, in_from_filter, filter_from_in, any_from_in, find_from_in}
use Rattle.tables_laws.proofs.GridOrders.{kind_numbered}
use Rattle.tables_laws.proofs.Places.{collection_there, object_found, objects_apart}
use Rattle.tables_laws.proofs.Sound.{IsSound}
use Rattle.grid_access.proofs.MapEntries.{in_from_map, map_from_in}
use Rattle.grid_tables.specs.IndexKeys.{AreKeysOf}
use Rattle.grid_tables.specs.Indexes.{IsIndex, place_cmp}
use Rattle.grid_tables.specs.KeyOrders.{valued_cmp, valued_of}
use Rattle.grid_tables.specs.declared.index_key.ItemWithValue.{ItemWithValue}
use Rattle.query_run.specs.Stages.{is_of_stage}
use Rattle.query_run.specs.Shown.{item_combination, replica_choices, triple_choices, shown_at_path, shown_collection, shown_object}
use Rattle.query_run.specs.Narrowing.{WantsText, FindsPrinted, HasShownCollections, HasShownObjects, is_object, object_ids}
use Rattle.query_run.specs.declared.stages.Stage.TheVariants.{OfItem, OfTriple}
use Rattle.query_run.proofs.CellTexts.{last-push}
use Rattle.query_run.proofs.ListLemmas.{any_named}
use Rattle.query_run.proofs.ShownParts.{ShownBy, equal_cell, shown_by}

module _ (c : Cat) (s : IsSound c) (user : Text) (q : Query) where
  abbrev place : ℕ → Path
  place id = collection_place (collection_path c) id

  abbrev at : TripleRow → Triple
  at t = triple_of c (collection_path c) t

  -- what is shown of an object is shown with one of its triples
  object_by : (o : ObjectRow) (row : List Text) → IsIn c.objects o → IsIn (shown_object c user q o.id) row
      → ShownBy (grid_of c) q (triple_choices c q (Some o)) (item_combination c (place o.collection) (Some o))
  object_by o row here shown =
      shown_by (grid_of c) user q (replica_choices c q (Some o)) (triple_choices c q (Some o)) (item_combination c (place o.collection) (Some o)) row
      (subst (λ (rows : List (List Text)). IsIn rows row)
      (ap (λ (x : Option ObjectRow). option_map_or (λ y. shown_at_path c user q (place y.collection) (Some y)) x []) (object_found c s o here)) shown)

  module _ (text : Text) (asks : WantsText q.conds column.MetaDataAttrName text) where
    triples_named : list_any (is_of_stage OfTriple) (columns_named q) ≡ true
    triples_named =
        any_named (is_of_stage OfTriple) q
        ∙ or_right (list_any (is_of_stage OfTriple) q.columns) (list_any (λ (cond : Cond). is_of_stage OfTriple cond.column) q.conds)
        (any_from_in (λ (cond : Cond). is_of_stage OfTriple cond.column) q.conds asks.cond asks.there (ap (is_of_stage OfTriple) asks.column_is))

    -- the triple that was chosen has a row
    chosen_row : (o : ObjectRow) (t : Option Triple) → IsIn (triple_choices c q (Some o)) t
        → (x : TripleRow) × IsIn (triples_of c kind.Object o.id) x × (t ≡ Some (at x))
    chosen_row o t here =
        let rows : List TripleRow = triples_of c kind.Object o.id in
        let some = in_from_map Some (map at rows) t (subst (λ (b : Bool). IsIn (choices b (map at rows)) t) triples_named here) in
        let row = in_from_map at rows some.0 some.1 in
        (row.0, row.1, sym some.2 ∙ ap Some (sym row.2))

    -- its object is among the items that have such a triple
    among : (o : ObjectRow) (x : TripleRow) → IsIn (triples_of c kind.Object o.id) x → (test : TripleRow → Bool) → test x ≡ true
        → (keys : List ItemWithValue) → AreKeysOf valued_of valued_cmp (filter test c.triples) keys → IsIn (object_ids keys) o.id
    among o x here test passes keys are =
        let its = in_from_filter (λ (t : TripleRow). same_item t.kind t.id kind.Object o.id) c.triples x here in
        let parts = and_parts (item_number x.kind == item_number kind.Object) (x.id == o.id) its.1 in
        let key = are.all x (filter_from_in test c.triples x its.0 passes) in
        let object : is_object x.kind ≡ true = ap is_object (kind_numbered x.kind kind.Object
        (eqb-true (item_number x.kind) (item_number kind.Object) parts.0)) in
        subst (IsIn (object_ids keys)) (eqb-true x.id o.id parts.1)
        (map_from_in (λ (k : ItemWithValue). k.id) (filter (λ k. is_object k.kind) keys) (valued_of x)
        (filter_from_in (λ (k : ItemWithValue). is_object k.kind) keys (valued_of x) key object))

    -- what a condition with `=` asks of the triple of a row
    asked_of : (o : ObjectRow) (by : ShownBy (grid_of c) q (triple_choices c q (Some o)) (item_combination c (place o.collection) (Some o)))
        (col : Column) (wanted : Text) → is_of_stage OfTriple col ≡ true → WantsText q.conds col wanted
        → cell (grid_of c) (record (item_combination c (place o.collection) (Some o)) { replica = by.replica; triple = by.triple }) col ≡ wanted
    asked_of o by col wanted of_it wants =
        equal_cell (grid_of c) q (record (item_combination c (place o.collection) (Some o)) { replica = by.replica; triple = by.triple })
        OfTriple col wanted of_it wants by.meets

    pub shown_with_attribute : (keys : List ItemWithValue) → AreKeysOf valued_of valued_cmp (filter (λ t. same_text t.attribute text) c.triples) keys
        → HasShownObjects c user q (object_ids keys)
    shown_with_attribute keys are o row here shown =
        let by = object_by o row here shown in
        let x = chosen_row o by.triple by.chosen in
        let named : x.0.attribute ≡ text = sym (ap (λ (t : Option Triple). option_map_or (λ y. y.attribute) t []) x.2)
        ∙ asked_of o by column.MetaDataAttrName text refl asks in
        among o x.0 x.1 (λ t. same_text t.attribute text) ((same_text-Decides x.0.attribute text).1 named) keys are

    pub shown_with_value : (value : Text) → WantsText q.conds column.MetaDataAttrValue value
        → (keys : List ItemWithValue) → AreKeysOf valued_of valued_cmp (filter (λ t. same_text t.attribute text && same_text t.value value) c.triples) keys
        → HasShownObjects c user q (object_ids keys)
    shown_with_value value wants keys are o row here shown =
        let by = object_by o row here shown in
        let x = chosen_row o by.triple by.chosen in
        let named : x.0.attribute ≡ text = sym (ap (λ (t : Option Triple). option_map_or (λ y. y.attribute) t []) x.2)
        ∙ asked_of o by column.MetaDataAttrName text refl asks in
        let valued : x.0.value ≡ value = sym (ap (λ (t : Option Triple). option_map_or (λ y. y.value) t []) x.2)
        ∙ asked_of o by column.MetaDataAttrValue value refl wants in
        among o x.0 x.1 (λ t. same_text t.attribute text && same_text t.value value)
        (and_from (same_text x.0.attribute text) (same_text x.0.value value)
        ((same_text-Decides x.0.attribute text).1 named) ((same_text-Decides x.0.value value).1 valued)) keys are

  -- the path of the collection of an object that is shown is printed so
  pub shown_in_collection : (text : Text) → WantsText q.conds column.CollName text
      → (o : ObjectRow) (row : List Text) → IsIn c.objects o → IsIn (shown_object c user q o.id) row
      → print_path (place o.collection) ≡ text
  shown_in_collection text asks o row here shown =
      equal_cell (grid_of c) q (item_combination c (place o.collection) (Some o)) OfItem column.CollName text refl asks (object_by o row here shown).item

  pub shown_collection_is : (text : Text) → WantsText q.conds column.CollName text
      → (id : ℕ) (row : List Text) → IsIn (shown_collection c user q id) row → print_path (place id) ≡ text
  shown_collection_is text asks id row shown =
      equal_cell (grid_of c) q (item_combination c (place id) None) OfItem column.CollName text refl asks
      (shown_by (grid_of c) user q (None ∷ []) (None ∷ []) (item_combination c (place id) None) row shown).item

  -- ---- by the collection

  housed : (o : ObjectRow) → IsIn c.objects o → has_collection c o.collection ≡ true
  housed o here = s.forest.housed o here

  module _ (text : Text) (asks : WantsText q.conds column.CollName text) where
    pub shown_nowhere : FindsPrinted c text None → (ids : List ℕ) → HasShownObjects c user q ids
    shown_nowhere none ids o row here shown = absurd (none o.collection (housed o here) (shown_in_collection text asks o row here shown))

    pub shows_inside : (id : ℕ) → FindsPrinted c text (Some id)
        → (o : ObjectRow) (row : List Text) → IsIn c.objects o → IsIn (shown_object c user q o.id) row → o.collection ≡ id
    shows_inside id found o row here shown = found.1 o.collection (housed o here) (shown_in_collection text asks o row here shown)

    pub no_collection_shown : FindsPrinted c text None → (ids : List ℕ) → HasShownCollections c user q ids
    no_collection_shown none ids r row here shown = absurd (none r.id (collection_there c s r here) (shown_collection_is text asks r.id row shown))

    pub one_collection_shown : (id : ℕ) → FindsPrinted c text (Some id) → HasShownCollections c user q (id ∷ [])
    one_collection_shown id found r row here shown = inl (sym (found.1 r.id (collection_there c s r here) (shown_collection_is text asks r.id row shown)))

  module _ (id : ℕ) (inside : (o : ObjectRow) (row : List Text) → IsIn c.objects o → IsIn (shown_object c user q o.id) row → o.collection ≡ id) where
    pub shown_inside : (ids : List ℕ)
        → IsIndex (λ (o : ObjectRow). o.id) (place_cmp (λ o. o.collection) (λ o. o.name)) (filter (λ o. o.collection == id) c.objects) ids
        → HasShownObjects c user q ids
    shown_inside ids index o row here shown =
        subst (λ (xs : List ℕ). IsIn xs o.id) (sym index.ids_are)
        (map_from_in (λ (x : ObjectRow). x.id) index.named o
        (index.all o (filter_from_in (λ (x : ObjectRow). x.collection == id) c.objects o here (eq-eqb o.collection id (inside o row here shown)))))

    -- ---- by the name in it

    module _ (name : Text) (asks : WantsText q.conds column.DataName name) where
      shown_name : (o : ObjectRow) (row : List Text) → IsIn c.objects o → IsIn (shown_object c user q o.id) row → o.name ≡ name
      shown_name o row here shown =
          sym (last-push (place o.collection) o.name)
          ∙ equal_cell (grid_of c) q (item_combination c (place o.collection) (Some o)) OfItem column.DataName name refl asks (object_by o row here shown).item

      found_named : (o : ObjectRow) (row : List Text) → IsIn c.objects o → IsIn (shown_object c user q o.id) row
          → find (λ r. is_object_named id name r) c.objects ≡ Some o
      found_named o row here shown =
          let within = inside o row here shown in
          let called = shown_name o row here shown in
          find_from_in (λ r. is_object_named id name r) c.objects o here
          (and_from (o.collection == id) (same_text o.name name) (eq-eqb o.collection id within) ((same_text-Decides o.name name).1 called))
          (λ y there passes.
          let parts = and_parts (y.collection == id) (same_text y.name name) passes in
          let beside : y.collection ≡ o.collection = eqb-true y.collection id parts.0 ∙ sym within in
          let alike : y.name ≡ o.name = (same_text-Decides y.name name).0 parts.1 ∙ sym called in
          objects_apart c s y o there here (λ i. place (beside i) ++ alike i ∷ []))

      pub no_object_named : None ≡ option_map (λ (r : ObjectRow). r.id) (find (λ r. is_object_named id name r) c.objects)
          → (ids : List ℕ) → HasShownObjects c user q ids
      no_object_named none ids o row here shown = absurd (nothing_some o.id (none ∙ ap (option_map (λ (r : ObjectRow). r.id)) (found_named o row here shown)))
        where
          nothing_some : (n : ℕ) → None ≡ Some n → ⊥
          nothing_some n e = absurd cc

      pub one_object_named : (i : ℕ) → Some i ≡ option_map (λ (r : ObjectRow). r.id) (find (λ r. is_object_named id name r) c.objects)
          → HasShownObjects c user q (i ∷ [])
      one_object_named i some o row here shown = inl (one_of i o.id (some ∙ ap (option_map (λ (r : ObjectRow). r.id)) (found_named o row here shown)))
        where
          one_of : (m n : ℕ) → Some m ≡ Some n → m ≡ n
          one_of m n e = cc

-- ---- all of them

pub all_objects : (c : Cat) (user : Text) (q : Query) → HasShownObjects c user q (map (λ (o : ObjectRow). o.id) c.objects)
all_objects c user q o row here shown = map_from_in (λ (x : ObjectRow). x.id) c.objects o here

pub all_collections : (c : Cat) (user : Text) (q : Query) → HasShownCollections c user q (map (λ (r : CollectionRow). r.id) c.collections)
all_collections c user q r row here shown = map_from_in (λ (x : CollectionRow). x.id) c.collections r here

-- and a list that has more
pub shown_among : (c : Cat) (user : Text) (q : Query) (ids more : List ℕ)
    → ((id : ℕ) → IsIn ids id → IsIn more id) → HasShownObjects c user q ids → HasShownObjects c user q more
shown_among c user q ids more to shown o row here has = to o.id (shown o row here has)
