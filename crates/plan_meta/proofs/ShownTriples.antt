-- What is shown of a thing, by the rows of its item.
use Rattle.std.proofs.Common.{◌≡◌, ◌==◌, Bool, true, false, cond, List, [], ◌∷◌, Ok, Err, IsTrue, refl, sym, ap, ◌∙◌, eq-eqb, eqb-true}
use Rattle.std.specs.Prelude.{map, filter, T, ⊤, ◌&&◌}
use Rattle.std.specs.List.{AllByRecursion, list_all}
use Rattle.std.specs.List.Sorted.{IsStrictlySortedBy}
use Rattle.std.specs.declared.cmp.Ordering.{Ordering}
use Rattle.std.specs.declared.cmp.Ordering.TheVariants.{Less, Equal, Greater}
use Rattle.std.specs.Ordering.{nat_cmp, ordering_then, eq_by_cmp}
use Rattle.std.specs.Cmp.{IsTotalOrder, nat_cmp_total, on_total, then_total, tied_itself}
use Rattle.std.specs.FinMap.{IsAntisymmetric, is_sorted, put as put_entry}
use Rattle.std.specs.FinMap.Entries.{is_sorted-where_key, by_order}
use Rattle.std.proofs.lemmas.Bool.{and_parts, and_from}
use Rattle.grid_model.specs.Maps.{Map, from_list, if_sorted}
use Rattle.grid_model.specs.MapLists.{keep, keys}
use Rattle.grid_model.specs.Names.{Text, text_cmp}
use Rattle.grid_model.specs.Grid.{Thing, Triple, thing_cmp, thing_number, thing_names, thing_triple_cmp}
use Rattle.grid_model.specs.Listings.{may_see, triples_at, lsmeta_rows}
use Rattle.grid_model.specs.Refusing.{Or, ◌>>=◌}
use Rattle.grid_model.specs.Rows.{Cat, item_number, same_item, triple_cmp, triples_of, kind_of, id_of}
use Rattle.grid_model.specs.RowPaths.{collection_path}
use Rattle.grid_model.specs.RowGrids.{grid_of, thing_of, triple_of}
use Rattle.grid_model.specs.Applying.{IsMade}
use Rattle.grid_model.specs.Writable.{is_word}
use Rattle.grid_model.specs.Deltas.{text, parts_of, u64, all_fit}
use Rattle.grid_model.specs.declared.deltas.Delta.TheVariants as delta
use Rattle.grid_model.specs.declared.deltas.Item.{Item}
use Rattle.grid_model.specs.declared.deltas.TripleRow.{TripleRow}
use Rattle.grid_model.specs.declared.refusal.Refusal.{Refusal}
use Rattle.grid_model.proofs.Comparing.{path_cmp_total}
use Rattle.grid_model.proofs.MapLemmas.{entries-put}
use Rattle.grid_journal.specs.Journal.{AreSpelled, can_be_kept, sets_no_rules}
use Rattle.tables_laws.proofs.Rows.{IsIn, in_from_all, all_from_in, all_kept, in_from_filter}
use Rattle.tables_laws.proofs.Numbered.{equal_number}
use Rattle.tables_laws.proofs.TableMaps.{entries_of, tied_so}
use Rattle.tables_laws.proofs.GridOrders.{kind_numbered, triple_cmp_total, triple_cmp-IsAntisymmetric}
use Rattle.tables_laws.proofs.Standing.{TripleStands}
use Rattle.tables_laws.proofs.Places.{things_apart}
use Rattle.tables_laws.proofs.Sound.{IsSound}
use Rattle.plan_base.proofs.AtPaths.{sound_of}
use Rattle.plan_base.proofs.MapRows.{from_list-kept}
use Rattle.plan_meta.specs.Things.{IsItemOf}
use Rattle.plan_meta.specs.Showing.{triple_words}
use Rattle.plan_meta.proofs.WordTexts.{kept_word}

-- ---- things in their order

thing_cmp_total : IsTotalOrder thing_cmp
thing_cmp_total = then_total (on_total thing_number nat_cmp_total) (on_total thing_names path_cmp_total)

-- things that tie are one, since triples that tie are
thing_alone : IsAntisymmetric thing_cmp
thing_alone a b e =
    let one : Triple = record { of = a; attribute = []; value = []; unit = [] } in
    let other : Triple = record { of = b; attribute = []; value = []; unit = [] } in
    ap (λ (t : Triple). t.of) (triple_cmp-IsAntisymmetric one other (ap (λ (o : Ordering). ordering_then o Equal) e))

-- ---- lists

module _ {X Y : Type 0} where
  filter-map : (p : Y → Bool) (f : X → Y) (xs : List X) → filter p (map f xs) ≡ map f (filter (λ x. p (f x)) xs)
  filter-map p f [] = refl
  filter-map p f (x ∷ xs) =
      ap (λ (ys : List Y). cond (p (f x)) (f x ∷ ys) ys) (filter-map p f xs)
      ∙ elim (p (f x)) as (λ b. cond b (f x ∷ map f (filter (λ x. p (f x)) xs)) (map f (filter (λ x. p (f x)) xs)) ≡ map f (cond b (x ∷ filter (λ x. p (f x)) xs) (filter (λ x. p (f x)) xs))) [ true ↦ refl | false ↦ refl ]

map-map : {X Y Z : Type 0} (g : Y → Z) (f : X → Y) (xs : List X) → map g (map f xs) ≡ map (λ x. g (f x)) xs
map-map g f [] = refl
map-map g f (x ∷ xs) = ap (λ (ys : List _). g (f x) ∷ ys) (map-map g f xs)

-- rows that pass a test, in another order that those of them have too
sorted_also : {X : Type 0} (one other : X → X → Ordering) (p : X → Bool) (xs : List X) → ((x y : X) → p x ≡ true → p y ≡ true → one x y ≡ Less → other x y ≡ Less)
    → IsStrictlySortedBy one xs → IsStrictlySortedBy other (filter p xs)
unfolding IsStrictlySortedBy
sorted_also one other p [] also sorted = tt
sorted_also one other p (x ∷ xs) also sorted = elim (p x) as (λ b. p x ≡ b → IsStrictlySortedBy other (cond b (x ∷ filter p xs) (filter p xs))) [
  | true ↦ λ passes. (
    all_from_in (λ y. other x y ≡ Less) (filter p xs) (λ y here.
        let its = in_from_filter p xs y here in
        also x y passes its.1 (in_from_all (λ z. one x z ≡ Less) xs sorted.0 y its.0)),
    sorted_also one other p xs also sorted.1,
  )
  | false ↦ λ fails. sorted_also one other p xs also sorted.1
] refl

module _ {K V X : Type 0} (R : K → K → Ordering) (key : X → K) (value : X → V) where
  first_put : (k : K) (v : V) (rows : List X) → AllByRecursion (λ y. R k (key y) ≡ Less) rows → put_entry R k v (entries_of key value rows) ≡ (k, v) ∷ entries_of key value rows
  first_put k v [] above = refl
  first_put k v (y ∷ rows) above =
      ap (λ (o : Ordering). by_order o ((k, v) ∷ (key y, value y) ∷ entries_of key value rows) ((key y, v) ∷ entries_of key value rows) ((key y, value y) ∷ put_entry R k v (entries_of key value rows))) above.0

  -- the entries of the map of rows whose keys strictly rise
  entries_in_order : IsTotalOrder R → (rows : List X) → IsStrictlySortedBy (λ a b. R (key a) (key b)) rows → (from_list {R = R} (entries_of key value rows)).entries ≡ entries_of key value rows
  unfolding IsStrictlySortedBy
  entries_in_order o [] sorted = refl
  entries_in_order o (r ∷ rows) sorted =
      entries-put o (from_list (entries_of key value rows)) (key r) (value r)
      ∙ ap (λ (es : List (K × V)). put_entry R (key r) (value r) es) (entries_in_order o rows sorted.1)
      ∙ first_put (key r) (value r) rows sorted.0

module _ {K V : Type 0} {R : K → K → Ordering} where
  in_order_kept : (es : List (K × V)) (b : Bool) (e : is_sorted R es ≡ b) (m : Map R V) → T b → (if_sorted es b e m).entries ≡ es
  in_order_kept es true e m h = refl
  in_order_kept es false e m h = absurd h

  -- the keys of the entries that a test keeps are the keys that it keeps
  keys-keep : (f : K → Bool) (m : Map R V) → keys (keep (λ k _. f k) m) ≡ filter f (keys m)
  keys-keep f m =
      ap (map (λ (e : K × V). e.0)) (in_order_kept (filter (λ e. f e.0) m.entries) _ refl m (is_sorted-where_key R f m.entries m.sorted))
      ∙ sym (filter-map f (λ (e : K × V). e.0) m.entries)

-- ---- the triples of a thing

module _ (c : Cat) (s : IsSound c) (thing : Thing) (i : Item) (its : IsItemOf c thing i) where
  abbrev at : TripleRow → Triple
  at x = triple_of c (collection_path c) x

  abbrev of_item : TripleRow → Bool
  of_item x = same_item x.kind x.id (kind_of i) (id_of i)

  abbrev of_thing : Triple → Bool
  of_thing t = eq_by_cmp thing_cmp t.of thing

  of_it : (x : TripleRow) → of_item x ≡ true → thing_of c (collection_path c) x.kind x.id ≡ thing
  of_it x e =
      let parts = and_parts (item_number x.kind == item_number (kind_of i)) (x.id == id_of i) e in
      let kinds = kind_numbered x.kind (kind_of i) (eqb-true (item_number x.kind) (item_number (kind_of i)) parts.0) in
      let ids = eqb-true x.id (id_of i) parts.1 in
      (λ j. thing_of c (collection_path c) (kinds j) (ids j)) ∙ its.thing_is

  told : (x : TripleRow) → IsIn c.triples x → of_item x ≡ of_thing (at x)
  told x here =
      sym (tied_so thing_cmp_total thing_alone (at x).of thing (of_item x)
      (λ same.
      let items = things_apart c s x.kind (kind_of i) x.id (id_of i) (in_from_all (TripleStands c) c.triples s.tied.triples x here) its.there (same ∙ sym its.thing_is) in
      and_from (item_number x.kind == item_number (kind_of i)) (x.id == id_of i) (eq-eqb (item_number x.kind) (item_number (kind_of i)) (ap item_number items.0)) (eq-eqb x.id (id_of i) items.1))
      (of_it x))

  last_tie : (o : Ordering) → ordering_then o Equal ≡ o
  last_tie Less = refl
  last_tie Equal = refl
  last_tie Greater = refl

  -- rows of the item stand in the order of their triples
  rises : (x y : TripleRow) → of_item x ≡ true → of_item y ≡ true → triple_cmp x y ≡ Less → thing_triple_cmp (at x) (at y) ≡ Less
  rises x y one other less =
      let a = and_parts (item_number x.kind == item_number (kind_of i)) (x.id == id_of i) one in
      let b = and_parts (item_number y.kind == item_number (kind_of i)) (y.id == id_of i) other in
      let numbers : nat_cmp (item_number x.kind) (item_number y.kind) ≡ Equal =
      equal_number (item_number x.kind) (item_number y.kind) (eqb-true (item_number x.kind) (item_number (kind_of i)) a.0 ∙ sym (eqb-true (item_number y.kind) (item_number (kind_of i)) b.0)) in
      let ids : nat_cmp x.id y.id ≡ Equal = equal_number x.id y.id (eqb-true x.id (id_of i) a.1 ∙ sym (eqb-true y.id (id_of i) b.1)) in
      let things : thing_cmp (at x).of (at y).of ≡ Equal = ap (thing_cmp (at x).of) (of_it y other ∙ sym (of_it x one)) ∙ tied_itself thing_cmp_total (at x).of in
      (λ j. ordering_then (things j)
      (ordering_then (text_cmp x.attribute y.attribute) (ordering_then (text_cmp x.value y.value) (last_tie (text_cmp x.unit y.unit) j))))
      ∙ sym (λ j. ordering_then (numbers j) (ordering_then (ids j)
      (ordering_then (text_cmp x.attribute y.attribute) (ordering_then (text_cmp x.value y.value) (text_cmp x.unit y.unit)))))
      ∙ less

  -- the triples of the thing are those of the rows of the item, in order
  pub triples_are : triples_at (grid_of c) thing ≡ map at (triples_of c (kind_of i) (id_of i))
  triples_are =
      sym (keys-keep of_thing (grid_of c).triples)
      ∙ ap (λ (m : Map thing_triple_cmp ⊤). keys m)
      (sym (from_list-kept triple_cmp_total triple_cmp-IsAntisymmetric at (λ (x : TripleRow). tt) c.triples of_item of_thing told))
      ∙ ap (map (λ (e : Triple × ⊤). e.0))
      (entries_in_order thing_triple_cmp at (λ (x : TripleRow). tt) triple_cmp_total (triples_of c (kind_of i) (id_of i))
      (sorted_also triple_cmp (λ x y. thing_triple_cmp (at x) (at y)) of_item c.triples rises s.cat.triples.ordered))
      ∙ map-map (λ (e : Triple × ⊤). e.0) (λ x. (at x, tt)) (triples_of c (kind_of i) (id_of i))

  pub shown_are : map (λ (t : Triple). t.attribute ∷ t.value ∷ t.unit ∷ []) (triples_at (grid_of c) thing) ≡ map triple_words (triples_of c (kind_of i) (id_of i))
  shown_are =
      ap (map (λ (t : Triple). t.attribute ∷ t.value ∷ t.unit ∷ [])) triples_are
      ∙ map-map (λ (t : Triple). t.attribute ∷ t.value ∷ t.unit ∷ []) at (triples_of c (kind_of i) (id_of i))

-- ---- their words

pub row_words : (t : TripleRow) → can_be_kept (delta.NoTriple t) ≡ true → list_all is_word (triple_words t) ≡ true
row_words t e =
    let fits = (and_parts (all_fit (parts_of (delta.NoTriple t))) (sets_no_rules (delta.NoTriple t)) e).0 in
    let number = and_parts (u64 t.id).fits ((text t.attribute).fits && ((text t.value).fits && ((text t.unit).fits && true))) fits in
    let one = and_parts (text t.attribute).fits ((text t.value).fits && ((text t.unit).fits && true)) number.1 in
    let two = and_parts (text t.value).fits ((text t.unit).fits && true) one.1 in
    let three = and_parts (text t.unit).fits true two.1 in
    and_from (is_word t.attribute) (is_word t.value && (is_word t.unit && true)) (kept_word t.attribute one.0)
    (and_from (is_word t.value) (is_word t.unit && true) (kept_word t.value two.0) (and_from (is_word t.unit) true (kept_word t.unit three.0) refl))

all_words : (rows : List TripleRow) → AreSpelled rows → list_all (list_all is_word) (map triple_words rows) ≡ true
all_words [] spelled = refl
all_words (t ∷ rows) spelled = and_from (list_all is_word (triple_words t)) (list_all (list_all is_word) (map triple_words rows)) (row_words t spelled.0) (all_words rows spelled.1)

-- ---- the rows of a listing, test by test

abbrev see_tests : Or ⊤ → List (List Text) → Or (List (List Text))
see_tests asked rows = asked >>= (λ _. Ok rows)

module _ (c : Cat) (made : IsMade c) (user : Text) (thing : Thing) where
  abbrev shown : List (List Text)
  shown = map (λ (t : Triple). t.attribute ∷ t.value ∷ t.unit ∷ []) (triples_at (grid_of c) thing)

  pub refused_sight : (r : Refusal) → may_see (grid_of c) user thing ≡ Err r → lsmeta_rows (grid_of c) user thing ≡ Err r
  refused_sight r refused i = see_tests (refused i) shown

  pub shows : may_see (grid_of c) user thing ≡ Ok tt → (i : Item) → IsItemOf c thing i → AreSpelled c.triples → (found : List TripleRow) → found ≡ triples_of c (kind_of i) (id_of i)
      → (rows : List (List Text)) → rows ≡ map triple_words found
      → (lsmeta_rows (grid_of c) user thing ≡ Ok rows) × IsTrue (list_all (list_all is_word) rows)
  shows may i its spelled found found_are rows are =
      let all : rows ≡ map triple_words (triples_of c (kind_of i) (id_of i)) = are ∙ ap (map triple_words) found_are in (
        (λ j. see_tests (may j) ((shown_are c (sound_of c made) thing i its ∙ sym all) j)),
        ap (list_all (list_all is_word)) all
            ∙ all_words (triples_of c (kind_of i) (id_of i)) (all_kept (λ t. IsTrue (can_be_kept (delta.NoTriple t))) (λ (x : TripleRow). same_item x.kind x.id (kind_of i) (id_of i)) c.triples spelled),
      )
