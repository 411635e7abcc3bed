-- What the changes that take the metadata and the access of an item away make of the rows and of the grid.
use Rattle.std.proofs.Common.{◌≡◌, ◌==◌, ℕ, Bool, true, false, cond, List, [], ◌∷◌, ◌++◌, Ok, Err, IsTrue, inl, inr, refl, sym, ap, ◌∙◌, subst, eq-eqb, eqb-true}
use Rattle.std.specs.Prelude.{filter, map, not, Result, ◌&&◌, ◌||◌}
use Rattle.std.specs.List.{list_all, list_any, AllByRecursion}
use Rattle.std.specs.List.Sorted.{IsStrictlySortedBy}
use Rattle.std.specs.declared.cmp.Ordering.{Ordering}
use Rattle.std.specs.declared.cmp.Ordering.TheVariants.{Less, Equal}
use Rattle.std.specs.Ordering.{nat_cmp, eq_by_cmp, is_eq, ordering_reverse}
use Rattle.std.specs.Cmp.{both_ways, Equal-is, tied_itself}
use Rattle.std.proofs.lemmas.Bool.{and_parts, and_from}
use Rattle.grid_model.specs.Names.{Path, same_path}
use Rattle.grid_model.specs.Rows.{Cat, entry_cmp, item_there, item_number, same_item, triples_of, access_of}
use Rattle.grid_model.specs.Rows as rows
use Rattle.grid_model.specs.RowPaths.{collection_path}
use Rattle.grid_model.specs.RowGrids.{grid_of, item_place, thing_of, triple_of, user_name}
use Rattle.grid_model.specs.Applying.{IsMade, apply, apply_all, where_fits, gives_access, is_given, is_entry}
use Rattle.grid_model.specs.Operations.Common.{forget, is_thing_at}
use Rattle.grid_model.specs.declared.deltas.Delta.{Delta}
use Rattle.grid_model.specs.declared.deltas.Delta.TheVariants as delta
use Rattle.grid_model.specs.declared.deltas.EntryRow.{EntryRow}
use Rattle.grid_model.specs.declared.deltas.TripleRow.{TripleRow}
use Rattle.grid_model.specs.declared.grid.ItemKind.{ItemKind}
use Rattle.grid_model.specs.declared.grid.ItemKind.TheVariants as kind
use Rattle.grid_model.proofs.Comparing.{same_path-Decides}
use Rattle.grid_model.proofs.RowOrders as orders
use Rattle.tables_laws.proofs.Rows.{IsIn, in_from_any, any_from_in, in_from_all, all_from_in, in_from_filter, filter_from_in, IsTable-filter}
use Rattle.tables_laws.proofs.Numbered.{same_number, equal_number}
use Rattle.tables_laws.proofs.GridOrders.{then_equal, kind_numbered, triple_cmp_total, triple_cmp-IsAntisymmetric, access_cmp_total, access_cmp-IsAntisymmetric}
use Rattle.tables_laws.proofs.Grids.{grid-same}
use Rattle.tables_laws.proofs.Places.{items_apart}
use Rattle.tables_laws.proofs.Standing.{EntryStands, TripleStands}
use Rattle.tables_laws.proofs.Sound.{IsSound}
use Rattle.grid_journal.specs.Journal.{AreSpelled, can_be_kept}
use Rattle.plan_base.specs.Forgetting.{forgotten, no_triples, no_entries}
use Rattle.plan_base.proofs.AtPaths.{sound_of}
use Rattle.plan_base.proofs.MapRows.{from_list-kept}
use Rattle.plan_base.proofs.Mere.{is_mere}

-- ---- rows that are dropped one after another

module _ {X : Type 0} where
  filter-all : (xs : List X) → filter (λ _. true) xs ≡ xs
  filter-all [] = refl
  filter-all (x ∷ xs) = ap (λ ys. x ∷ ys) (filter-all xs)

  filter-congr : (p q : X → Bool) (xs : List X) → ((x : X) → IsIn xs x → p x ≡ q x) → filter p xs ≡ filter q xs
  filter-congr p q [] same = refl
  filter-congr p q (x ∷ xs) same =
      ap (λ b. cond b (x ∷ filter p xs) (filter p xs)) (same x (inl refl)) ∙ ap (λ (ys : List X). cond (q x) (x ∷ ys) ys) (filter-congr p q xs (λ y later. same y (inr later)))

  filter-then : (a b : X → Bool) (xs : List X) → filter (λ x. not (b x)) (filter (λ x. not (a x)) xs) ≡ filter (λ x. not (a x || b x)) xs
  filter-then a b [] = refl
  filter-then a b (x ∷ xs) =
      elim (a x) as (λ t. filter (λ y. not (b y)) (cond (not t) (x ∷ filter (λ y. not (a y)) xs) (filter (λ y. not (a y)) xs)) ≡ cond (not (t || b x)) (x ∷ filter (λ y. not (a y || b y)) xs) (filter (λ y. not (a y || b y)) xs)) [
        | true ↦ filter-then a b xs
        | false ↦ ap (λ (ys : List X). cond (not (b x)) (x ∷ ys) ys) (filter-then a b xs)
      ]

  module _ (drops : X → X → Bool) where
    abbrev without_all : List X → List X → List X
    without_all xs [] = xs
    without_all xs (t ∷ ts) = without_all (filter (λ x. not (drops t x)) xs) ts

    without_all-is : (ts xs : List X) → without_all xs ts ≡ filter (λ x. not (list_any (λ t. drops t x) ts)) xs
    without_all-is [] xs = sym (filter-all xs)
    without_all-is (t ∷ ts) xs = without_all-is ts (filter (λ x. not (drops t x)) xs) ∙ filter-then (drops t) (λ x. list_any (λ u. drops u x) ts) xs

    -- where those that are dropped are just those that pass a test
    without_all-kept : (p : X → Bool) (xs : List X) → ((x : X) → drops x x ≡ true) → ((t x : X) → drops t x ≡ true → p t ≡ true → p x ≡ true) → without_all xs (filter p xs) ≡ filter (λ x. not (p x)) xs
    without_all-kept p xs own alike =
        without_all-is (filter p xs) xs ∙ filter-congr (λ x. not (list_any (λ t. drops t x) (filter p xs))) (λ x. not (p x)) xs (λ x here. ap not (both_ways (list_any (λ t. drops t x) (filter p xs)) (p x)
        (λ e. let found = in_from_any (λ t. drops t x) (filter p xs) e in alike found.0 x found.2 (in_from_filter p xs found.0 found.1).1)
        (λ e. any_from_in (λ t. drops t x) (filter p xs) x (filter_from_in p xs x here e) (own x))))

    module _ (cmp : X → X → Ordering) (step : List X → Cat) (change : X → Delta) (P : X → Type 0) (own : (x : X) → drops x x ≡ true) (ties : (t x : X) → drops t x ≡ true → cmp t x ≡ Equal)
        (works : (xs : List X) (t : X) → P t → list_any (drops t) xs ≡ true → apply (step xs) (change t) ≡ Ok (step (filter (λ x. not (drops t x)) xs))) where
      applied_each : (ts xs : List X) → IsStrictlySortedBy cmp ts → ((t : X) → IsIn ts t → IsIn xs t × P t) → apply_all (step xs) (map change ts) ≡ Ok (step (without_all xs ts))
      unfolding IsStrictlySortedBy
      applied_each [] xs sorted each = refl
      applied_each (t ∷ ts) xs sorted each =
          let its = each t (inl refl) in
          ap (λ r. elim r [ Ok next ↦ apply_all next (map change ts) | Err cause ↦ Err cause ]) (works xs t its.1 (any_from_in (drops t) xs t its.0 (own t)))
          ∙ applied_each ts (filter (λ x. not (drops t x)) xs) sorted.1 (λ x later. let was = each x (inr later) in
          (filter_from_in (λ y. not (drops t y)) xs x was.0 (spared x (in_from_all (λ y. cmp t y ≡ Less) ts sorted.0 x later) (drops t x) refl), was.1))
        where
          spared : (x : X) → cmp t x ≡ Less → (b : Bool) → drops t x ≡ b → not (drops t x) ≡ true
          spared x less true is = let equal : cmp t x ≡ Equal = ties t x is in absurd cc
          spared x less false is = ap not is

apply_then : (c d : Cat) (xs ys : List Delta) → apply_all c xs ≡ Ok d → apply_all c (xs ++ ys) ≡ apply_all d ys
apply_then c d [] ys e = let same : c ≡ d = cc in ap (λ x. apply_all x ys) same
apply_then c d (x ∷ xs) ys e = by (apply c x) e (λ next h. apply_then next d xs ys h)
  where
    by : (r : Result Cat ℕ) → elim r as (λ _. Result Cat ℕ) [ Ok next ↦ apply_all next xs | Err cause ↦ Err cause ] ≡ Ok d → ((next : Cat) → apply_all next xs ≡ Ok d → apply_all next (xs ++ ys) ≡ apply_all d ys)
        → elim r as (λ _. Result Cat ℕ) [ Ok next ↦ apply_all next (xs ++ ys) | Err cause ↦ Err cause ] ≡ apply_all d ys
    by (Ok next) h more = more next h
    by (Err cause) h more = absurd cc

-- ---- the rows of an item

module _ (k : ItemKind) (id : ℕ) where
  abbrev of_triple : TripleRow → Bool
  of_triple t = same_item t.kind t.id k id

  abbrev of_entry : EntryRow → Bool
  of_entry e = same_item e.kind e.id k id

  triple_alike : (t x : TripleRow) → eq_by_cmp rows.triple_cmp x t ≡ true → of_triple t ≡ true → of_triple x ≡ true
  triple_alike t x e passes =
      let one = then_equal (nat_cmp (item_number x.kind) (item_number t.kind)) _ ((Equal-is (rows.triple_cmp x t)).0 e) in
      let two = then_equal (nat_cmp x.id t.id) _ one.1 in
      (λ i. (same_number (item_number x.kind) (item_number t.kind) one.0 i == item_number k) && (same_number x.id t.id two.0 i == id)) ∙ passes

  entry_alike : (t x : EntryRow) → is_entry t.kind t.id t.user x ≡ true → of_entry t ≡ true → of_entry x ≡ true
  entry_alike t x e passes =
      let parts = and_parts (same_item x.kind x.id t.kind t.id) (x.user == t.user) e in
      let items = and_parts (item_number x.kind == item_number t.kind) (x.id == t.id) parts.0 in
      (λ i. (eqb-true (item_number x.kind) (item_number t.kind) items.0 i == item_number k) && (eqb-true x.id t.id items.1 i == id)) ∙ passes

entry_ties : (t x : EntryRow) → is_entry t.kind t.id t.user x ≡ true → entry_cmp t x ≡ Equal
entry_ties t x e =
    let parts = and_parts (same_item x.kind x.id t.kind t.id) (x.user == t.user) e in
    let items = and_parts (item_number x.kind == item_number t.kind) (x.id == t.id) parts.0 in
    rw (
      equal_number (item_number t.kind) (item_number x.kind) (sym (eqb-true (item_number x.kind) (item_number t.kind) items.0)),
      equal_number t.id x.id (sym (eqb-true x.id t.id items.1)),
      equal_number t.user x.user (sym (eqb-true x.user t.user parts.1)),
    ) refl

entry_own : (t : EntryRow) → is_entry t.kind t.id t.user t ≡ true
entry_own t =
    and_from (same_item t.kind t.id t.kind t.id) (t.user == t.user)
    (and_from (item_number t.kind == item_number t.kind) (t.id == t.id) (eq-eqb (item_number t.kind) (item_number t.kind) refl) (eq-eqb t.id t.id refl)) (eq-eqb t.user t.user refl)

triple_ties : (t x : TripleRow) → eq_by_cmp rows.triple_cmp x t ≡ true → rows.triple_cmp t x ≡ Equal
triple_ties t x e = orders.triple_cmp_total.antisymm t x ∙ ap ordering_reverse ((Equal-is (rows.triple_cmp x t)).0 e)

triple_own : (t : TripleRow) → eq_by_cmp rows.triple_cmp t t ≡ true
triple_own t = ap is_eq (tied_itself orders.triple_cmp_total t)

-- ---- the catalogue without them

module _ (c : Cat) (s : IsSound c) (k : ItemKind) (id : ℕ) where
  abbrev pub untold : Cat
  untold = record c { triples = filter (λ t. not (same_item t.kind t.id k id)) c.triples }

  abbrev pub without_said : Cat
  without_said = record untold { entries = filter (λ e. not (same_item e.kind e.id k id)) c.entries }

  applied_triples : apply_all c (no_triples (triples_of c k id)) ≡ Ok untold
  applied_triples =
      applied_each (λ t x. eq_by_cmp rows.triple_cmp x t) rows.triple_cmp (λ xs. record c { triples = xs }) (λ t. delta.NoTriple t) (λ t. item_there c t.kind t.id ≡ true) triple_own triple_ties
      (λ xs t there has. ap (λ b. where_fits b 12 (record c { triples = filter (λ o. not (eq_by_cmp rows.triple_cmp o t)) xs })) (and_from (item_there c t.kind t.id) (list_any (λ o. eq_by_cmp rows.triple_cmp o t) xs) there has))
      (triples_of c k id) c.triples (IsTable-filter rows.triple_cmp (λ _. true) (of_triple k id) c.triples s.cat.triples).ordered
      (λ t here. let its = in_from_filter (of_triple k id) c.triples t here in (its.0, in_from_all (TripleStands c) c.triples s.tied.triples t its.0))
      ∙ ap (λ (xs : List TripleRow). Ok (record c { triples = xs })) (without_all-kept (λ t x. eq_by_cmp rows.triple_cmp x t) (of_triple k id) c.triples triple_own (triple_alike k id))

  applied_entries : apply_all untold (no_entries (access_of c k id)) ≡ Ok without_said
  applied_entries =
      applied_each (λ t x. is_entry t.kind t.id t.user x) entry_cmp (λ xs. record untold { entries = xs }) (λ (e : EntryRow). delta.NoEntry e.kind e.id e.user) (λ t. Unit {0}) entry_own entry_ties
      (λ xs t there has. ap (λ b. where_fits b 14 (record untold { entries = filter (λ x. not (is_entry t.kind t.id t.user x)) xs })) has)
      (access_of c k id) c.entries (IsTable-filter entry_cmp (λ _. true) (of_entry k id) c.entries s.cat.entries).ordered (λ t here. ((in_from_filter (of_entry k id) c.entries t here).0, tt))
      ∙ ap (λ (xs : List EntryRow). Ok (record untold { entries = xs })) (without_all-kept (λ t x. is_entry t.kind t.id t.user x) (of_entry k id) c.entries entry_own (entry_alike k id))

  -- the changes give it
  pub applied_forgotten : apply_all c (forgotten c k id) ≡ Ok without_said
  applied_forgotten = apply_then c untold (no_triples (triples_of c k id)) (no_entries (access_of c k id)) applied_triples ∙ applied_entries

  module _ (gives : gives_access k ≡ true) (there : item_there c k id ≡ true) (p : Path) (place : item_place c (collection_path c) k id ≡ p) where
    -- what is at the path is the item
    at_path : (l : ItemKind) (i : ℕ) → gives_access l ≡ true → item_there c l i ≡ true → same_path p (item_place c (collection_path c) l i) ≡ same_item l i k id
    at_path l i l_gives has = both_ways (same_path p (item_place c (collection_path c) l i)) (same_item l i k id)
        (λ e. let items = items_apart c s l k i id l_gives gives has there (sym ((same_path-Decides p (item_place c (collection_path c) l i)).0 e) ∙ sym place) in
        and_from (item_number l == item_number k) (i == id) (eq-eqb (item_number l) (item_number k) (ap item_number items.0)) (eq-eqb i id items.1))
        (λ e. let parts = and_parts (item_number l == item_number k) (i == id) e in
        let kinds = kind_numbered l k (eqb-true (item_number l) (item_number k) parts.0) in
        let ids = eqb-true i id parts.1 in
        (same_path-Decides p (item_place c (collection_path c) l i)).1 (sym ((λ j. item_place c (collection_path c) (kinds j) (ids j)) ∙ place)))

    no_item : (l : ItemKind) (i : ℕ) → gives_access l ≡ false → same_item l i k id ≡ false
    no_item l i none = by (same_item l i k id) refl
      where
        by : (b : Bool) → same_item l i k id ≡ b → same_item l i k id ≡ false
        by false is = is
        by true is =
            let parts = and_parts (item_number l == item_number k) (i == id) is in
            let wrong : gives_access l ≡ true = ap gives_access (kind_numbered l k (eqb-true (item_number l) (item_number k) parts.0)) ∙ gives in
            absurd cc

    thing_here : (l : ItemKind) (i : ℕ) → item_there c l i ≡ true → is_thing_at p (thing_of c (collection_path c) l i) ≡ same_item l i k id
    thing_here kind.Object i has = at_path kind.Object i refl has
    thing_here kind.Collection i has = at_path kind.Collection i refl has
    thing_here kind.Resource i has = sym (no_item kind.Resource i refl)
    thing_here kind.User i has = sym (no_item kind.User i refl)

    entry_here : (x : EntryRow) → IsIn c.entries x → same_path (item_place c (collection_path c) x.kind x.id) p ≡ same_item x.kind x.id k id
    entry_here x here =
        let stands : EntryStands c x = in_from_all (EntryStands c) c.entries s.tied.entries x here in
        turned (item_place c (collection_path c) x.kind x.id) p ∙ at_path x.kind x.id (and_parts (gives_access x.kind) (is_given x.level) stands.0).0 stands.1
      where
        turned : (a b : Path) → same_path a b ≡ same_path b a
        turned a b = both_ways (same_path a b) (same_path b a) (λ e. (same_path-Decides b a).1 (sym ((same_path-Decides a b).0 e))) (λ e. (same_path-Decides a b).1 (sym ((same_path-Decides b a).0 e)))

    -- the grid forgets it
    pub grid-forgotten : grid_of without_said ≡ forget (grid_of c) p
    grid-forgotten =
        grid-same c without_said refl (forget (grid_of c) p) (λ j. record (grid_of c) {
          triples = from_list-kept triple_cmp_total triple_cmp-IsAntisymmetric (λ t. triple_of c (collection_path c) t) (λ (t : TripleRow). tt) c.triples (λ t. not (same_item t.kind t.id k id)) (λ t. not (is_thing_at p t.of))
              (λ t here. ap not (sym (thing_here t.kind t.id (in_from_all (TripleStands c) c.triples s.tied.triples t here)))) j;
          access = from_list-kept access_cmp_total access_cmp-IsAntisymmetric (λ (e : EntryRow). (item_place c (collection_path c) e.kind e.id, user_name c e.user)) (λ (e : EntryRow). e.level) c.entries
              (λ e. not (same_item e.kind e.id k id)) (λ key. not (same_path key.0 p)) (λ e here. ap not (sym (entry_here e here))) j;
        })

-- ---- the changes are mere, and may be kept

mere-triples : (xs : List TripleRow) (ys : List Delta) → list_all is_mere (no_triples xs ++ ys) ≡ list_all is_mere ys
mere-triples [] ys = refl
mere-triples (x ∷ xs) ys = mere-triples xs ys

mere-entries : (xs : List EntryRow) (ys : List Delta) → list_all is_mere (no_entries xs ++ ys) ≡ list_all is_mere ys
mere-entries [] ys = refl
mere-entries (x ∷ xs) ys = mere-entries xs ys

both_appended : (xs ys zs : List Delta) → (xs ++ ys) ++ zs ≡ xs ++ (ys ++ zs)
both_appended [] ys zs = refl
both_appended (x ∷ xs) ys zs = ap (λ (l : List Delta). x ∷ l) (both_appended xs ys zs)

pub forgotten-mere : (c : Cat) (k : ItemKind) (id : ℕ) (ys : List Delta) → list_all is_mere (forgotten c k id ++ ys) ≡ list_all is_mere ys
forgotten-mere c k id ys =
    ap (list_all is_mere) (both_appended (no_triples (triples_of c k id)) (no_entries (access_of c k id)) ys)
    ∙ mere-triples (triples_of c k id) (no_entries (access_of c k id) ++ ys) ∙ mere-entries (access_of c k id) ys

pub forgotten_then : (c : Cat) (s : IsSound c) (k : ItemKind) (id : ℕ) (ys : List Delta) → apply_all c (forgotten c k id ++ ys) ≡ apply_all (without_said c s k id) ys
forgotten_then c s k id ys = apply_then c (without_said c s k id) (forgotten c k id) ys (applied_forgotten c s k id)

-- ---- what the calls ask

pub all_give : (c : Cat) → IsMade c → (k : ItemKind) (id : ℕ) (xs : List EntryRow) → xs ≡ access_of c k id → AllByRecursion (λ e. IsTrue (gives_access e.kind)) xs
all_give c made k id xs is =
    let P : List EntryRow → Type 0 = λ es. AllByRecursion (λ (e : EntryRow). IsTrue (gives_access e.kind)) es in
    subst P (sym is) (all_from_in (λ (e : EntryRow). IsTrue (gives_access e.kind)) (access_of c k id) (λ x here.
    (and_parts (gives_access x.kind) (is_given x.level) (in_from_all (EntryStands c) c.entries (sound_of c made).tied.entries x (in_from_filter (of_entry k id) c.entries x here).0).0).0))

pub some_spelled : (c : Cat) (k : ItemKind) (id : ℕ) (xs : List TripleRow) → AreSpelled c.triples → xs ≡ triples_of c k id → AreSpelled xs
some_spelled c k id xs all is =
    let P : List TripleRow → Type 0 = λ ts. AreSpelled ts in
    let Q : TripleRow → Type 0 = λ t. IsTrue (can_be_kept (delta.NoTriple t)) in
    subst P (sym is) (all_from_in Q (triples_of c k id) (λ x here. in_from_all Q c.triples all x (in_from_filter (of_triple k id) c.triples x here).0))
