-- Which replicas are read, in the grid and by rows.
use Rattle.std.proofs.Common.{◌≡◌, ◌==◌, ℕ, Bool, true, false, cond, List, [], ◌∷◌, ◌++◌, map, Option, Some, None, inl, inr, IsTrue, refl, sym, ap, ◌∙◌, subst, eqb-true}
use Rattle.std.specs.Prelude.{◌&&◌, not, filter, find, option_map}
use Rattle.std.specs.Option.{IfSome, option_map_or}
use Rattle.std.specs.List.{AllByRecursion}
use Rattle.std.specs.List.Sorted.{IsStrictlySortedBy}
use Rattle.std.specs.declared.cmp.Ordering.{Ordering}
use Rattle.std.specs.declared.cmp.Ordering.TheVariants.{Less, Equal}
use Rattle.std.specs.Ordering.{nat_cmp, ordering_then}
use Rattle.std.specs.Cmp.{IsTotalOrder, nat_cmp_total}
use Rattle.std.specs.FinMap.{put as put_entry}
use Rattle.std.specs.FinMap.Entries.{by_order}
use Rattle.std.proofs.lemmas.Bool.{and_parts}
use Rattle.grid_model.specs.Maps.{from_list, get}
use Rattle.grid_model.specs.Names.{Text}
use Rattle.grid_model.specs.Grid.{Replica, Resource}
use Rattle.grid_model.specs.Rows.{Cat, object, resource, has_resource, replicas_of, replica_cmp}
use Rattle.grid_model.specs.RowGrids.{grid_of, object_of, replica_of, resource_name}
use Rattle.grid_model.specs.Applying.{IsMade}
use Rattle.grid_model.specs.Trees.{Resources, candidates, is_in, is_up, readable}
use Rattle.grid_model.specs.declared.deltas.ObjectRow.{ObjectRow}
use Rattle.grid_model.specs.declared.deltas.ReplicaRow.{ReplicaRow}
use Rattle.grid_model.specs.declared.deltas.ResourceRow.{ResourceRow}
use Rattle.grid_model.proofs.MapLemmas.{entries-put}
use Rattle.tables_laws.proofs.Rows.{IsIn, IsTable-filter, in_from_all, in_from_filter, in_from_find}
use Rattle.tables_laws.proofs.RowLists.{map-congr}
use Rattle.tables_laws.proofs.Numbered.{equal_number}
use Rattle.tables_laws.proofs.Places.{row_there}
use Rattle.tables_laws.proofs.Resources.{leaf_there}
use Rattle.tables_laws.proofs.Standing.{ReplicaStands}
use Rattle.tables_laws.proofs.TableMaps.{entries_of}
use Rattle.tables_laws.proofs.Sound.{IsSound}
use Rattle.grid_tree.specs.Reading.{FirstOf, IsReplica, is_asked, reads, stands_at, up_by}
use Rattle.grid_tree.proofs.Alike.{contains_of, sorted-map}
use Rattle.grid_tree.proofs.Named.{sound_of, get-named}
use Rattle.grid_tree.proofs.WaysUp.{stands_is}

-- ---- the map of rows that rise

module _ {K V X : Type 0} (R : K → K → Ordering) (key : X → K) (value : X → V) where
  put-first : (k : K) (v : V) (rows : List X) → AllByRecursion (λ y. R k (key y) ≡ Less) rows → put_entry R k v (entries_of key value rows) ≡ (k, v) ∷ entries_of key value rows
  put-first k v [] above = refl
  put-first k v (y ∷ rows) above =
      ap (λ (o : Ordering). by_order o ((k, v) ∷ (key y, value y) ∷ entries_of key value rows) ((key y, v) ∷ entries_of key value rows) ((key y, value y) ∷ put_entry R k v (entries_of key value rows))) above.0

  -- the entries of the map of rows whose keys strictly rise
  pub entries-sorted : IsTotalOrder R → (rows : List X) → IsStrictlySortedBy (λ a b. R (key a) (key b)) rows → (from_list {R = R} (entries_of key value rows)).entries ≡ entries_of key value rows
  unfolding IsStrictlySortedBy
  entries-sorted o [] sorted = refl
  entries-sorted o (r ∷ rows) sorted =
      entries-put o (from_list (entries_of key value rows)) (key r) (value r)
      ∙ ap (λ (es : List (K × V)). put_entry R (key r) (value r) es) (entries-sorted o rows sorted.1)
      ∙ put-first (key r) (value r) rows sorted.0

sorted-also : {X : Type 0} (one other : X → X → Ordering) (rows : List X) → ((x y : X) → IsIn rows x → IsIn rows y → one x y ≡ Less → other x y ≡ Less) → IsStrictlySortedBy one rows → IsStrictlySortedBy other rows
unfolding IsStrictlySortedBy
sorted-also one other [] also sorted = tt
sorted-also one other (r ∷ rows) also sorted = (all rows sorted.0 (λ y here. also r y (inl refl) (inr here)), sorted-also one other rows (λ x y here there. also x y (inr here) (inr there)) sorted.1)
  where
    all : (ys : List _) → AllByRecursion (λ y. one r y ≡ Less) ys → ((y : _) → IsIn ys y → one r y ≡ Less → other r y ≡ Less) → AllByRecursion (λ y. other r y ≡ Less) ys
    all [] less up = tt
    all (y ∷ ys) less up = (up y (inl refl) less.0, all ys less.1 (λ z here. up z (inr here)))

-- the number and the replica of a row
abbrev pub told : Cat → ReplicaRow → ℕ × Replica
told c x = (x.number, replica_of c x)

-- the entries of the map of an object's replicas are its rows, in order
pub replicas-entries : (c : Cat) → IsSound c → (o : ObjectRow) → (object_of c o).replicas.entries ≡ map (told c) (replicas_of c o.id)
replicas-entries c s o =
    entries-sorted nat_cmp (λ (x : ReplicaRow). x.number) (λ (x : ReplicaRow). replica_of c x) nat_cmp_total (replicas_of c o.id)
    (sorted-also replica_cmp (λ x y. nat_cmp x.number y.number) (replicas_of c o.id) (λ x y here there e.
    let level : nat_cmp x.object y.object ≡ Equal = equal_number x.object y.object (its_object x here ∙ sym (its_object y there)) in
    sym (ap (λ (a : Ordering). ordering_then a (nat_cmp x.number y.number)) level) ∙ e)
    (IsTable-filter replica_cmp (λ _. true) (λ x. x.object == o.id) c.replicas s.cat.replicas).ordered)
  where
    its_object : (x : ReplicaRow) → IsIn (replicas_of c o.id) x → x.object ≡ o.id
    its_object x here = eqb-true x.object o.id (in_from_filter (λ y. y.object == o.id) c.replicas x here).1

-- ---- lists

module _ {X Y : Type 0} where
  filter-map : (p : Y → Bool) (f : X → Y) (xs : List X) → filter p (map f xs) ≡ map f (filter (λ x. p (f x)) xs)
  filter-map p f [] = refl
  filter-map p f (x ∷ xs) =
      ap (λ (ys : List Y). cond (p (f x)) (f x ∷ ys) ys) (filter-map p f xs)
      ∙ elim (p (f x)) as (λ b. cond b (f x ∷ map f (filter (λ x. p (f x)) xs)) (map f (filter (λ x. p (f x)) xs)) ≡ map f (cond b (x ∷ filter (λ x. p (f x)) xs) (filter (λ x. p (f x)) xs))) [ true ↦ refl | false ↦ refl ]

module _ {X : Type 0} where
  filter-congr : (p q : X → Bool) (xs : List X) → ((x : X) → IsIn xs x → p x ≡ q x) → filter p xs ≡ filter q xs
  filter-congr p q [] same = refl
  filter-congr p q (x ∷ xs) same = λ i. cond (same x (inl refl) i) (x ∷ filter-congr p q xs (λ y later. same y (inr later)) i) (filter-congr p q xs (λ y later. same y (inr later)) i)

  filter-both : (p q : X → Bool) (xs : List X) → filter q (filter p xs) ≡ filter (λ x. p x && q x) xs
  filter-both p q [] = refl
  filter-both p q (x ∷ xs) = elim (p x) as (λ b. filter q (cond b (x ∷ filter p xs) (filter p xs)) ≡ cond (b && q x) (x ∷ filter (λ x. p x && q x) xs) (filter (λ x. p x && q x) xs)) [
    | true ↦ ap (λ (ys : List X). cond (q x) (x ∷ ys) ys) (filter-both p q xs)
    | false ↦ filter-both p q xs
  ]

  -- where none passes, all fail
  filter-not : (p : X → Bool) (xs : List X) → filter p xs ≡ [] → filter (λ x. not (p x)) xs ≡ xs
  filter-not p [] none = refl
  filter-not p (x ∷ xs) none = elim (p x) as (λ b. cond b (x ∷ filter p xs) (filter p xs) ≡ [] → cond (not b) (x ∷ filter (λ x. not (p x)) xs) (filter (λ x. not (p x)) xs) ≡ x ∷ xs) [
    | true ↦ λ e. absurd cc
    | false ↦ λ e. ap (λ (ys : List X). x ∷ ys) (filter-not p xs e)
  ] none

  filter-none : (p : X → Bool) (xs : List X) → find p xs ≡ None → filter p xs ≡ []
  filter-none p [] none = refl
  filter-none p (x ∷ xs) none = elim (p x) as (λ b. cond b (Some x) (find p xs) ≡ None → cond b (x ∷ filter p xs) (filter p xs) ≡ []) [
    | true ↦ λ e. absurd cc
    | false ↦ λ e. filter-none p xs e
  ] none

and-true : (b : Bool) → (b && true) ≡ b
and-true true = refl
and-true false = refl

-- ---- the replicas of an object

module _ (c : Cat) (m : IsMade c) (o : ObjectRow) where
  s : IsSound c
  s = sound_of c m

  abbrev tree : Resources
  tree = (grid_of c).resources

  abbrev rows : List ReplicaRow
  rows = replicas_of c o.id

  old : (x : ReplicaRow) → IsIn rows x → IsIn c.replicas x
  old x here = (in_from_filter (λ y. y.object == o.id) c.replicas x here).0

  leaf_has : (x : ReplicaRow) → IsIn c.replicas x → has_resource c x.leaf ≡ true
  leaf_has x here = leaf_there c x.leaf (in_from_all (ReplicaStands c) c.replicas s.tied.replicas x here).1

  up_is : (x : ReplicaRow) → IsIn c.replicas x → is_up tree (resource_name c x.leaf) ≡ up_by (resource c x.leaf)
  up_is x here =
      let r = row_there (λ (y : ResourceRow). y.id) c.resources x.leaf (leaf_has x here) in
      ap (λ (f : Option Resource). option_map_or (λ (y : Resource). y.up) f false) (get-named c s x.leaf r.0 r.3) ∙ sym (ap up_by r.3)

  readable_is : readable tree (object_of c o) ≡ map (told c) (filter (reads c None) rows)
  readable_is =
      ap (filter (λ e. e.1.good && is_up tree e.1.leaf)) (replicas-entries c s o) ∙ filter-map (λ e. e.1.good && is_up tree e.1.leaf) (told c) rows
      ∙ ap (map (told c)) (filter-congr (λ x. x.good && is_up tree (resource_name c x.leaf)) (reads c None) rows (λ x here.
      ap (λ b. x.good && b) (up_is x (old x here)) ∙ sym (and-true (x.good && up_by (resource c x.leaf)))))

  -- ---- the first

  is_it : (x : ReplicaRow) → IsIn rows x → (asked : Option ℕ) → reads c asked x ≡ true → IsReplica c o.id (told c x) x
  is_it x here asked passes =
      let parts = and_parts x.good (up_by (resource c x.leaf)) (and_parts (x.good && up_by (resource c x.leaf)) (is_asked c asked x.leaf) passes).0 in
      record {
        there = contains_of c.replicas x (old x here);
        object_is = eqb-true x.object o.id (in_from_filter (λ y. y.object == o.id) c.replicas x here).1;
        is = refl;
        good = parts.0;
        up = parts.1;
      }

  first_of : (asked : Option ℕ) (xs : List ReplicaRow) → ((x : ReplicaRow) → IsIn xs x → IsIn rows x) → FirstOf c o.id (map (told c) (filter (reads c asked) xs)) (find (reads c asked) xs)
  first_of asked [] are = refl
  first_of asked (x ∷ xs) are = elim (reads c asked x) as (λ b. reads c asked x ≡ b → FirstOf c o.id (map (told c) (cond b (x ∷ filter (reads c asked) xs) (filter (reads c asked) xs))) (cond b (Some x) (find (reads c asked) xs))) [
    | true ↦ λ is. is_it x (are x (inl refl)) asked is
    | false ↦ λ is. first_of asked xs (λ y later. are y (inr later))
  ] refl

  first_any : FirstOf c o.id (candidates tree (object_of c o) None) (find (reads c None) rows)
  first_any = subst (λ es. FirstOf c o.id es (find (reads c None) rows)) (sym readable_is) (first_of None rows (λ x here. here))

  more : (es fs : List (ℕ × Replica)) (x : ReplicaRow) → FirstOf c o.id es (Some x) → FirstOf c o.id (es ++ fs) (Some x)
  more [] fs x none = absurd none
  more (e ∷ es) fs x its = its

  module _ (upper : ℕ) (has : has_resource c upper ≡ true) where
    abbrev in_it : ReplicaRow → Bool
    in_it x = stands_at c upper x.leaf

    in_is : (x : ReplicaRow) → IsIn (filter (reads c None) rows) x → is_in tree (resource_name c upper) (resource_name c x.leaf) ≡ in_it x
    in_is x here = stands_is c m upper has x.leaf (leaf_has x (old x (in_from_filter (reads c None) rows x here).0))

    asked_first : filter (λ e. is_in tree (resource_name c upper) e.1.leaf) (readable tree (object_of c o)) ≡ map (told c) (filter (reads c (Some upper)) rows)
    asked_first =
        ap (filter (λ e. is_in tree (resource_name c upper) e.1.leaf)) readable_is ∙ filter-map (λ e. is_in tree (resource_name c upper) e.1.leaf) (told c) (filter (reads c None) rows)
        ∙ ap (map (told c)) (filter-congr (λ x. is_in tree (resource_name c upper) (resource_name c x.leaf)) in_it (filter (reads c None) rows) in_is
        ∙ filter-both (reads c None) in_it rows ∙ filter-congr (λ x. reads c None x && in_it x) (reads c (Some upper)) rows (λ x here. ap (λ b. b && in_it x) (and-true (x.good && up_by (resource c x.leaf)))))

    others_last : filter (λ e. not (is_in tree (resource_name c upper) e.1.leaf)) (readable tree (object_of c o)) ≡ map (told c) (filter (λ x. not (in_it x)) (filter (reads c None) rows))
    others_last =
        ap (filter (λ e. not (is_in tree (resource_name c upper) e.1.leaf))) readable_is ∙ filter-map (λ e. not (is_in tree (resource_name c upper) e.1.leaf)) (told c) (filter (reads c None) rows)
        ∙ ap (map (told c)) (filter-congr (λ x. not (is_in tree (resource_name c upper) (resource_name c x.leaf))) (λ x. not (in_it x)) (filter (reads c None) rows) (λ x here. ap not (in_is x here)))

    named_found : (x : ReplicaRow) → find (reads c (Some upper)) rows ≡ Some x → FirstOf c o.id (candidates tree (object_of c o) (Some (resource_name c upper))) (Some x)
    named_found x found = more _ _ x (subst (λ es. FirstOf c o.id es (Some x)) (sym asked_first) (subst (λ f. FirstOf c o.id (map (told c) (filter (reads c (Some upper)) rows)) f) found (first_of (Some upper) rows (λ y here. here))))

    named_left : find (reads c (Some upper)) rows ≡ None → FirstOf c o.id (candidates tree (object_of c o) (Some (resource_name c upper))) (find (reads c None) rows)
    named_left none =
        let no_asked : filter (reads c (Some upper)) rows ≡ [] = filter-none (reads c (Some upper)) rows none in
        let no_in : filter in_it (filter (reads c None) rows) ≡ [] =
        filter-both (reads c None) in_it rows ∙ filter-congr (λ x. reads c None x && in_it x) (reads c (Some upper)) rows (λ x here. ap (λ b. b && in_it x) (and-true (x.good && up_by (resource c x.leaf)))) ∙ no_asked in
        let all : candidates tree (object_of c o) (Some (resource_name c upper)) ≡ map (told c) (filter (reads c None) rows) =
        (λ i. (asked_first ∙ ap (map (told c)) no_asked) i ++ (others_last ∙ ap (map (told c)) (filter-not in_it (filter (reads c None) rows) no_in)) i) in
        subst (λ es. FirstOf c o.id es (find (reads c None) rows)) (sym all) (first_of None rows (λ x here. here))

  -- the first on an asked leaf
  pub first_found : (asked : Option ℕ) → IfSome asked (λ id. IsTrue (has_resource c id)) → (x : ReplicaRow) → find (reads c asked) rows ≡ Some x
      → FirstOf c o.id (candidates tree (object_of c o) (option_map (resource_name c) asked)) (Some x)
  first_found None there x found = subst (λ f. FirstOf c o.id (candidates tree (object_of c o) None) f) found first_any
  first_found (Some upper) there x found = named_found upper there x found

  -- and where there is none, the first on any
  pub first_left : (asked : Option ℕ) → IfSome asked (λ id. IsTrue (has_resource c id)) → find (reads c asked) rows ≡ None
      → FirstOf c o.id (candidates tree (object_of c o) (option_map (resource_name c) asked)) (find (reads c None) rows)
  first_left None there none = first_any
  first_left (Some upper) there none = named_left upper there none

-- the same by the id of the object
module _ (c : Cat) (m : IsMade c) (id : ℕ) (o : ObjectRow) (found : object c id ≡ Some o) (asked : Option ℕ) (there : IfSome asked (λ r. IsTrue (has_resource c r))) where
  its : o.id ≡ id
  its = eqb-true o.id id (in_from_find (λ x. x.id == id) c.objects o found).1

  abbrev all : List (ℕ × Replica)
  all = candidates (grid_of c).resources (object_of c o) (option_map (resource_name c) asked)

  pub candidate_found : (x : ReplicaRow) → Some x ≡ find (reads c asked) (replicas_of c id) → FirstOf c id all (Some x)
  candidate_found x is = subst (λ i. FirstOf c i all (Some x)) its (first_found c m o asked there x (ap (λ i. find (reads c asked) (replicas_of c i)) its ∙ sym is))

  pub candidate_left : None ≡ find (reads c asked) (replicas_of c id) → (r : Option ReplicaRow) → r ≡ find (reads c None) (replicas_of c id) → FirstOf c id all r
  candidate_left none r is =
      subst (λ f. FirstOf c id all f) (sym is)
      (subst (λ i. FirstOf c i all (find (reads c None) (replicas_of c i))) its (first_left c m o asked there (ap (λ i. find (reads c asked) (replicas_of c i)) its ∙ sym none)))
