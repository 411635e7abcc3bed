-- The map of an object's replicas that a test keeps, and the grid behind the changes that take replicas of one object away.
use Rattle.std.proofs.Common.{◌≡◌, inl, inr, ℕ, suc, Bool, true, false, cond, List, [], ◌∷◌, map, length, refl, sym, ap, ◌∙◌, subst, eqb-true, arith}
use Rattle.std.specs.Prelude.{◌==◌, ◌&&◌, ◌||◌, T, not, filter}
use Rattle.std.specs.List.{AllByRecursion, list_any}
use Rattle.std.specs.List.Sorted.{IsStrictlySortedBy}
use Rattle.std.specs.declared.cmp.Ordering.{Ordering}
use Rattle.std.specs.declared.cmp.Ordering.TheVariants.{Less, Equal}
use Rattle.std.specs.Ordering.{nat_cmp, ordering_then}
use Rattle.std.specs.Cmp.{nat_cmp_total}
use Rattle.std.specs.FinMap.{is_sorted}
use Rattle.std.proofs.lemmas.Bool.{ne_eqb}
use Rattle.grid_model.specs.Maps.{Map, from_list, if_sorted}
use Rattle.grid_model.specs.MapLists.{keep}
use Rattle.grid_model.specs.Grid.{Replica}
use Rattle.grid_model.specs.Rows.{Cat, replica_cmp, replicas_of}
use Rattle.grid_model.specs.RowGrids.{grid_of, object_of, replica_of}
use Rattle.grid_model.specs.Applying.{is_replica}
use Rattle.grid_model.specs.declared.deltas.ObjectRow.{ObjectRow}
use Rattle.grid_model.specs.declared.deltas.ReplicaRow.{ReplicaRow}
use Rattle.grid_model.proofs.MapLemmas.{same_entries_map}
use Rattle.tables_laws.proofs.Grids.{grid-same}
use Rattle.tables_laws.proofs.Numbered.{equal_number}
use Rattle.tables_laws.proofs.Replicas.{grid-replicas, with_replicas}
use Rattle.tables_laws.proofs.RowLists.{filter-filter, not_not}
use Rattle.tables_laws.proofs.Rows.{IsIn, IsTable-filter, in_from_any, in_from_filter}
use Rattle.tables_laws.proofs.Sound.{IsSound}
use Rattle.file_laws.specs.Rewriting.{StoredReplica}
use Rattle.grid_tree.proofs.Candidates.{entries-sorted, replicas-entries, told}
use Rattle.plan_base.proofs.MapRows.{any-map}
use Rattle.plan_drop.proofs.DroppedRows.{after_drop, its_key, none_passes, without-is, without_rows}

-- ---- lists

pub filter-alike : {X : Type 0} (p q : X → Bool) (xs : List X) → ((x : X) → IsIn xs x → p x ≡ q x) → filter p xs ≡ filter q xs
filter-alike p q [] same = refl
filter-alike p q (x ∷ xs) same =
    ap (λ b. cond b (x ∷ filter p xs) (filter p xs)) (same x (inl refl)) ∙ ap (λ (ys : List _). cond (q x) (x ∷ ys) ys) (filter-alike p q xs (λ y later. same y (inr later)))

-- none of those that fail passes
pub none_fails : {X : Type 0} (p : X → Bool) (xs : List X) → list_any p (filter (λ x. not (p x)) xs) ≡ false
none_fails p xs = none_passes p (filter (λ x. not (p x)) xs) (λ x here is. let fails : not (p x) ≡ true = (in_from_filter (λ y. not (p y)) xs x here).1 in cc)

-- some are kept where one passes
pub some_pass : {X : Type 0} (p : X → Bool) (xs : List X) → not (length (filter p xs) == 0) ≡ list_any p xs
some_pass p [] = refl
some_pass {X = X} p (x ∷ xs) = elim (p x) as (λ b. not (length {A = X} (cond b (x ∷ filter p xs) (filter p xs)) == 0) ≡ (b || list_any p xs)) [
  | true ↦ let some : (suc (length (filter p xs)) == 0) ≡ false = grind arith in ap not some
  | false ↦ some_pass p xs
]

-- one of those that pass does so too
pub any-filter : {X : Type 0} (p kept : X → Bool) (xs : List X) → list_any p (filter kept xs) ≡ list_any (λ x. p x && kept x) xs
any-filter p kept [] = refl
any-filter {X = X} p kept (x ∷ xs) = by (any-filter p kept xs) (kept x)
  where
    either : (b : Bool) → ((b && true) || list_any (λ y. p y && kept y) xs) ≡ (b || list_any (λ y. p y && kept y) xs)
    either true = refl
    either false = refl

    neither : (b : Bool) → list_any (λ y. p y && kept y) xs ≡ ((b && false) || list_any (λ y. p y && kept y) xs)
    neither true = refl
    neither false = refl

    by : list_any p (filter kept xs) ≡ list_any (λ y. p y && kept y) xs → (k : Bool) → list_any p (cond k (x ∷ filter kept xs) (filter kept xs)) ≡ ((p x && k) || list_any (λ y. p y && kept y) xs)
    by more true = ap (λ b. p x || b) more ∙ sym (either (p x))
    by more false = more ∙ neither (p x)

filter-map : {X Y : Type 0} (p : Y → Bool) (f : X → Y) (xs : List X) → filter p (map f xs) ≡ map f (filter (λ x. p (f x)) xs)
filter-map p f [] = refl
filter-map {X} {Y} p f (x ∷ xs) =
    ap (λ (ys : List Y). cond (p (f x)) (f x ∷ ys) ys) (filter-map p f xs)
    ∙ elim (p (f x)) as (λ b. cond b (f x ∷ map f (filter (λ x. p (f x)) xs)) (map f (filter (λ x. p (f x)) xs)) ≡ map f (cond b (x ∷ filter (λ x. p (f x)) xs) (filter (λ x. p (f x)) xs))) [ true ↦ refl | false ↦ refl ]

sorted-so : {X : Type 0} (one other : X → X → Ordering) (xs : List X) → ((x y : X) → IsIn xs x → IsIn xs y → one x y ≡ Less → other x y ≡ Less) → IsStrictlySortedBy one xs → IsStrictlySortedBy other xs
unfolding IsStrictlySortedBy
sorted-so one other [] so sorted = tt
sorted-so one other (r ∷ xs) so sorted = (all xs sorted.0 (λ y here. so r y (inl refl) (inr here)), sorted-so one other xs (λ x y here there. so x y (inr here) (inr there)) sorted.1)
  where
    all : (ys : List _) → AllByRecursion (λ y. one r y ≡ Less) ys → ((y : _) → IsIn ys y → one r y ≡ Less → other r y ≡ Less) → AllByRecursion (λ y. other r y ≡ Less) ys
    all [] less up = tt
    all (y ∷ ys) less up = (up y (inl refl) less.0, all ys less.1 (λ z here. up z (inr here)))

-- ---- maps

module _ {K X : Type 0} {R : K → K → Ordering} where
  entries_in_order : (es : List (K × X)) (b : Bool) (e : is_sorted R es ≡ b) (m : Map R X) → T b → (if_sorted es b e m).entries ≡ es
  entries_in_order es true e m h = refl
  entries_in_order es false e m h = absurd h

  -- the map of the entries that pass
  keep-entries : (p : K → X → Bool) (m n : Map R X) → n.entries ≡ filter (λ e. p e.0 e.1) m.entries → n ≡ keep p m
  keep-entries p m n e =
      let S : List (K × X) → Type 0 = λ es. T (is_sorted R es) in
      same_entries_map n (keep p m) (e ∙ sym (entries_in_order (filter (λ x. p x.0 x.1) m.entries) _ refl m (subst S e n.sorted)))

-- ---- the replicas of an object

module _ (c : Cat) (s : IsSound c) (o : ObjectRow) where
  abbrev pub its_rows : List ReplicaRow
  its_rows = replicas_of c o.id

  -- the map of some of its rows
  abbrev pub told_of : List ReplicaRow → Map nat_cmp Replica
  told_of rows = from_list (map (λ r. (r.number, replica_of c r)) rows)

  pub told-entries : (kept : ReplicaRow → Bool) → (told_of (filter kept its_rows)).entries ≡ map (told c) (filter kept its_rows)
  told-entries kept =
      entries-sorted nat_cmp (λ (x : ReplicaRow). x.number) (λ (x : ReplicaRow). replica_of c x) nat_cmp_total (filter kept its_rows)
      (sorted-so replica_cmp (λ x y. nat_cmp x.number y.number) (filter kept its_rows) (λ x y here there e.
      let level : nat_cmp x.object y.object ≡ Equal = equal_number x.object y.object (its_object x here ∙ sym (its_object y there)) in
      sym (ap (λ (a : Ordering). ordering_then a (nat_cmp x.number y.number)) level) ∙ e)
      (IsTable-filter replica_cmp (λ _. true) kept its_rows (IsTable-filter replica_cmp (λ _. true) (λ x. x.object == o.id) c.replicas s.cat.replicas)).ordered)
    where
      its_object : (x : ReplicaRow) → IsIn (filter kept its_rows) x → x.object ≡ o.id
      its_object x here = eqb-true x.object o.id (in_from_filter (λ y. y.object == o.id) c.replicas x (in_from_filter kept its_rows x here).0).1

  -- what a test keeps of its map is the map of the rows that it keeps
  pub told-kept : (test : Replica → Bool) → told_of (filter (λ r. test (replica_of c r)) its_rows) ≡ keep (λ n x. test x) (object_of c o).replicas
  told-kept test =
      keep-entries (λ n x. test x) (object_of c o).replicas (told_of (filter (λ r. test (replica_of c r)) its_rows))
      (told-entries (λ r. test (replica_of c r)) ∙ sym (filter-map (λ (e : ℕ × Replica). test e.1) (told c) its_rows) ∙ ap (filter (λ (e : ℕ × Replica). test e.1)) (sym (replicas-entries c s o)))

  pub any-replicas : (test : Replica → Bool) → list_any (λ (e : ℕ × Replica). test e.1) (object_of c o).replicas.entries ≡ list_any (λ r. test (replica_of c r)) its_rows
  any-replicas test = ap (list_any (λ (e : ℕ × Replica). test e.1)) (replicas-entries c s o) ∙ any-map (told c) (λ (e : ℕ × Replica). test e.1) its_rows

  pub any-kept : (test : Replica → Bool) (kept : ReplicaRow → Bool) → list_any (λ (e : ℕ × Replica). test e.1) (told_of (filter kept its_rows)).entries ≡ list_any (λ r. test (replica_of c r)) (filter kept its_rows)
  any-kept test kept = ap (list_any (λ (e : ℕ × Replica). test e.1)) (told-entries kept) ∙ any-map (told c) (λ (e : ℕ × Replica). test e.1) (filter kept its_rows)

-- ---- the grid without some of them

module _ (c : Cat) (s : IsSound c) (o : ObjectRow) (here : IsIn c.objects o) (stored : List StoredReplica) (of_it : (f : StoredReplica) → IsIn stored f → f.row.object ≡ o.id) where
  abbrev keeps : ReplicaRow → Bool
  keeps q = not (list_any (λ (f : StoredReplica). is_replica f.row.object f.row.number q) stored)

  its_object : (q : ReplicaRow) → keeps q ≡ false → q.object ≡ o.id
  its_object q gone =
      let f = in_from_any (λ (f : StoredReplica). is_replica f.row.object f.row.number q) stored (not_not _ ∙ ap not gone) in
      (its_key f.0.row q f.2).0 ∙ of_it f.0 f.1

  pub grid-dropped : (replicas : Map nat_cmp Replica) → told_of c s o (filter (λ r. r.object == o.id) (without_rows c.replicas stored)) ≡ replicas → grid_of (after_drop c stored) ≡ with_replicas c o replicas
  grid-dropped replicas is =
      grid-same (record c { replicas = without_rows c.replicas stored }) (after_drop c stored) refl (grid_of (record c { replicas = without_rows c.replicas stored })) refl
      ∙ grid-replicas c s o here (without_rows c.replicas stored) (λ id apart.
      ap (filter (λ r. r.object == id)) (without-is stored c.replicas)
      ∙ filter-filter (λ r. r.object == id) keeps c.replicas (λ q there gone. ne_eqb q.object id (λ same. apart (sym same ∙ its_object q gone)))) replicas is
