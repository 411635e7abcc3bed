-- One step down from a resource, and from several, by ids.
use Rattle.std.proofs.Common.{◌≡◌, ◌==◌, ℕ, zero, suc, ◌+◌, ◌-◌, ◌<◌, Bool, true, false, List, [], ◌∷◌, ◌++◌, length, get_or, map, take, Option, Some, None, ◌⊎◌, inl, inr, IsTrue, refl, sym, ap, ◌∙◌, subst, arith}
use Rattle.std.specs.Prelude.{◌&&◌, flat_map, option_map}
use Rattle.std.specs.List.{AllByRecursion}
use Rattle.std.proofs.lemmas.Bool.{and_from, and_parts}
use Rattle.std.proofs.lemmas.List.{append-nil, take_more}
use Rattle.std.proofs.lemmas.List.Concat.{flat_map-append}
use Rattle.grid_model.specs.Maps.{get}
use Rattle.grid_model.specs.Names.{Text}
use Rattle.grid_model.specs.Grid.{Resource}
use Rattle.grid_model.specs.Rows.{Cat, resource, has_resource}
use Rattle.grid_model.specs.RowGrids.{grid_of, resource_name, resource_of}
use Rattle.grid_model.specs.Applying.{IsMade, is_leaf, is_storage}
use Rattle.grid_model.specs.Trees.{Resources, children, possible, possible_by, possible_from}
use Rattle.grid_model.specs.declared.deltas.ResourceRow.{ResourceRow}
use Rattle.grid_model.specs.declared.grid.ResourceKind.{ResourceKind}
use Rattle.grid_model.specs.declared.grid.ResourceKind.TheVariants.{Storage, Passthru, Random, Replication}
use Rattle.tables_laws.proofs.Rows.{any_from_in, in_from_find}
use Rattle.tables_laws.proofs.Places.{row_there}
use Rattle.grid_tree.specs.Names.{AreNamed}
use Rattle.grid_tree.specs.Steps.{below, below_by, is_open, open_by}
use Rattle.grid_tree.proofs.Named.{sound_of, get-named, named-append, named-as, named-none, named-one}
use Rattle.grid_tree.proofs.Levels.{flat_map-none, possible-level}
use Rattle.grid_tree.proofs.Sizes.{resources-size}

pub none_there : (c : Cat) (id : ℕ) → has_resource c id ≡ true → None ≡ resource c id → ⊥
none_there c id has none = let r = row_there (λ (x : ResourceRow). x.id) c.resources id has in let found : resource c id ≡ Some r.0 = r.3 in cc

pub named-first : (c : Cat) (ids : List ℕ) (names : List Text) → AreNamed c ids names → AreNamed c (take 1 ids) (take 1 names)
named-first c ids names a = named-as c (take 1 ids) (take 1 (map (resource_name c) ids)) (take 1 names) (ap (take 1) a.named) (by ids a.there)
  where
    by : (xs : List ℕ) → AllByRecursion (λ id. IsTrue (has_resource c id)) xs → AreNamed c (take 1 xs) (take 1 (map (resource_name c) xs))
    by [] all = named-none c
    by (x ∷ xs) all = named-one c x all.0

-- other ids that are the same
pub ids-as : (c : Cat) (ids others : List ℕ) (names : List Text) → others ≡ ids → AreNamed c ids names → AreNamed c others names
ids-as c ids others names e a = let P : List ℕ → Type 0 = λ js. AreNamed c js names in subst P (sym e) a

-- ---- from one

module _ (c : Cat) (m : IsMade c) (id : ℕ) (r : ResourceRow) (found : Some r ≡ resource c id) where
  abbrev tree : Resources
  tree = (grid_of c).resources

  abbrev name : Text
  name = resource_name c id

  pub in_grid : get tree name ≡ Some (resource_of c r)
  in_grid = get-named c (sound_of c m) id r (sym found)

  abbrev by : ResourceKind → Bool → List Text
  by k u = elim k [
    | Storage ↦ elim u [ true ↦ name ∷ [] | false ↦ [] ]
    | Passthru ↦ take 1 (children tree name)
    | Random ↦ children tree name
    | Replication ↦ children tree name
  ]

  pub below_is : (k : ResourceKind) (u : Bool) → r.kind ≡ k → r.up ≡ u → below tree name ≡ by k u
  below_is k u kind up = ap (below_by tree name) in_grid ∙ (λ i. by (kind i) (up i))

  pub leaf_up : r.kind ≡ Storage → r.up ≡ true → has_resource c id ≡ true → (ids : List ℕ) → ids ≡ id ∷ [] → AreNamed c ids (below tree name)
  leaf_up kind up has ids e = ids-as c (id ∷ []) ids (below tree name) e (named-as c (id ∷ []) (name ∷ []) (below tree name) (sym (below_is Storage true kind up)) (named-one c id has))

  pub leaf_down : r.kind ≡ Storage → r.up ≡ false → (ids : List ℕ) → ids ≡ [] → AreNamed c ids (below tree name)
  leaf_down kind up ids e = ids-as c [] ids (below tree name) e (named-as c [] [] (below tree name) (sym (below_is Storage false kind up)) (named-none c))

  pub first_kid : r.kind ≡ Passthru → (kids ids : List ℕ) → ids ≡ take 1 kids → AreNamed c kids (children tree name) → AreNamed c ids (below tree name)
  first_kid kind kids ids e a =
      ids-as c (take 1 kids) ids (below tree name) e
      (named-as c (take 1 kids) (take 1 (children tree name)) (below tree name) (sym (below_is Passthru r.up kind refl)) (named-first c kids (children tree name) a))

  pub all_kids : (r.kind ≡ Random) ⊎ (r.kind ≡ Replication) → (ids : List ℕ) → AreNamed c ids (children tree name) → AreNamed c ids (below tree name)
  all_kids (inl kind) ids a = named-as c ids (children tree name) (below tree name) (sym (below_is Random r.up kind refl)) a
  all_kids (inr kind) ids a = named-as c ids (children tree name) (below tree name) (sym (below_is Replication r.up kind refl)) a

  -- what a leaf gives in the last step
  pub last_is : possible_from 1 tree name ≡ elim (open_by (Some r)) as (λ _. List Text) [ true ↦ name ∷ [] | false ↦ [] ]
  last_is = ap (possible_by tree name (possible_from zero tree)) in_grid ∙ by_kind r.kind r.up
    where
      by_kind : (k : ResourceKind) (u : Bool) → elim k as (λ _. List Text) [
        | Storage ↦ elim u [ true ↦ name ∷ [] | false ↦ [] ]
        | Passthru ↦ flat_map (possible_from zero tree) (take 1 (children tree name))
        | Random ↦ flat_map (possible_from zero tree) (children tree name)
        | Replication ↦ flat_map (possible_from zero tree) (children tree name)
      ] ≡ elim (u && is_storage k) as (λ _. List Text) [ true ↦ name ∷ [] | false ↦ [] ]
      by_kind Storage true = refl
      by_kind Storage false = refl
      by_kind Passthru true = flat_map-none {X = Text} {Y = Text} (take 1 (children tree name))
      by_kind Passthru false = flat_map-none {X = Text} {Y = Text} (take 1 (children tree name))
      by_kind Random true = flat_map-none {X = Text} {Y = Text} (children tree name)
      by_kind Random false = flat_map-none {X = Text} {Y = Text} (children tree name)
      by_kind Replication true = flat_map-none {X = Text} {Y = Text} (children tree name)
      by_kind Replication false = flat_map-none {X = Text} {Y = Text} (children tree name)

  pub leaf_is : open_by (Some r) ≡ true → is_leaf c id ≡ true
  leaf_is e =
      let here = in_from_find (λ x. x.id == id) c.resources r (sym found) in
      any_from_in (λ x. (x.id == id) && is_storage x.kind) c.resources r here.0 (and_from (r.id == id) (is_storage r.kind) here.1 (and_parts r.up (is_storage r.kind) e).1)

-- the last step from a resource that is there
pub last_open : (c : Cat) → IsMade c → (id : ℕ) → has_resource c id ≡ true → (b : Bool) → is_open c id ≡ b
    → (possible_from 1 (grid_of c).resources (resource_name c id) ≡ elim b as (λ _. List Text) [ true ↦ resource_name c id ∷ [] | false ↦ [] ]) × (b ≡ true → is_leaf c id ≡ true)
last_open c m id has b is =
    let r = row_there (λ (x : ResourceRow). x.id) c.resources id has in
    let opens : open_by (Some r.0) ≡ b = ap open_by (sym r.3) ∙ is in
    (last_is c m id r.0 (sym r.3) ∙ ap (λ b. elim b as (λ _. List Text) [ true ↦ resource_name c id ∷ [] | false ↦ [] ]) opens, λ e. leaf_is c m id r.0 (sym r.3) (opens ∙ e))

-- ---- from several

-- what each of the first gives, and then what the next one gives
pub given_more : {X Y Z : Type 0} (f : Y → List Z) (name : X → Y) (xs : List X) (i : ℕ) (x d : X) → i < length xs → x ≡ get_or xs i d
    → flat_map f (map name (take i xs)) ++ f (name x) ≡ flat_map f (map name (take (i + 1) xs))
given_more f name xs i x d within at =
    sym (ap (λ ys. flat_map f (map name ys)) (take_more xs i d within ∙ ap (λ y. take i xs ++ y ∷ []) (sym at)) ∙ ap (flat_map f) (map_push (take i xs)) ∙ flat_map-append f (map name (take i xs)) (name x ∷ [])
    ∙ ap (λ zs. flat_map f (map name (take i xs)) ++ zs) (append-nil (f (name x))))
  where
    map_push : (ys : List _) → map name (ys ++ x ∷ []) ≡ map name ys ++ name x ∷ []
    map_push [] = refl
    map_push (y ∷ ys) = ap (λ zs. name y ∷ zs) (map_push ys)

pub all_at : {X : Type 0} (P : X → Type 0) (xs : List X) (i : ℕ) (x d : X) → i < length xs → x ≡ get_or xs i d → AllByRecursion P xs → P x
all_at P [] i x d within at all = absurd (omega (arith, within))
all_at P (y ∷ xs) zero x d within at all = subst P (sym at) all.0
all_at P (y ∷ xs) (suc i) x d within at all = all_at P xs i x d (omega (arith, within)) at all.1

pub all_push : {X : Type 0} (P : X → Type 0) (xs : List X) (x : X) → AllByRecursion P xs → P x → AllByRecursion P (xs ++ x ∷ [])
all_push P [] x all last = (last, tt)
all_push P (y ∷ xs) x all last = (all.0, all_push P xs x all.1 last)

-- the next ids are those of what the next one gives
pub next_named : (c : Cat) (f : Text → List Text) (level : List ℕ) (i id : ℕ) (old more new : List ℕ) → i < length level → id ≡ get_or level i 0 → new ≡ old ++ more
    → AreNamed c old (flat_map f (map (resource_name c) (take i level))) → AreNamed c more (f (resource_name c id)) → AreNamed c new (flat_map f (map (resource_name c) (take (i + 1) level)))
next_named c f level i id old more new within at e a b =
    ids-as c (old ++ more) new _ e (named-as c (old ++ more) (flat_map f (map (resource_name c) (take i level)) ++ f (resource_name c id)) _ (given_more f (resource_name c) level i id 0 within at)
    (named-append c old more _ _ a b))

-- ---- all steps

module _ (c : Cat) (m : IsMade c) where
  -- so many steps are left
  abbrev pub left : ℕ → List ℕ → List Text
  left n level = flat_map (possible_from (suc n) (grid_of c).resources) (map (resource_name c) level)

  pub no_step : (n id : ℕ) → n ≡ length c.resources → left (n - 0) (id ∷ []) ≡ possible (grid_of c).resources (resource_name c id)
  no_step n id e =
      append-nil (possible_from (suc (n - 0)) (grid_of c).resources (resource_name c id))
      ∙ ap (λ k. possible_from (suc k) (grid_of c).resources (resource_name c id)) (same ∙ sym (resources-size c (sound_of c m)))
    where
      same : n - 0 ≡ length c.resources
      same = omega (arith, e)

  pub one_step : (n i : ℕ) (level next : List ℕ) → i < n → AreNamed c next (flat_map (below (grid_of c).resources) (map (resource_name c) level)) → left (n - (i + 1)) next ≡ left (n - i) level
  one_step n i level next within a =
      let one : n - i ≡ suc (n - (i + 1)) = omega arith in
      ap (flat_map (possible_from (suc (n - (i + 1))) (grid_of c).resources)) a.named ∙ sym (possible-level (grid_of c).resources (n - (i + 1)) (map (resource_name c) level))
      ∙ ap (λ k. left k level) (sym one)

-- ---- the last step

module _ (c : Cat) (m : IsMade c) (level : List ℕ) (there : AllByRecursion (λ id. IsTrue (has_resource c id)) level) (i id : ℕ) (within : i < length level) (at : id ≡ get_or level i 0) where
  has : has_resource c id ≡ true
  has = all_at (λ j. IsTrue (has_resource c j)) level i id 0 within at there

  abbrev last : Text → List Text
  last = possible_from 1 (grid_of c).resources

  -- the leaves of the first of these
  pub record Leaves (n : ℕ) (ids : List ℕ) : Type 0 where
    pub named : AreNamed c ids (flat_map last (map (resource_name c) (take n level)))
    pub all : AllByRecursion (λ j. IsTrue (is_leaf c j)) ids

  pub with_leaf : (ids new : List ℕ) → is_open c id ≡ true → new ≡ ids ++ id ∷ [] → Leaves i ids → Leaves (i + 1) new
  with_leaf ids new opens e old =
      let its = last_open c m id has true opens in
      record {
        named = next_named c last level i id ids (id ∷ []) new within at e old.named (named-as c (id ∷ []) (resource_name c id ∷ []) (last (resource_name c id)) (sym its.0) (named-one c id has));
        all = (let P : List ℕ → Type 0 = λ js. AllByRecursion (λ j. IsTrue (is_leaf c j)) js in subst P (sym e) (all_push (λ j. IsTrue (is_leaf c j)) ids id old.all (its.1 refl)));
      }

  pub without_leaf : (ids new : List ℕ) → is_open c id ≡ false → new ≡ ids → Leaves i ids → Leaves (i + 1) new
  without_leaf ids new shut e old =
      let its = last_open c m id has false shut in
      record {
        named = next_named c last level i id ids [] new within at (e ∙ sym (append-nil ids)) old.named (named-as c [] [] (last (resource_name c id)) (sym its.0) (named-none c));
        all = (let P : List ℕ → Type 0 = λ js. AllByRecursion (λ j. IsTrue (is_leaf c j)) js in subst P (sym e) old.all);
      }
