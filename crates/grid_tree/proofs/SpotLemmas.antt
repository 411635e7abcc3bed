-- One step down from a resource for a word, and from several, by ids.
use Rattle.std.proofs.Common.{◌≡◌, ◌==◌, ℕ, zero, suc, ◌+◌, ◌-◌, ◌/◌, ◌%◌, ◌<◌, Bool, true, false, cond, List, [], ◌∷◌, ◌++◌, length, get_or, map, take, Option, Some, None, IsTrue, refl, sym, ap, ◌∙◌, subst, arith}
use Rattle.std.specs.Prelude.{filter, flat_map, option_map, slice_get}
use Rattle.std.specs.Option.{option_map_or}
use Rattle.std.specs.List.{AllByRecursion}
use Rattle.std.proofs.lemmas.List.{append-nil, take_more}
use Rattle.grid_model.specs.Names.{Text}
use Rattle.grid_model.specs.Rows.{Cat, resource, has_resource}
use Rattle.grid_model.specs.RowGrids.{grid_of, resource_name, resource_of}
use Rattle.grid_model.specs.Applying.{IsMade}
use Rattle.grid_model.specs.Trees.{Resources, children, is_any, possible, possible_from, targets}
use Rattle.grid_model.specs.declared.deltas.ResourceRow.{ResourceRow}
use Rattle.grid_model.specs.declared.grid.ResourceKind.{ResourceKind}
use Rattle.grid_model.specs.declared.grid.ResourceKind.TheVariants.{Storage, Passthru, Random, Replication}
use Rattle.grid_tree.specs.Names.{AreNamed}
use Rattle.grid_tree.specs.Spots.{AreSpots, picked_ids, spot_name}
use Rattle.grid_tree.specs.Steps.{open_children, picked, spots, spots_by, with_word}
use Rattle.grid_tree.specs.Steps as steps
use Rattle.grid_tree.specs.declared.choosing.Spot.{Spot}
use Rattle.grid_tree.proofs.Named.{sound_of, named-append, named-as, named-one}
use Rattle.grid_tree.proofs.Levels.{at, targets-last, targets-level}
use Rattle.grid_tree.proofs.Sizes.{resources-size}
use Rattle.grid_tree.proofs.StepLemmas.{given_more, in_grid, named-first}

-- ---- lists

map-map : {X Y Z : Type 0} (f : Y → Z) (g : X → Y) (xs : List X) → map f (map g xs) ≡ map (λ x. f (g x)) xs
map-map f g [] = refl
map-map f g (x ∷ xs) = ap (λ zs. f (g x) ∷ zs) (map-map f g xs)

length-map : {X Y : Type 0} (f : X → Y) (xs : List X) → length (map f xs) ≡ length xs
length-map f [] = refl
length-map f (x ∷ xs) = ap suc (length-map f xs)

get-map : {X Y : Type 0} (f : X → Y) (xs : List X) (i : ℕ) → slice_get (map f xs) i ≡ option_map f (slice_get xs i)
get-map f [] i = refl
get-map f (x ∷ xs) zero = refl
get-map f (x ∷ xs) (suc i) = get-map f xs i

all-map : {X Y : Type 0} (P : Y → Type 0) (f : X → Y) (xs : List X) → AllByRecursion (λ x. P (f x)) xs → AllByRecursion P (map f xs)
all-map P f [] all = tt
all-map P f (x ∷ xs) all = (all.0, all-map P f xs all.1)

-- ---- spots

pub spots-as : (c : Cat) (level others : List Spot) (names : List steps.Spot) → others ≡ level → AreSpots c level names → AreSpots c others names
spots-as c level others names e a = let P : List Spot → Type 0 = λ ls. AreSpots c ls names in subst P (sym e) a

pub spots-named : (c : Cat) (level : List Spot) (names others : List steps.Spot) → names ≡ others → AreSpots c level names → AreSpots c level others
spots-named c level names others e a = record { there = a.there; named = a.named ∙ e }

pub spots-append : (c : Cat) (one more : List Spot) (names others : List steps.Spot) → AreSpots c one names → AreSpots c more others → AreSpots c (one ++ more) (names ++ others)
spots-append c one more names others a b = record { there = all-append one a.there; named = map-append one ∙ (λ i. a.named i ++ b.named i) }
  where
    all-append : (xs : List Spot) → AllByRecursion (λ s. IsTrue (has_resource c s.id)) xs → AllByRecursion (λ s. IsTrue (has_resource c s.id)) (xs ++ more)
    all-append [] all = b.there
    all-append (x ∷ xs) all = (all.0, all-append xs all.1)

    map-append : (xs : List Spot) → map (spot_name c) (xs ++ more) ≡ map (spot_name c) xs ++ map (spot_name c) more
    map-append [] = refl
    map-append (x ∷ xs) = ap (λ ys. spot_name c x ∷ ys) (map-append xs)

-- each with one word
pub spots-word : (c : Cat) (ids : List ℕ) (names : List Text) (word : ℕ) → AreNamed c ids names → AreSpots c (map (λ id. record { id = id; word = word }) ids) (with_word names word)
spots-word c ids names word a = record {
  there = all-map (λ (s : Spot). IsTrue (has_resource c s.id)) (λ id. record { id = id; word = word }) ids a.there;
  named = map-map (spot_name c) (λ id. record { id = id; word = word }) ids ∙ sym (map-map (λ kid. (kid, word)) (resource_name c) ids) ∙ ap (λ ns. with_word ns word) a.named;
}

-- what the word picks of so many
abbrev one_of : ℕ → ℕ → Option ℕ → List Spot
one_of word n o = option_map_or (λ kid. record { id = kid; word = word / n } ∷ []) o []

-- the one that the word picks
pub spots-picked : (c : Cat) (ids : List ℕ) (names : List Text) (word : ℕ) → AreNamed c ids names → AreSpots c (picked_ids ids word) (picked names word)
spots-picked c ids names word a = spots-named c (picked_ids ids word) (picked (map (resource_name c) ids) word) (picked names word) (ap (λ ns. picked ns word) a.named) (by (slice_get ids (word % length ids)) refl)
  where
    there_at : (xs : List ℕ) (i kid : ℕ) → slice_get xs i ≡ Some kid → AllByRecursion (λ id. IsTrue (has_resource c id)) xs → has_resource c kid ≡ true
    there_at [] i kid is all = absurd cc
    there_at (x ∷ xs) zero kid is all = let same : x ≡ kid = cc in let P : ℕ → Type 0 = λ j. has_resource c j ≡ true in subst P same all.0
    there_at (x ∷ xs) (suc i) kid is all = there_at xs i kid is all.1

    names_of : (o : Option ℕ) → map (spot_name c) (one_of word (length ids) o) ≡ option_map_or (λ kid. (kid, word / length ids) ∷ []) (option_map (resource_name c) o) []
    names_of None = refl
    names_of (Some kid) = refl

    by : (o : Option ℕ) → slice_get ids (word % length ids) ≡ o → AreSpots c (picked_ids ids word) (picked (map (resource_name c) ids) word)
    by o is = record {
      there = (let P : Option ℕ → Type 0 = λ f. AllByRecursion (λ s. IsTrue (has_resource c s.id)) (one_of word (length ids) f) in subst P (sym is) (all_of o is));
      named = names_of (slice_get ids (word % length ids)) ∙ ap (λ f. option_map_or (λ kid. (kid, word / length ids) ∷ []) f []) (sym (get-map (resource_name c) ids (word % length ids)))
          ∙ ap (λ n. option_map_or (λ kid. (kid, word / n) ∷ []) (slice_get (map (resource_name c) ids) (word % n)) []) (sym (length-map (resource_name c) ids));
    }
      where
        all_of : (f : Option ℕ) → slice_get ids (word % length ids) ≡ f → AllByRecursion (λ s. IsTrue (has_resource c s.id)) (one_of word (length ids) f)
        all_of None e = tt
        all_of (Some kid) e = (there_at ids (word % length ids) kid e a.there, tt)

-- ---- from one

module _ (c : Cat) (m : IsMade c) (s : Spot) (r : ResourceRow) (found : Some r ≡ resource c s.id) where
  abbrev tree : Resources
  tree = (grid_of c).resources

  abbrev name : Text
  name = resource_name c s.id

  abbrev by_kind : ResourceKind → Bool → List steps.Spot
  by_kind k u = elim k [
    | Storage ↦ elim u [ true ↦ (name, s.word) ∷ [] | false ↦ [] ]
    | Passthru ↦ with_word (take 1 (children tree name)) s.word
    | Random ↦ picked (open_children tree name) s.word
    | Replication ↦ with_word (children tree name) s.word
  ]

  spots_are : (k : ResourceKind) (u : Bool) → r.kind ≡ k → r.up ≡ u → spots tree (name, s.word) ≡ by_kind k u
  spots_are k u kind up = ap (spots_by tree name s.word) (in_grid c m s.id r found) ∙ (λ i. by_kind (kind i) (up i))

  pub spot_up : r.kind ≡ Storage → r.up ≡ true → has_resource c s.id ≡ true → (level : List Spot) → level ≡ s ∷ [] → AreSpots c level (spots tree (name, s.word))
  spot_up kind up has level e =
      spots-as c (s ∷ []) level (spots tree (name, s.word)) e (spots-named c (s ∷ []) ((name, s.word) ∷ []) (spots tree (name, s.word)) (sym (spots_are Storage true kind up)) (record { there = (has, tt); named = refl }))

  pub spot_down : r.kind ≡ Storage → r.up ≡ false → (level : List Spot) → level ≡ [] → AreSpots c level (spots tree (name, s.word))
  spot_down kind up level e =
      spots-as c [] level (spots tree (name, s.word)) e (spots-named c [] [] (spots tree (name, s.word)) (sym (spots_are Storage false kind up)) (record { there = tt; named = refl }))

  pub spot_first : r.kind ≡ Passthru → (kids ids : List ℕ) → ids ≡ take 1 kids → AreNamed c kids (children tree name) → (level : List Spot) → level ≡ map (λ id. record { id = id; word = s.word }) ids
      → AreSpots c level (spots tree (name, s.word))
  spot_first kind kids ids first a level e =
      spots-as c (map (λ id. record { id = id; word = s.word }) (take 1 kids)) level (spots tree (name, s.word)) (e ∙ ap (map (λ id. record { id = id; word = s.word })) first)
      (spots-named c _ _ (spots tree (name, s.word)) (sym (spots_are Passthru r.up kind refl)) (spots-word c (take 1 kids) (take 1 (children tree name)) s.word (named-first c kids (children tree name) a)))

  pub spot_all : r.kind ≡ Replication → (kids : List ℕ) → AreNamed c kids (children tree name) → (level : List Spot) → level ≡ map (λ id. record { id = id; word = s.word }) kids → AreSpots c level (spots tree (name, s.word))
  spot_all kind kids a level e =
      spots-as c _ level (spots tree (name, s.word)) e (spots-named c _ _ (spots tree (name, s.word)) (sym (spots_are Replication r.up kind refl)) (spots-word c kids (children tree name) s.word a))

  pub spot_picked : r.kind ≡ Random → (kids : List ℕ) → AreNamed c kids (open_children tree name) → (level : List Spot) → level ≡ picked_ids kids s.word → AreSpots c level (spots tree (name, s.word))
  spot_picked kind kids a level e =
      spots-as c _ level (spots tree (name, s.word)) e (spots-named c _ _ (spots tree (name, s.word)) (sym (spots_are Random r.up kind refl)) (spots-picked c kids (open_children tree name) s.word a))

-- ---- from several

pub next_spots : (c : Cat) (f : steps.Spot → List steps.Spot) (level : List Spot) (i : ℕ) (s d : Spot) (old more new : List Spot) → i < length level → s ≡ get_or level i d → new ≡ old ++ more
    → AreSpots c old (flat_map f (map (spot_name c) (take i level))) → AreSpots c more (f (spot_name c s)) → AreSpots c new (flat_map f (map (spot_name c) (take (i + 1) level)))
next_spots c f level i s d old more new within at_i e a b =
    spots-as c (old ++ more) new _ e (spots-named c (old ++ more) (flat_map f (map (spot_name c) (take i level)) ++ f (spot_name c s)) _ (given_more f (spot_name c) level i s d within at_i)
    (spots-append c old more _ _ a b))

-- ---- all steps

module _ (c : Cat) (m : IsMade c) where
  -- so many steps are left
  abbrev pub left : ℕ → List Spot → List Text
  left n level = flat_map (at (grid_of c).resources (suc n)) (map (spot_name c) level)

  pub no_step : (n : ℕ) (s : Spot) → n ≡ length c.resources → left (n - 0) (s ∷ []) ≡ targets (grid_of c).resources (resource_name c s.id) s.word
  no_step n s e =
      append-nil (at (grid_of c).resources (suc (n - 0)) (spot_name c s))
      ∙ ap (λ k. at (grid_of c).resources (suc k) (spot_name c s)) (same ∙ sym (resources-size c (sound_of c m)))
    where
      same : n - 0 ≡ length c.resources
      same = omega (arith, e)

  pub one_step : (n i : ℕ) (level next : List Spot) → i < n → AreSpots c next (flat_map (spots (grid_of c).resources) (map (spot_name c) level)) → left (n - (i + 1)) next ≡ left (n - i) level
  one_step n i level next within a =
      let one : n - i ≡ suc (n - (i + 1)) = omega arith in
      ap (flat_map (at (grid_of c).resources (suc (n - (i + 1))))) a.named ∙ sym (targets-level (grid_of c).resources (n - (i + 1)) (map (spot_name c) level))
      ∙ ap (λ k. left k level) (sym one)

  pub last_step : (n i : ℕ) (level : List Spot) → n - i ≡ 0 → left (n - i) level ≡ flat_map (possible_from 1 (grid_of c).resources) (map (resource_name c) (map (λ (s : Spot). s.id) level))
  last_step n i level e =
      ap (λ k. left k level) e ∙ targets-last (grid_of c).resources (map (spot_name c) level)
      ∙ ap (flat_map (possible_from 1 (grid_of c).resources)) (map-map (λ s. s.0) (spot_name c) level ∙ sym (map-map (resource_name c) (λ (s : Spot). s.id) level))

pub ids_there : (c : Cat) (level : List Spot) → AllByRecursion (λ s. IsTrue (has_resource c s.id)) level → AllByRecursion (λ id. IsTrue (has_resource c id)) (map (λ (s : Spot). s.id) level)
ids_there c level all = all-map (λ id. IsTrue (has_resource c id)) (λ (s : Spot). s.id) level all

-- ---- the children that are open

module _ (c : Cat) (kids : List ℕ) (i kid : ℕ) (within : i < length kids) (at_i : kid ≡ get_or kids i 0) where
  abbrev pub opens : Text → Bool
  opens n = is_any (possible (grid_of c).resources n)

  abbrev pub open_of : ℕ → List Text
  open_of n = filter opens (map (resource_name c) (take n kids))

  taken : open_of (i + 1) ≡ open_of i ++ filter opens (resource_name c kid ∷ [])
  taken =
      ap (λ ks. filter opens (map (resource_name c) ks)) (take_more kids i 0 within ∙ ap (λ k. take i kids ++ k ∷ []) (sym at_i)) ∙ ap (filter opens) (map-append (take i kids)) ∙ filter-append (map (resource_name c) (take i kids))
    where
      map-append : (xs : List ℕ) → map (resource_name c) (xs ++ kid ∷ []) ≡ map (resource_name c) xs ++ resource_name c kid ∷ []
      map-append [] = refl
      map-append (x ∷ xs) = ap (λ ys. resource_name c x ∷ ys) (map-append xs)

      filter-append : (ns : List Text) → filter opens (ns ++ resource_name c kid ∷ []) ≡ filter opens ns ++ filter opens (resource_name c kid ∷ [])
      filter-append [] = refl
      filter-append (n ∷ ns) = elim (opens n) as (λ b. cond b (n ∷ filter opens (ns ++ resource_name c kid ∷ [])) (filter opens (ns ++ resource_name c kid ∷ [])) ≡ cond b (n ∷ filter opens ns) (filter opens ns) ++ filter opens (resource_name c kid ∷ [])) [
        | true ↦ ap (λ ys. n ∷ ys) (filter-append ns)
        | false ↦ filter-append ns
      ]

  pub kid_open : (ids new : List ℕ) → has_resource c kid ≡ true → opens (resource_name c kid) ≡ true → new ≡ ids ++ kid ∷ [] → AreNamed c ids (open_of i) → AreNamed c new (open_of (i + 1))
  kid_open ids new has is e a =
      let one : filter opens (resource_name c kid ∷ []) ≡ resource_name c kid ∷ [] = ap (λ b. cond b (resource_name c kid ∷ []) []) is in
      let P : List ℕ → Type 0 = λ js. AreNamed c js (open_of (i + 1)) in
      subst P (sym e) (named-as c (ids ++ kid ∷ []) (open_of i ++ resource_name c kid ∷ []) (open_of (i + 1)) (sym (taken ∙ ap (λ ns. open_of i ++ ns) one)) (named-append c ids (kid ∷ []) _ _ a (named-one c kid has)))

  pub kid_shut : (ids new : List ℕ) → opens (resource_name c kid) ≡ false → new ≡ ids → AreNamed c ids (open_of i) → AreNamed c new (open_of (i + 1))
  kid_shut ids new is e a =
      let none : filter opens (resource_name c kid ∷ []) ≡ [] = ap (λ b. cond b (resource_name c kid ∷ []) []) is in
      let P : List ℕ → Type 0 = λ js. AreNamed c js (open_of (i + 1)) in
      subst P (sym e) (named-as c ids (open_of i) (open_of (i + 1)) (sym (taken ∙ ap (λ ns. open_of i ++ ns) none ∙ append-nil (open_of i))) a)
