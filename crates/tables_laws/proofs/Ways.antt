-- The names on the way from a collection up to `/`.
use Rattle.std.proofs.Common.{◌≡◌, ◌==◌, ℕ, zero, suc, ◌+◌, ◌-◌, ◌≤◌, Bool, true, false, List, [], ◌∷◌, length, Option, Some, None, inl, inr, refl, sym, ap, ◌∙◌, subst, arith, eq-eqb, eqb-true}
use Rattle.std.specs.Prelude.{option_map, map, ◌||◌}
use Rattle.std.specs.List.{list_any, IsDistinct, AllByRecursion}
use Rattle.std.specs.Cmp.{nat_eq_equiv}
use Rattle.std.proofs.lemmas.Bool.{ne_eqb}
use Rattle.std.proofs.lemmas.Bool.Decides.{eqb_tells}
use Rattle.std.proofs.lemmas.Map.Made.{length-le_from_is_member}
use Rattle.std.proofs.lemmas.Map.Keys.{IsDistinct-cons}
use Rattle.std.proofs.lemmas.List.{length-map}
use Rattle.std.proofs.lemmas.Option.{same_Some}
use Rattle.grid_model.specs.Names.{Path}
use Rattle.grid_model.specs.Rows.{Cat, collection, has_collection}
use Rattle.grid_model.specs.RowPaths.{names_within}
use Rattle.grid_model.specs.declared.deltas.CollectionRow.{CollectionRow}
use Rattle.tables_laws.proofs.Rows.{IsIn, in_from_find}

-- ---- one step

-- how names lead up: none from `/`, and else the row's own and those of its parent
pub data Leads (c : Cat) (k id : ℕ) (names : Path) : Type 0 where
  at_root : id ≡ 0 → names ≡ [] → Leads c k id names
  further : (id ≡ 0 → ⊥) → (r : CollectionRow) → (rest : Path) → collection c id ≡ Some r → names_within k c r.parent ≡ Some rest → names ≡ r.name ∷ rest → Leads c k id names

module _ (c : Cat) where
  pub within_root : (k id : ℕ) → id ≡ 0 → names_within (suc k) c id ≡ Some []
  within_root k id e = rw (eq-eqb id 0 e, names_within) refl

  within_lost : (k id : ℕ) → (id ≡ 0 → ⊥) → collection c id ≡ None → names_within (suc k) c id ≡ None
  within_lost k id not_root none = rw (ne_eqb id 0 not_root, none, names_within) refl

  within_row : (k id : ℕ) (r : CollectionRow) → (id ≡ 0 → ⊥) → collection c id ≡ Some r → names_within (suc k) c id ≡ option_map (λ names. r.name ∷ names) (names_within k c r.parent)
  within_row k id r not_root some = rw (ne_eqb id 0 not_root, some, names_within) refl

  pub within_further : (k id : ℕ) (r : CollectionRow) (rest : Path) → (id ≡ 0 → ⊥) → collection c id ≡ Some r → names_within k c r.parent ≡ Some rest
      → names_within (suc k) c id ≡ Some (r.name ∷ rest)
  within_further k id r rest not_root some up = within_row k id r not_root some ∙ ap (option_map (λ names. r.name ∷ names)) up

  row_leads : (k id : ℕ) (names : Path) (r : CollectionRow) → (id ≡ 0 → ⊥) → collection c id ≡ Some r → (up : Option Path) → names_within k c r.parent ≡ up
      → option_map (λ rest. r.name ∷ rest) up ≡ Some names → Leads c k id names
  row_leads k id names r not_root some None up e = absurd cc
  row_leads k id names r not_root some (Some rest) up e = further not_root r rest some up (sym (same_Some (r.name ∷ rest) names e))

  below_leads : (k id : ℕ) (names : Path) → (id ≡ 0 → ⊥) → names_within (suc k) c id ≡ Some names → (o : Option CollectionRow) → collection c id ≡ o → Leads c k id names
  below_leads k id names not_root e None is = let none : names_within (suc k) c id ≡ None = within_lost k id not_root is in absurd cc
  below_leads k id names not_root e (Some r) is =
      row_leads k id names r not_root is (names_within k c r.parent) refl (sym (within_row k id r not_root is) ∙ e)

  pub leads_up : (k id : ℕ) (names : Path) → names_within (suc k) c id ≡ Some names → Leads c k id names
  leads_up k id names e = elim (eqb_tells id 0) [
    | inl is ↦ at_root is.1 (let root : names_within (suc k) c id ≡ Some [] = within_root k id is.1 in same_Some names [] (sym e ∙ root))
    | inr not ↦ below_leads k id names not.1 e (collection c id) refl
  ]

  -- ---- more steps than needed

  pub within_more : (k id : ℕ) (names : Path) → names_within k c id ≡ Some names → names_within (suc k) c id ≡ Some names
  within_more zero id names e = absurd cc
  within_more (suc k) id names e = elim (leads_up k id names e) [
    | at_root is none ↦ within_root (suc k) id is ∙ ap Some (sym none)
    | further not_root r rest some up is ↦ within_further (suc k) id r rest not_root some (within_more k r.parent rest up) ∙ ap Some (sym is)
  ]

  pub within_many : (more k id : ℕ) (names : Path) → names_within k c id ≡ Some names → names_within (more + k) c id ≡ Some names
  within_many zero k id names e = let same : 0 + k ≡ k = omega arith in ap (λ n. names_within n c id) same ∙ e
  within_many (suc more) k id names e =
      let same : suc more + k ≡ suc (more + k) = omega arith in
      ap (λ n. names_within n c id) same ∙ within_more (more + k) id names (within_many more k id names e)

  -- as many steps as there are names, and one more, are enough
  pub within_enough : (k id : ℕ) (names : Path) → names_within k c id ≡ Some names → names_within (suc (length names)) c id ≡ Some names
  within_enough zero id names e = absurd cc
  within_enough (suc k) id names e = elim (leads_up k id names e) [
    | at_root is none ↦ within_root (length names) id is ∙ ap Some (sym none)
    | further not_root r rest some up is ↦
        let long : length names ≡ suc (length rest) = ap (λ (p : Path). length p) is in
        ap (λ n. names_within (suc n) c id) long ∙ within_further (suc (length rest)) id r rest not_root some (within_enough k r.parent rest up) ∙ ap Some (sym is)
  ]

  -- names lead up in one way
  pub within_same : (k j id : ℕ) (names others : Path) → names_within k c id ≡ Some names → names_within j c id ≡ Some others → names ≡ others
  within_same k j id names others e f =
      let first : names_within (j + k) c id ≡ Some names = within_many j k id names e in
      let second : names_within (k + j) c id ≡ Some others = within_many k j id others f in
      let turned : j + k ≡ k + j = omega arith in
      same_Some names others (sym first ∙ ap (λ n. names_within n c id) turned ∙ second)

  -- ---- the collections on the way

  -- the collection and those above it
  abbrev ids_within : ℕ → ℕ → List ℕ
  ids_within zero id = []
  ids_within (suc k) id = elim (id == 0) [ true ↦ id ∷ [] | false ↦ elim (collection c id) [ None ↦ [] | Some r ↦ id ∷ ids_within k r.parent ] ]

  ids_root : (k id : ℕ) → id ≡ 0 → ids_within (suc k) id ≡ id ∷ []
  ids_root k id e = rw (eq-eqb id 0 e, ids_within) refl

  ids_row : (k id : ℕ) (r : CollectionRow) → (id ≡ 0 → ⊥) → collection c id ≡ Some r → ids_within (suc k) id ≡ id ∷ ids_within k r.parent
  ids_row k id r not_root some = rw (ne_eqb id 0 not_root, some, ids_within) refl

  length-ids : (k id : ℕ) (names : Path) → names_within k c id ≡ Some names → length (ids_within k id) ≡ suc (length names)
  length-ids zero id names e = absurd cc
  length-ids (suc k) id names e = elim (leads_up k id names e) [
    | at_root is none ↦ ap (λ (l : List ℕ). length l) (ids_root k id is) ∙ sym (ap (λ (p : Path). suc (length p)) none)
    | further not_root r rest some up is ↦
        ap (λ (l : List ℕ). length l) (ids_row k id r not_root some) ∙ ap suc (length-ids k r.parent rest up) ∙ sym (ap (λ (p : Path). suc (length p)) is)
  ]

  -- from there up there are not more names
  abbrev IsOnWay : ℕ → Path → Type 0
  IsOnWay q names = (j : ℕ) × (shorter : Path) × (names_within j c q ≡ Some shorter) × (length shorter ≤ length names)

  first_on_way : (k id : ℕ) (names : Path) → names_within k c id ≡ Some names → (q : ℕ) → (q == id) ≡ true → IsOnWay q names
  first_on_way k id names e q same = (k, names, ap (λ i. names_within k c i) (eqb-true q id same) ∙ e, omega arith)

  later_on_way : (q id : ℕ) (names rest : Path) (ids : List ℕ) → (list_any (λ i. q == i) ids ≡ true → IsOnWay q rest) → ((q == id) ≡ true → IsOnWay q names) → length names ≡ suc (length rest)
      → (b : Bool) → (q == id) ≡ b → (b || list_any (λ i. q == i) ids) ≡ true → IsOnWay q names
  later_on_way q id names rest ids later first long true same e = first same
  later_on_way q id names rest ids later first long false same e = let way = later e in (way.0, way.1, way.2, omega (arith, way.3))

  on_way : (k id : ℕ) (names : Path) → names_within k c id ≡ Some names → (q : ℕ) → list_any (λ i. q == i) (ids_within k id) ≡ true → IsOnWay q names
  on_way zero id names e q h = absurd cc
  on_way (suc k) id names e q h = elim (leads_up k id names e) [
    | at_root is none ↦
        let h' : list_any (λ i. q == i) (id ∷ []) ≡ true = subst (λ (l : List ℕ). list_any (λ i. q == i) l ≡ true) (ids_root k id is) h in
        first_on_way (suc k) id names e q (alone (q == id) h')
    | further not_root r rest some up is ↦
        let h' : list_any (λ i. q == i) (id ∷ ids_within k r.parent) ≡ true = subst (λ (l : List ℕ). list_any (λ i. q == i) l ≡ true) (ids_row k id r not_root some) h in
        later_on_way q id names rest (ids_within k r.parent) (on_way k r.parent rest up q) (first_on_way (suc k) id names e q) (ap (λ (p : Path). length p) is) (q == id) refl h'
  ]
    where
      alone : (b : Bool) → (b || false) ≡ true → b ≡ true
      alone true f = refl
      alone false f = f

none_same : (q : ℕ) (ids : List ℕ) → list_any (λ i. q == i) ids ≡ false → AllByRecursion (λ i. (q == i) ≡ false) ids
none_same q [] e = tt
none_same q (i ∷ ids) e = elim (q == i) as (λ b. (b || list_any (λ j. q == j) ids) ≡ false → (b ≡ false) × AllByRecursion (λ j. (q == j) ≡ false) ids) [
  | true ↦ λ f. absurd cc
  | false ↦ λ f. (refl, none_same q ids f)
] e

module _ (c : Cat) where
  distinct_nil : IsDistinct (λ a b. a == b) []
  unfolding IsDistinct
  distinct_nil = tt

  -- no collection stands twice on a way
  distinct-ids : (k id : ℕ) (names : Path) → names_within k c id ≡ Some names → IsDistinct (λ a b. a == b) (ids_within c k id)
  distinct-ids zero id names e = absurd cc
  distinct-ids (suc k) id names e = elim (leads_up c k id names e) [
    | at_root is none ↦ subst (λ (l : List ℕ). IsDistinct (λ a b. a == b) l) (sym (ids_root c k id is)) (IsDistinct-cons (λ a b. a == b) id [] tt distinct_nil)
    | further not_root r rest some up is ↦
        subst (λ (l : List ℕ). IsDistinct (λ a b. a == b) l) (sym (ids_row c k id r not_root some))
        (IsDistinct-cons (λ a b. a == b) id (ids_within c k r.parent) (none_same id (ids_within c k r.parent) (new r rest up is _ refl)) (distinct-ids k r.parent rest up))
  ]
    where
      new : (r : CollectionRow) (rest : Path) → names_within k c r.parent ≡ Some rest → names ≡ r.name ∷ rest → (b : Bool) → list_any (λ i. id == i) (ids_within c k r.parent) ≡ b
          → list_any (λ i. id == i) (ids_within c k r.parent) ≡ false
      new r rest up is false h = h
      new r rest up is true h =
          let way = on_way c k r.parent rest up id h in
          let same : names ≡ way.1 = within_same c (suc k) way.0 id names way.1 e way.2 in
          let long : length way.1 ≡ suc (length rest) = ap (λ (p : Path). length p) (sym same ∙ is) in
          absurd (omega (arith, way.3))

  -- each collection but `/` has its parent
  abbrev pub HasParents : Type 0
  HasParents = (r : CollectionRow) → IsIn c.collections r → (r.id ≡ 0 → ⊥) → has_collection c r.parent ≡ true

  pub its_row : (id : ℕ) (r : CollectionRow) → collection c id ≡ Some r → IsIn c.collections r × (r.id ≡ id)
  its_row id r e = let found = in_from_find (λ x. x.id == id) c.collections r e in (found.0, eqb-true r.id id found.1)

  module _ (parents : HasParents) where
    parent_there : (id : ℕ) (r : CollectionRow) → (id ≡ 0 → ⊥) → collection c id ≡ Some r → has_collection c r.parent ≡ true
    parent_there id r not_root e = let its = its_row id r e in parents r its.0 (λ h. not_root (sym its.1 ∙ h))

    there : (k id : ℕ) (names : Path) → names_within k c id ≡ Some names → has_collection c id ≡ true → (q : ℕ) → list_any (λ i. q == i) (ids_within c k id) ≡ true → has_collection c q ≡ true
    there zero id names e has q h = absurd cc
    there (suc k) id names e has q h = elim (leads_up c k id names e) [
      | at_root is none ↦ last (q == id) refl (subst (λ (l : List ℕ). list_any (λ i. q == i) l ≡ true) (ids_root c k id is) h)
      | further not_root r rest some up is ↦
          next (ids_within c k r.parent) (there k r.parent rest up (parent_there id r not_root some) q) (q == id) refl (subst (λ (l : List ℕ). list_any (λ i. q == i) l ≡ true) (ids_row c k id r not_root some) h)
    ]
      where
        at : (q == id) ≡ true → has_collection c q ≡ true
        at same = ap (λ i. has_collection c i) (eqb-true q id same) ∙ has

        last : (b : Bool) → (q == id) ≡ b → (b || false) ≡ true → has_collection c q ≡ true
        last true same f = at same
        last false same f = absurd cc

        next : (ids : List ℕ) → (list_any (λ i. q == i) ids ≡ true → has_collection c q ≡ true) → (b : Bool) → (q == id) ≡ b → (b || list_any (λ i. q == i) ids) ≡ true → has_collection c q ≡ true
        next ids later true same f = at same
        next ids later false same f = later f

    -- `/` is there, where a way leads from a collection up to it
    pub root_there : (k id : ℕ) (names : Path) → names_within k c id ≡ Some names → has_collection c id ≡ true → has_collection c 0 ≡ true
    root_there zero id names e has = absurd cc
    root_there (suc k) id names e has = elim (leads_up c k id names e) [
      | at_root is none ↦ ap (λ i. has_collection c i) (sym is) ∙ has
      | further not_root r rest some up is ↦ root_there k r.parent rest up (parent_there id r not_root some)
    ]

    -- the ids of all collections
    member_id : (q : ℕ) (rows : List CollectionRow) → list_any (λ r. r.id == q) rows ≡ true → list_any (λ i. q == i) (map (λ r. r.id) rows) ≡ true
    member_id q [] e = absurd cc
    member_id q (r ∷ rows) e = elim (eqb_tells r.id q) [
      | inl is ↦ let same : (q == r.id) ≡ true = eq-eqb q r.id (sym is.1) in rw same refl
      | inr not ↦
          let e' : list_any (λ s. s.id == q) rows ≡ true = rw not.0 at e in
          elim (q == r.id) as (λ b. (b || list_any (λ i. q == i) (map (λ s. s.id) rows)) ≡ true) [ true ↦ refl | false ↦ member_id q rows e' ]
    ]

    -- a way is shorter than there are collections
    pub within_all : (k id : ℕ) (names : Path) → names_within k c id ≡ Some names → has_collection c id ≡ true → names_within (length c.collections) c id ≡ Some names
    within_all k id names e has =
        let ids : List ℕ = ids_within c k id in
        let all : List ℕ = map (λ (r : CollectionRow). r.id) c.collections in
        let below : length ids ≤ length all = length-le_from_is_member nat_eq_equiv ids all (distinct-ids k id names e) (λ q h. member_id q c.collections (there k id names e has q h)) in
        let count : length ids ≡ suc (length names) = length-ids c k id names e in
        let counted : length all ≡ length c.collections = length-map c.collections (λ (r : CollectionRow). r.id) in
        let spare : length c.collections ≡ (length c.collections - suc (length names)) + suc (length names) = omega (arith, below, count, counted) in
        ap (λ n. names_within n c id) spare ∙ within_many c (length c.collections - suc (length names)) (suc (length names)) id names (within_enough c k id names e)
