-- The way up from a resource ends: with so many resources on it, which are fewer than there are.
use Rattle.std.proofs.Common.{◌≡◌, ◌==◌, ℕ, zero, suc, ◌<◌, ◌≤◌, Bool, true, false, List, [], ◌∷◌, length, Option, Some, None, inl, inr, refl, sym, ap, ◌∙◌, subst, arith, eq-eqb, eqb-true}
use Rattle.std.specs.Prelude.{find, map, ◌||◌}
use Rattle.std.specs.List.{list_any, IsDistinct, AllByRecursion}
use Rattle.std.specs.Cmp.{nat_eq_equiv}
use Rattle.std.proofs.lemmas.Bool.{ne_eqb}
use Rattle.std.proofs.lemmas.Bool.Decides.{eqb_tells}
use Rattle.std.proofs.lemmas.Map.Made.{length-le_from_is_member}
use Rattle.std.proofs.lemmas.Map.Keys.{IsDistinct-cons}
use Rattle.std.proofs.lemmas.List.{length-map}
use Rattle.std.proofs.lemmas.Option.{same_Some}
use Rattle.grid_model.specs.Rows.{Cat, resource}
use Rattle.grid_model.specs.Applying.{stands_within}
use Rattle.grid_model.specs.declared.deltas.ResourceRow.{ResourceRow}
use Rattle.tables_laws.proofs.Rows.{IsIn, in_from_find}

-- the resource with this id
abbrev pub row_at : List ResourceRow → ℕ → Option ResourceRow
row_at rows id = find (λ r. r.id == id) rows

-- on the way up from the id there are exactly so many resources, and then no parent
abbrev pub Ends : List ResourceRow → ℕ → ℕ → Type 0
Ends rows zero id = id ≡ 0
Ends rows (suc n) id = (r : ResourceRow) × (row_at rows id ≡ Some r) × Ends rows n r.parent

-- no resource has the id 0
abbrev pub HasSomeIds : List ResourceRow → Type 0
HasSomeIds rows = (r : ResourceRow) → IsIn rows r → r.id ≡ 0 → ⊥

module _ (rows : List ResourceRow) (some : HasSomeIds rows) where
  pub none_at : (id : ℕ) (r : ResourceRow) → id ≡ 0 → row_at rows id ≡ Some r → ⊥
  none_at id r is found = let its = in_from_find (λ (x : ResourceRow). x.id == id) rows r found in some r its.0 (eqb-true r.id id its.1 ∙ is)

  pub ends-same : (n m id : ℕ) → Ends rows n id → Ends rows m id → n ≡ m
  ends-same zero zero id a b = refl
  ends-same zero (suc m) id a b = absurd (none_at id b.0 a b.1)
  ends-same (suc n) zero id a b = absurd (none_at id a.0 b a.1)
  ends-same (suc n) (suc m) id a b =
      let one : b.0 ≡ a.0 = same_Some b.0 a.0 (sym b.1 ∙ a.1) in
      ap suc (ends-same n m a.0.parent a.2 (subst (λ (r : ResourceRow). Ends rows m r.parent) one b.2))

  -- ---- the ids on the way

  abbrev ids_up : (n id : ℕ) → Ends rows n id → List ℕ
  ids_up zero id e = []
  ids_up (suc n) id e = id ∷ ids_up n e.0.parent e.2

  length-ids_up : (n id : ℕ) (e : Ends rows n id) → length (ids_up n id e) ≡ n
  length-ids_up zero id e = refl
  length-ids_up (suc n) id e = ap suc (length-ids_up n e.0.parent e.2)

  -- one that stands on a way has a way that is no longer
  abbrev IsOn : ℕ → ℕ → Type 0
  IsOn n q = (m : ℕ) × Ends rows (suc m) q × (m < n)

  on_way : (n id : ℕ) (e : Ends rows n id) (q : ℕ) → list_any (λ i. q == i) (ids_up n id e) ≡ true → IsOn n q
  on_way zero id e q h = absurd cc
  on_way (suc n) id e q h = by (on_way n e.0.parent e.2 q) (q == id) refl h
    where
      by : (list_any (λ i. q == i) (ids_up n e.0.parent e.2) ≡ true → IsOn n q) → (b : Bool) → (q == id) ≡ b → (b || list_any (λ i. q == i) (ids_up n e.0.parent e.2)) ≡ true → IsOn (suc n) q
      by later true is h = (n, subst (λ i. Ends rows (suc n) i) (sym (eqb-true q id is)) e, omega arith)
      by later false is h = let way = later h in (way.0, way.1, omega (arith, way.2))

  none_same : (q : ℕ) (ids : List ℕ) → list_any (λ i. q == i) ids ≡ false → AllByRecursion (λ i. (q == i) ≡ false) ids
  none_same q [] e = tt
  none_same q (i ∷ ids) e = elim (q == i) as (λ b. (b || list_any (λ j. q == j) ids) ≡ false → (b ≡ false) × AllByRecursion (λ j. (q == j) ≡ false) ids) [
    | true ↦ λ f. absurd cc
    | false ↦ λ f. (refl, none_same q ids f)
  ] e

  distinct_nil : IsDistinct (λ (a b : ℕ). a == b) []
  unfolding IsDistinct
  distinct_nil = tt

  distinct-ids_up : (n id : ℕ) (e : Ends rows n id) → IsDistinct (λ a b. a == b) (ids_up n id e)
  distinct-ids_up zero id e = distinct_nil
  distinct-ids_up (suc n) id e =
      IsDistinct-cons (λ a b. a == b) id (ids_up n e.0.parent e.2) (none_same id (ids_up n e.0.parent e.2) (new (list_any (λ i. id == i) (ids_up n e.0.parent e.2)) refl)) (distinct-ids_up n e.0.parent e.2)
    where
      new : (b : Bool) → list_any (λ i. id == i) (ids_up n e.0.parent e.2) ≡ b → list_any (λ i. id == i) (ids_up n e.0.parent e.2) ≡ false
      new false h = h
      new true h =
          let way = on_way n e.0.parent e.2 id h in
          let same : suc n ≡ suc way.0 = ends-same (suc n) (suc way.0) id e way.1 in
          absurd (omega (arith, same, way.2))

  member_id : (q : ℕ) (some : List ResourceRow) (r : ResourceRow) → IsIn some r → r.id ≡ q → list_any (λ i. q == i) (map (λ (x : ResourceRow). x.id) some) ≡ true
  member_id q [] r here is = absurd here
  member_id q (x ∷ xs) r (inl same) is = let e : (q == x.id) ≡ true = eq-eqb q x.id (sym (ap (λ (y : ResourceRow). y.id) same ∙ is)) in rw e refl
  member_id q (x ∷ xs) r (inr later) is = elim (q == x.id) as (λ b. (b || list_any (λ i. q == i) (map (λ (y : ResourceRow). y.id) xs)) ≡ true) [ true ↦ refl | false ↦ member_id q xs r later is ]

  -- a way has at most as many resources as there are
  pub ends_within : (n id : ℕ) → Ends rows n id → n ≤ length rows
  ends_within n id e =
      let all : List ℕ = map (λ (r : ResourceRow). r.id) rows in
      let most : length (ids_up n id e) ≤ length all = length-le_from_is_member nat_eq_equiv (ids_up n id e) all (distinct-ids_up n id e) (λ q h.
      let way = on_way n id e q h in
      let its = in_from_find (λ (x : ResourceRow). x.id == q) rows way.1.0 way.1.1 in
      member_id q rows way.1.0 its.0 (eqb-true way.1.0.id q its.1)) in
      let counted : length all ≡ length rows = length-map rows (λ (r : ResourceRow). r.id) in
      omega (arith, most, counted, length-ids_up n id e)

-- ---- one step of the test whether a resource stands below another one

module _ (c : Cat) (upper id : ℕ) where
  pub stand_hit : (k : ℕ) → id ≡ upper → stands_within (suc k) c upper id ≡ true
  stand_hit k e = rw (eq-eqb id upper e, stands_within) refl

  pub stand_lost : (k : ℕ) → (id ≡ upper → ⊥) → resource c id ≡ None → stands_within (suc k) c upper id ≡ false
  stand_lost k apart none = rw (ne_eqb id upper apart, none, stands_within) refl

  pub stand_up : (k : ℕ) (r : ResourceRow) → (id ≡ upper → ⊥) → resource c id ≡ Some r → stands_within (suc k) c upper id ≡ stands_within k c upper r.parent
  stand_up k r apart some = rw (ne_eqb id upper apart, some, stands_within) refl

module _ (c : Cat) (some : HasSomeIds c.resources) where
  nothing_at : (o : Option ResourceRow) (id : ℕ) → id ≡ 0 → resource c id ≡ o → resource c id ≡ None
  nothing_at None id is found = found
  nothing_at (Some r) id is found = absurd (none_at c.resources some id r is found)

  -- what has a longer way is not on it
  pub not_above : (k n m upper id : ℕ) → (upper ≡ 0 → ⊥) → Ends c.resources m upper → Ends c.resources n id → n < m → stands_within k c upper id ≡ false
  not_above zero n m upper id not_zero up e less = refl
  not_above (suc k) n m upper id not_zero up e less = by (λ j parent. not_above k j m upper parent not_zero up) n e less
    where
      apart : (j : ℕ) → Ends c.resources j id → j < m → id ≡ upper → ⊥
      apart j way low is = let same : j ≡ m = ends-same c.resources some j m upper (subst (λ i. Ends c.resources j i) is way) up in omega (arith, same, low)

      by : ((j parent : ℕ) → Ends c.resources j parent → j < m → stands_within k c upper parent ≡ false) → (j : ℕ) → Ends c.resources j id → j < m → stands_within (suc k) c upper id ≡ false
      by more zero way low = stand_lost c upper id k (apart zero way low) (nothing_at (resource c id) id way refl)
      by more (suc j) way low = stand_up c upper id k way.0 (apart (suc j) way low) way.1 ∙ more j way.0.parent way.2 (omega (arith, low))

-- ---- a resource is put

module _ (c : Cat) (after : List ResourceRow) (put : ℕ) (not_zero : put ≡ 0 → ⊥) (others : (j : ℕ) → (j ≡ put → ⊥) → row_at after j ≡ row_at c.resources j) where
  -- what does not lead to it leads on as before
  pub ends_past : (k n id : ℕ) → n ≤ k → Ends c.resources n id → stands_within k c put id ≡ false → Ends after n id
  ends_past k zero id most e past = e
  ends_past zero (suc n) id most e past = absurd (omega (arith, most))
  ends_past (suc k) (suc n) id most e past =
      (e.0, others id apart ∙ e.1, ends_past k n e.0.parent (omega (arith, most)) e.2 (sym (stand_up c put id k e.0 apart e.1) ∙ past))
    where
      apart : id ≡ put → ⊥
      apart is = let hit : stands_within (suc k) c put id ≡ true = stand_hit c put id k is in let wrong : true ≡ false = sym hit ∙ past in cc

  -- where its own way ends, each way does
  pub ends_again : (own : ℕ) → Ends after own put → (n id : ℕ) → Ends c.resources n id → (m : ℕ) × Ends after m id
  ends_again own its zero id e = (0, e)
  ends_again own its (suc n) id e = elim (eqb_tells id put) [
    | inl is ↦ (own, subst (λ i. Ends after own i) (sym is.1) its)
    | inr other ↦ let more = ends_again own its n e.0.parent e.2 in (suc more.0, (e.0, others id other.1 ∙ e.1, more.1))
  ]
