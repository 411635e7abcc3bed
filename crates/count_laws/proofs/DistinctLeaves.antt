-- Leaves that differ from one another are no more than there are: each is the id of another row of a leaf.
use Rattle.std.proofs.Common.{◌≡◌, ◌==◌, ℕ, ◌≤◌, true, false, List, [], ◌∷◌, length, IsTrue, refl, subst, arith, eq-eqb, eqb-true}
use Rattle.std.specs.Prelude.{◌&&◌, filter, map}
use Rattle.std.specs.List.{AllByRecursion, IsDistinct}
use Rattle.std.proofs.lemmas.Bool.{and_parts}
use Rattle.std.proofs.lemmas.List.{length-map}
use Rattle.grid_model.specs.Rows.{Cat}
use Rattle.grid_model.specs.Applying.{is_leaf, is_storage}
use Rattle.grid_model.specs.declared.deltas.ResourceRow.{ResourceRow}
use Rattle.tables_laws.proofs.Rows.{IsIn, in_from_all, in_from_any, filter_from_in}
use Rattle.grid_access.proofs.MapEntries.{map_from_in}
use Rattle.count_laws.proofs.Fewer.{AreApart, no_longer}
use Rattle.grid_headline.specs.Numbers.{leaf_count}

-- the rows of leaves
abbrev leaf_rows : Cat → List ResourceRow
leaf_rows c = filter (λ (r : ResourceRow). is_storage r.kind) c.resources

abbrev row_id : ResourceRow → ℕ
row_id r = r.id

leaf_among : (c : Cat) (id : ℕ) → is_leaf c id ≡ true → IsIn (map row_id (leaf_rows c)) id
leaf_among c id leaf =
    let r = in_from_any (λ (x : ResourceRow). (x.id == id) && is_storage x.kind) c.resources leaf in
    let parts = and_parts (r.0.id == id) (is_storage r.0.kind) r.2 in
    let row : IsIn (leaf_rows c) r.0 = filter_from_in (λ (x : ResourceRow). is_storage x.kind) c.resources r.0 r.1 parts.1 in
    subst (IsIn (map row_id (leaf_rows c))) (eqb-true r.0.id id parts.0) (map_from_in row_id (leaf_rows c) r.0 row)

pub few_leaves : (c : Cat) (ids : List ℕ) → AllByRecursion (λ id. IsTrue (is_leaf c id)) ids → AreApart ids → length ids ≤ leaf_count c
few_leaves c ids all apart =
    let few = no_longer ids (map row_id (leaf_rows c)) apart (λ id here. leaf_among c id (in_from_all (λ j. IsTrue (is_leaf c j)) ids all id here)) in
    let rows = length-map (leaf_rows c) row_id in
    omega (arith, few, rows)

pub apart_from_distinct : (ns : List ℕ) → IsDistinct (λ (a b : ℕ). a == b) ns → AreApart ns
unfolding IsDistinct
apart_from_distinct [] distinct = tt
apart_from_distinct (n ∷ ns) distinct = (
  λ here.
      let other : (n == n) ≡ false = in_from_all (λ m. (n == m) ≡ false) ns distinct.0 n here in
      let same : (n == n) ≡ true = eq-eqb n n refl in
      cc,
  apart_from_distinct ns distinct.1,
)

pub leaves_are_few : (c : Cat) (ids : List ℕ) → AllByRecursion (λ id. IsTrue (is_leaf c id)) ids → IsDistinct (λ (a b : ℕ). a == b) ids
    → length ids ≤ leaf_count c
leaves_are_few c ids all distinct = few_leaves c ids all (apart_from_distinct ids distinct)
