-- In each catalogue that changes make resources have ids and ways that end, and those without a parent have the place 0.
use Rattle.std.proofs.Common.{◌≡◌, ◌==◌, ℕ, suc, ◌<◌, Bool, true, false, List, [], ◌∷◌, length, Ok, inl, inr, refl, sym, ap, ◌∙◌, subst, arith, eq-eqb, eqb-true}
use Rattle.std.specs.Prelude.{not, ◌&&◌, nat_lt}
use Rattle.std.specs.List.{list_any}
use Rattle.std.proofs.lemmas.Bool.{and_parts, not-true, ltb-true, ne_eqb}
use Rattle.std.proofs.lemmas.Bool.Decides.{eqb_tells}
use Rattle.grid_model.specs.Names.{is_name, same_text}
use Rattle.grid_model.specs.Rows.{Cat, empty_cat, with_row, resource_cmp}
use Rattle.grid_model.specs.Applying.{IsMade, apply, apply_all, where_fits, resource_fits, same_kind, slot_fits, parent_fits, is_node, stands_in}
use Rattle.grid_model.specs.declared.deltas.Delta.{Delta}
use Rattle.grid_model.specs.declared.deltas.Delta.TheVariants as delta
use Rattle.grid_model.specs.declared.deltas.ResourceRow.{ResourceRow}
use Rattle.tables_laws.proofs.Rows.{IsIn}
use Rattle.tables_laws.proofs.Numbered.{put_found, put_other, put_in}
use Rattle.tables_laws.proofs.Places.{row_there}
use Rattle.tables_laws.proofs.Resources.{node_there}
use Rattle.tables_laws.proofs.Ties.{its_parent}
use Rattle.tables_laws.proofs.Sound.{IsSound, sound-empty, sound-apply, fits_so, ok-same, after_first}
use Rattle.plan_tree.proofs.ResourceWays.{Ends, HasSomeIds, ends_within, ends_past, ends_again, row_at}

pub record IsRooted (rows : List ResourceRow) : Type 0 where
  pub some : HasSomeIds rows
  pub ended : (r : ResourceRow) → IsIn rows r → (n : ℕ) × Ends rows n r.id
  pub first : (r : ResourceRow) → IsIn rows r → r.parent ≡ 0 → r.place ≡ 0

-- what a resource asks of its parent
pub record AsksParent (c : Cat) (r : ResourceRow) : Type 0 where
  pub lone : r.parent ≡ 0 → r.place ≡ 0
  pub node : (r.parent ≡ 0 → ⊥) → is_node c r.parent ≡ true
  pub not_below : (r.parent ≡ 0 → ⊥) → stands_in c r.id r.parent ≡ false

pub asks_parent : (c : Cat) (r : ResourceRow) → parent_fits c r ≡ true → AsksParent c r
asks_parent c r fits = record {
  lone = λ is. let at : (r.place == 0) ≡ true = rw (eq-eqb r.parent 0 is, parent_fits) at fits in eqb-true r.place 0 at;
  node = λ below. (front below).0;
  not_below = λ below. not-true _ (front below).1;
}
  where
    front : (r.parent ≡ 0 → ⊥) → (is_node c r.parent ≡ true) × (not (stands_in c r.id r.parent) ≡ true)
    front below =
        let all : (is_node c r.parent && not (stands_in c r.id r.parent) && not (list_any (λ o. not (o.id == r.id) && (o.parent == r.parent) && (o.place == r.place)) c.resources)) ≡ true =
        rw (ne_eqb r.parent 0 below, parent_fits) at fits in
        and_parts (is_node c r.parent) (not (stands_in c r.id r.parent)) (and_parts (is_node c r.parent && not (stands_in c r.id r.parent)) _ all).0

module _ (c : Cat) (s : IsSound c) (rooted : IsRooted c.resources) (r : ResourceRow) (fits : resource_fits c r ≡ true) where
  abbrev after : List ResourceRow
  after = with_row resource_cmp c.resources r

  asks : AsksParent c r
  asks = asks_parent c r (its_parent c r fits)

  not_zero : r.id ≡ 0 → ⊥
  not_zero is =
      let front = and_parts (nat_lt 0 r.id && is_name r.name && not (list_any (λ o. not (o.id == r.id) && same_text o.name r.name) c.resources)
      && not (list_any (λ o. (o.id == r.id) && not (same_kind o.kind r.kind)) c.resources) && slot_fits c r.kind r.slot) (parent_fits c r) fits in
      let a = and_parts (nat_lt 0 r.id && is_name r.name && not (list_any (λ o. not (o.id == r.id) && same_text o.name r.name) c.resources)
      && not (list_any (λ o. (o.id == r.id) && not (same_kind o.kind r.kind)) c.resources)) (slot_fits c r.kind r.slot) front.0 in
      let b = and_parts (nat_lt 0 r.id && is_name r.name && not (list_any (λ o. not (o.id == r.id) && same_text o.name r.name) c.resources)) (not (list_any (λ o. (o.id == r.id) && not (same_kind o.kind r.kind)) c.resources)) a.0 in
      let d = and_parts (nat_lt 0 r.id && is_name r.name) (not (list_any (λ o. not (o.id == r.id) && same_text o.name r.name) c.resources)) b.0 in
      let low : 0 < r.id = ltb-true 0 r.id (and_parts (nat_lt 0 r.id) (is_name r.name) d.0).0 in
      omega (arith, low, is)

  others : (j : ℕ) → (j ≡ r.id → ⊥) → row_at after j ≡ row_at c.resources j
  others j apart = put_other (λ (x : ResourceRow). x.id) c.resources r j apart

  -- its own way
  own : (n : ℕ) × Ends after n r.id
  own = elim (eqb_tells r.parent 0) [
    | inl is ↦ (1, (r, put_found (λ (x : ResourceRow). x.id) c.resources r, is.1))
    | inr below ↦
        let up = row_there (λ (x : ResourceRow). x.id) c.resources r.parent (node_there c r.parent (asks.node below.1)) in
        let way = rooted.ended up.0 up.1 in
        let its : Ends c.resources way.0 r.parent = subst (λ i. Ends c.resources way.0 i) up.2 way.1 in (
          suc way.0,
          (
            r,
            put_found (λ (x : ResourceRow). x.id) c.resources r,
            ends_past c after r.id not_zero others (length c.resources) way.0 r.parent (ends_within c.resources rooted.some way.0 r.parent its) its (asks.not_below below.1),
          ),
        )
  ]

  pub rooted-with_resource : IsRooted (with_row resource_cmp c.resources r)
  rooted-with_resource = record {
    some = λ x here is. elim (put_in (λ (y : ResourceRow). y.id) c.resources r x s.cat.resources.ordered here) [
      | inl same ↦ not_zero (ap (λ (y : ResourceRow). y.id) same ∙ is)
      | inr was ↦ rooted.some x was.0 is
    ];
    ended = λ x here. elim (put_in (λ (y : ResourceRow). y.id) c.resources r x s.cat.resources.ordered here) [
      | inl same ↦ subst (λ (y : ResourceRow). (n : ℕ) × Ends after n y.id) same own
      | inr was ↦ let way = rooted.ended x was.0 in ends_again c after r.id not_zero others own.0 own.1 way.0 x.id way.1
    ];
    first = λ x here is. elim (put_in (λ (y : ResourceRow). y.id) c.resources r x s.cat.resources.ordered here) [
      | inl same ↦ ap (λ (y : ResourceRow). y.place) (sym same) ∙ asks.lone (ap (λ (y : ResourceRow). y.parent) same ∙ is)
      | inr was ↦ rooted.first x was.0 is
    ];
  }

-- the other changes leave the resources
then_rooted : (b : Bool) (cause : ℕ) (next d : Cat) → (b ≡ true → IsRooted next.resources) → where_fits b cause next ≡ Ok d → IsRooted d.resources
then_rooted b cause next d rooted e = let so = fits_so b cause next d e in subst (λ (x : Cat). IsRooted x.resources) so.1 (rooted so.0)

pub rooted-apply : (c d : Cat) (change : Delta) → IsSound c → IsRooted c.resources → apply c change ≡ Ok d → IsRooted d.resources
rooted-apply c d (delta.Zone name stores) s rooted e = then_rooted _ 1 _ d (λ fits. rooted) e
rooted-apply c d (delta.User r) s rooted e = then_rooted _ 2 _ d (λ fits. rooted) e
rooted-apply c d (delta.Member m) s rooted e = then_rooted _ 3 _ d (λ fits. rooted) e
rooted-apply c d (delta.NoMember m) s rooted e = then_rooted _ 4 _ d (λ fits. rooted) e
rooted-apply c d (delta.Collection r) s rooted e = then_rooted _ 5 _ d (λ fits. rooted) e
rooted-apply c d (delta.NoCollection id) s rooted e = then_rooted _ 6 _ d (λ fits. rooted) e
rooted-apply c d (delta.Object r) s rooted e = then_rooted _ 7 _ d (λ fits. rooted) e
rooted-apply c d (delta.NoObject id) s rooted e = then_rooted _ 8 _ d (λ fits. rooted) e
rooted-apply c d (delta.Replica r) s rooted e = then_rooted _ 9 _ d (λ fits. rooted) e
rooted-apply c d (delta.NoReplica object number) s rooted e = then_rooted _ 10 _ d (λ fits. rooted) e
rooted-apply c d (delta.Triple t) s rooted e = then_rooted _ 11 _ d (λ fits. rooted) e
rooted-apply c d (delta.NoTriple t) s rooted e = then_rooted _ 12 _ d (λ fits. rooted) e
rooted-apply c d (delta.Entry x) s rooted e = then_rooted _ 13 _ d (λ fits. rooted) e
rooted-apply c d (delta.NoEntry k id user) s rooted e = then_rooted _ 14 _ d (λ fits. rooted) e
rooted-apply c d (delta.Resource r) s rooted e = then_rooted _ 15 _ d (λ fits. rooted-with_resource c s rooted r fits) e
rooted-apply c d (delta.Rules text) s rooted e = subst (λ (x : Cat). IsRooted x.resources) (ok-same _ d (apply c (delta.Rules text)) refl e) rooted
rooted-apply c d (delta.Orphan r) s rooted e = then_rooted _ 17 _ d (λ fits. rooted) e
rooted-apply c d (delta.NoOrphan vault) s rooted e = then_rooted _ 18 _ d (λ fits. rooted) e
rooted-apply c d (delta.Numbers n) s rooted e = then_rooted _ 19 _ d (λ fits. rooted) e
rooted-apply c d (delta.Pending p) s rooted e = then_rooted _ 20 _ d (λ fits. rooted) e
rooted-apply c d delta.NoPending s rooted e = then_rooted _ 21 _ d (λ fits. rooted) e

rooted-apply_all : (changes : List Delta) (c d : Cat) → IsSound c → IsRooted c.resources → apply_all c changes ≡ Ok d → IsRooted d.resources
rooted-apply_all [] c d s rooted e = subst (λ (x : Cat). IsRooted x.resources) (ok-same c d (apply_all c []) refl e) rooted
rooted-apply_all (change ∷ changes) c d s rooted e =
    let step = after_first (apply c change) changes d e in
    rooted-apply_all changes step.0 d (sound-apply c step.0 change s step.1) (rooted-apply c step.0 change s rooted step.1) step.2

pub rooted-made : (c : Cat) → IsMade c → IsRooted c.resources
rooted-made c m = rooted-apply_all m.0 empty_cat c sound-empty (record {
  some = λ r here is. absurd here;
  ended = λ r here. absurd here;
  first = λ r here is. absurd here;
}) m.1
