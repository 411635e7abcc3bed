-- The grid once a child has another place, with the same children before it and behind it: it is as it was.
use Rattle.std.proofs.Common.{◌≡◌, ◌==◌, ◌⊎◌, inl, inr, ℕ, ◌<◌, ◌≤◌, Bool, true, false, refl, sym, ap, ◌∙◌, arith, eqb-true}
use Rattle.std.specs.Prelude.{◌&&◌, nat_lt}
use Rattle.std.proofs.lemmas.Bool.{and_parts, and_from, lt-ltb, le-ltb, ltb-true}
use Rattle.std.proofs.lemmas.Bool.Decides.{eqb_tells}
use Rattle.grid_model.specs.Maps.{Map, put}
use Rattle.grid_model.specs.Names.{text_cmp}
use Rattle.grid_model.specs.Grid.{Resource}
use Rattle.grid_model.specs.Rows.{Cat, resource_cmp}
use Rattle.grid_model.specs.RowGrids.{grid_of, resource_of}
use Rattle.grid_model.specs.Applying.{resource_fits}
use Rattle.grid_model.specs.declared.deltas.ResourceRow.{ResourceRow}
use Rattle.grid_model.proofs.Comparing.{text_cmp_total, text_cmp-IsAntisymmetric, eq_by_cmp-Decides}
use Rattle.grid_model.proofs.MapLemmas.{put-again}
use Rattle.grid_model.proofs.RowOrders.{resource_cmp_total}
use Rattle.grid_tree.proofs.Named.{get-row}
use Rattle.tables_laws.proofs.Counting.{count, count-more, count-replaced}
use Rattle.tables_laws.proofs.Numbered.{same_number, equal_number, one_number}
use Rattle.tables_laws.proofs.Ranks.{among}
use Rattle.tables_laws.proofs.Resources.{parent_kept, grid-with_resource}
use Rattle.tables_laws.proofs.Rows.{IsIn, in_from_all}
use Rattle.tables_laws.proofs.Sound.{IsSound}
use Rattle.tables_laws.proofs.Standing.{ResourceStands}
use Rattle.tables_laws.proofs.TableMaps.{from_list-changed}
use Rattle.tables_laws.proofs.Ties.{new_stands}
use Rattle.plan_tree.proofs.ChangedStatus.{put-itself}
use Rattle.plan_tree.proofs.ResourcePlans.{with_resource}

module _ (c : Cat) (s : IsSound c) (old : ResourceRow) (here : IsIn c.resources old) (p : ℕ) (low : p ≤ old.place)
    (apart : (y : ResourceRow) → IsIn c.resources y → (y.id ≡ old.id → ⊥) → y.parent ≡ old.parent → (y.place < p) ⊎ (old.place < y.place)) (fits : resource_fits c (record old { place = p }) ≡ true) where
  abbrev r : ResourceRow
  r = record old { place = p }

  abbrev after : Cat
  after = with_resource c (record old { place = p })

  is_old : (y : ResourceRow) → IsIn c.resources y → y.id ≡ old.id → y ≡ old
  is_old y there is = one_number (λ (x : ResourceRow). x.id) c.resources y old s.cat.resources.ordered there here is

  named : (y : ResourceRow) → IsIn c.resources y → y.id ≡ r.id → y.name ≡ r.name
  named y there is = ap (λ (x : ResourceRow). x.name) (is_old y there is)

  -- it stands before another resource where it did
  among_other : (x : ResourceRow) → IsIn c.resources x → (x.id ≡ old.id → ⊥) → among x old ≡ among x r
  among_other x there other = elim (eqb_tells old.parent x.parent) [
    | inl is ↦ ap (λ b. (old.parent == x.parent) && b) (elim (apart x there other (sym is.1)) [
      | inl before ↦ le-ltb old.place x.place (omega (arith, before, low)) ∙ sym (le-ltb p x.place (omega (arith, before)))
      | inr behind ↦ lt-ltb old.place x.place behind ∙ sym (lt-ltb p x.place (omega (arith, behind, low)))
    ])
    | inr differs ↦ ap (λ b. b && nat_lt old.place x.place) differs.0 ∙ sym (ap (λ b. b && nat_lt p x.place) differs.0)
  ]

  replaced_count : (x : ResourceRow) → among x old ≡ among x r → count (among x) after.resources ≡ count (among x) c.resources
  replaced_count x same =
      count-replaced resource_cmp (among x) resource_cmp_total c.resources r old s.cat.resources.ordered here (equal_number old.id old.id refl) (λ y there e.
      ap (among x) (is_old y there (sym (same_number old.id y.id e))) ∙ same)

  abbrev place_by : Bool → ℕ → ℕ
  place_by b n = elim b as (λ _. ℕ) [ true ↦ 0 | false ↦ n ]

  kept : (x : ResourceRow) → IsIn c.resources x → (x ≡ old → ⊥) → resource_of after x ≡ resource_of c x
  kept x there other =
      let stands : ResourceStands c x = in_from_all (ResourceStands c) c.resources s.tied.resources x there in
      let apart_id : x.id ≡ old.id → ⊥ = λ is. other (is_old x there is) in
      λ i. record { kind = x.kind; slot = x.slot; up = x.up; parent = parent_kept c s r fits named x stands i; place = ap (place_by (x.parent == 0)) (replaced_count x (among_other x there apart_id)) i }

  -- as many stand before it as did
  own_count : count (among r) c.resources ≡ count (among old) c.resources
  own_count =
      let most : count (among r) c.resources ≤ count (among old) c.resources = count-more (among r) (among old) c.resources (λ y there e.
      let parts = and_parts (y.parent == old.parent) (nat_lt y.place p) e in
      let before : y.place < p = ltb-true y.place p parts.1 in
      and_from (y.parent == old.parent) (nat_lt y.place old.place) parts.0 (lt-ltb y.place old.place (omega (arith, before, low)))) in
      let least : count (among old) c.resources ≤ count (among r) c.resources = count-more (among old) (among r) c.resources (λ y there e.
      let parts = and_parts (y.parent == old.parent) (nat_lt y.place old.place) e in
      let before : y.place < old.place = ltb-true y.place old.place parts.1 in
      and_from (y.parent == old.parent) (nat_lt y.place p) parts.0 (lt-ltb y.place p (elim (apart y there (λ is. not_itself y before (is_old y there is)) (eqb-true y.parent old.parent parts.0)) [
        | inl lower ↦ lower
        | inr higher ↦ absurd (omega (arith, higher, before))
      ]))) in
      omega (arith, most, least)
    where
      not_itself : (y : ResourceRow) → y.place < old.place → y ≡ old → ⊥
      not_itself y before is = let same : y.place ≡ old.place = ap (λ (x : ResourceRow). x.place) is in omega (arith, before, same)

  own : resource_of after r ≡ resource_of c old
  own = λ i. record {
    kind = old.kind;
    slot = old.slot;
    up = old.up;
    parent = parent_kept c s r fits named r (new_stands c r fits) i;
    place = ap (place_by (old.parent == 0)) (replaced_count r (ap (λ b. (old.parent == old.parent) && b) (le-ltb old.place p low ∙ sym (le-ltb p p (omega arith)))) ∙ own_count) i;
  }

  pub grid-reordered : grid_of (with_resource c (record old { place = p })) ≡ grid_of c
  grid-reordered =
      grid-with_resource c s r fits named (put (grid_of c).resources old.name (resource_of after old)) (resource_of c old)
      (from_list-changed text_cmp_total text_cmp-IsAntisymmetric (λ (x : ResourceRow). x.name) (resource_of c) (resource_of after) c.resources old here
      (λ y there e. is_old y there (s.names.resources_apart y old there here ((eq_by_cmp-Decides text_cmp_total text_cmp-IsAntisymmetric y.name old.name).0 e))) kept)
      own
      ∙ ap (λ (m : Map text_cmp Resource). record (grid_of c) { resources = m })
      (put-again text_cmp_total text_cmp-IsAntisymmetric (grid_of c).resources old.name (resource_of after old) (resource_of c old)
      ∙ put-itself text_cmp_total text_cmp-IsAntisymmetric (grid_of c).resources old.name (resource_of c old) (get-row c s old here))
