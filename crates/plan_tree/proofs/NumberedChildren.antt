-- The children of a resource numbered anew from 0 in their order: the changes apply, and the grid is as it was.
use Rattle.std.proofs.Common.{◌≡◌, ◌==◌, ◌⊎◌, inl, inr, ℕ, suc, ◌+◌, ◌<◌, ◌≤◌, true, List, [], ◌∷◌, ◌++◌, length, Option, Some, Ok, Err, refl, sym, ap, ◌∙◌, subst, arith, eqb-true}
use Rattle.std.specs.Prelude.{◌||◌}
use Rattle.std.specs.List.Sorted.{IsStrictlySortedBy}
use Rattle.std.specs.Ordering.{nat_cmp}
use Rattle.std.specs.Cmp.{ranked}
use Rattle.std.specs.declared.cmp.Ordering.TheVariants.{Less}
use Rattle.std.proofs.lemmas.Bool.{ne_eqb}
use Rattle.std.proofs.lemmas.Option.{same_Some}
use Rattle.grid_model.specs.Rows.{Cat, resource, resource_cmp}
use Rattle.grid_model.specs.RowGrids.{grid_of}
use Rattle.grid_model.specs.Applying.{IsMade, apply, apply_all, resource_fits, is_node}
use Rattle.grid_model.specs.declared.deltas.Delta.TheVariants as delta
use Rattle.grid_model.specs.declared.deltas.ResourceRow.{ResourceRow}
use Rattle.grid_model.proofs.RowOrders.{resource_cmp_total}
use Rattle.grid_access.proofs.Made.{made-after}
use Rattle.grid_tree.specs.Steps.{lies_below}
use Rattle.grid_tree.specs.declared.siblings.Child.{Child}
use Rattle.tables_laws.proofs.Counting.{count, count-replaced}
use Rattle.tables_laws.proofs.Numbered.{same_number, equal_number, one_number, found_in, put_in, put_other}
use Rattle.tables_laws.proofs.Rows.{IsIn, in_from_all, in_from_find, new_in_with_row, old_in_with_row}
use Rattle.tables_laws.proofs.Sound.{IsSound}
use Rattle.tables_laws.proofs.Standing.{ResourceStands}
use Rattle.plan_tree.specs.NewChildren.{numbered_anew, row_moved}
use Rattle.plan_tree.proofs.FittingResources.{fits_all, owns_still, parent_some, not_above_parent}
use Rattle.plan_tree.proofs.Reordered.{grid-reordered}
use Rattle.plan_tree.proofs.ResourcePlans.{with_resource, Settles, settles_then, settles_resource, resource_applied}
use Rattle.plan_tree.proofs.RootedResources.{IsRooted}

-- a child that is still to be numbered has its row
pub record HasChild (c : Cat) (parent : ℕ) (k : Child) : Type 0 where
  pub row : ResourceRow
  pub found : resource c k.id ≡ Some row
  pub place_is : row.place ≡ k.place
  pub parent_is : row.parent ≡ parent

-- The catalogue once children of a resource are numbered up to a place, and these are still to be numbered.
pub record IsNumbered (c : Cat) (parent place : ℕ) (kids : List Child) (e : Cat) : Type 0 where
  pub made : IsMade e
  pub settles : Settles c e
  pub grid : grid_of e ≡ grid_of c
  pub later : (k : Child) → IsIn kids k → resource e k.id ≡ resource c k.id
  pub still : (r : ResourceRow) → IsIn c.resources r → (r.parent ≡ parent → ⊥) → IsIn e.resources r
  pub low : (y : ResourceRow) → IsIn e.resources y → y.parent ≡ parent → (y.place < place) ⊎ ((k : Child) × IsIn kids k × (y.id ≡ k.id))
  pub counted : count (lies_below parent) e.resources ≡ count (lies_below parent) c.resources
  pub node : is_node e parent ≡ true

-- places rise from one on
abbrev pub Rises : ℕ → List Child → Type 0
Rises place [] = Unit {0}
Rises place (k ∷ kids) = (place ≤ k.place) × Rises (k.place + 1) kids

rises_from : (place : ℕ) (kids : List Child) → Rises place kids → (k : Child) → IsIn kids k → place ≤ k.place
rises_from place [] rises k here = absurd here
rises_from place (j ∷ kids) rises k (inl is) = subst (λ (x : Child). place ≤ x.place) is rises.0
rises_from place (j ∷ kids) rises k (inr here) = let more : j.place + 1 ≤ k.place = rises_from (j.place + 1) kids rises.1 k here in omega (arith, more, rises.0)

rises_less : (a b : ℕ) (kids : List Child) → a ≤ b → Rises b kids → Rises a kids
rises_less a b [] less rises = tt
rises_less a b (k ∷ kids) less rises = (omega (arith, less, rises.0), rises.1)

pub sorted_rises : (place : ℕ) (kids : List Child) → IsStrictlySortedBy (λ (a b : Child). nat_cmp a.place b.place) kids → ((k : Child) → IsIn kids k → place ≤ k.place) → Rises place kids
unfolding IsStrictlySortedBy
sorted_rises place [] sorted least = tt
sorted_rises place (k ∷ kids) sorted least = (
  least k (inl refl),
  sorted_rises (k.place + 1) kids sorted.1 (λ j here.
      let less : nat_cmp k.place j.place ≡ Less = in_from_all (λ (x : Child). nat_cmp k.place x.place ≡ Less) kids sorted.0 j here in
      let low : k.place < j.place = ranked k.place j.place Less (sym less) in
      omega (arith, low)),
)

module _ (c : Cat) (parent : ℕ) (some : parent ≡ 0 → ⊥) where
  -- ---- one child

  module _ (place : ℕ) (k : Child) (kids : List Child) (e : Cat) (n : IsNumbered c parent place (k ∷ kids) e) (rises : Rises place (k ∷ kids)) (has : (j : Child) → IsIn (k ∷ kids) j → HasChild c parent j) where
    s : IsSound e
    s = n.settles.sound

    rooted : IsRooted e.resources
    rooted = n.settles.rooted

    abbrev its : HasChild c parent k
    its = has k (inl refl)

    abbrev old : ResourceRow
    old = its.row

    abbrev new : ResourceRow
    new = record old { place = place }

    row_in : (j : Child) (here : IsIn (k ∷ kids) j) → IsIn e.resources (has j here).row × ((has j here).row.id ≡ j.id)
    row_in j here =
        let found = in_from_find (λ (x : ResourceRow). x.id == j.id) e.resources (has j here).row (n.later j here ∙ (has j here).found) in
        (found.0, eqb-true (has j here).row.id j.id found.1)

    there : IsIn e.resources old
    there = (row_in k (inl refl)).0

    old_id : old.id ≡ k.id
    old_id = (row_in k (inl refl)).1

    least : place ≤ old.place
    least = omega (arith, rises.0, its.place_is)

    is_old : (y : ResourceRow) → IsIn e.resources y → y.id ≡ old.id → y ≡ old
    is_old y here is = one_number (λ (x : ResourceRow). x.id) e.resources y old s.cat.resources.ordered here there is

    -- another child stands before the place, or behind the child
    apart : (y : ResourceRow) → IsIn e.resources y → (y.id ≡ old.id → ⊥) → y.parent ≡ old.parent → (y.place < place) ⊎ (old.place < y.place)
    apart y here other parents = elim (n.low y here (parents ∙ its.parent_is)) [
      | inl before ↦ inl before
      | inr of_kid ↦ by of_kid.0 of_kid.1 of_kid.2
    ]
      where
        by : (j : Child) → IsIn (k ∷ kids) j → y.id ≡ j.id → (y.place < place) ⊎ (old.place < y.place)
        by j (inl is) same = absurd (other (same ∙ ap (λ (x : Child). x.id) (sym is) ∙ sym old_id))
        by j (inr below) same =
            let row = row_in j (inr below) in
            let y_is : y ≡ (has j (inr below)).row = one_number (λ (x : ResourceRow). x.id) e.resources y (has j (inr below)).row s.cat.resources.ordered here row.0 (same ∙ sym row.1) in
            let behind : k.place + 1 ≤ j.place = rises_from (k.place + 1) kids rises.1 j below in
            let y_place : y.place ≡ j.place = ap (λ (x : ResourceRow). x.place) y_is ∙ (has j (inr below)).place_is in
            inr (omega (arith, behind, y_place, its.place_is))

    below : old.parent ≡ 0 → ⊥
    below is = some (sym its.parent_is ∙ is)

    fits : resource_fits e new ≡ true
    fits = fits_all e new (owns_still e s rooted old there old.up old.parent place)
        (parent_some e new below (ap (is_node e) its.parent_is ∙ n.node) (not_above_parent e s rooted old there below)
        (λ o here other parents places. elim (apart o here other parents) [
          | inl before ↦ omega (arith, before, places)
          | inr behind ↦ omega (arith, behind, places, least)
        ]))

    abbrev after : Cat
    after = with_resource e new

    applied : apply e (delta.Resource new) ≡ Ok after
    applied = resource_applied e new fits

    step : Settles e after
    step = settles_resource e s rooted new (λ row found. ap (λ (x : ResourceRow). x.slot) (same_Some row old (sym found ∙ found_in (λ (x : ResourceRow). x.id) e.resources old s.cat.resources.ordered there))) fits

    other_id : (j : Child) → IsIn kids j → j.id ≡ old.id → ⊥
    other_id j here is =
        let row = row_in j (inr here) in
        let same : (has j (inr here)).row ≡ old = is_old (has j (inr here)).row row.0 (row.1 ∙ is) in
        let behind : k.place + 1 ≤ j.place = rises_from (k.place + 1) kids rises.1 j here in
        let places : j.place ≡ k.place = sym (has j (inr here)).place_is ∙ ap (λ (x : ResourceRow). x.place) same ∙ its.place_is in
        omega (arith, behind, places)

    next : IsNumbered c parent (place + 1) kids after
    next = record {
      made = made-after {T = ℕ} {E = ℕ} (Ok 0) e after (delta.Resource new) n.made applied tt;
      settles = settles_then c e after n.settles step;
      grid = grid-reordered e s old there place least apart fits ∙ n.grid;
      later = λ j here. put_other (λ (x : ResourceRow). x.id) e.resources new j.id (other_id j here) ∙ n.later j (inr here);
      still = λ r here outside.
          old_in_with_row resource_cmp e.resources new r (n.still r here outside) (λ equal.
          outside (ap (λ (x : ResourceRow). x.parent) (is_old r (n.still r here outside) (sym (same_number old.id r.id equal))) ∙ its.parent_is));
      low = λ y here parents. elim (put_in (λ (x : ResourceRow). x.id) e.resources new y s.cat.resources.ordered here) [
        | inl is ↦ inl (let places : place ≡ y.place = ap (λ (x : ResourceRow). x.place) is in omega (arith, places))
        | inr was ↦ elim (apart y was.0 was.1 (parents ∙ sym its.parent_is)) [
          | inl before ↦ inl (omega (arith, before))
          | inr behind ↦ elim (n.low y was.0 parents) [
            | inl before ↦ inl (omega (arith, before))
            | inr of_kid ↦ later_kid y was.1 of_kid.0 of_kid.1 of_kid.2
          ]
        ]
      ];
      counted =
          count-replaced resource_cmp (lies_below parent) resource_cmp_total e.resources new old s.cat.resources.ordered there (equal_number old.id old.id refl) (λ y here equal.
          ap (lies_below parent) (is_old y here (sym (same_number old.id y.id equal)))) ∙ n.counted;
      node =
          let stands : ResourceStands after new = in_from_all (ResourceStands after) after.resources step.sound.tied.resources new (new_in_with_row resource_cmp e.resources new) in
          ap (is_node after) (sym its.parent_is) ∙ sym (ap (λ b. b || is_node after old.parent) (ne_eqb old.parent 0 below)) ∙ stands.1;
    }
      where
        later_kid : (y : ResourceRow) → (y.id ≡ old.id → ⊥) → (j : Child) → IsIn (k ∷ kids) j → y.id ≡ j.id → (y.place < place + 1) ⊎ ((i : Child) × IsIn kids i × (y.id ≡ i.id))
        later_kid y other j (inl is) same = absurd (other (same ∙ ap (λ (x : Child). x.id) (sym is) ∙ sym old_id))
        later_kid y other j (inr here) same = inr (j, here, same)

  -- ---- all of them

  -- the catalogue behind the changes
  pub numbered_all : (place : ℕ) (kids : List Child) (e : Cat) → IsNumbered c parent place kids e → Rises place kids → ((j : Child) → IsIn kids j → HasChild c parent j)
      → (d : Cat) × (apply_all e (numbered_anew c place kids) ≡ Ok d) × IsNumbered c parent (place + length kids) [] d
  numbered_all place [] e n rises has =
      let none : place ≡ place + 0 = omega arith in
      (e, refl, subst (λ p. IsNumbered c parent p [] e) none n)
  numbered_all place (k ∷ kids) e n rises has =
      let more = numbered_all (place + 1) kids (after place k kids e n rises has) (next place k kids e n rises has)
      (rises_less (place + 1) (k.place + 1) kids (omega (arith, rises.0)) rises.1) (λ j here. has j (inr here)) in
      let counted : (place + 1) + length kids ≡ place + suc (length kids) = omega arith in (
        more.0,
        ap (λ (o : Option ResourceRow). apply_all e (row_moved place o ++ numbered_anew c (place + 1) kids)) (has k (inl refl)).found
            ∙ ap (λ r. elim r [ Ok x ↦ apply_all x (numbered_anew c (place + 1) kids) | Err cause ↦ Err cause ]) (applied place k kids e n rises has)
            ∙ more.1,
        subst (λ p. IsNumbered c parent p [] more.0) counted more.2,
      )
