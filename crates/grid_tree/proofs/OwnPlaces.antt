-- No two children of one resource have one place.
use Rattle.std.proofs.Common.{◌≡◌, ◌==◌, ℕ, Bool, true, false, List, [], ◌∷◌, Ok, inl, inr, refl, sym, ap, ◌∙◌, subst}
use Rattle.std.proofs.lemmas.Bool.Decides.{eqb_tells}
use Rattle.grid_model.specs.Rows.{Cat, empty_cat, with_row, resource_cmp}
use Rattle.grid_model.specs.Applying.{IsMade, apply, apply_all, where_fits, resource_fits}
use Rattle.grid_model.specs.declared.deltas.Delta.{Delta}
use Rattle.grid_model.specs.declared.deltas.Delta.TheVariants as delta
use Rattle.grid_model.specs.declared.deltas.ResourceRow.{ResourceRow}
use Rattle.tables_laws.proofs.Rows.{IsIn, in_from_with_row}
use Rattle.tables_laws.proofs.Ranks.{places_apart}
use Rattle.tables_laws.proofs.Sound.{fits_so, ok-same, after_first}

-- siblings with one place are one
abbrev pub HasOwnPlaces : List ResourceRow → Type 0
HasOwnPlaces rows = (x y : ResourceRow) → IsIn rows x → IsIn rows y → (y.parent == 0) ≡ false → x.parent ≡ y.parent → x.place ≡ y.place → x.id ≡ y.id

module _ (c : Cat) (r : ResourceRow) (fits : resource_fits c r ≡ true) where
  -- another one with its parent and place has its id
  its_place : (x : ResourceRow) → IsIn c.resources x → (r.parent == 0) ≡ false → x.parent ≡ r.parent → x.place ≡ r.place → x.id ≡ r.id
  its_place x here below parents places = elim (eqb_tells x.id r.id) [
    | inl is ↦ is.1
    | inr other ↦ absurd (places_apart c r fits x here other.1 below parents places)
  ]

  places-with_resource : HasOwnPlaces c.resources → HasOwnPlaces (with_row resource_cmp c.resources r)
  places-with_resource own x y here there below parents places = elim (in_from_with_row resource_cmp c.resources r x here) [
    | inl x_is ↦ elim (in_from_with_row resource_cmp c.resources r y there) [
      | inl y_is ↦ ap (λ (z : ResourceRow). z.id) (sym x_is ∙ y_is)
      | inr y_was ↦
          let parent_is : y.parent ≡ r.parent = sym parents ∙ ap (λ (z : ResourceRow). z.parent) (sym x_is) in
          ap (λ (z : ResourceRow). z.id) (sym x_is) ∙ sym (its_place y y_was (ap (λ n. n == 0) (sym parent_is) ∙ below) parent_is (sym places ∙ ap (λ (z : ResourceRow). z.place) (sym x_is)))
    ]
    | inr x_was ↦ elim (in_from_with_row resource_cmp c.resources r y there) [
      | inl y_is ↦
          its_place x x_was (ap (λ (z : ResourceRow). z.parent == 0) y_is ∙ below) (parents ∙ ap (λ (z : ResourceRow). z.parent) (sym y_is)) (places ∙ ap (λ (z : ResourceRow). z.place) (sym y_is))
          ∙ ap (λ (z : ResourceRow). z.id) y_is
      | inr y_was ↦ own x y x_was y_was below parents places
    ]
  ]

-- the other changes leave the resources
then_placed : (b : Bool) (cause : ℕ) (next d : Cat) → (b ≡ true → HasOwnPlaces next.resources) → where_fits b cause next ≡ Ok d → HasOwnPlaces d.resources
then_placed b cause next d own e = let so = fits_so b cause next d e in subst (λ (x : Cat). HasOwnPlaces x.resources) so.1 (own so.0)

places-apply : (c d : Cat) (change : Delta) → HasOwnPlaces c.resources → apply c change ≡ Ok d → HasOwnPlaces d.resources
places-apply c d (delta.Zone name stores) own e = then_placed _ 1 _ d (λ fits. own) e
places-apply c d (delta.User r) own e = then_placed _ 2 _ d (λ fits. own) e
places-apply c d (delta.Member m) own e = then_placed _ 3 _ d (λ fits. own) e
places-apply c d (delta.NoMember m) own e = then_placed _ 4 _ d (λ fits. own) e
places-apply c d (delta.Collection r) own e = then_placed _ 5 _ d (λ fits. own) e
places-apply c d (delta.NoCollection id) own e = then_placed _ 6 _ d (λ fits. own) e
places-apply c d (delta.Object r) own e = then_placed _ 7 _ d (λ fits. own) e
places-apply c d (delta.NoObject id) own e = then_placed _ 8 _ d (λ fits. own) e
places-apply c d (delta.Replica r) own e = then_placed _ 9 _ d (λ fits. own) e
places-apply c d (delta.NoReplica object number) own e = then_placed _ 10 _ d (λ fits. own) e
places-apply c d (delta.Triple t) own e = then_placed _ 11 _ d (λ fits. own) e
places-apply c d (delta.NoTriple t) own e = then_placed _ 12 _ d (λ fits. own) e
places-apply c d (delta.Entry x) own e = then_placed _ 13 _ d (λ fits. own) e
places-apply c d (delta.NoEntry k id user) own e = then_placed _ 14 _ d (λ fits. own) e
places-apply c d (delta.Resource r) own e = then_placed _ 15 _ d (λ fits. places-with_resource c r fits own) e
places-apply c d (delta.Rules text) own e = subst (λ (x : Cat). HasOwnPlaces x.resources) (ok-same _ d (apply c (delta.Rules text)) refl e) own
places-apply c d (delta.Orphan r) own e = then_placed _ 17 _ d (λ fits. own) e
places-apply c d (delta.NoOrphan vault) own e = then_placed _ 18 _ d (λ fits. own) e
places-apply c d (delta.Numbers n) own e = then_placed _ 19 _ d (λ fits. own) e
places-apply c d (delta.Pending p) own e = then_placed _ 20 _ d (λ fits. own) e
places-apply c d delta.NoPending own e = then_placed _ 21 _ d (λ fits. own) e

places-apply_all : (changes : List Delta) (c d : Cat) → HasOwnPlaces c.resources → apply_all c changes ≡ Ok d → HasOwnPlaces d.resources
places-apply_all [] c d own e = subst (λ (x : Cat). HasOwnPlaces x.resources) (ok-same c d (apply_all c []) refl e) own
places-apply_all (change ∷ changes) c d own e =
    let step = after_first (apply c change) changes d e in
    places-apply_all changes step.0 d (places-apply c step.0 change own step.1) step.2

-- so of each catalogue that changes make
pub places-made : (c : Cat) → IsMade c → HasOwnPlaces c.resources
places-made c m = places-apply_all m.0 empty_cat c (λ x y here. absurd here) m.1
