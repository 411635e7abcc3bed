-- No two users and no two resources have one name.
use Rattle.std.proofs.Common.{◌≡◌, ◌==◌, Bool, true, false, List, [], inl, inr, refl, sym, ap, ◌∙◌}
use Rattle.std.specs.Prelude.{not, ◌&&◌, ◌||◌, nat_lt}
use Rattle.std.specs.List.{list_any}
use Rattle.std.proofs.lemmas.Bool.{and_parts, not-true}
use Rattle.std.proofs.lemmas.Bool.Decides.{eqb_tells}
use Rattle.grid_model.specs.Names.{is_name, same_text}
use Rattle.grid_model.specs.Rows.{Cat, with_row, user_cmp, resource_cmp}
use Rattle.grid_model.specs.Applying.{user_fits, resource_fits, same_kind, slot_fits, parent_fits}
use Rattle.grid_model.specs.declared.deltas.UserRow.{UserRow}
use Rattle.grid_model.specs.declared.deltas.ResourceRow.{ResourceRow}
use Rattle.grid_model.proofs.Comparing.{same_text-Decides}
use Rattle.tables_laws.proofs.Rows.{IsIn, in_from_with_row}
use Rattle.tables_laws.proofs.Forest.{none_in}

pub record HasOwnNames (users : List UserRow) (resources : List ResourceRow) : Type 0 where
  pub users_apart : (u v : UserRow) → IsIn users u → IsIn users v → u.name ≡ v.name → u.id ≡ v.id
  pub resources_apart : (r s : ResourceRow) → IsIn resources r → IsIn resources s → r.name ≡ s.name → r.id ≡ s.id

pub names-empty : HasOwnNames [] []
names-empty = record { users_apart = λ u v here there. absurd here; resources_apart = λ r s here there. absurd here }

pub names-user : (c : Cat) (r : UserRow) → user_fits c r ≡ true → HasOwnNames c.users c.resources → HasOwnNames (with_row user_cmp c.users r) c.resources
names-user c r fits own = record {
  users_apart = λ u v here there same. elim (in_from_with_row user_cmp c.users r u here) [
    | inl u_is ↦ elim (in_from_with_row user_cmp c.users r v there) [
      | inl v_is ↦ ap (λ (x : UserRow). x.id) (sym u_is ∙ v_is)
      | inr v_was ↦ absurd (free v v_was (sym same ∙ ap (λ (x : UserRow). x.name) (sym u_is)))
    ]
    | inr u_was ↦ elim (in_from_with_row user_cmp c.users r v there) [
      | inl v_is ↦ absurd (free u u_was (same ∙ ap (λ (x : UserRow). x.name) (sym v_is)))
      | inr v_was ↦ own.users_apart u v u_was v_was same
    ]
  ];
  resources_apart = own.resources_apart;
}
  where
    either : (b : Bool) → (b || true) ≡ true
    either true = refl
    either false = refl

    free : (u : UserRow) → IsIn c.users u → u.name ≡ r.name → ⊥
    free u here is =
        none_in (λ x. (x.id == r.id) || same_text x.name r.name) c.users
        (not-true _ (and_parts (is_name r.name) (not (list_any (λ x. (x.id == r.id) || same_text x.name r.name) c.users)) fits).1) u here
        (ap (λ b. (u.id == r.id) || b) ((same_text-Decides u.name r.name).1 is) ∙ either (u.id == r.id))

pub names-resource : (c : Cat) (r : ResourceRow) → resource_fits c r ≡ true → HasOwnNames c.users c.resources → HasOwnNames c.users (with_row resource_cmp c.resources r)
names-resource c r fits own = record {
  users_apart = own.users_apart;
  resources_apart = λ x y here there same. elim (in_from_with_row resource_cmp c.resources r x here) [
    | inl x_is ↦ elim (in_from_with_row resource_cmp c.resources r y there) [
      | inl y_is ↦ ap (λ (z : ResourceRow). z.id) (sym x_is ∙ y_is)
      | inr y_was ↦ ap (λ (z : ResourceRow). z.id) (sym x_is) ∙ sym (only y y_was (sym same ∙ ap (λ (z : ResourceRow). z.name) (sym x_is)))
    ]
    | inr x_was ↦ elim (in_from_with_row resource_cmp c.resources r y there) [
      | inl y_is ↦ only x x_was (same ∙ ap (λ (z : ResourceRow). z.name) (sym y_is)) ∙ ap (λ (z : ResourceRow). z.id) y_is
      | inr y_was ↦ own.resources_apart x y x_was y_was same
    ]
  ];
}
  where
    named : not (list_any (λ o. not (o.id == r.id) && same_text o.name r.name) c.resources) ≡ true
    named =
        let a = and_parts _ (parent_fits c r) fits in
        let b = and_parts _ (slot_fits c r.kind r.slot) a.0 in
        let d = and_parts _ (not (list_any (λ o. (o.id == r.id) && not (same_kind o.kind r.kind)) c.resources)) b.0 in
        (and_parts (nat_lt 0 r.id && is_name r.name) (not (list_any (λ o. not (o.id == r.id) && same_text o.name r.name) c.resources)) d.0).1

    only : (x : ResourceRow) → IsIn c.resources x → x.name ≡ r.name → x.id ≡ r.id
    only x here is = elim (eqb_tells x.id r.id) [
      | inl same ↦ same.1
      | inr differs ↦
          absurd (none_in (λ o. not (o.id == r.id) && same_text o.name r.name) c.resources (not-true _ named) x here
          (let texts : same_text x.name r.name ≡ true = (same_text-Decides x.name r.name).1 is in rw (differs.0, texts) refl))
    ]
