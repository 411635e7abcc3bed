-- An object goes that has no replicas, a replica's row goes whose file is gone, and a resource is put.
use Rattle.std.proofs.Common.{◌≡◌, inl, inr, ℕ, true, List, [], ◌∷◌, Option, Some, Ok, IsTrue, sym, ap, ◌∙◌, subst, eq-eqb, eqb-true}
use Rattle.std.specs.Prelude.{◌==◌, ◌&&◌, not, filter, option_map}
use Rattle.std.specs.List.{list_any}
use Rattle.std.proofs.lemmas.Bool.{and_parts, not-true}
use Rattle.std.proofs.lemmas.Bool.Decides.{eqb_tells}
use Rattle.grid_model.specs.Names.{Text}
use Rattle.grid_model.specs.Rows.{Cat, has_object, resource, resource_cmp, with_row}
use Rattle.grid_model.specs.Applying.{apply, is_leaf, is_storage, is_replica, has_replica, may_drop_object, is_told_of, resource_fits}
use Rattle.grid_model.specs.Whole.{leaf_slot, IsLikeObject, Naming, by_replica, by_orphan, Names}
use Rattle.grid_model.specs.declared.deltas.Delta.TheVariants as delta
use Rattle.grid_model.specs.declared.deltas.ObjectRow.{ObjectRow}
use Rattle.grid_model.specs.declared.deltas.ReplicaRow.{ReplicaRow}
use Rattle.grid_model.specs.declared.deltas.ResourceRow.{ResourceRow}
use Rattle.grid_model.specs.declared.grid.ItemKind.TheVariants as kind
use Rattle.grid_model.specs.declared.plans.NewFile.{NewFile}
use Rattle.grid_vault.specs.Vault.{IsAmong}
use Rattle.tables_laws.proofs.Rows.{IsIn, in_from_all, all_from_in, in_from_any, in_from_filter, filter_from_in}
use Rattle.tables_laws.proofs.Forest.{none_in}
use Rattle.tables_laws.proofs.Numbered.{put_found, put_other, dropped_other, found_in}
use Rattle.tables_laws.proofs.Standing.{ReplicaStands}
use Rattle.tables_laws.proofs.Sound.{IsSound, fits_so}
use Rattle.file_laws.specs.Plans.{Turns}
use Rattle.file_laws.specs.Rewriting.{KeepsSlot}
use Rattle.file_laws.specs.Removals.{Forgets}
use Rattle.file_laws.proofs.Members.{in_of, contains_of, among_first}
use Rattle.file_laws.proofs.Turning.{file_as_before, turns_as, true_or_not}
use Rattle.file_laws.proofs.Fewer.{same_row}

module _ (made : List NewFile) (body : Text) (c d : Cat) where
  -- ---- an object goes

  module _ (id : ℕ) (applied : apply c (delta.NoObject id) ≡ Ok d) where
    abbrev without : Cat
    without = record c { objects = filter (λ r. not (r.id == id)) c.objects }

    dropped : (may_drop_object c id ≡ true) × (without ≡ d)
    dropped = fits_so (may_drop_object c id) 8 without d applied

    none_of : (r : ReplicaRow) → IsIn c.replicas r → r.object ≡ id → ⊥
    none_of r here is =
        none_in (λ q. q.object == id) c.replicas (not-true _ (and_parts (has_object c id) (not (list_any (λ q. q.object == id) c.replicas)) (and_parts _ (not (is_told_of c kind.Object id)) dropped.0).0).1) r here (eq-eqb r.object id is)

    still_without : (slot name : ℕ) (x : Naming) → Names c slot name x → Names without slot name x
    still_without slot name (by_replica r) n = n
    still_without slot name (by_orphan x) n = n

    back_without : (slot name : ℕ) (x : Naming) → Names without slot name x → Names c slot name x
    back_without slot name (by_replica r) n = n
    back_without slot name (by_orphan x) n = n

    pub turns_no_object : Turns made body c d
    turns_no_object = turns_as made body c without d dropped.1 (record {
      rows = λ good. all_from_in _ c.replicas (λ r here is.
          let its = in_from_all (λ (r : ReplicaRow). IsTrue r.good → IsLikeObject c r) c.replicas good r here is in
          record { row = its.row; there = dropped_other (λ (x : ObjectRow). x.id) c.objects id r.object (none_of r here) ∙ its.there; size = its.size; digest = its.digest });
      good = λ slot. all_from_in _ c.replicas (λ r here good at. file_as_before made body c slot r here good at);
      named = λ slot name n. record { row = n.row; names = still_without slot name n.row n.names; only = λ x its. n.only x (back_without slot name x its) };
    })

  -- ---- a resource is put

  module _ (s : IsSound c) (r : ResourceRow) (keeps : KeepsSlot c r) (applied : apply c (delta.Resource r) ≡ Ok d) where
    abbrev resourced : Cat
    resourced = record c { resources = with_row resource_cmp c.resources r }

    is_put : (resource_fits c r ≡ true) × (resourced ≡ d)
    is_put = fits_so (resource_fits c r) 15 resourced d applied

    abbrev slot_of : Option ResourceRow → Option ℕ
    slot_of found = option_map (λ (x : ResourceRow). x.slot) found

    -- a leaf that is there keeps its slot
    slot_still : (leaf : ℕ) → is_leaf c leaf ≡ true → leaf_slot resourced leaf ≡ leaf_slot c leaf
    slot_still leaf there = elim (eqb_tells leaf r.id) [
      | inr other ↦ ap slot_of (put_other (λ (x : ResourceRow). x.id) c.resources r leaf other.1)
      | inl same ↦
          let row = in_from_any (λ x. (x.id == leaf) && is_storage x.kind) c.resources there in
          let id_is = eqb-true row.0.id leaf (and_parts (row.0.id == leaf) (is_storage row.0.kind) row.2).0 in
          let found : resource c leaf ≡ Some row.0 = ap (λ i. resource c i) (sym id_is) ∙ found_in (λ (x : ResourceRow). x.id) c.resources row.0 s.cat.resources.ordered row.1 in
          let now : resource resourced leaf ≡ Some r = ap (λ i. resource resourced i) same.1 ∙ put_found (λ (x : ResourceRow). x.id) c.resources r in
          let slots : row.0.slot ≡ r.slot = keeps row.0 (ap (λ i. resource c i) (sym same.1) ∙ found) in
          ap slot_of now ∙ ap Some (sym slots) ∙ ap slot_of (sym found)
    ]

    of_replica : (q : ReplicaRow) → IsIn c.replicas q → leaf_slot resourced q.leaf ≡ leaf_slot c q.leaf
    of_replica q here = slot_still q.leaf (in_from_all (ReplicaStands c) c.replicas s.tied.replicas q here).1

    still_resourced : (slot name : ℕ) (x : Naming) → Names c slot name x → Names resourced slot name x
    still_resourced slot name (by_replica q) n = (n.0, n.1, of_replica q (in_of c.replicas q n.0) ∙ n.2)
    still_resourced slot name (by_orphan x) n = n

    -- and each that is named by a row was
    pub back_resourced : (slot name : ℕ) (x : Naming) → Names resourced slot name x → Names c slot name x
    back_resourced slot name (by_replica q) n = (n.0, n.1, sym (of_replica q (in_of c.replicas q n.0)) ∙ n.2)
    back_resourced slot name (by_orphan x) n = n

    pub turns_resource : Turns made body c d
    turns_resource = turns_as made body c resourced d is_put.1 (record {
      rows = λ good. all_from_in _ c.replicas (λ q here is. let its = in_from_all (λ (r : ReplicaRow). IsTrue r.good → IsLikeObject c r) c.replicas good q here is in record { row = its.row; there = its.there; size = its.size; digest = its.digest });
      good = λ slot. all_from_in _ c.replicas (λ q here good at. file_as_before made body c slot q here good (sym (of_replica q here) ∙ at));
      named = λ slot name n. record { row = n.row; names = still_resourced slot name n.row n.names; only = λ x its. n.only x (back_resourced slot name x its) };
    })

-- ---- a replica's row goes whose file is gone

abbrev dropped_row : Cat → ReplicaRow → Cat
dropped_row c r = record c { replicas = filter (λ q. not (is_replica r.object r.number q)) c.replicas }

pub forgets_replica : (c d : Cat) (s : IsSound c) (r : ReplicaRow) (slot : ℕ) → IsIn c.replicas r → leaf_slot c r.leaf ≡ Some slot → apply c (delta.NoReplica r.object r.number) ≡ Ok d → Forgets (record { slot = slot; name = r.vault } ∷ []) c d
forgets_replica c d s r slot here at applied = let P : Cat → Type 0 = λ x. Forgets (record { slot = slot; name = r.vault } ∷ []) c x in subst P (fits_so (has_replica c r.object r.number) 10 (dropped_row c r) d applied).1 (record {
  rows = λ good. all_from_in _ (dropped_row c r).replicas (λ q there is. let its = in_from_all (λ (r : ReplicaRow). IsTrue r.good → IsLikeObject c r) c.replicas good q (was q there) is in record { row = its.row; there = its.there; size = its.size; digest = its.digest });
  good = λ slot. all_from_in _ (dropped_row c r).replicas (λ q there good at. file_as_before [] [] c slot q (was q there) good at);
  named = λ slot name other n. record { row = n.row; names = still slot name other n.row n.names; only = λ x its. n.only x (back slot name x its) };
})
  where
    was : (q : ReplicaRow) → IsIn (dropped_row c r).replicas q → IsIn c.replicas q
    was q there = (in_from_filter (λ q. not (is_replica r.object r.number q)) c.replicas q there).0

    one_slot : (a b : ℕ) → leaf_slot c r.leaf ≡ Some a → leaf_slot c r.leaf ≡ Some b → a ≡ b
    one_slot a b p q = let both : Some a ≡ Some b = sym p ∙ q in cc

    still : (at_slot name : ℕ) → (¬ IsAmong (record { slot = slot; name = r.vault } ∷ []) at_slot name) → (x : Naming) → Names c at_slot name x → Names (dropped_row c r) at_slot name x
    still at_slot name other (by_orphan x) n = n
    still at_slot name other (by_replica q) n = elim (true_or_not (is_replica r.object r.number q)) [
      | inr apart ↦ (contains_of (dropped_row c r).replicas q (filter_from_in (λ q. not (is_replica r.object r.number q)) c.replicas q (in_of c.replicas q n.0) (ap not apart)), n.1, n.2)
      | inl its ↦
          let key = and_parts (q.object == r.object) (q.number == r.number) its in
          let same : q ≡ r = same_row c s q r (in_of c.replicas q n.0) here (eqb-true q.object r.object key.0, eqb-true q.number r.number key.1) in
          absurd (other (among_first (record { slot = slot; name = r.vault }) [] at_slot name (one_slot slot at_slot at (ap (λ (y : ReplicaRow). leaf_slot c y.leaf) (sym same) ∙ n.2)) (ap (λ (y : ReplicaRow). y.vault) (sym same) ∙ n.1)))
    ]

    back : (at_slot name : ℕ) (x : Naming) → Names (dropped_row c r) at_slot name x → Names c at_slot name x
    back at_slot name (by_orphan x) n = n
    back at_slot name (by_replica q) n = (contains_of c.replicas q (was q (in_of (dropped_row c r).replicas q n.0)), n.1, n.2)
