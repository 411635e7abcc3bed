-- The files of replicas that were taken away are named as before: by orphans.
use Rattle.std.proofs.Common.{◌≡◌, inl, inr, ℕ, List, Some, sym, ap, ◌∙◌, subst}
use Rattle.std.specs.List.{Contains}
use Rattle.grid_model.specs.Rows.{Cat}
use Rattle.grid_model.specs.Whole.{leaf_slot, Naming, by_replica, by_orphan, Names}
use Rattle.grid_model.specs.declared.deltas.OrphanRow.{OrphanRow}
use Rattle.grid_model.specs.declared.deltas.ReplicaRow.{ReplicaRow}
use Rattle.tables_laws.proofs.Sound.{IsSound}
use Rattle.file_laws.specs.Rewriting.{StoredReplica}
use Rattle.file_laws.proofs.Members.{in_of, contains_of}
use Rattle.plan_drop.proofs.DroppedRows.{AreHeld, HaveOwnKeys, in_from_orphans, in_from_without, with_orphans, without_rows}

module _ (c : Cat) (s : IsSound c) (stored : List StoredReplica) (held : AreHeld c stored) (own : HaveOwnKeys stored) (d : Cat)
    (replicas : d.replicas ≡ without_rows c.replicas stored) (orphans : d.orphans ≡ with_orphans c.orphans stored) where
  -- each row that names a file named one before, or one did whose replica is gone
  pub names_before : ((leaf : ℕ) → leaf_slot d leaf ≡ leaf_slot c leaf) → (slot name : ℕ) (r : Naming) → Names d slot name r → (was : Naming) × Names c slot name was
  names_before slots_are slot name (by_replica r) n =
      let P : List ReplicaRow → Type 0 = λ rows. Contains rows r in
      let here = in_from_without stored c.replicas r (in_of (without_rows c.replicas stored) r (subst P replicas n.0)) in
      (by_replica r, (contains_of c.replicas r here.0, n.1, sym (slots_are r.leaf) ∙ n.2))
  names_before slots_are slot name (by_orphan o) n =
      let P : List OrphanRow → Type 0 = λ rows. Contains rows o in
      elim (in_from_orphans stored c.orphans o (in_of (with_orphans c.orphans stored) o (subst P orphans n.0))) [
        | inl was ↦ (by_orphan o, (contains_of c.orphans o was, n.1, n.2))
        | inr its ↦ (
          by_replica its.0.row,
          (contains_of c.replicas its.0.row (held its.0 its.1).0, ap (λ (x : OrphanRow). x.vault) its.2 ∙ n.1, (held its.0 its.1).1 ∙ ap (λ (x : OrphanRow). Some x.slot) its.2 ∙ ap Some n.2),
        )
      ]
