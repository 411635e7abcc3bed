-- Rows of orphans whose files are gone are taken away.
use Rattle.std.proofs.Common.{◌≡◌, inl, inr, ℕ, List, [], ◌∷◌, Some, Ok, IsTrue, refl, sym, ap, ◌∙◌, subst}
use Rattle.std.specs.Prelude.{◌==◌, not, filter}
use Rattle.std.specs.List.{AllByRecursion}
use Rattle.std.proofs.lemmas.Bool.Decides.{eqb_tells}
use Rattle.grid_model.specs.Rows.{Cat}
use Rattle.grid_model.specs.Applying.{apply, apply_all, has_orphan}
use Rattle.grid_model.specs.Whole.{leaf_slot, IsLikeObject, Naming, by_replica, by_orphan, Names}
use Rattle.grid_model.specs.declared.deltas.Delta.TheVariants as delta
use Rattle.grid_model.specs.declared.deltas.OrphanRow.{OrphanRow}
use Rattle.grid_model.specs.declared.deltas.ReplicaRow.{ReplicaRow}
use Rattle.grid_model.specs.declared.plans.NewFile.{NewFile}
use Rattle.grid_vault.specs.Vault.{IsAmong}
use Rattle.tables_laws.proofs.Rows.{IsIn, in_from_all, all_from_in, in_from_filter, filter_from_in}
use Rattle.tables_laws.proofs.Sound.{fits_so, ok-same, after_first}
use Rattle.file_laws.specs.Plans.{HasFile, old_file, new_file}
use Rattle.file_laws.specs.Removals.{Forgets, no_orphans}
use Rattle.file_laws.proofs.Members.{in_of, contains_of, no_files, among_first, among_rest, among_where}
use Rattle.file_laws.proofs.Turning.{file_as_before}

pub forgets_none : (c : Cat) → Forgets [] c c
forgets_none c = record { rows = λ good. good; good = λ slot. all_from_in _ c.replicas (λ r here good at. file_as_before [] [] c slot r here good at); named = λ slot name other n. n }

pub forgets_one : (c : Cat) (f : NewFile) → ((y : OrphanRow) → IsIn c.orphans y → y.vault ≡ f.name → y.slot ≡ f.slot) → Forgets (f ∷ []) c (record c { orphans = filter (λ o. not (o.vault == f.name)) c.orphans })
forgets_one c f slots = record {
  rows = λ good. all_from_in _ c.replicas (λ r here is. let its = in_from_all (λ (r : ReplicaRow). IsTrue r.good → IsLikeObject c r) c.replicas good r here is in record { row = its.row; there = its.there; size = its.size; digest = its.digest });
  good = λ slot. all_from_in _ c.replicas (λ r here good at. file_as_before [] [] c slot r here good at);
  named = λ slot name other n. record { row = n.row; names = still slot name other n.row n.names; only = λ x its. n.only x (back slot name x its) };
}
  where
    still : (slot name : ℕ) → (¬ IsAmong (f ∷ []) slot name) → (x : Naming) → Names c slot name x → Names (record c { orphans = filter (λ o. not (o.vault == f.name)) c.orphans }) slot name x
    still slot name other (by_replica r) n = n
    still slot name other (by_orphan o) n = elim (eqb_tells o.vault f.name) [
      | inl same ↦ absurd (other (among_first f [] slot name (sym (slots o (in_of c.orphans o n.0) same.1) ∙ n.2) (sym same.1 ∙ n.1)))
      | inr apart ↦ (contains_of _ o (filter_from_in (λ (o : OrphanRow). not (o.vault == f.name)) c.orphans o (in_of c.orphans o n.0) (ap not apart.0)), n.1, n.2)
    ]

    back : (slot name : ℕ) (x : Naming) → Names (record c { orphans = filter (λ o. not (o.vault == f.name)) c.orphans }) slot name x → Names c slot name x
    back slot name (by_replica r) n = n
    back slot name (by_orphan o) n = (contains_of c.orphans o (in_from_filter (λ (o : OrphanRow). not (o.vault == f.name)) c.orphans o (in_of _ o n.0)).0, n.1, n.2)

forgets_then : (f : NewFile) (gone : List NewFile) (c d e : Cat) → Forgets (f ∷ []) c d → Forgets gone d e → Forgets (f ∷ gone) c e
forgets_then f gone c d e one more = record {
  rows = λ good. more.rows (one.rows good);
  good = λ slot. all_from_in _ e.replicas (λ r here good at. by slot r (in_from_all (λ (r : ReplicaRow). IsTrue r.good → leaf_slot e r.leaf ≡ Some slot → HasFile d [] [] slot r) e.replicas (more.good slot) r here good at));
  named = λ slot name other n. more.named slot name (λ a. other (among_rest f gone slot name a)) (one.named slot name (λ a. other (first_of slot name a)) n);
}
  where
    first_of : (slot name : ℕ) → IsAmong (f ∷ []) slot name → IsAmong (f ∷ gone) slot name
    first_of slot name a = elim (among_where f [] slot name a) [ inl it ↦ among_first f gone slot name it.0 it.1 | inr none ↦ absurd (no_files slot name none) ]

    carried : (slot : ℕ) (h r : ReplicaRow) → h.vault ≡ r.vault → h.size ≡ r.size → h.digest ≡ r.digest → HasFile c [] [] slot h → HasFile c [] [] slot r
    carried slot h r vault size digest (old_file x) = old_file (record { row = x.row; there = x.there; good = x.good; slot_is = x.slot_is; vault_is = x.vault_is ∙ vault; size_is = x.size_is ∙ size; digest_is = x.digest_is ∙ digest })
    carried slot h r vault size digest (new_file a has) = absurd (no_files slot h.vault a)

    by : (slot : ℕ) (r : ReplicaRow) → HasFile d [] [] slot r → HasFile c [] [] slot r
    by slot r (old_file h) = carried slot h.row r h.vault_is h.size_is h.digest_is (in_from_all (λ (r : ReplicaRow). IsTrue r.good → leaf_slot d r.leaf ≡ Some slot → HasFile c [] [] slot r) d.replicas (one.good slot) h.row (in_of d.replicas h.row h.there) h.good h.slot_is)
    by slot r (new_file a has) = absurd (no_files slot r.vault a)

-- the rows of all of them
pub forgets_all : (gone : List NewFile) (c d : Cat) → AllByRecursion (λ f. (y : OrphanRow) → IsIn c.orphans y → y.vault ≡ f.name → y.slot ≡ f.slot) gone → apply_all c (no_orphans gone) ≡ Ok d → Forgets gone c d
forgets_all [] c d slots e = let P : Cat → Type 0 = λ x. Forgets [] c x in subst P (ok-same c d (apply_all c []) refl e) (forgets_none c)
forgets_all (f ∷ gone) c d slots e =
    let step = after_first (apply c (delta.NoOrphan f.name)) (no_orphans gone) d e in
    let is = (fits_so (has_orphan c f.name) 18 (record c { orphans = filter (λ o. not (o.vault == f.name)) c.orphans }) step.0 step.1).1 in
    let P : Cat → Type 0 = λ x. Forgets (f ∷ []) c x in
    let Q : Cat → Type 0 = λ x. AllByRecursion (λ g. (y : OrphanRow) → IsIn x.orphans y → y.vault ≡ g.name → y.slot ≡ g.slot) gone in
    forgets_then f gone c step.0 d (subst P is (forgets_one c f slots.0))
    (forgets_all gone step.0 d (subst Q is (all_from_in _ gone (λ g here y there. in_from_all (λ (g : NewFile). (y : OrphanRow) → IsIn c.orphans y → y.vault ≡ g.name → y.slot ≡ g.slot) gone slots.1 g here y (in_from_filter (λ (o : OrphanRow). not (o.vault == f.name)) c.orphans y there).0))) step.2)
