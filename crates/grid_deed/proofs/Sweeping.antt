-- Files of orphans are removed, and then their rows.
use Rattle.std.proofs.Common.{◌≡◌, ◌⊎◌, inl, inr, ℕ, ◌+◌, ◌<◌, ◌≤◌, List, [], slice_get, Some, None, IsTrue, sym, ap, ◌∙◌, subst, arith}
use Rattle.std.specs.Prelude.{All}
use Rattle.std.proofs.lemmas.Option.{slice_get_within}
use Rattle.grid_outside.specs.Disk.{DiskState}
use Rattle.grid_outside.specs.Files.{File, Files, StoreState, file_at, Removes}
use Rattle.grid_outside.proofs.Spans.{at_place, nat_cases}
use Rattle.grid_model.specs.Names.{Text}
use Rattle.grid_model.specs.Rows.{Cat}
use Rattle.grid_model.specs.Whole.{leaf_slot, IsFinishedAs, IsNamed, IsWhole}
use Rattle.grid_model.specs.declared.deltas.OrphanRow.{OrphanRow}
use Rattle.grid_model.specs.declared.deltas.ReplicaRow.{ReplicaRow}
use Rattle.grid_model.specs.declared.plans.NewFile.{NewFile}
use Rattle.grid_journal.specs.Journal.{Journal}
use Rattle.grid_journal.specs.Stands.{StandsFor}
use Rattle.grid_vault.proofs.Writing.{all_at}
use Rattle.grid_vault.specs.Vault.{IsAmong, RemovesOne, IsGoneAt}
use Rattle.tables_laws.proofs.Rows.{IsIn, in_from_all, all_from_in}
use Rattle.tables_laws.proofs.Sound.{IsSound}
use Rattle.grid_deed.specs.Held.{IsHeld}
use Rattle.grid_deed.specs.Safe.{AreWhole, KeepWhole}
use Rattle.file_laws.specs.Plans.{HasFile, old_file, new_file}
use Rattle.file_laws.specs.Removals.{Forgets}
use Rattle.grid_deed.proofs.Keeping.{held_stands}
use Rattle.file_laws.proofs.Members.{in_of, no_files, among_or_not}
use Rattle.grid_deed.proofs.Wholes.{one_cat, whole_of}

-- ---- a file is removed

-- no good replica has it
pub removed : (name : ℕ) (c : Cat) (slot : ℕ) (before image : Files) → ((r : ReplicaRow) → IsIn c.replicas r → r.vault ≡ name → ⊥) → Removes name before image → IsWhole c slot before → IsWhole c slot image
removed name c slot before image no_replica step w = record {
  good = all_from_in _ c.replicas (λ r here is at.
      let its = in_from_all (λ (r : ReplicaRow). IsTrue r.good → leaf_slot c r.leaf ≡ Some slot → IsFinishedAs r.size r.digest (file_at before r.vault)) c.replicas w.good r here is at in
      record { bytes = its.bytes; is = step.others r.vault (no_replica r here) ∙ its.is; has = its.has });
  accounted = λ other file is. elim (nat_cases other name) [
    | inl same ↦ by other file is same step.there_or_not
    | inr apart ↦ w.accounted other file (sym (step.others other apart) ∙ is)
  ];
}
  where
    by : (other : ℕ) (file : File) → file_at image other ≡ Some file → other ≡ name → (file_at image name ≡ file_at before name) ⊎ (file_at image name ≡ None) → IsNamed c slot other
    by other file is same (inl kept) = w.accounted other file (ap (file_at before) same ∙ sym kept ∙ ap (file_at image) (sym same) ∙ is)
    by other file is same (inr gone) = let none : file_at image other ≡ None = ap (file_at image) same ∙ gone in absurd cc

module _ {B : Type 0} (state : B → StoreState) where
  -- the removal of an orphan's file was asked
  pub keep_remove : (from to : ℕ) (c : Cat) (sound : IsSound c) (x : OrphanRow) → IsIn c.orphans x → (file : NewFile) → file.name ≡ x.vault → (s : Journal) (main : DiskState) (old new : List B) → IsHeld c main s → main.last ≤ from → RemovesOne state from to file old new → KeepWhole state from c main main old new
  keep_remove from to c sound x here file name_is s main old new held last removes told settled whole t image d late left stands =
      let P : Text → Type 0 = λ m. StandsFor m d in
      let standing : StandsFor main.holds d = subst P (settled t image (omega (arith, late, last)) left) stands in
      whole_of state t c d new (one_cat main.holds c d (held_stands c main s held told) standing) (record {
        rows = (whole t late).rows;
        files = λ slot store image is told left.
            let was = at_place old slot (omega (arith, slice_get_within new slot store is, removes.count)) in
            let between = removes.each slot was.0 store was.1 is in
            let told_before : IsTrue (state was.0).tells = subst IsTrue between.tells told in
            let step = between.images told_before t image late left in
            removed file.name c slot step.0 image (λ r there e. sound.vaults.apart r x there here (sym name_is ∙ sym e)) step.2 ((whole (from + 1) (omega arith)).files slot was.0 step.0 was.1 told_before step.1);
      })

  -- the rows of files that are gone are taken away
  pub whole_forgotten : (t : ℕ) (gone : List NewFile) (c d : Cat) (stores : List B) → Forgets gone c d → ((slot : ℕ) (store : B) → slice_get stores slot ≡ Some store → (state store).last < t) → All (IsGoneAt state stores) gone → AreWhole state t c stores → AreWhole state t d stores
  whole_forgotten t gone c d stores forgets past all_gone w = record {
    rows = forgets.rows w.rows;
    files = λ slot store image is told left. record {
      good = all_from_in _ d.replicas (λ r here is_good at. by_file slot image (w.files slot store image is told left) r (in_from_all (λ (r : ReplicaRow). IsTrue r.good → leaf_slot d r.leaf ≡ Some slot → HasFile c [] [] slot r) d.replicas (forgets.good slot) r here is_good at));
      accounted = λ name file there. elim (among_or_not gone slot name) [
        | inl a ↦ absurd (not_there slot store is told image left name file there a)
        | inr other ↦ forgets.named slot name other ((w.files slot store image is told left).accounted name file there)
      ];
    };
  }
    where
      by_file : (slot : ℕ) (files : Files) → IsWhole c slot files → (r : ReplicaRow) → HasFile c [] [] slot r → IsFinishedAs r.size r.digest (file_at files r.vault)
      by_file slot files w r (old_file h) =
          let its = in_from_all (λ (r : ReplicaRow). IsTrue r.good → leaf_slot c r.leaf ≡ Some slot → IsFinishedAs r.size r.digest (file_at files r.vault)) c.replicas w.good h.row (in_of c.replicas h.row h.there) h.good h.slot_is in
          let P : ℕ → Type 0 = λ v. IsFinishedAs h.row.size h.row.digest (file_at files v) in
          let S : ℕ → Type 0 = λ n. IsFinishedAs n h.row.digest (file_at files r.vault) in
          let D : List ℕ → Type 0 = λ x. IsFinishedAs r.size x (file_at files r.vault) in
          subst D h.digest_is (subst S h.size_is (subst P h.vault_is its))
      by_file slot files w r (new_file a has) = absurd (no_files slot r.vault a)

      not_there : (slot : ℕ) (store : B) → slice_get stores slot ≡ Some store → IsTrue (state store).tells → (image : Files) → (state store).left t image → (name : ℕ) (file : File) → file_at image name ≡ Some file → IsAmong gone slot name → ⊥
      not_there slot store is told image left name file there a =
          let S : ℕ → Type 0 = λ s. slice_get stores s ≡ Some store in
          let it : IsGoneAt state stores a.file = all_at (IsGoneAt state stores) gone a.place a.file all_gone a.is in
          let none : file_at image name ≡ None = ap (file_at image) (sym a.name_is) ∙ (it store (subst S (sym a.slot_is) is) told).left t image (past slot store is) left in
          cc
