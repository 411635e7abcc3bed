-- What calls leave of the stores beside main: they are whole at each moment.
use Rattle.std.proofs.Common.{◌≡◌, ◌⊎◌, inl, inr, ℕ, ◌<◌, ◌≤◌, List, [], slice_get, Some, Result, Ok, IsTrue, sym, ◌∙◌, subst, arith}
use Rattle.std.specs.Prelude.{⊤, All}
use Rattle.std.proofs.lemmas.Bool.{cases_lt}
use Rattle.std.proofs.lemmas.Option.{slice_get_within}
use Rattle.grid_outside.specs.Device.{IsSettled}
use Rattle.grid_outside.specs.Disk.{DiskState}
use Rattle.grid_outside.specs.Files.{Files, StoreState, file_at, finished}
use Rattle.grid_outside.proofs.Spans.{at_place}
use Rattle.grid_vault.proofs.Writing.{all_at}
use Rattle.grid_vault.specs.Vault.{IsAmong, WritesAmong, IsStableAt}
use Rattle.grid_model.specs.Names.{Text}
use Rattle.grid_model.specs.Rows.{Cat}
use Rattle.grid_model.specs.Whole.{leaf_slot, IsFinishedAs, IsNamed, IsWhole}
use Rattle.grid_model.specs.Digests.{HasDigest}
use Rattle.grid_model.specs.declared.deltas.ReplicaRow.{ReplicaRow}
use Rattle.grid_model.specs.declared.plans.NewFile.{NewFile}
use Rattle.grid_journal.specs.Journal.{Journal}
use Rattle.grid_journal.specs.Stands.{StandsEither, StandsFor}
use Rattle.grid_journal.proofs.StandsLemmas.{Stands-same}
use Rattle.grid_journal.specs.declared.error.JournalError.{JournalError}
use Rattle.tables_laws.proofs.Rows.{in_from_all, all_from_in}
use Rattle.grid_deed.specs.Frame.{Goes, StoresGo}
use Rattle.grid_deed.specs.Held.{IsHeld, IsCommitted}
use Rattle.grid_deed.specs.Safe.{AreWhole, KeepWhole}
use Rattle.file_laws.specs.Plans.{HasFile, old_file, new_file, Turns}
use Rattle.file_laws.proofs.Members.{in_of, no_files, among_or_not}
use Rattle.grid_deed.proofs.Keeping.{held_stands, either_of}

-- ---- one store

-- another catalogue, where the files that it asks for are there
pub turned : (made : List NewFile) (body : Text) (c d : Cat) → Turns made body c d → (slot : ℕ) (files : Files) → ((name : ℕ) → IsAmong made slot name → file_at files name ≡ finished body) → IsWhole c slot files → IsWhole d slot files
turned made body c d turns slot files there w = record {
  good = all_from_in _ d.replicas (λ r here is at. by_file r (in_from_all (λ (r : ReplicaRow). IsTrue r.good → leaf_slot d r.leaf ≡ Some slot → HasFile c made body slot r) d.replicas (turns.good slot) r here is at));
  accounted = λ name file is. turns.named slot name (w.accounted name file is);
}
  where
    by_file : (r : ReplicaRow) → HasFile c made body slot r → IsFinishedAs r.size r.digest (file_at files r.vault)
    by_file r (old_file h) =
        let its = in_from_all (λ (r : ReplicaRow). IsTrue r.good → leaf_slot c r.leaf ≡ Some slot → IsFinishedAs r.size r.digest (file_at files r.vault)) c.replicas w.good h.row (in_of c.replicas h.row h.there) h.good h.slot_is in
        let P : ℕ → Type 0 = λ v. file_at files v ≡ finished its.bytes in
        let S : ℕ → Type 0 = λ s. HasDigest s h.row.digest its.bytes in
        let D : List ℕ → Type 0 = λ x. HasDigest r.size x its.bytes in
        record { bytes = its.bytes; is = subst P h.vault_is its.is; has = subst D h.digest_is (subst S h.size_is its.has) }
    by_file r (new_file a has) = record { bytes = body; is = there r.vault a; has = has }

-- these files were written, each of which is named
pub written : (files : List NewFile) (c : Cat) (slot : ℕ) (before image : Files) → ((name : ℕ) → IsAmong files slot name → IsNamed c slot name) → WritesAmong files slot before image → IsWhole c slot before → IsWhole c slot image
written files c slot before image named step w = record {
  good = all_from_in _ c.replicas (λ r here is at.
      let its = in_from_all (λ (r : ReplicaRow). IsTrue r.good → leaf_slot c r.leaf ≡ Some slot → IsFinishedAs r.size r.digest (file_at before r.vault)) c.replicas w.good r here is at in
      record { bytes = its.bytes; is = step.stable r.vault its.bytes its.is; has = its.has });
  accounted = λ name file is. elim (among_or_not files slot name) [
    | inl a ↦ named name a
    | inr none ↦ w.accounted name file (sym (step.others name none) ∙ is)
  ];
}

-- ---- all stores

-- bytes stand for one catalogue
pub one_cat : (main : Text) (c d : Cat) → StandsFor main c → StandsFor main d → d ≡ c
one_cat main c d one other = let both : Ok d ≡ Ok c = Stands-same main [] (Ok c) (Ok d) (one []) (other []) in cc

pub one_of : (main : Text) (c e d : Cat) → StandsEither c e main → StandsFor main d → (d ≡ c) ⊎ (d ≡ e)
one_of main c e d (inl s) other = inl (one_cat main c d s other)
one_of main c e d (inr s) other = inr (one_cat main e d s other)

module _ {B : Type 0} (state : B → StoreState) where
  pub whole_of : (t : ℕ) (c d : Cat) (stores : List B) → d ≡ c → AreWhole state t c stores → AreWhole state t d stores
  whole_of t c d stores same w = let P : Cat → Type 0 = λ x. AreWhole state t x stores in subst P (sym same) w

  pub whole_as : (t : ℕ) (c : Cat) (old new : List B) → new ≡ old → AreWhole state t c old → AreWhole state t c new
  whole_as t c old new same w = let P : List B → Type 0 = λ x. AreWhole state t c x in subst P (sym same) w

  -- at a moment that was drawn before
  pub whole_before : (t from : ℕ) (c : Cat) (old new : List B) → t ≤ from → StoresGo state from old new → AreWhole state t c old → AreWhole state t c new
  whole_before t from c old new le go w = record {
    rows = w.rows;
    files = λ slot store image is told left.
        let was = at_place old slot (omega (arith, slice_get_within new slot store is, go.count)) in
        let goes = go.later slot was.0 store was.1 is in
        w.files slot was.0 image was.1 (subst IsTrue goes.tells told) (goes.earlier t image le left);
  }

  -- another catalogue
  pub whole_turned : (t : ℕ) (made : List NewFile) (body : Text) (c d : Cat) (stores : List B) → Turns made body c d → ((slot : ℕ) (store : B) → slice_get stores slot ≡ Some store → (state store).last < t) → All (IsStableAt state stores body) made
      → AreWhole state t c stores → AreWhole state t d stores
  whole_turned t made body c d stores turns past stable w = record {
    rows = turns.rows w.rows;
    files = λ slot store image is told left. turned made body c d turns slot image (λ name a. its_file slot store is told name a image left) (w.files slot store image is told left);
  }
    where
      its_file : (slot : ℕ) (store : B) → slice_get stores slot ≡ Some store → IsTrue (state store).tells → (name : ℕ) → IsAmong made slot name → (image : Files) → (state store).left t image → file_at image name ≡ finished body
      its_file slot store is told name a image left =
          let S : ℕ → Type 0 = λ s. slice_get stores s ≡ Some store in
          let N : ℕ → Type 0 = λ n. file_at image n ≡ finished body in
          let it : IsStableAt state stores body a.file = all_at (IsStableAt state stores body) made a.place a.file stable a.is in
          subst N a.name_is ((it store (subst S (sym a.slot_is) is) told).left t image (past slot store is) left)

  -- one without new files
  pub whole_turned_none : (t : ℕ) (c d : Cat) (stores : List B) → Turns [] [] c d → AreWhole state t c stores → AreWhole state t d stores
  whole_turned_none t c d stores turns w = record {
    rows = turns.rows w.rows;
    files = λ slot store image is told left. turned [] [] c d turns slot image (λ name a. absurd (no_files slot name a)) (w.files slot store image is told left);
  }

  -- ---- what is kept at each moment

  -- one commit, of changes after which all is whole
  pub keep_commit : (from : ℕ) (kept after : Cat) (old new : Journal) (main_old main_new : DiskState) (result : Result ⊤ JournalError) (stores_old stores_new : List B) → stores_new ≡ stores_old → IsCommitted kept after from old main_old main_new result new
      → ((t : ℕ) → from < t → AreWhole state t kept stores_old → AreWhole state t after stores_old) → KeepWhole state from kept main_old main_new stores_old stores_new
  keep_commit from kept after old new main_old main_new result stores_old stores_new same committed step told settled whole t image d late left stands =
      whole_as t d stores_old stores_new same (elim (one_of image kept after d (either_of kept after result image (committed.leaves told settled t image late left)) stands) [
        | inl is ↦ whole_of t kept d stores_old is (whole t late)
        | inr is ↦ whole_of t after d stores_old is (step t late (whole t late))
      ])

  -- what was whole at each moment before stays so
  pub keep_more : (from to : ℕ) (c mid : Cat) (s : Journal) (main_old main_mid main_new : DiskState) (old stores_mid new : List B) → from ≤ to → main_mid.tells ≡ main_old.tells → (IsTrue main_old.tells → IsSettled main_old → IsSettled main_mid)
      → IsHeld mid main_mid s → main_mid.last ≤ to → Goes to main_mid main_new → StoresGo state to stores_mid new
      → KeepWhole state from c main_old main_mid old stores_mid → KeepWhole state to mid main_mid main_new stores_mid new → KeepWhole state from c main_old main_new old new
  keep_more from to c mid s main_old main_mid main_new old stores_mid new le tells settles held last goes go first then told settled whole t image d late left stands = elim (cases_lt to t) [
    | inl now ↦ then mid_told (settles told settled) (λ u after. first told settled whole u main_mid.holds mid (omega (arith, after, le)) (main_mid.now mid_told u (omega (arith, after, last))) (held_stands mid main_mid s held mid_told)) t image d now left stands
    | inr before ↦ whole_before t to d stores_mid new before go (first told settled whole t image d late (goes.earlier t image before left) stands)
  ]
    where
      mid_told : IsTrue main_mid.tells
      mid_told = subst IsTrue (sym tells) told
