-- A file that is read, where the stores are whole by the rows in memory.
use Rattle.std.proofs.Common.{◌≡◌, ℕ, ◌+◌, ◌≤◌, Bool, true, false, slice_get, IsTrue, List, length, take, Some, refl, sym, ap, ◌∙◌, subst, arith, eqb-true}
use Rattle.std.specs.Prelude.{not, nat_le, ◌==◌, ◌&&◌}
use Rattle.std.specs.List.{Contains}
use Rattle.std.proofs.lemmas.Bool.{and_from, le-leb}
use Rattle.std.proofs.lemmas.List.{take_all}
use Rattle.sha2.specs.Sha256.{sha256}
use Rattle.grid_outside.specs.Files.{File, Files, file_at, finished}
use Rattle.grid_outside.proofs.Spans.{same_place}
use Rattle.grid_model.specs.Names.{Text, same_text}
use Rattle.grid_model.specs.Deeds.{differs}
use Rattle.grid_model.specs.Rows.{Cat}
use Rattle.grid_model.specs.Whole.{leaf_slot, HasGoodRows, IsFinishedAs, IsWhole}
use Rattle.grid_model.specs.declared.deltas.ReplicaRow.{ReplicaRow}
use Rattle.grid_model.specs.declared.plans.OldFile.{OldFile}
use Rattle.grid_model.proofs.Comparing.{same_text-Decides}
use Rattle.grid_vault.specs.Reading.{Differs, IsAsRecorded}
use Rattle.grid_vault.specs.Sending.{IsReadOf}
use Rattle.grid_vault.specs.declared.reading.Found.{Found}
use Rattle.grid_vault.proofs.FileReading.{same_file}
use Rattle.file_laws.proofs.Members.{in_of}
use Rattle.tables_laws.proofs.Rows.{in_from_all}
use Rattle.grid_headline.specs.Worlds.{World}
use Rattle.service_run.specs.Steps.{IsKnownBy}

-- The file is finished, and has the bytes that are recorded.
pub record HasRecorded (file : OldFile) (files : Files) : Type 0 where
  pub text : List ℕ
  pub is : file_at files file.name ≡ finished text
  pub as_recorded : IsAsRecorded file text

-- The file is that of a good replica of the rows, and what is recorded of it is what they say where they are good.
pub record IsNamedFile (c : Cat) (file : OldFile) : Type 0 where
  pub row : ReplicaRow
  pub there : Contains c.replicas row
  pub good : IsTrue row.good
  pub vault_is : row.vault ≡ file.name
  pub slot_is : leaf_slot c row.leaf ≡ Some file.slot
  pub like : HasGoodRows c → (row.size ≡ file.size) × (row.digest ≡ file.digest)

-- where the rows are good and the store is whole
recorded_file : (c : Cat) (file : OldFile) (files : Files) → IsNamedFile c file → HasGoodRows c → IsWhole c file.slot files → HasRecorded file files
recorded_file c file files s rows whole =
    let here = in_of c.replicas s.row s.there in
    let held = in_from_all (λ (r : ReplicaRow). IsTrue r.good → leaf_slot c r.leaf ≡ Some file.slot → IsFinishedAs r.size r.digest (file_at files r.vault)) c.replicas whole.good s.row here s.good s.slot_is in
    let of_it = s.like rows in
    record { text = held.bytes; is = ap (file_at files) (sym s.vault_is) ∙ held.is; as_recorded = record { size = held.has.size ∙ of_it.0; digest = held.has.digest ∙ of_it.1 } }

-- what was read is the text
pub read_is_recorded : (file : OldFile) (files : Files) (f : HasRecorded file files) (read : List ℕ) → IsReadOf file read files → read ≡ f.text
read_is_recorded file files f read r =
    let bytes_are : r.file.bytes ≡ f.text = ap (λ (x : File). x.bytes) (same_file files file.name r.file (record { bytes = f.text; finished = true }) r.is f.is) in
    r.bytes_are ∙ ap (take (file.size + 1)) bytes_are ∙ take_all (file.size + 1) f.text (omega (arith, f.as_recorded.size))

-- a file of a known slot
pub known_text : {B : Type 0} (w : World B) (c : Cat) (file : OldFile) → IsNamedFile c file → (b : B) → slice_get w.stores file.slot ≡ Some b → (w.plugin b).last ≤ w.moments
    → IsKnownBy w c file.slot → HasRecorded file (w.plugin b).holds × IsTrue (w.plugin b).tells
known_text w c file named b at last k =
    let same : b ≡ k.there.store = same_place w.stores file.slot k.there.store b k.there.is at in
    let T : _ → Type 0 = λ x. IsTrue (w.plugin x).tells in
    let told : IsTrue (w.plugin b).tells = subst T (sym same) k.there.tells in
    let whole = k.whole (w.moments + 1) (omega arith) in
    (recorded_file c file (w.plugin b).holds named whole.rows (whole.files file.slot b (w.plugin b).holds at told ((w.plugin b).now told (w.moments + 1) (omega (arith, last)))), told)

-- where other bytes than the recorded ones were read, the slot is none that is known
pub not_known : {B : Type 0} (w : World B) (c : Cat) (file : OldFile) → IsNamedFile c file → (b : B) → slice_get w.stores file.slot ≡ Some b → (w.plugin b).last ≤ w.moments
    → (read : List ℕ) → ¬ IsAsRecorded file read → (IsTrue (w.plugin b).tells → IsReadOf file read (w.plugin b).holds) → ¬ IsKnownBy w c file.slot
not_known w c file named b at last read other of_file k =
    let text = known_text w c file named b at last k in
    let R : List ℕ → Type 0 = λ x. IsAsRecorded file x in
    other (subst R (sym (read_is_recorded file (w.plugin b).holds text.0 read (of_file text.1))) text.0.as_recorded)

-- ---- what was found differs

both_false : (a b : Bool) → (a ≡ true → b ≡ true → ⊥) → not (a && b) ≡ true
both_false true true never = absurd (never refl refl)
both_false true false never = refl
both_false false b never = refl

differs_by : (file : OldFile) (read : Text) → ¬ IsAsRecorded file read → length read ≤ file.size + 1 → differs (length read) (sha256 read) file.size file.digest ≡ true
differs_by file read not_recorded one_more = and_from (not (length read == file.size && same_text (sha256 read) file.digest)) (nat_le (length read) (file.size + 1))
    (both_false (length read == file.size) (same_text (sha256 read) file.digest) (λ size digest. not_recorded (record { size = eqb-true (length read) file.size size; digest = (same_text-Decides (sha256 read) file.digest).0 digest })))
    (le-leb (length read) (file.size + 1) one_more)

-- from what is recorded
pub differs_so : (file : OldFile) (read : Text) (found : Found) → Differs file read found → length read ≤ file.size + 1 → differs found.len found.digest file.size file.digest ≡ true
differs_so file read found d one_more =
    let L : ℕ → Type 0 = λ k. differs k found.digest file.size file.digest ≡ true in
    let F : List ℕ → Type 0 = λ f. differs (length read) f file.size file.digest ≡ true in
    subst L (sym d.len) (subst F (sym d.digest) (differs_by file read d.not_recorded one_more))
