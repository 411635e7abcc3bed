-- How a file is read part by part.
use Rattle.std.proofs.Common.{◌≡◌, ℕ, ◌+◌, ◌-◌, ◌^◌, ◌<◌, ◌≤◌, true, false, IsTrue, List, [], ◌++◌, Option, Some, None, min, length, take, drop, arith, refl, sym, subst, ap, ◌∙◌, length-append}
use Rattle.std.specs.Prelude.{MatchOption}
use Rattle.std.proofs.lemmas.List.{take_all, length-take, length-take-le}
use Rattle.sha2.specs.Hashers.{Holds256}
use Rattle.grid_outside.specs.Device.{Looks}
use Rattle.grid_outside.specs.Files.{File, Files, StoreState, file_at}
use Rattle.grid_model.specs.declared.plans.OldFile.{OldFile}
use Rattle.grid_vault.specs.Reading.{IsPartOf, ReadsOn, IsAsRecorded, Differs}
use Rattle.grid_vault.specs.Sending.{HoldsBytes, IsReadOf}
use Rattle.grid_vault.specs.Verifying.{Verifies}
use Rattle.grid_vault.specs.declared.reading.Found.{Found}
use Rattle.grid_vault.specs.declared.reading.Part.{Part}
use Rattle.grid_vault.specs.declared.reading.FileReader.{FileReader}
use Rattle.grid_vault.proofs.FileReading.{same_file}
use Rattle.grid_vault.proofs.SendingLemmas.{IsFront, front_more, take_min}

-- a look leaves each file
pub looks_file : (old new : StoreState) (name : ℕ) → Looks old new → IsTrue old.tells → file_at new.holds name ≡ file_at old.holds name
looks_file old new name looks tells = ap (λ (files : Files). file_at files name) (looks.holds tells)

-- So many whole parts were read, and more may come.
pub record ReadSoFar (store : StoreState) (recorded : OldFile) (reader : FileReader) : Type 0 where
  pub bytes : List ℕ
  pub read : reader.read ≡ length bytes
  pub hashed : Holds256 reader.hasher bytes
  pub within : length bytes ≤ recorded.size
  pub short : length bytes < 2 ^ 61
  pub front : IsTrue store.tells → (file : File) → file_at store.holds recorded.name ≡ Some file → IsFront bytes file

-- nothing was read yet
abbrev pub none_read : (store : StoreState) (recorded : OldFile) (reader : FileReader) → reader.read ≡ 0 → Holds256 reader.hasher [] → ReadSoFar store recorded reader
none_read store recorded reader read hashed = record { bytes = []; read = read; hashed = hashed; within = omega arith; short = omega arith; front = λ tells file is. (omega arith, refl) }

module _ (store : StoreState) (recorded : OldFile) (reader : FileReader) (so_far : ReadSoFar store recorded reader) (asked : StoreState) (tells_as : asked.tells ≡ store.tells) (same_at : IsTrue store.tells → file_at asked.holds recorded.name ≡ file_at store.holds recorded.name)
    (part : Part) (buf : List ℕ) (next : FileReader) (reads : ReadsOn asked recorded part buf reader next) where
  abbrev pub all_read : List ℕ
  all_read = so_far.bytes ++ take reads.given buf

  pub read_is : next.read ≡ length all_read
  read_is = omega (arith, reads.read, so_far.read, length-append so_far.bytes (take reads.given buf), length-take-le reads.given buf reads.within)

  pub part_of : IsTrue store.tells → IsPartOf recorded reader.read reads.given part.is_last asked.holds buf
  part_of tells = reads.of_file (subst IsTrue (sym tells_as) tells)

  pub front_of : IsTrue store.tells → (file : File) → file_at store.holds recorded.name ≡ Some file → IsFront all_read file
  front_of tells file is =
      let piece = part_of tells in
      let same : piece.file ≡ file = same_file asked.holds recorded.name piece.file file piece.is (same_at tells ∙ is) in
      let P : File → Type 0 = λ f. (reads.given ≤ length f.bytes - reader.read) × (take reads.given buf ≡ take reads.given (drop reader.read f.bytes)) in
      let here : P file = subst P same (piece.within, piece.part) in
      let Q : ℕ → Type 0 = λ n. (reads.given ≤ length file.bytes - n) × (take reads.given buf ≡ take reads.given (drop n file.bytes)) in
      let there : Q (length so_far.bytes) = subst Q so_far.read here in
      front_more so_far.bytes buf reads.given reads.given file (so_far.front tells file is) there.0 there.1 (omega arith) reads.within

  -- more parts may come
  abbrev pub read_more : part.is_last ≡ false → ReadSoFar store recorded next
  read_more goes =
      let whole = reads.goes_on goes in
      record {
        bytes = all_read;
        read = read_is;
        hashed = reads.hashed so_far.bytes so_far.hashed;
        within = omega (arith, read_is, whole.1);
        short = omega (arith, read_is, reads.short);
        front = front_of;
      }

  -- no part comes behind this
  pub read_of : part.is_last ≡ true → IsTrue store.tells → IsReadOf recorded all_read store.holds
  read_of last tells =
      let piece = part_of tells in
      let is : file_at store.holds recorded.name ≡ Some piece.file = sym (same_at tells) ∙ piece.is in
      let front = front_of tells piece.file is in
      let size : length all_read ≡ min (recorded.size + 1) (length piece.file.bytes) = omega (arith, piece.last last, so_far.read, so_far.within, front.0, reads.read, read_is) in
      record { file = piece.file; is = is; bytes_are = front.1 ∙ take_min (recorded.size + 1) (length all_read) piece.file.bytes size }

  pub verifies : part.is_last ≡ true → (found : Option Found) → MatchOption found (IsAsRecorded recorded all_read) (Differs recorded all_read) → Verifies store recorded found
  verifies last found says = record {
    bytes = all_read;
    one_more = omega (arith, read_is, reads.at_most);
    short = omega (arith, read_is, reads.short);
    of_file = read_of last;
    says = says;
    whole = whole_of found says;
  }
    where
      whole_of : (f : Option Found) → MatchOption f (IsAsRecorded recorded all_read) (Differs recorded all_read) → f ≡ None → IsTrue store.tells → HoldsBytes recorded.name all_read store.holds
      whole_of (Some x) as_recorded none tells = absurd cc
      whole_of None as_recorded none tells =
          let read = read_of last tells in
          let few : length read.file.bytes ≤ recorded.size + 1 = omega (arith, as_recorded.size, ap length read.bytes_are, length-take (recorded.size + 1) read.file.bytes) in
          record { file = read.file; is = read.is; bytes_are = sym (read.bytes_are ∙ take_all (recorded.size + 1) read.file.bytes few) }
