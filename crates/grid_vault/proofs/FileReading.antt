-- How the reading of a file goes on.
use Rattle.std.proofs.Common.{◌≡◌, ℕ, ◌+◌, ◌-◌, ◌≤◌, List, ◌++◌, length, take, drop, IsTrue, Some, arith, refl, sym, subst, ap, ◌∙◌}
use Rattle.std.proofs.Common.{◌⊎◌, inl, inr, take-add}
use Rattle.std.proofs.Math.Seq.{take-append-add}
use Rattle.std.proofs.lemmas.List.{length-take-le, take-append-le, drop-drop}
use Rattle.grid_outside.proofs.Spans.{some_is}
use Rattle.grid_outside.specs.Device.{DeviceState, Looks}
use Rattle.grid_outside.specs.Files.{File, Files, file_at, ReadsFile}
use Rattle.grid_vault.specs.Reading.{GivesPart}

pub looks_same : {C : Type 0} (s : DeviceState C) → Looks s s
looks_same s = record { last = refl; tells = refl; holds = λ tells. refl; left = λ t image. ((λ x. x), (λ x. x)) }

pub looks_on : {C : Type 0} (old mid new : DeviceState C) → Looks old mid → Looks mid new → Looks old new
looks_on old mid new one two = record {
  last = two.last ∙ one.last;
  tells = two.tells ∙ one.tells;
  holds = λ tells. two.holds (subst IsTrue (sym one.tells) tells) ∙ one.holds tells;
  left = λ t image. ((λ x. (one.left t image).0 ((two.left t image).0 x)), (λ x. (two.left t image).1 ((one.left t image).1 x)));
}

pub same_file : (files : Files) (name : ℕ) (a b : File) → file_at files name ≡ Some a → file_at files name ≡ Some b → a ≡ b
same_file files name a b one two = some_is a b (sym one ∙ two)

-- so many bytes of the buffer are the file's from this place on, if there is the file
abbrev pub PartSoFar : (name at count : ℕ) → Files → List ℕ → Type 0
PartSoFar name at count files buf = (file : File) → file_at files name ≡ Some file → (count ≤ length file.bytes - at) × (take count buf ≡ take count (drop at file.bytes))

-- a part of the buffer was read behind what was read before
joined : (count given : ℕ) (buf chunk tail : List ℕ) → count ≤ length buf → given ≤ length chunk → take (count + given) (take count buf ++ (chunk ++ tail)) ≡ take count buf ++ take given chunk
joined count given buf chunk tail within more =
    ap (λ (k : ℕ). take (k + given) (take count buf ++ (chunk ++ tail))) (sym (length-take-le count buf within)) ∙ take-append-add (take count buf) (chunk ++ tail) given
    ∙ ap (λ (xs : List ℕ). take count buf ++ xs) (take-append-le given chunk tail more)

module _ (name at count given : ℕ) (files : Files) (buf chunk tail : List ℕ) (within : count ≤ length buf) (more : given ≤ length chunk) (so_far : PartSoFar name at count files buf) (read : ReadsFile name (at + count) given files chunk) where
  pub part_more : PartSoFar name at (count + given) files (take count buf ++ (chunk ++ tail))
  part_more file is =
      let same : read.file ≡ file = same_file files name read.file file read.is is in
      let before = so_far file is in
      let P : File → Type 0 = λ f. (given ≤ length f.bytes - (at + count)) × (take given chunk ≡ take given (drop (at + count) f.bytes)) in
      let now : P file = subst P same (read.within, read.part) in (
        omega (arith, before.0, now.0),
        joined count given buf chunk tail within more ∙ ap (λ (xs : List ℕ). xs ++ take given chunk) before.1 ∙ ap (λ (xs : List ℕ). take count (drop at file.bytes) ++ xs) (now.1 ∙ ap (λ (xs : List ℕ). take given xs) (sym (drop-drop count at file.bytes)))
            ∙ sym (take-add count given (drop at file.bytes)),
      )

  -- and nothing is left, or there is no more room
  pub part_whole : length chunk ≡ length buf - count → (given ≡ 0) ⊎ (count + given ≡ length buf) → length (take count buf ++ (chunk ++ tail)) ≡ length buf → GivesPart name at (count + given) files (take count buf ++ (chunk ++ tail))
  part_whole size ended length_is =
      let all = part_more read.file read.is in
      record {
        file = read.file;
        is = read.is;
        short = read.short;
        count_is = elim ended [
          | inl none ↦ elim (read.at_end none) [ inl past ↦ omega (arith, all.0, past, none, within, length_is) | inr full ↦ omega (arith, all.0, full, size, none, within, length_is) ]
          | inr full ↦ omega (arith, all.0, full, length_is)
        ];
        part = all.1;
      }
