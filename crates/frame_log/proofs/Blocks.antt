-- What a block gives of a disk.
use Rattle.std.proofs.Common.{◌≡◌, ℕ, ◌+◌, ◌-◌, ◌≤◌, min, List, length, take, drop, arith, sym, ap, ◌∙◌, ◌⊎◌, inl, inr}
use Rattle.std.proofs.lemmas.List.{take-take, drop-take, drop-drop}
use Rattle.grid_outside.specs.Disk.{ReadsAt}
use Rattle.frame_log.specs.Blocks.{HasOf}
use Rattle.frame_log.specs.declared.block.BlockReader.{BlockReader}

-- a part of a list that begins as another from a place on
part : (bytes block : List ℕ) (from count skip n : ℕ) → skip + n ≤ count → take count block ≡ take count (drop from bytes) → take n (drop skip block) ≡ take n (drop (from + skip) bytes)
part bytes block from count skip n le same =
    let front : take (skip + n) block ≡ take (skip + n) (drop from bytes) =
    sym (take-take (skip + n) count block le) ∙ ap (take (skip + n)) same ∙ take-take (skip + n) count (drop from bytes) le in
    sym (drop-take skip n block) ∙ ap (drop skip) front ∙ drop-take skip n (drop from bytes) ∙ ap (take n) (drop-drop skip from bytes)

-- a copy out of a block that has all that is asked for, or all up to the end
pub copied : (bytes out : List ℕ) (reader : BlockReader) (at n : ℕ) → HasOf bytes reader → reader.from ≤ at → at - reader.from ≤ reader.count
    → (at - reader.from + length out ≤ reader.count) ⊎ ((reader.from ≡ at) × (reader.count ≡ min 65536 (length bytes - at)) × (length out ≤ 65536))
    → n ≡ min (reader.count - (at - reader.from)) (length out) → take n out ≡ take n (drop (at - reader.from) reader.block.items) → ReadsAt bytes at n out
copied bytes out reader at n has le within whole count_is is =
    let place : reader.from + (at - reader.from) ≡ at = omega arith in
    let shorter : reader.count ≤ length bytes - reader.from = has.within in
    record {
      count_is = elim whole [ inl covered ↦ omega arith | inr loaded ↦ omega arith ];
      same = is ∙ part bytes reader.block.items reader.from reader.count (at - reader.from) n (omega arith) has.same ∙ ap (λ (k : ℕ). take n (drop k bytes)) place;
    }
