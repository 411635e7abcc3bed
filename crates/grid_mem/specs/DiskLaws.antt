-- What a deed of a disk does is what it may do. Proofs, which what a disk means carries with it.
use Rattle.std.proofs.Common.{◌≡◌, ℕ, ◌+◌, ◌≤◌, Bool, true, false, List, ◌++◌, length, take, drop, arith, refl, sym, ap, ◌∙◌, append_assoc}
use Rattle.std.proofs.Common.{length-append, length-drop}
use Rattle.std.proofs.lemmas.List.{take_at, length-take}
use Rattle.std.proofs.Math.Seq.{drop-append_seam, take-length}
use Rattle.grid_outside.specs.Disk.{Torn, Cut}
use Rattle.grid_mem.specs.declared.disk_deed.DiskDeed.{DiskDeed}
use Rattle.grid_mem.specs.declared.disk_deed.DiskDeed.TheVariants.{Write, Cut as CutTo, Sync}
use Rattle.grid_mem.specs.DiskCalls.{disk_kind, deed_done, deed_fits, MayDo, IsSure, disk_after}
use Rattle.grid_mem.specs.CallLaws.{Laws, le_of}

drop_at : (xs ys : List ℕ) (n : ℕ) → length xs ≡ n → drop n (xs ++ ys) ≡ ys
drop_at xs ys n e = ap (λ (k : ℕ). drop k (xs ++ ys)) (sym e) ∙ drop-append_seam xs ys

pub torn_nothing : (at n : ℕ) (bytes : List ℕ) → Torn at n bytes bytes
torn_nothing at n bytes = record { before = refl; after = refl; no_shorter = omega arith; no_longer = omega arith }

torn_all : (at : ℕ) (bytes written : List ℕ) → at ≤ length bytes → Torn at (length written) bytes (take at bytes ++ written ++ drop (at + length written) bytes)
torn_all at bytes written le =
    let front = length-take at bytes in
    let size = length-append (take at bytes ++ written) (drop (at + length written) bytes) in
    let front_size = length-append (take at bytes) written in
    let rest = length-drop (at + length written) bytes in
    record {
      before =
          ap (take at) (append_assoc (take at bytes) written (drop (at + length written) bytes))
          ∙ take_at (take at bytes) (written ++ drop (at + length written) bytes) at (omega (arith, front, le));
      after = drop_at (take at bytes ++ written) (drop (at + length written) bytes) (at + length written) (omega (arith, front, front_size, le));
      no_shorter = omega (arith, front, size, front_size, rest, le);
      no_longer = omega (arith, front, size, front_size, rest, le);
    }

cut_nothing : (n : ℕ) (bytes : List ℕ) → Cut n bytes bytes
cut_nothing n bytes = record { no_shorter = omega arith; front = take-length bytes }

cut_all : (n : ℕ) (bytes : List ℕ) → n ≤ length bytes → Cut n bytes (take n bytes)
cut_all n bytes le =
    record { no_shorter = omega (arith, length-take n bytes, le); front = ap (λ (k : ℕ). take k bytes) (omega (arith, length-take n bytes, le)) }

pub may_nothing : (deed : DiskDeed) (bytes : List ℕ) → MayDo deed bytes bytes
may_nothing (Write at written) bytes = torn_nothing at (length written.items) bytes
may_nothing (CutTo len) bytes = cut_nothing len bytes
may_nothing Sync bytes = refl

may_all : (deed : DiskDeed) (bytes : List ℕ) → deed_fits bytes deed ≡ true → MayDo deed bytes (deed_done bytes deed)
may_all (Write at written) bytes fits = torn_all at bytes written.items (le_of at (length bytes) fits)
may_all (CutTo len) bytes fits = cut_all len bytes (le_of len (length bytes) fits)
may_all Sync bytes fits = refl

disk_sure : (deed : DiskDeed) (done : Bool) (bytes : List ℕ) → IsSure deed done bytes bytes
disk_sure Sync true bytes = refl
disk_sure Sync false bytes = tt
disk_sure (Write at written) done bytes = tt
disk_sure (CutTo len) done bytes = tt

disk_may : (deed : DiskDeed) (done : Bool) (bytes : List ℕ) → deed_fits bytes deed ≡ true → MayDo deed bytes (disk_after bytes deed done)
disk_may deed true bytes fits = may_all deed bytes fits
disk_may deed false bytes fits = may_nothing deed bytes

pub disk_laws : Laws disk_kind
disk_laws = record { may = disk_may; sure = disk_sure }
