use Rattle.std.proofs.Common.{arith}
use Rattle.grid_vault.proofs.FileReading.{looks_same, looks_on}
use Rattle.grid_vault.proofs.ReadingOn.{none_read, looks_file, read_is, read_more, verifies}
use Rattle.grid_vault.proofs.verifying.verify_from.Goals as goal

pub parts-init : goal.parts-init
parts-init g c = record {
  so_far = none_read _ _ _ c.new-reader.ensures.read c.new-reader.ensures.hashed;
  looks = looks_same _;
  later = omega arith;
}

pub returns-then-part-clause-verified : goal.returns-then-part-clause-verified
returns-then-part-clause-verified g c =
    let so_far = c.parts.invariant.so_far in
    let looks = c.parts.invariant.looks in
    let reads = c.in_ok-part.ensures.reads in
    verifies _ _ _ so_far _ looks.tells (looks_file _ _ c.args.file.now.name looks) c.in_ok-part.part c.next_part.new.buf _ reads c.if-part.true _
    (c.compare.ensures _ (read_is _ _ _ so_far _ looks.tells (looks_file _ _ c.args.file.now.name looks) c.in_ok-part.part c.next_part.new.buf _ reads) (reads.hashed so_far.bytes so_far.hashed))

pub parts-preserved : goal.parts-preserved
parts-preserved g c =
    let so_far = c.parts.invariant.so_far in
    let looks = c.parts.invariant.looks in
    let reads = c.in_ok-part.ensures.reads in
    record {
      so_far = read_more _ _ _ so_far _ looks.tells (looks_file _ _ c.args.file.now.name looks) c.in_ok-part.part c.next_part.new.buf _ reads c.if-part.false;
      looks = looks_on _ _ _ looks c.in_ok-part.ensures.looks;
      later = omega (arith, c.parts.invariant.later, c.in_ok-part.ensures.cause.later);
    }
