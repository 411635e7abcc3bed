use Rattle.std.proofs.Common.{◌-◌, length, arith}
use Rattle.grid_vault.proofs.FileReading.{looks_same, looks_on}
use Rattle.grid_vault.proofs.SendingLemmas.{starts, breaks, sent_more, ends, read_is, shown_is, on_err}
use Rattle.grid_vault.proofs.sending.send_from.Goals as goal

pub parts-init : goal.parts-init
parts-init g c = record {
  so_far = starts _ _ _ _ _ _ c.new-reader.ensures.read c.new-reader.ensures.hashed c.requires.last;
  looks = looks_same _;
  later = omega arith;
}

pub returns-in_err-parts-clause-breaks : goal.returns-in_err-parts-clause-breaks
returns-in_err-parts-clause-breaks g c =
    let so_far = c.parts.invariant.so_far in
    let reads = c.in-Ok.ensures.reads in
    let same = shown_is 32 c.in-Ok.part.count (length c.parts.buf - 32) c.parts.buf c.next_part.new.buf (omega (arith, c.parts.auto.buf, c.requires.room)) (omega (arith, reads.count, reads.within)) in
    on_err _ _ (breaks _ _ _ _ _ _ _ _ _ so_far _ c.parts.invariant.looks c.in-Ok.part c.next_part.new.buf _ reads _ _ _ same (omega (arith, c.put_part.ensures.drawn)) c.put_part.ensures.lines)

pub returns-then-part-clause-sends : goal.returns-then-part-clause-sends
returns-then-part-clause-sends g c =
    let so_far = c.parts.invariant.so_far in
    let reads = c.in-Ok.ensures.reads in
    let same = shown_is 32 c.in-Ok.part.count (length c.parts.buf - 32) c.parts.buf c.next_part.new.buf (omega (arith, c.parts.auto.buf, c.requires.room)) (omega (arith, reads.count, reads.within)) in
    ends _ _ _ _ _ _ _ _ _ so_far _ c.parts.invariant.looks c.in-Ok.part c.next_part.new.buf _ reads _ _ _ same (omega (arith, c.put_part.ensures.drawn)) c.put_part.ensures.lines c.in_ok-parts.ensures.all _ c.in_ok-parts.ensures.count c.put_part.ensures.drawn c.if-part.true _
    (c.answer_of.ensures _ (read_is _ _ _ _ _ _ _ _ _ so_far _ c.parts.invariant.looks c.in-Ok.part c.next_part.new.buf _ reads) (reads.hashed so_far.sent so_far.hashed))

pub parts-preserved : goal.parts-preserved
parts-preserved g c =
    let so_far = c.parts.invariant.so_far in
    let reads = c.in-Ok.ensures.reads in
    let same = shown_is 32 c.in-Ok.part.count (length c.parts.buf - 32) c.parts.buf c.next_part.new.buf (omega (arith, c.parts.auto.buf, c.requires.room)) (omega (arith, reads.count, reads.within)) in
    record {
      so_far = sent_more _ _ _ _ _ _ _ _ _ so_far _ c.parts.invariant.looks c.in-Ok.part c.next_part.new.buf _ reads _ _ _ same (omega (arith, c.put_part.ensures.drawn)) c.put_part.ensures.lines c.in_ok-parts.ensures.all _ c.in_ok-parts.ensures.count c.put_part.ensures.drawn c.if-part.false;
      looks = looks_on _ _ _ c.parts.invariant.looks c.in-Ok.ensures.looks;
      later = omega (arith, c.parts.invariant.later, c.in-Ok.ensures.cause.later);
    }
