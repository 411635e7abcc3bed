use Rattle.std.proofs.Common.{◌≡◌, ◌<◌, length, Some, slice_get, refl, arith}
use Rattle.std.proofs.lemmas.Option.{slice_get_read}
use Rattle.grid_journal.proofs.HeadLemmas.{wrong_byte, missing_byte, odd_root, missing_root}
use Rattle.grid_journal.proofs.head.fault_in.Goals as goal

pub returns-then-found-byte : goal.returns-then-found-byte
returns-then-found-byte c =
    let lt : c.loop-at.at < length c.args.head.now = omega (arith, c.in-Some.ensures.lookup) in
    let is : slice_get c.args.head.now c.loop-at.at ≡ Some c.in-Some.found.now = slice_get_read c.args.head.now (length c.args.head.now) c.loop-at.at c.in-Some.found.now refl lt c.in-Some.ensures.lookup.1 in
    wrong_byte c.args.head.now c.loop-at.at c.loop-at-test.true c.loop-at.invariant c.in-Some.found.now _ is c.if-found-byte.true

pub returns-in-None : goal.returns-in-None
returns-in-None c = missing_byte c.args.head.now c.loop-at.at c.loop-at-test.true c.loop-at.invariant (omega (arith, c.in-None.ensures.lookup))

pub returns-else-root-eq0 : goal.returns-else-root-eq0
returns-else-root-eq0 c =
    let lt : 8 < length c.args.head.now = omega (arith, c.in-Some-get.ensures.lookup) in
    let is : slice_get c.args.head.now 8 ≡ Some c.in-Some-get.root.now = slice_get_read c.args.head.now (length c.args.head.now) 8 c.in-Some-get.root.now refl lt c.in-Some-get.ensures.lookup.1 in
    odd_root c.args.head.now c.loop-at.at c.loop-at-test.false c.loop-at.auto.at-end c.loop-at.invariant c.in-Some-get.root.now is c.if-root-eq0.false

pub returns-in-None-get : goal.returns-in-None-get
returns-in-None-get c = missing_root c.args.head.now c.loop-at.at c.loop-at-test.false c.loop-at.auto.at-end c.loop-at.invariant (omega (arith, c.in-None-get.ensures.lookup))
