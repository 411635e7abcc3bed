use Rattle.std.proofs.Common.{◌∙◌, sym, arith}
use Rattle.row_codec.proofs.Spelled.{SpellsDeltas-unique}
use Rattle.row_codec.proofs.Refusing.{stop_within, stop_refuses, taken, some_left, all_read}
use Rattle.row_codec.proofs.decoding.decode.Goals as goal

pub loop-rest-smaller : goal.loop-rest-smaller
loop-rest-smaller c = (taken c.args.bytes.now c.loop-rest.rest.now c.loop-rest.deltas.items c.in-Ok.delta c.in-Ok.behind.now (λ i. omega (arith, c.type_inv.bytes i)) c.loop-rest.invariant.0 c.loop-rest.invariant.1 c.in-Ok.ensures).2

pub loop-rest-preserved : goal.loop-rest-preserved
loop-rest-preserved c =
    let t = taken c.args.bytes.now c.loop-rest.rest.now c.loop-rest.deltas.items c.in-Ok.delta c.in-Ok.behind.now (λ i. omega (arith, c.type_inv.bytes i)) c.loop-rest.invariant.0 c.loop-rest.invariant.1 c.in-Ok.ensures in
    rw c.in_ok-push-in-Ok.ensures.items (t.0, t.1)

pub refusal-requires : goal.refusal-requires
refusal-requires c = stop_within c.args.bytes.now c.loop-rest.rest.now c.loop-rest.deltas.items c.in-Err.stop (λ i. omega (arith, c.type_inv.bytes i)) c.loop-rest.invariant.1 c.in-Err.ensures

pub returns-in-Err-clause-refused : goal.returns-in-Err-clause-refused
returns-in-Err-clause-refused c = λ at is.
    stop_refuses c.args.bytes.now c.loop-rest.rest.now c.loop-rest.deltas.items c.in-Err.stop (λ i. omega (arith, c.type_inv.bytes i)) c.loop-rest.invariant.0 c.loop-rest.invariant.1 (some_left c.loop-rest.rest.now c.loop-rest-test.ensures) c.in-Err.ensures at (sym c.refusal.ensures ∙ is)

pub returns-clause-only : goal.returns-clause-only
returns-clause-only c = λ others spells.
    SpellsDeltas-unique c.args.bytes.now c.loop-rest.deltas.items others (all_read c.args.bytes.now c.loop-rest.rest.now c.loop-rest.deltas.items c.loop-rest.invariant.0 c.loop-rest.invariant.1 c.loop-rest-test.ensures) spells ∙ sym c.from_vec.ensures
