use Rattle.std.proofs.lemmas.Result.{err_from_is_err_and}
use Rattle.row_codec.specs.Reading.{many_at}
use Rattle.row_codec.proofs.Loop.{goes_on, ends, is_done}
use Rattle.row_codec.proofs.entry.members.Goals as goal

pub returns-in_err-member : goal.returns-in_err-member
returns-in_err-member g c =
    let p = err_from_is_err_and c.from_residual.result c.from_residual.ensures.1 in
    rw (p.1, p.2) (ends g.T.Entry.read_at c.in_err-member.field-0.0 c.loop.members.items c.args.count c.loop.counter c.loop.rest.now (many_at g.T.Entry.read_at c.args.count c.args.bytes.now) c.loop-test.true c.in_err-member.ensures c.loop.invariant)

pub loop-preserved : goal.loop-preserved
loop-preserved g c =
    rw c.in_ok-push.ensures.items (goes_on g.T.Entry.read_at c.loop.members.items c.args.count c.loop.counter c.loop.rest.now c.in_ok-member.member c.in_ok-member.behind.now (many_at g.T.Entry.read_at c.args.count c.args.bytes.now) c.loop-test.true c.in_ok-member.ensures c.loop.invariant)

pub returns : goal.returns
returns g c = rw c.from_vec.ensures (is_done g.T.Entry.read_at c.loop.members.items c.args.count c.loop.counter c.loop.rest.now (many_at g.T.Entry.read_at c.args.count c.args.bytes.now) c.loop-test.false c.loop.invariant)
