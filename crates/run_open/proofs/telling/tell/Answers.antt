use Rattle.std.proofs.Common.{arith}
use Rattle.grid_outside.specs.Sink.{AddsPart}
use Rattle.grid_outside.proofs.Spans.{acted, stays}
use Rattle.run_open.proofs.Parts.{adds-none}
use Rattle.run_open.proofs.telling.tell.Goals as goal

pub returns-then-is_empty-clause-told : goal.returns-then-is_empty-clause-told
returns-then-is_empty-clause-told g c = stays c.args.moments.now c.args.moments.now (AddsPart c.args.text.now) (g.K.Sink.sink c.args.sink.now) c.requires.sink_last (omega arith) (adds-none c.args.text.now)

pub returns-clause-told : goal.returns-clause-told
returns-clause-told g c =
    acted c.args.moments.now c.next.new.self c.next.result (AddsPart c.args.text.now) (g.K.Sink.sink c.args.sink.now) (g.K.Sink.sink c.put.new.self) c.requires.sink_last c.next.ensures.next (omega arith) c.put.ensures.cause.later c.put.ensures.acts
