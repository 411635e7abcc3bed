use Rattle.grid_mem.proofs.SinkLeaving.{sink_leaves}
use Rattle.grid_mem.specs.MemSink.{sink_of}
use Rattle.grid_mem.proofs.mem_sink.MemSink.leaves.Goals as goal

pub returns-clause-left : goal.returns-clause-left
returns-clause-left c t image = sink_leaves c.args.self.now t image

pub returns-clause-holds : goal.returns-clause-holds
unfolding sink_of
returns-clause-holds c = c.args.self.now.same
