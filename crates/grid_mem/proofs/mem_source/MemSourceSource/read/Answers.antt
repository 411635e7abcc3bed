use Rattle.std.proofs.Common.{◌≡◌, length, take, drop, min, arith}
use Rattle.std.proofs.lemmas.Grind.{common_steps}
use Rattle.grid_mem.proofs.Giving.{takes_front, at_end_of}
use Rattle.grid_mem.proofs.mem_source.MemSourceSource.read.Goals as goal

pub returns-clause-takes : goal.returns-clause-takes
returns-clause-takes c tells =
    let size : length c.copy_from_slice.new.self ≡ c.min-count.result = grind (arith, common_steps) in
    let count : c.min-count.result ≡ min (length (drop c.args.self.now.taken c.args.self.now.bytes.items)) (length c.args.buf.now) = grind (arith, common_steps) in
    let front : c.copy_from_slice.new.self ≡ take c.min-count.result (drop c.args.self.now.taken c.args.self.now.bytes.items) = grind (arith, common_steps) in
    takes_front c.args.self.now.bytes.items c.args.self.now.taken c.min-count.result c.copy_from_slice.new.self (drop c.min-count.result c.args.buf.now) size front
    (at_end_of (drop c.args.self.now.taken c.args.self.now.bytes.items) c.args.buf.now c.copy_from_slice.new.self c.min-count.result count size)
