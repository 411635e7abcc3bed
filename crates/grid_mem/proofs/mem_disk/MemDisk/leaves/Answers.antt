use Rattle.grid_mem.proofs.DiskLeaving.{disk_leaves}
use Rattle.grid_mem.specs.MemDisk.{disk_of}
use Rattle.grid_mem.proofs.mem_disk.MemDisk.leaves.Goals as goal

pub returns-clause-left : goal.returns-clause-left
returns-clause-left c t image = disk_leaves c.args.self.now t image

pub returns-clause-holds : goal.returns-clause-holds
unfolding disk_of
returns-clause-holds c = c.args.self.now.same
