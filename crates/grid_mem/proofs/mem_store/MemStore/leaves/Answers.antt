use Rattle.grid_mem.proofs.StoreLeaving.{store_leaves}
use Rattle.grid_mem.specs.MemStore.{store_of}
use Rattle.grid_mem.proofs.mem_store.MemStore.leaves.Goals as goal

pub returns-clause-left : goal.returns-clause-left
returns-clause-left c t image = store_leaves c.args.self.now t image

pub returns-clause-holds : goal.returns-clause-holds
unfolding store_of
returns-clause-holds c = c.args.self.now.same
