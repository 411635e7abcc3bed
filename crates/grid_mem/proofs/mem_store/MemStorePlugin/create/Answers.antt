use Rattle.grid_mem.specs.MemStore.{store_of}
use Rattle.grid_mem.proofs.Outcomes.{created_of}
use Rattle.grid_mem.proofs.mem_store.MemStorePlugin.create.Goals as goal

pub returns-clause-created : goal.returns-clause-created
unfolding store_of
returns-clause-created c tells = created_of _ _ c.args.name c.in_ok-take.ensures.fitted c.in_ok-take.ensures.done
