use Rattle.std.proofs.Common.{ℕ, ◌<◌, subst}
use Rattle.grid_mem.specs.MemStore.{store_of}
use Rattle.grid_mem.proofs.Outcomes.{gone_of}
use Rattle.grid_mem.proofs.mem_store.MemStorePlugin.remove.Goals as goal

pub returns-clause-gone : goal.returns-clause-gone
unfolding store_of
returns-clause-gone c tells =
    gone_of (store_of c.args.self.now) (store_of c.take.new.self) c.args.name c.in_ok-take.ensures.done
    (λ t image late left. c.in_ok-take.ensures.sure t image (subst (λ (m : ℕ). m < t) c.take.ensures.acts.last late) left)
