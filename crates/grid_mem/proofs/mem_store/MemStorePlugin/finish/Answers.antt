use Rattle.std.proofs.Common.{ℕ, ◌<◌, subst}
use Rattle.grid_mem.specs.MemStore.{store_of}
use Rattle.grid_mem.proofs.Outcomes.{finished_of}
use Rattle.grid_mem.proofs.mem_store.MemStorePlugin.finish.Goals as goal

pub returns-clause-finished : goal.returns-clause-finished
unfolding store_of
returns-clause-finished c tells =
    let r = finished_of (store_of c.args.self.now) (store_of c.take.new.self) c.args.name c.in_ok-take.ensures.fitted c.in_ok-take.ensures.done
    (λ t image late left. c.in_ok-take.ensures.sure t image (subst (λ (m : ℕ). m < t) c.take.ensures.acts.last late) left) in
    record { bytes = r.bytes; was = r.was; stable = r.stable }
