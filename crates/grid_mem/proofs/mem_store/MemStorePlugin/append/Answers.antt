use Rattle.std.proofs.Common.{refl}
use Rattle.grid_mem.specs.declared.store_deed.StoreDeed.TheVariants.{Create}
use Rattle.grid_mem.specs.MemFiles.{contents}
use Rattle.grid_mem.specs.MemStore.{store_of}
use Rattle.grid_mem.proofs.Outcomes.{appended_of}
use Rattle.grid_mem.proofs.StoreTaking.{valid_still, no_acts}
use Rattle.grid_mem.proofs.mem_store.MemStorePlugin.append.Goals as goal

pub invariant_of-self-in_default : goal.invariant_of-self-in_default
unfolding store_of
invariant_of-self-in_default c = let self = c.args.self.now in record {
  valid = valid_still self c.args.moment (Create c.args.name) (contents self.files) self.history.calls.items c.requires refl refl;
  same = self.same;
}

pub returns-in_default-clause-acts : goal.returns-in_default-clause-acts
unfolding store_of
returns-in_default-clause-acts c =
    let self = c.args.self.now in
    let a = no_acts self c.args.moment (Create c.args.name) (contents self.files) self.history.calls.items c.requires refl refl c.saturating_add-self.result in
    record { last = a.last; tells = a.tells; holds = a.holds; earlier = a.earlier; images = a.images }

pub returns-clause-appended : goal.returns-clause-appended
unfolding store_of
returns-clause-appended c tells = appended_of _ _ c.args.name c.in-Ok.copy c.args.bytes.now (c.in-Ok.ensures.items_if_clones_equal (λ x y e. e)) c.in_ok-take.ensures.fitted c.in_ok-take.ensures.done
