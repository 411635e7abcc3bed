use Rattle.std.proofs.Common.{◌≡◌}
use Rattle.grid_outside.specs.Device.{EachMember}
use Rattle.grid_mem.specs.MemStore.{store_of}
use Rattle.run_cases.proofs.devices.stores_with.Given as goal

abbrev pub invariant-loop-files : goal.invariant-loop-files
invariant-loop-files l = EachMember (λ k store. (store_of store).last ≡ 0) l.stores.items
