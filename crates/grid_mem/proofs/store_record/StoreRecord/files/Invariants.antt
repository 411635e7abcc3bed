use Rattle.std.proofs.Common.{◌≡◌, take}
use Rattle.grid_mem.specs.Calls.{held}
use Rattle.grid_mem.specs.MemFiles.{contents}
use Rattle.grid_mem.specs.StoreCalls.{store_kind}
use Rattle.grid_mem.proofs.store_record.StoreRecord.files.Given as goal

abbrev pub invariant-loop-call : goal.invariant-loop-call
invariant-loop-call l = contents l.files ≡ held store_kind (contents l.self.start) (take l.call-index l.self.calls.items)
