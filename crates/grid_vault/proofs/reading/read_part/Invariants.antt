use Rattle.std.proofs.Common.{◌≤◌, ◌-◌, length, IsTrue}
use Rattle.grid_outside.specs.Device.{Looks}
use Rattle.grid_vault.proofs.FileReading.{PartSoFar}
use Rattle.grid_vault.proofs.reading.read_part.Given as goal

abbrev pub invariant-reads : goal.invariant-reads
invariant-reads g l = record {
  within : l.count ≤ length l.buf;
  looks : Looks (g.P.Plugin.plugin l.fn.store) (g.P.Plugin.plugin l.store);
  later : (g.P.Plugin.plugin l.fn.store).faults ≤ (g.P.Plugin.plugin l.store).faults;
  so_far : IsTrue (g.P.Plugin.plugin l.fn.store).tells → PartSoFar l.name l.at l.count (g.P.Plugin.plugin l.fn.store).holds l.buf;
}

abbrev pub decreases-reads : goal.decreases-reads
decreases-reads g l = length l.buf - l.count
