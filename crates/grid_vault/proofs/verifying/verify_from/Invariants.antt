use Rattle.std.proofs.Common.{◌≤◌, ◌-◌}
use Rattle.grid_outside.specs.Device.{Looks}
use Rattle.grid_vault.proofs.ReadingOn.{ReadSoFar}
use Rattle.grid_vault.proofs.verifying.verify_from.Given as goal

abbrev pub invariant-parts : goal.invariant-parts
invariant-parts g l = record {
  so_far : ReadSoFar (g.P.Plugin.plugin l.fn.store) l.file l.reader;
  looks : Looks (g.P.Plugin.plugin l.fn.store) (g.P.Plugin.plugin l.store);
  later : (g.P.Plugin.plugin l.fn.store).faults ≤ (g.P.Plugin.plugin l.store).faults;
}

abbrev pub decreases-parts : goal.decreases-parts
decreases-parts g l = l.file.size - l.reader.read
