use Rattle.std.proofs.Common.{◌≤◌, ◌-◌}
use Rattle.grid_outside.specs.Device.{Looks}
use Rattle.grid_vault.proofs.SendingLemmas.{SentSoFar}
use Rattle.grid_vault.proofs.sending.send_from.Given as goal

abbrev pub invariant-parts : goal.invariant-parts
invariant-parts g l = record {
  so_far : SentSoFar (g.P.Plugin.plugin l.fn.store) l.fn.moments l.moments l.from l.number (g.K.Sink.sink l.fn.sink) (g.K.Sink.sink l.sink) l.reader l.parts;
  looks : Looks (g.P.Plugin.plugin l.fn.store) (g.P.Plugin.plugin l.store);
  later : (g.P.Plugin.plugin l.fn.store).faults ≤ (g.P.Plugin.plugin l.store).faults;
}

abbrev pub decreases-parts : goal.decreases-parts
decreases-parts g l = l.from.size - l.reader.read
