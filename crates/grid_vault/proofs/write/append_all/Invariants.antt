use Rattle.std.proofs.Common.{◌+◌, ◌≤◌, length, IsTrue}
use Rattle.grid_outside.specs.Device.{Between}
use Rattle.grid_outside.specs.Files.{Writes}
use Rattle.grid_model.specs.DataLines.{parts}
use Rattle.grid_vault.proofs.Writing.{ExtendsBut}
use Rattle.grid_vault.proofs.write.append_all.Given as goal

abbrev pub invariant-loop-rest : goal.invariant-loop-rest
invariant-loop-rest g l =
    let old = g.P.Plugin.plugin l.fn.store in
    let now = g.P.Plugin.plugin l.store in
    record {
      span : Between l.fn.moments l.moments (Writes l.name) old now;
      text : IsTrue old.tells → ExtendsBut l.name l.bytes l.rest old.holds now.holds;
      later : l.fn.moments ≤ l.moments;
      room : l.moments + parts (length l.rest) ≤ l.fn.moments + parts (length l.bytes);
    }

abbrev pub decreases-loop-rest : goal.decreases-loop-rest
decreases-loop-rest g l = length l.rest
