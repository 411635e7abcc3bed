use Rattle.std.proofs.Common.{◌+◌, ◌*◌, ◌≤◌, length}
use Rattle.grid_outside.specs.Device.{Span}
use Rattle.grid_vault.specs.Vault.{WritesAmong, HasSlot}
use Rattle.grid_vault.proofs.Writing.{AreStable}
use Rattle.grid_model.specs.DataLines.{parts}
use Rattle.grid_vault.proofs.write.write_each.Given as goal

abbrev pub invariant-loop-file : goal.invariant-loop-file
invariant-loop-file g l = record {
  span : Span g.P.Plugin.plugin l.fn.moments l.moments (WritesAmong l.files) (HasSlot l.files) l.fn.stores.items l.stores.items;
  stable : AreStable g.P.Plugin.plugin l.file-index l.files l.bytes l.stores.items;
  later : l.fn.moments ≤ l.moments;
  room : l.moments ≤ l.fn.moments + l.file-index * (2 + parts (length l.bytes));
}
