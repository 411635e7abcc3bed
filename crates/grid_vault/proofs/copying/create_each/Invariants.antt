use Rattle.std.proofs.Common.{◌+◌, ◌≤◌, []}
use Rattle.grid_outside.specs.Device.{Span}
use Rattle.grid_vault.specs.Vault.{WritesAmong, HasSlot}
use Rattle.grid_vault.proofs.CopyingOn.{IsBegun, IsAny, AreSoFar}
use Rattle.grid_vault.proofs.copying.create_each.Given as goal

abbrev pub invariant-loop-file : goal.invariant-loop-file
invariant-loop-file g l = record {
  span : Span g.P.Plugin.plugin l.fn.moments l.moments (WritesAmong l.files) (HasSlot l.files) l.fn.stores.items l.stores.items;
  so_far : AreSoFar g.P.Plugin.plugin l.files IsAny (IsBegun []) l.file-index l.stores.items;
  later : l.fn.moments ≤ l.moments;
  room : l.moments ≤ l.fn.moments + l.file-index;
}
