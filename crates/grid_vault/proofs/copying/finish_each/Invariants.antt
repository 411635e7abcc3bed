use Rattle.std.proofs.Common.{◌+◌, ◌≤◌, List, ℕ, All}
use Rattle.grid_outside.specs.Device.{Span}
use Rattle.grid_vault.specs.Vault.{WritesAmong, HasSlot}
use Rattle.grid_vault.specs.Copying.{IsBegunAt}
use Rattle.grid_vault.proofs.CopyingOn.{IsBegun, IsDone, AreSoFar}
use Rattle.grid_vault.proofs.copying.finish_each.Given as goal

abbrev pub invariant-loop-file : goal.invariant-loop-file
invariant-loop-file g l = record {
  span : Span g.P.Plugin.plugin l.fn.moments l.moments (WritesAmong l.files) (HasSlot l.files) l.fn.stores.items l.stores.items;
  so_far : (bytes : List ℕ) → All (IsBegunAt g.P.Plugin.plugin l.fn.stores.items bytes) l.files → AreSoFar g.P.Plugin.plugin l.files (IsBegun bytes) (IsDone bytes) l.file-index l.stores.items;
  later : l.fn.moments ≤ l.moments;
  room : l.moments ≤ l.fn.moments + l.file-index;
}
