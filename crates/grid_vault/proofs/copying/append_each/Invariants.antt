use Rattle.std.proofs.Common.{◌+◌, ◌*◌, ◌≤◌, ◌++◌, List, ℕ, All, length}
use Rattle.grid_outside.specs.Device.{Span}
use Rattle.grid_model.specs.DataLines.{parts}
use Rattle.grid_vault.specs.Vault.{WritesAmong, HasSlot}
use Rattle.grid_vault.specs.Copying.{IsBegunAt}
use Rattle.grid_vault.proofs.CopyingOn.{IsBegun, AreSoFar}
use Rattle.grid_vault.proofs.copying.append_each.Given as goal

abbrev pub invariant-loop-file : goal.invariant-loop-file
invariant-loop-file g l = record {
  span : Span g.P.Plugin.plugin l.fn.moments l.moments (WritesAmong l.files) (HasSlot l.files) l.fn.stores.items l.stores.items;
  so_far : (front : List ℕ) → All (IsBegunAt g.P.Plugin.plugin l.fn.stores.items front) l.files → AreSoFar g.P.Plugin.plugin l.files (IsBegun front) (IsBegun (front ++ l.bytes)) l.file-index l.stores.items;
  later : l.fn.moments ≤ l.moments;
  room : l.moments ≤ l.fn.moments + l.file-index * parts (length l.bytes);
}
