use Rattle.std.proofs.Common.{◌+◌, ◌≤◌, All}
use Rattle.grid_vault.specs.Vault.{IsGoneAt}
use Rattle.grid_vault.specs.Removal.{RemovesOnly, FewerThanFaults}
use Rattle.grid_vault.proofs.Removing.{SplitSoFar}
use Rattle.grid_vault.proofs.removal.remove_each.Given as goal

abbrev pub invariant-loop-file : goal.invariant-loop-file
invariant-loop-file g l = record {
  span : RemovesOnly g.P.Plugin.plugin l.fn.moments l.moments l.files l.fn.stores.items l.stores.items;
  split : SplitSoFar l.files l.file-index l.gone.items l.left.items;
  gone : All (IsGoneAt g.P.Plugin.plugin l.stores.items) l.gone.items;
  fewer : FewerThanFaults g.P.Plugin.plugin l.left.items l.fn.stores.items l.stores.items;
  later : l.fn.moments ≤ l.moments;
  room : l.moments ≤ l.fn.moments + l.file-index;
}
