use Rattle.std.proofs.Common.{◌+◌, ◌*◌, ◌-◌, ◌≤◌, length}
use Rattle.grid_model.specs.DataLines.{parts}
use Rattle.grid_vault.specs.Copying.{CopiesOnly}
use Rattle.grid_vault.proofs.Copied.{CopySoFar}
use Rattle.grid_vault.proofs.copying.copy_from.Given as goal

abbrev pub invariant-parts : goal.invariant-parts
invariant-parts g l = record {
  span : CopiesOnly g.P.Plugin.plugin l.fn.moments l.moments l.from.slot l.files l.fn.stores.items l.stores.items;
  so_far : CopySoFar g.P.Plugin.plugin l.from l.files l.fn.stores.items l.stores.items l.reader;
  later : l.fn.moments ≤ l.moments;
  room : l.moments + length l.files + length l.files * parts (l.from.size - l.reader.read) ≤ l.fn.moments + length l.files * (2 + parts l.from.size);
}

abbrev pub decreases-parts : goal.decreases-parts
decreases-parts g l = l.from.size - l.reader.read
