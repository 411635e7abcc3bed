use Rattle.std.proofs.Common.{◌≡◌, drop}
use Rattle.grid_access.specs.RowLevels.{levels_by_rows}
use Rattle.grid_model.specs.Levels.{greater_level, greatest}
use Rattle.grid_access.proofs.scan.greatest_given.Given as goal

-- what was found so far and what the other entries give come to what all give
abbrev pub invariant-loop-row : goal.invariant-loop-row
invariant-loop-row l = greater_level l.found (greatest (levels_by_rows l.tables l.user (drop l.row-index l.row-items))) ≡ greatest (levels_by_rows l.tables l.user l.row-items)
