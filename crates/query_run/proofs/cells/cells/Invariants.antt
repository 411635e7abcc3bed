use Rattle.std.proofs.Common.{◌≡◌, ◌++◌, map, drop, IsTrue}
use Rattle.std.specs.List.{list_all}
use Rattle.grid_model.specs.QueryRows.{cell}
use Rattle.grid_model.specs.RowGrids.{grid_of}
use Rattle.grid_model.specs.Writable.{is_word}
use Rattle.query_run.specs.Parts.{combination_of}
use Rattle.query_run.proofs.cells.cells.Given as goal

-- the texts so far and those of the other columns come to those of all
abbrev pub invariant-loop-column : goal.invariant-loop-column
invariant-loop-column l = record {
  texts : l.texts.items ++ map (cell (grid_of l.tables) (combination_of l.tables l.parts)) (drop l.column-index l.columns) ≡ map (cell (grid_of l.tables) (combination_of l.tables l.parts)) l.columns;
  words : IsTrue (list_all is_word l.texts.items);
}
