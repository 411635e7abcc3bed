-- The names from a root down to a resource as one line (iRODS documentation, composable resources).
use Rattle.std.specs.Prelude.{ℕ, zero, suc, ◌∷◌, ◌++◌, Some, None}
use Rattle.grid_model.specs.Names.{Text}
use Rattle.grid_model.specs.Rows.{Cat, resource}
use Rattle.grid_model.specs.RowGrids.{resource_name}
use Rattle.grid_tree.specs.Reading.{parent_by}

-- the line of a resource with the names of at most so many above it in front
abbrev pub line_up : ℕ → Cat → ℕ → Text → Text
line_up zero c id line = line
line_up (suc steps) c id line = elim (parent_by (resource c id)) [ None ↦ line | Some parent ↦ line_up steps c parent (resource_name c parent ++ 0x3B ∷ line) ]
