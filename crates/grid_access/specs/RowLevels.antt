-- What the entries of an item give a user, by ids in the place of names.
use Rattle.std.specs.Prelude.{ℕ, Bool, ◌||◌, ◌==◌, List, filter, map}
use Rattle.grid_model.specs.Grid.{everybody}
use Rattle.grid_model.specs.Names.{same_text}
use Rattle.grid_model.specs.Rows.{Cat, is_member}
use Rattle.grid_model.specs.RowGrids.{user_name}
use Rattle.grid_model.specs.declared.deltas.EntryRow.{EntryRow}
use Rattle.grid_model.specs.declared.grid.Level.{Level}

-- what this id is given, the user has: it is the user's own, that of the group of all, or that of a group that the user
-- is in
abbrev pub speaks_by_id : Cat → ℕ → ℕ → Bool
speaks_by_id c user id = (id == user) || same_text (user_name c id) everybody || is_member c id user

-- the levels that these entries give the user
abbrev pub levels_by_rows : Cat → ℕ → List EntryRow → List Level
levels_by_rows c user rows = map (λ e. e.level) (filter (λ e. speaks_by_id c user e.user) rows)
