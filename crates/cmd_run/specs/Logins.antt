-- What looking for a user gives.
use Rattle.std.specs.Prelude.{◌≡◌, ℕ, true, false, Option, None, Some, IsTrue}
use Rattle.grid_model.specs.Maps.{get}
use Rattle.grid_model.specs.Names.{Text}
use Rattle.grid_model.specs.Rows.{Cat}
use Rattle.grid_model.specs.RowGrids.{grid_of, user_name}
use Rattle.grid_model.specs.Applying.{is_user}
use Rattle.grid_model.specs.Operations.Common.{is_person}

-- the id of the user of that name, or nobody is one
abbrev pub FindsPerson : Cat → Text → Option ℕ → Type 0
FindsPerson c name None = is_person (get (grid_of c).users name) ≡ false
FindsPerson c name (Some id) = (is_person (get (grid_of c).users name) ≡ true) × IsTrue (is_user c id) × (user_name c id ≡ name)
