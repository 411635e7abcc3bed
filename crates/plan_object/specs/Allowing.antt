-- The object at a path, and whether the user may.
use Rattle.std.specs.Prelude.{◌≡◌, ℕ, Some, Result, Ok, Err, IsTrue}
use Rattle.grid_model.specs.Names.{Text, Path}
use Rattle.grid_model.specs.Grid.{Object}
use Rattle.grid_model.specs.Rows.{Cat, has_object}
use Rattle.grid_model.specs.RowPaths.{object_at}
use Rattle.grid_model.specs.RowGrids.{grid_of}
use Rattle.grid_model.specs.Refusing.{Or, ◌>>=◌}
use Rattle.grid_model.specs.Deeds.{Act}
use Rattle.grid_model.specs.Operations.Common.{needs, object_there}
use Rattle.grid_model.specs.declared.grid.Level.{Level}
use Rattle.grid_model.specs.declared.refusal.Refusal.{Refusal}

-- the object with the id is at the path, and the user has this level there
pub record IsAllowed (c : Cat) (user : Text) (p : Path) (level : Level) (id : ℕ) : Type 0 where
  pub at : object_at c p ≡ Some id
  pub there : IsTrue (has_object c id)
  pub allowed : needs (grid_of c) user p level ≡ Ok tt

-- what looking for it gives: its id, or why what asks for it first is refused
abbrev pub FindsObject : Cat → Text → Path → Level → Result ℕ Refusal → Type 0
FindsObject c user p level (Ok id) = IsAllowed c user p level id
FindsObject c user p level (Err refusal) = (row : Object → Or Act)
    → (object_there (grid_of c) p >>= (λ o. needs (grid_of c) user p level >>= (λ _. row o))) ≡ Err refusal
