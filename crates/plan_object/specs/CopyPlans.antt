-- The plan of a copy: what is found before its word is drawn.
use Rattle.std.specs.Prelude.{◌≡◌, ℕ, ◌<◌, None, Result, Ok, Err}
use Rattle.grid_model.specs.Names.{Text, Path}
use Rattle.grid_model.specs.Rows.{Cat}
use Rattle.grid_model.specs.RowGrids.{grid_of}
use Rattle.grid_model.specs.Operations.Replicas.{copy_row}
use Rattle.grid_model.specs.declared.grid.Mode.TheVariants.{New}
use Rattle.grid_model.specs.declared.plans.OldFile.{OldFile}
use Rattle.grid_model.specs.declared.plans.PlanError.{PlanError}
use Rattle.grid_model.specs.declared.plans.PlanError.TheVariants.{Refused, Memory}
use Rattle.plan_object.specs.Sending.{Sends}
use Rattle.plan_object.specs.Writing.{MayPut, Wanted}

-- what a copy of the file asks to be put
abbrev pub put_of : Path → Text → OldFile → Wanted
put_of to resource file = record { path = to; resource = resource; mode = New; size = file.size }

-- The user may copy what is at the one path to the other, on the resource: the file is the one that a get of the first path reads, in a
-- slot of a store, and as many bytes may be put as a new object at the second.
pub record MayCopy (c : Cat) (user : Text) (from to : Path) (resource : Text) (file : OldFile) : Type 0 where
  pub reads : Sends c user from None file
  pub within : file.slot < c.stores
  -- the resource's id
  pub on : ℕ
  pub puts : MayPut c user (put_of to resource file) on

-- what looking for the source of a copy gives: its file, or why the copy is refused
abbrev pub FindsCopy : Cat → Text → Path → Path → Text → Result OldFile PlanError → Type 0
FindsCopy c user from to resource (Ok file) = MayCopy c user from to resource file
FindsCopy c user from to resource (Err (Refused r)) = copy_row (grid_of c) user from to resource ≡ Err r
FindsCopy c user from to resource (Err Memory) = Unit {0}
