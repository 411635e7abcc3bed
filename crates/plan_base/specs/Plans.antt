-- What a plan of changes is to what an operation is on the grid: the changes do what it does, or it is refused so.
use Rattle.std.specs.Prelude.{◌≡◌, ◌≢◌, ◌⊎◌, ℕ, List, [], Result, Ok, Err, IsTrue}
use Rattle.std.specs.List.{list_all}
use Rattle.grid_model.specs.Names.{Text}
use Rattle.grid_model.specs.Rows.{Cat}
use Rattle.grid_model.specs.RowGrids.{grid_of}
use Rattle.grid_model.specs.Applying.{apply_all}
use Rattle.grid_model.specs.Whole.{Naming, Names}
use Rattle.grid_model.specs.Deeds.{changes}
use Rattle.grid_model.specs.Operations.Table.{Operation, row}
use Rattle.grid_model.specs.declared.deltas.Delta.{Delta}
use Rattle.grid_model.specs.declared.plans.PlanError.{PlanError}
use Rattle.grid_model.specs.declared.plans.PlanError.TheVariants.{Refused, Memory}
use Rattle.grid_journal.specs.Journal.{can_be_kept}
use Rattle.file_laws.specs.Plans.{Turns}

-- The changes are in order and may be kept, make of the grid what the operation of the user does, and leave what names files,
-- numbers, the command that is not done, rules and stores as they were. They make another grid of it, or there are none.
pub record Changes (c : Cat) (user : Text) (op : Operation) (deltas : List Delta) : Type 0 where
  -- the catalogue after them
  pub after : Cat
  pub applied : apply_all c deltas ≡ Ok after
  pub spelled : IsTrue (list_all can_be_kept deltas)
  pub row_is : row (grid_of c) user op ≡ Ok (changes (grid_of after))
  pub turns : Turns [] [] c after
  pub names : (slot name : ℕ) (r : Naming) → Names after slot name r → (was : Naming) × Names c slot name was
  pub numbers : after.numbers ≡ c.numbers
  pub pending : after.pending ≡ c.pending
  pub rules : after.rules ≡ c.rules
  pub stores : after.stores ≡ c.stores
  -- where nothing changes nothing is planned
  pub still : (deltas ≡ []) ⊎ (grid_of after ≢ grid_of c)

-- what planning an operation of a user gives: changes that do it, or why it is refused, or nothing where memory ran out
abbrev pub PlansChange : Cat → Text → Operation → Result (List Delta) PlanError → Type 0
PlansChange c user op (Ok deltas) = Changes c user op deltas
PlansChange c user op (Err (Refused r)) = row (grid_of c) user op ≡ Err r
PlansChange c user op (Err Memory) = Unit {0}
