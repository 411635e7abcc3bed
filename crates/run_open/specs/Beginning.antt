-- The commit with which a run is begun.
use Rattle.std.specs.Prelude.{◌+◌, Bool, true, false, List, [], ◌∷◌, None}
use Rattle.grid_model.specs.Rows.{Cat}
use Rattle.grid_model.specs.declared.deltas.Delta.{Delta}
use Rattle.grid_model.specs.declared.deltas.Delta.TheVariants as delta
use Rattle.grid_model.specs.declared.deltas.Numbers.{Numbers}

-- these rows as the catalogue of the next run, of which no command has changed anything: none is pending
abbrev pub run_begun : Cat → Cat
run_begun c = record c { numbers = record { next_vault = c.numbers.next_vault; run = c.numbers.run + 1; last = 0 }; pending = None }

-- the changes with which a run is begun that has these numbers, where a command is pending or not
abbrev pub begin_deltas : Bool → Numbers → List Delta
begin_deltas true numbers = delta.NoPending ∷ delta.Numbers numbers ∷ []
begin_deltas false numbers = delta.Numbers numbers ∷ []
