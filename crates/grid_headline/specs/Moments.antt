-- How many moments a run takes. A moment is one call of a disk, a store or the sink that may change what it holds.
use Rattle.std.specs.Prelude.{ℕ, ◌+◌, ◌*◌, ◌^◌, ◌≤◌, Option, Some, None, length}
use Rattle.grid_model.specs.Names.{Text}
use Rattle.grid_model.specs.Rows.{Cat}
use Rattle.grid_model.specs.RowGrids.{grid_of}
use Rattle.grid_model.specs.Bounds.{most_steps}
use Rattle.grid_model.specs.declared.deltas.Pending.{Pending}
use Rattle.size_laws.specs.Within.{IsWithin}
use Rattle.grid_headline.specs.Worlds.{World}
use Rattle.grid_headline.specs.Served.{Run}

-- how many moments the opening of a run takes at most with the sweep behind it, and each request
abbrev pub most_moments : ℕ
most_moments = 2 ^ 40

-- how many recoveries are to be done of what is pending
abbrev pub undo_count : Option Pending → ℕ
undo_count None = 0
undo_count (Some p) = length p.undo

-- The catalogue is within the limits: its grid is, and what is pending has no more recoveries than a command has steps.
pub record IsWithinLimits (c : Cat) : Type 0 where
  pub grid : IsWithin (grid_of c)
  pub undo : undo_count c.pending ≤ most_steps

-- A run over such a catalogue takes few moments for each request that was begun, as many for its opening, and as many for a request of which
-- nothing is seen.
abbrev pub TakesFew : {B : Type 0} {known : ℕ → Type 0} {found : Cat} {input : Text} → Run known found input → World B → World B → Type 0
TakesFew {found = found} run old new = IsWithinLimits found → new.moments ≤ old.moments + (length run.begun + 2) * most_moments
