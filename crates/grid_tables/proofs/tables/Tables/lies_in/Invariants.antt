use Rattle.std.proofs.Common.{◌≡◌, ◌-◌, length}
use Rattle.grid_model.specs.Applying.{lies_within}
use Rattle.grid_tables.proofs.tables.Tables.lies_in.Given as goal

abbrev pub invariant-loop-step : goal.invariant-loop-step
invariant-loop-step l = lies_within (l._step-end - l._step) l.self l.upper l.current ≡ lies_within (length l.self.collections) l.self l.upper l.id
