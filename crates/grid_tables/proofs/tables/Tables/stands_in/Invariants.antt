use Rattle.std.proofs.Common.{◌≡◌, ◌-◌, length}
use Rattle.grid_model.specs.Applying.{stands_within}
use Rattle.grid_tables.proofs.tables.Tables.stands_in.Given as goal

abbrev pub invariant-loop-step : goal.invariant-loop-step
invariant-loop-step l = stands_within (l._step-end - l._step) l.self l.upper l.current ≡ stands_within (length l.self.resources) l.self l.upper l.id
