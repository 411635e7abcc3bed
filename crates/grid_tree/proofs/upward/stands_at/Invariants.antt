use Rattle.std.proofs.Common.{◌≡◌, ◌-◌, suc}
use Rattle.grid_tree.specs.Reading.{in_within, stands_at}
use Rattle.grid_tree.proofs.upward.stands_at.Given as goal

abbrev pub invariant-loop-step : goal.invariant-loop-step
invariant-loop-step l = in_within (suc (l._step-end - l._step)) l.tables l.upper l.current ≡ stands_at l.tables l.upper l.id
