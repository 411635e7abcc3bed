use Rattle.std.proofs.Common.{◌≡◌, map, take}
use Rattle.grid_model.specs.declared.deltas.OrphanRow.{OrphanRow}
use Rattle.cmd_run.proofs.sweeping.orphans_of.Given as goal

abbrev pub invariant-loop-row : goal.invariant-loop-row
invariant-loop-row l = l.files.items ≡ map (λ (o : OrphanRow). record { slot = o.slot; name = o.vault }) (take l.row-index l.row-items)
