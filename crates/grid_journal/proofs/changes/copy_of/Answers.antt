use Rattle.std.proofs.Common.{sym, subst, List, ℕ}
use Rattle.grid_model.specs.Deltas.{SpellsDeltas}
use Rattle.grid_journal.proofs.KeptDeltas.{fit_of}
use Rattle.grid_journal.proofs.changes.copy_of.Goals as goal

pub encode-requires : goal.encode-requires
encode-requires c = fit_of c.args.deltas.now c.requires

pub unreachable-requires : goal.unreachable-requires
unreachable-requires c =
    let refused = c.in-Err-BadRecord.ensures.refused c.in-Err-BadRecord.field-0-0 c.in-Err-BadRecord.field-0-is in
    let P : List ℕ → Type 0 = λ bytes. SpellsDeltas bytes c.args.deltas.now in
    refused.spells_nothing c.args.deltas.now (subst P (sym c.as_slice.ensures) c.in_ok-bytes.ensures.spells)
