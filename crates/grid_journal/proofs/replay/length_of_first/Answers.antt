use Rattle.std.proofs.Common.{◌≡◌, IsTrue, List, take, sym, subst}
use Rattle.std.specs.List.{list_all}
use Rattle.grid_model.specs.Deltas.{delta_fits}
use Rattle.grid_model.specs.declared.deltas.Delta.{Delta}
use Rattle.grid_model.proofs.Fronts.{list_all-take}
use Rattle.grid_journal.proofs.replay.length_of_first.Goals as goal

pub unreachable-requires : goal.unreachable-requires
unreachable-requires c =
    (c.in-Err-BadRecord.ensures.refused c.in-Err-BadRecord.field-0-0 c.in-Err-BadRecord.field-0-is).spells_nothing c.requires.0 c.requires.1

pub encode-requires : goal.encode-requires
encode-requires c =
    let is : c.from_vec.result ≡ take c.args.count c.in-Ok.deltas = cc in
    let P : List Delta → Type 0 = λ l. IsTrue (list_all delta_fits l) in
    subst P (sym is) (list_all-take delta_fits c.args.count c.in-Ok.deltas c.in-Ok.ensures.spells.fit)
