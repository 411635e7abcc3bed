use Rattle.std.proofs.Common.{◌≡◌, ◌++◌, take}
use Rattle.std.specs.List.{flat_map}
use Rattle.grid_model.specs.Deltas.{joined}
use Rattle.row_codec.proofs.entry.put_members.Given as goal

abbrev pub invariant-loop-member : goal.invariant-loop-member
invariant-loop-member g l = l.out.items ≡ l.fn.out.items ++ flat_map (λ x. joined (g.T.Entry.parts x)) (take l.member-index l.members)
