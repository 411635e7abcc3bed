use Rattle.std.proofs.Common.{◌≡◌, ◌∷◌, ◌++◌, take, map}
use Rattle.std.specs.Prelude.{decimal}
use Rattle.grid_model.specs.Printing.{spaced}
use Rattle.cmd_reply.proofs.parts.push_counted.Given as goal

abbrev pub invariant-loop-number : goal.invariant-loop-number
invariant-loop-number l = l.text.items ≡ l.fn.text.items ++ spaced (l.name ∷ map decimal (take l.number-index l.numbers))
