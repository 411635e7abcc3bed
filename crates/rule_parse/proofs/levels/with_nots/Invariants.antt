use Rattle.std.proofs.Common.{◌≡◌, length}
use Rattle.grid_model.specs.Parsed.{term_of}
use Rattle.rule_parse.specs.Readers.{with_nots}
use Rattle.rule_parse.proofs.levels.with_nots.Given as goal

abbrev pub invariant-loop-at : goal.invariant-loop-at
invariant-loop-at l = with_nots l.nots.items (term_of l.term) ≡ with_nots l.fn.nots.items (term_of l.fn.operand)

abbrev pub decreases-loop-at : goal.decreases-loop-at
decreases-loop-at l = length l.nots.items
