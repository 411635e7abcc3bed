use Rattle.std.proofs.Common.{length, ◌-◌, ◌≡◌}
use Rattle.chain_core.specs.Moves.{next_named}
use Rattle.chain_core.specs.Seen.{plain_rules}
use Rattle.chain_core.proofs.base.RuleBase.first_from.Given as goal

-- no rule before this place has the name
abbrev pub invariant-loop-at : goal.invariant-loop-at
invariant-loop-at l = next_named (plain_rules l.rules) l.name l.at ≡ next_named (plain_rules l.rules) l.name l.from

abbrev pub decreases-loop-at : goal.decreases-loop-at
decreases-loop-at l = length l.rules - l.at
