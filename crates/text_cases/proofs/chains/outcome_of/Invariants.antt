use Rattle.chain_core.specs.Answers.{IsUsable}
use Rattle.chain_core.specs.Seen.{rules_of}
use Rattle.text_cases.proofs.chains.outcome_of.Given as goal

-- the machine goes on
abbrev pub invariant-loop : goal.invariant-loop
invariant-loop l = IsUsable (rules_of l.rules) l.frames
