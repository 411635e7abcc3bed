use Rattle.std.proofs.Common.{◌-◌, ◌≤◌, length, drop}
use Rattle.rule_lex.specs.Skipping.{SkipsBlanks}
use Rattle.rule_lex.proofs.skip.skip.Given as goal

abbrev pub invariant-loop-at : goal.invariant-loop-at
invariant-loop-at l = record {
  within : l.at ≤ length l.text;
  from : l.from ≤ l.at;
  skips : SkipsBlanks l.from (drop l.from l.text) l.at (drop l.at l.text);
}

abbrev pub decreases-loop-at : goal.decreases-loop-at
decreases-loop-at l = length l.text - l.at
