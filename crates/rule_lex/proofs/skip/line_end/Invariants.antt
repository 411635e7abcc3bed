use Rattle.std.proofs.Common.{◌≡◌, ◌-◌, ◌≤◌, length, true}
use Rattle.std.specs.Prelude.{slice_range}
use Rattle.std.specs.List.{list_all}
use Rattle.rule_lex.specs.Tokens.{is_in_line}
use Rattle.rule_lex.proofs.skip.line_end.Given as goal

abbrev pub invariant-loop-at : goal.invariant-loop-at
invariant-loop-at l = record {
  within : l.at ≤ length l.text;
  from : l.from ≤ l.at;
  line : list_all is_in_line (slice_range l.text l.from l.at) ≡ true;
}

abbrev pub decreases-loop-at : goal.decreases-loop-at
decreases-loop-at l = length l.text - l.at
