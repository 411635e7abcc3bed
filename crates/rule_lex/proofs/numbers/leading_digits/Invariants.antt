use Rattle.std.proofs.Common.{◌≡◌, ◌-◌, ◌≤◌, length, take, true}
use Rattle.std.specs.List.{list_all}
use Rattle.rule_lex.specs.Bytes.{is_digit}
use Rattle.rule_lex.specs.Tokens.{number_from}
use Rattle.rule_lex.proofs.numbers.leading_digits.Given as goal

abbrev pub invariant-loop-len : goal.invariant-loop-len
invariant-loop-len l = record {
  within : l.len ≤ length l.bytes;
  digits : list_all is_digit (take l.len l.bytes) ≡ true;
  value_is : l.value ≡ number_from 0 (take l.len l.bytes);
  at_most : l.value ≤ l.most;
}

abbrev pub decreases-loop-len : goal.decreases-loop-len
decreases-loop-len l = length l.bytes - l.len
