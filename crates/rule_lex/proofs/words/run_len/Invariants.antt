use Rattle.std.proofs.Common.{◌≡◌, ◌-◌, ◌≤◌, length, take, true}
use Rattle.std.specs.List.{list_all}
use Rattle.rule_lex.specs.Bytes.{is_rule_name_byte}
use Rattle.rule_lex.proofs.words.run_len.Given as goal

abbrev pub invariant-loop-len : goal.invariant-loop-len
invariant-loop-len l = record {
  within : l.len ≤ length l.bytes;
  short : l.len ≤ 255;
  words : list_all is_rule_name_byte (take l.len l.bytes) ≡ true;
}

abbrev pub decreases-loop-len : goal.decreases-loop-len
decreases-loop-len l = length l.bytes - l.len
