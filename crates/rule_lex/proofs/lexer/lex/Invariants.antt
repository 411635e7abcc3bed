use Rattle.std.proofs.Common.{◌≡◌, ◌-◌, ◌<◌, ◌≤◌, false, length, map}
use Rattle.std.specs.Prelude.{slice_index}
use Rattle.rule_lex.specs.Seen.{rule_token_of}
use Rattle.rule_lex.specs.Skipping.{is_skipped}
use Rattle.rule_lex.proofs.LexLemmas.{Reached}
use Rattle.rule_lex.proofs.lexer.lex.Given as goal

abbrev pub invariant-loop-at : goal.invariant-loop-at
invariant-loop-at l = record {
  within : l.at ≤ length l.text;
  ends : l.at < length l.text → is_skipped (slice_index l.text l.at) ≡ false;
  reached : Reached l.text l.at (map rule_token_of l.tokens.items);
}

abbrev pub decreases-loop-at : goal.decreases-loop-at
decreases-loop-at l = length l.text - l.at
