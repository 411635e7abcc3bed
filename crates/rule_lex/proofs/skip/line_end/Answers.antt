use Rattle.std.proofs.Common.{arith}
use Rattle.rule_lex.proofs.SkipLemmas.{line_more}
use Rattle.rule_lex.proofs.skip.line_end.Goals as goal

pub loop-at-preserved : goal.loop-at-preserved
loop-at-preserved c = record {
  within = omega arith;
  from = omega arith;
  line = line_more c.args.text.now c.args.from c.loop-at.at c.loop-at.invariant.from (omega arith) c.loop-at.invariant.line c.if-text-at-ne10.true;
}
