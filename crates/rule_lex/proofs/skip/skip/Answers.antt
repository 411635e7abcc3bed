use Rattle.std.proofs.Common.{arith, sym}
use Rattle.rule_lex.specs.Skipping.{none}
use Rattle.rule_lex.proofs.SkipLemmas.{skips_space, skips_comment}
use Rattle.rule_lex.proofs.skip.skip.Goals as goal

pub loop-at-init : goal.loop-at-init
loop-at-init c = record { within = c.requires; from = omega arith; skips = none }

pub loop-at-preserved-then-text-at-eq35 : goal.loop-at-preserved-then-text-at-eq35
loop-at-preserved-then-text-at-eq35 c = record {
  within = c.line_end-at.ensures.within;
  from = omega arith;
  skips = skips_comment c.args.text.now c.args.from c.loop-at.at c.line_end-at.result c.loop-at.invariant.skips (omega arith) c.if-text-at-eq35.true c.line_end-at.ensures.from c.line_end-at.ensures.within c.line_end-at.ensures.line c.line_end-at.ensures.ends;
}

pub loop-at-preserved : goal.loop-at-preserved
loop-at-preserved c = record {
  within = omega arith;
  from = omega arith;
  skips = skips_space c.args.text.now c.args.from c.loop-at.at c.loop-at.invariant.skips (omega arith) (sym c.if-is_space.ensures);
}
