use Rattle.std.proofs.Common.{sym, ◌∙◌, arith, below_more}
use Rattle.reply_fields.proofs.digests.digest_len.Goals as goal

pub loop-len-preserved : goal.loop-len-preserved
loop-len-preserved c = record {
  within = omega (arith, c.if-len-rest.true);
  most = omega (arith, c.loop-len-test.true);
  each = below_more _ _ c.loop-len.invariant.each (sym c.may_stand.ensures ∙ c.if-may_stand.true);
}
