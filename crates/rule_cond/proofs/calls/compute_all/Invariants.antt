use Rattle.std.proofs.Common.{◌≡◌, true, take}
use Rattle.rule_cond.specs.Sizes.{args_in, are_short}
use Rattle.rule_cond.proofs.calls.compute_all.Given as goal

abbrev pub invariant-loop-arg : goal.invariant-loop-arg
invariant-loop-arg l = record {
  computed : l.texts.items ≡ args_in l.scope (take l.arg-index l.args);
  short : are_short l.texts.items ≡ true;
}
