use Rattle.std.proofs.Common.{◌≡◌, take}
use Rattle.grid_model.specs.Checks.{repeats}
use Rattle.rule_check.specs.Tables.{HasTexts}
use Rattle.rule_check.proofs.known.Known.new.Given as goal

abbrev pub invariant-loop-param : goal.invariant-loop-param
invariant-loop-param l = record {
  has : HasTexts l.set (take l.param-index l.params);
  repeated : l.is_repeated ≡ repeats (take l.param-index l.params);
}
