use Rattle.std.proofs.Common.{◌≡◌, drop}
use Rattle.grid_model.specs.Values.{argument}
use Rattle.rule_cond.proofs.names.argument.Given as goal

abbrev pub invariant-loop-index : goal.invariant-loop-index
invariant-loop-index l = argument l.params l.args l.name ≡ argument (drop l.index l.params) (drop l.index l.args) l.name
