use Rattle.std.proofs.Common.{◌≡◌, ◌++◌, take}
use Rattle.std.specs.Prelude.{flat_map}
use Rattle.rule_parse.specs.Printed.{behind_comma}
use Rattle.rule_parse.specs.Seen.{param_tokens, spread}
use Rattle.rule_parse.proofs.printer.put_more_params.Given as goal

abbrev pub invariant-loop-param : goal.invariant-loop-param
invariant-loop-param l = l.out.items ≡ l.fn.out.items ++ spread (flat_map behind_comma (param_tokens (take l.param-index l.params)))
