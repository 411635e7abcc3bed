use Rattle.std.proofs.Common.{◌≡◌, ◌++◌, take}
use Rattle.std.specs.Prelude.{flat_map}
use Rattle.rule_parse.specs.Printed.{behind_comma}
use Rattle.rule_parse.specs.Seen.{arg_tokens, spread}
use Rattle.rule_parse.proofs.printer.put_more_args.Given as goal

abbrev pub invariant-loop-arg : goal.invariant-loop-arg
invariant-loop-arg l = l.out.items ≡ l.fn.out.items ++ spread (flat_map behind_comma (arg_tokens (take l.arg-index l.args)))
