use Rattle.std.proofs.Common.{◌≡◌, ◌++◌, take}
use Rattle.rule_parse.specs.Seen.{steps_tokens, spread}
use Rattle.rule_parse.proofs.printer.put_steps.Given as goal

abbrev pub invariant-loop-step : goal.invariant-loop-step
invariant-loop-step l = l.out.items ≡ l.fn.out.items ++ spread (steps_tokens (take l.step-index l.steps))
