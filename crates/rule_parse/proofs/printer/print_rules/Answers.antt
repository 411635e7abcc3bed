use Rattle.std.proofs.Common.{◌≡◌, map, sym, subst, arith}
use Rattle.std.proofs.lemmas.Grind.{common_steps}
use Rattle.grid_model.specs.Parsed.{plain_rule, rule_of}
use Rattle.rule_parse.specs.Printed.{print_rules}
use Rattle.rule_parse.specs.RuleTexts.{IsReadAgain}
use Rattle.rule_parse.proofs.PrintedTexts.{printed_again}
use Rattle.rule_parse.proofs.printer.print_rules.Goals as goal

pub returns-clause-again : goal.returns-clause-again
returns-clause-again c = λ text h.
    let all = map rule_of c.args.rules.now in
    let printed : c.from_vec.result ≡ print_rules (map plain_rule (map rule_of c.args.rules.now)) = grind (arith, common_steps) in
    subst (λ s. IsReadAgain s all) (sym printed) (printed_again all h)
