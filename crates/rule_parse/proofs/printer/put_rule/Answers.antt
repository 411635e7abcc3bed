use Rattle.std.proofs.Common.{◌++◌, ◌∷◌, [], ap, ◌∙◌}
use Rattle.grid_model.specs.Parsed.{plain_rule, rule_of}
use Rattle.rule_parse.proofs.PrintedTexts.{line_is}
use Rattle.rule_parse.proofs.printer.put_rule.Goals as goal

pub returns : goal.returns
returns c =
    c.in_ok-push-2.ensures.items
    ∙ ap (λ l. l ++ 0x0A ∷ []) (c.in_ok-push.ensures.items ∙ ap (λ l. l ++ 0x7D ∷ []) c.in_ok-put_open_rule.ensures)
    ∙ line_is (plain_rule (rule_of c.args.rule.now)) c.args.out.now.items
