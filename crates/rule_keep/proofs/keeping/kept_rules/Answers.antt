use Rattle.std.proofs.Common.{◌≡◌, map, sym, subst, ap, ◌∙◌, Err, true, false}
use Rattle.grid_model.specs.Names.{Text}
use Rattle.grid_model.specs.Parsed.{rule_of}
use Rattle.rule_parse.specs.Grammar.{SpellsRules}
use Rattle.rule_parse.specs.RuleTexts.{IsTextOf}
use Rattle.rule_keep.specs.Kept.{IsKeptText}
use Rattle.rule_keep.proofs.KeptTexts.{kept, kept_is_printed, none_refused}
use Rattle.rule_keep.proofs.keeping.kept_rules.Goals as goal

pub returns-in-Err-Refused-clause-none : goal.returns-in-Err-Refused-clause-none
returns-in-Err-Refused-clause-none c = λ rules k.
    none_refused c.as_slice.result.now c.in-Err-Refused.field-0-0 c.checked_from.result
    (c.in-Err-Refused.is ∙ ap Err c.in-Err-Refused.field-0-is) c.checked_from.ensures.is rules
    (subst (λ (t : Text). IsKeptText t rules) (sym c.as_slice.ensures) k)

pub returns-then-is_same-clause-some : goal.returns-then-is_same-clause-some
returns-then-is_same-clause-some c =
    kept c.args.text.now (map rule_of c.in-Ok.rules)
    (subst (λ (t : Text). IsTextOf SpellsRules t (map rule_of c.in-Ok.rules)) c.as_slice.ensures c.in-Ok.ensures.spelled)
    c.in-Ok.ensures.checked (sym c.in_ok-printed.ensures.printed ∙ c.is_same.ensures.0 c.if-is_same.true)

pub returns-else-is_same-clause-none : goal.returns-else-is_same-clause-none
returns-else-is_same-clause-none c = λ rules k.
    let spells : IsTextOf SpellsRules c.args.text.now (map rule_of c.in-Ok.rules) =
    subst (λ (t : Text). IsTextOf SpellsRules t (map rule_of c.in-Ok.rules)) c.as_slice.ensures c.in-Ok.ensures.spelled in
    let yes : c.is_same.result ≡ true =
    c.is_same.ensures.1 (c.in_ok-printed.ensures.printed ∙ kept_is_printed c.args.text.now (map rule_of c.in-Ok.rules) spells rules k) in
    let no : c.is_same.result ≡ false = c.if-is_same.false in
    absurd (cc (yes, no))
