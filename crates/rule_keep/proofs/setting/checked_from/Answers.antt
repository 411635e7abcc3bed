use Rattle.std.proofs.Common.{map, subst}
use Rattle.grid_model.specs.Checks.{checked_rules}
use Rattle.grid_model.specs.Parsed.{RuleAt, plain_rule, rule_of}
use Rattle.rule_keep.proofs.ReadTexts.{checked_bad, checked_good, fails_for_memory, found_is, never_refused, refused_there, unchecked_of_grid, unread_of_grid}
use Rattle.rule_keep.proofs.setting.checked_from.Goals as goal
use Rattle.rule_keep.specs.Kept.{IsReadSo}
use Rattle.std.proofs.Common.{◌≡◌, List, Ok, Err}

pub returns-in-Err-clause-is : goal.returns-in-Err-clause-is
returns-in-Err-clause-is c = λ rs spells.
    fails_for_memory c.read_rules.result c.in-Err.error c.unread.result c.in-Err.is c.unread.ensures rs (c.read_rules.ensures.only rs spells) (checked_rules rs)

pub returns-in-Err-clause-refused : goal.returns-in-Err-clause-refused
returns-in-Err-clause-refused c = λ place cause refuses.
    refused_there c.read_rules.result c.in-Err.error c.unread.result c.in-Err.is c.unread.ensures place cause (c.read_rules.ensures.refused place cause refuses)

pub returns-in-Ok-check_rules-clause-is : goal.returns-in-Ok-check_rules-clause-is
returns-in-Ok-check_rules-clause-is c = λ rs spells.
    subst (λ (l : List RuleAt). checked_rules l ≡ Ok (map plain_rule (map rule_of c.in-Ok.rules)))
    (found_is c.read_rules.result c.in-Ok.rules c.in-Ok.is rs (c.read_rules.ensures.only rs spells))
    (checked_good (map rule_of c.in-Ok.rules) c.in-Ok-check_rules.ensures.ok)

pub returns-in-Ok-check_rules-clause-refused : goal.returns-in-Ok-check_rules-clause-refused
returns-in-Ok-check_rules-clause-refused c = λ place cause refuses.
    absurd (never_refused c.read_rules.result c.in-Ok.rules c.in-Ok.is place cause (c.read_rules.ensures.refused place cause refuses))

pub returns-in-Err-check_rules-clause-is : goal.returns-in-Err-check_rules-clause-is
returns-in-Err-check_rules-clause-is c = λ rs spells.
    subst (λ (l : List RuleAt). IsReadSo (checked_rules l) (Err c.unchecked.result))
    (found_is c.read_rules.result c.in-Ok.rules c.in-Ok.is rs (c.read_rules.ensures.only rs spells))
    (checked_bad (map rule_of c.in-Ok.rules) c.check_rules.result c.in-Err-check_rules.error c.unchecked.result
    c.in-Err-check_rules.is c.unchecked.ensures c.check_rules.ensures.bad)

pub returns-in-Err-check_rules-clause-refused : goal.returns-in-Err-check_rules-clause-refused
returns-in-Err-check_rules-clause-refused c = λ place cause refuses.
    absurd (never_refused c.read_rules.result c.in-Ok.rules c.in-Ok.is place cause (c.read_rules.ensures.refused place cause refuses))

pub returns-in-Err-clause-of_grid : goal.returns-in-Err-clause-of_grid
returns-in-Err-clause-of_grid c = unread_of_grid c.in-Err.error c.unread.result c.unread.ensures

pub returns-in-Err-check_rules-clause-of_grid : goal.returns-in-Err-check_rules-clause-of_grid
returns-in-Err-check_rules-clause-of_grid c = unchecked_of_grid c.in-Err-check_rules.error c.unchecked.result c.unchecked.ensures
