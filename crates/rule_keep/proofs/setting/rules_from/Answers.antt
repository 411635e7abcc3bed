use Rattle.rule_keep.proofs.ReadTexts.{read_short, too_large_of_grid, too_long}
use Rattle.rule_keep.proofs.setting.rules_from.Goals as goal

pub returns-then-text-gt-MOST_BYTES-clause-is : goal.returns-then-text-gt-MOST_BYTES-clause-is
returns-then-text-gt-MOST_BYTES-clause-is c = λ rules reads. too_long c.args.text.now c.if-text-gt-MOST_BYTES.true rules reads

pub returns-clause-is : goal.returns-clause-is
returns-clause-is c = λ rules reads.
    read_short c.args.text.now c.checked_from.result c.if-text-gt-MOST_BYTES.false c.checked_from.ensures.is c.checked_from.ensures.refused rules reads

pub returns-then-text-gt-MOST_BYTES-clause-of_grid : goal.returns-then-text-gt-MOST_BYTES-clause-of_grid
returns-then-text-gt-MOST_BYTES-clause-of_grid c = too_large_of_grid
