use Rattle.grid_journal.proofs.KeptRules.{standing_rules, staged_rules}
use Rattle.grid_journal.proofs.laws.rules_are_kept.Goals as goal

pub returns-clause-standing : goal.returns-clause-standing
returns-clause-standing c = λ main spare cat stands. standing_rules stands

pub returns-clause-staged : goal.returns-clause-staged
returns-clause-staged c = staged_rules
