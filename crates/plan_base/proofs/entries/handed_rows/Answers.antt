use Rattle.plan_base.proofs.NewAccess.{all_given}
use Rattle.plan_base.proofs.entries.handed_rows.Goals as goal

pub returns-then-hands_on-clause-given : goal.returns-then-hands_on-clause-given
returns-then-hands_on-clause-given c = all_given c.args.tables.now c.requires c.args.id c.access_of.result.now c.access_of.ensures
