use Rattle.std.specs.Option.{option_copied}
use Rattle.plan_tree.proofs.ChangedStatus.{found_again}
use Rattle.plan_tree.proofs.rows.row_named.Goals as goal

pub returns-in-Some : goal.returns-in-Some
returns-in-Some c = found_again c.args.tables.now c.requires c.args.name.now c.in-Some.id c.in-Some.ensures (option_copied c.resource.result) c.resource.ensures
