use Rattle.plan_meta.proofs.FoundItems.{no_user, user_found}
use Rattle.plan_meta.proofs.items.user_item.Goals as goal

pub returns-in-None : goal.returns-in-None
returns-in-None c = no_user c.args.tables.now c.requires c.args.name.now c.in-None.ensures

pub returns-in-Some : goal.returns-in-Some
returns-in-Some c = user_found c.args.tables.now c.requires c.args.name.now c.in-Some.id c.in-Some.ensures
