use Rattle.std.proofs.Common.{sym, ◌∙◌}
use Rattle.grid_tree.proofs.WaysUp.{stands_is}
use Rattle.grid_tree.proofs.upward.is_in.Goals as goal

pub returns : goal.returns
returns c = c.stands_at.ensures ∙ sym (stands_is c.args.tables.now c.requires.made c.args.resource c.requires.resource c.args.leaf c.requires.leaf)
