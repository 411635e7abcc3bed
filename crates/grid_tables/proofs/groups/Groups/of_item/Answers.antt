use Rattle.std.proofs.Common.{Some, None, sym, ◌∙◌}
use Rattle.grid_tables.proofs.GroupLists.{filter_led}
use Rattle.grid_tables.proofs.groups.Groups.of_item.Goals as goal

pub returns-in-Some : goal.returns-in-Some
returns-in-Some g c =
    c.of_item.ensures
    ∙ filter_led g.T.Grouped.group g.T.Row.row_cmp g.T.Row.fits (λ r. g.T.OfItem.is_of r c.args.kind c.args.id) c.item_group.result (λ r same. g.met.T.OfItem.in_group c.args.kind c.args.id r same ∙ sym c.item_group.ensures)
    c.self.inside.lists.entries c.self.invariant.groups c.args.self.now c.self.view_is (Some c.in-Some.rows.now) c.in-Some.ensures.value

pub returns-in-None : goal.returns-in-None
returns-in-None g c =
    filter_led g.T.Grouped.group g.T.Row.row_cmp g.T.Row.fits (λ r. g.T.OfItem.is_of r c.args.kind c.args.id) c.item_group.result (λ r same. g.met.T.OfItem.in_group c.args.kind c.args.id r same ∙ sym c.item_group.ensures)
    c.self.inside.lists.entries c.self.invariant.groups c.args.self.now c.self.view_is None c.in-None.ensures.value
