use Rattle.std.proofs.Common.{◌≡◌, [], Some, None, sym, ◌∙◌}
use Rattle.grid_tables.proofs.GroupLists.{list_of, only_list}
use Rattle.grid_tables.proofs.groups.Groups.as_slice.Goals as goal

all_in : (g : _) (c : goal.After-as_slice g) → c.in-Some.rows.now ≡ c.args.self.now
all_in g c =
    sym (list_of (0, 0) c.self.inside.lists.entries (Some c.in-Some.rows.now) c.in-Some.ensures.value)
    ∙ only_list g.T.Grouped.group g.met.T.InOneGroup.only c.self.inside.lists.entries c.self.invariant.groups.own c.self.invariant.groups.rising ∙ c.self.view_is

none_in : (g : _) (c : goal.After-result-1 g) → [] ≡ c.args.self.now
none_in g c =
    sym (list_of (0, 0) c.self.inside.lists.entries None c.in-None.ensures.value)
    ∙ only_list g.T.Grouped.group g.met.T.InOneGroup.only c.self.inside.lists.entries c.self.invariant.groups.own c.self.invariant.groups.rising ∙ c.self.view_is

pub returns-in-Some-clause-rows : goal.returns-in-Some-clause-rows
returns-in-Some-clause-rows g c = c.as_slice.ensures.rows ∙ all_in g c

pub returns-in-None-clause-rows : goal.returns-in-None-clause-rows
returns-in-None-clause-rows g c = none_in g c
