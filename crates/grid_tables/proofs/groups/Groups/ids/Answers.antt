use Rattle.std.proofs.Common.{◌≡◌, ℕ, List, [], Some, None, sym, ap, ◌∙◌, subst}
use Rattle.std.specs.Prelude.{IfOk, map}
use Rattle.grid_tables.proofs.GroupLists.{list_of, only_list}
use Rattle.grid_tables.proofs.groups.Groups.ids.Goals as goal

all_in : (g : _) (c : goal.After-ids g) → c.in-Some.rows.now ≡ c.args.self.now
all_in g c =
    sym (list_of (0, 0) c.self.inside.lists.entries (Some c.in-Some.rows.now) c.in-Some.ensures.value)
    ∙ only_list g.T.Grouped.group g.met.T.InOneGroup.only c.self.inside.lists.entries c.self.invariant.groups.own c.self.invariant.groups.rising ∙ c.self.view_is

none_in : (g : _) (c : goal.After-new g) → [] ≡ c.args.self.now
none_in g c =
    sym (list_of (0, 0) c.self.inside.lists.entries None c.in-None.ensures.value)
    ∙ only_list g.T.Grouped.group g.met.T.InOneGroup.only c.self.inside.lists.entries c.self.invariant.groups.own c.self.invariant.groups.rising ∙ c.self.view_is

pub returns-in-Some-clause-ids : goal.returns-in-Some-clause-ids
returns-in-Some-clause-ids g c = subst (λ (l : List g.row.T.Denot). IfOk c.ids.result (λ ids. ids.items ≡ map g.T.Numbered.number l)) (all_in g c) c.ids.ensures.ids

pub returns-in-None-clause-ids : goal.returns-in-None-clause-ids
returns-in-None-clause-ids g c = c.new.ensures.items ∙ ap (λ (l : List g.row.T.Denot). map g.T.Numbered.number l) (none_in g c)
