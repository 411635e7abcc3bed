use Rattle.std.proofs.Common.{◌≡◌, ◌==◌, ◌<◌, ℕ, Bool, true, false, List, [], Some, None, sym, ◌∙◌, subst}
use Rattle.std.specs.Prelude.{IfSome, IfNone}
use Rattle.std.specs.List.{list_any}
use Rattle.grid_tables.proofs.GroupLists.{list_of, only_list}
use Rattle.grid_tables.proofs.groups.Groups.last.Goals as goal

all_in : (g : _) (c : goal.After-last g) → c.in-Some.rows.now ≡ c.args.self.now
all_in g c =
    sym (list_of (0, 0) c.self.inside.lists.entries (Some c.in-Some.rows.now) c.in-Some.ensures.value)
    ∙ only_list g.T.Grouped.group g.met.T.InOneGroup.only c.self.inside.lists.entries c.self.invariant.groups.own c.self.invariant.groups.rising ∙ c.self.view_is

none_in : (g : _) (c : goal.In-None g) → [] ≡ c.args.self.now
none_in g c =
    sym (list_of (0, 0) c.self.inside.lists.entries None c.in-None.ensures.value)
    ∙ only_list g.T.Grouped.group g.met.T.InOneGroup.only c.self.inside.lists.entries c.self.invariant.groups.own c.self.invariant.groups.rising ∙ c.self.view_is

pub returns-in-Some-clause-greatest : goal.returns-in-Some-clause-greatest
returns-in-Some-clause-greatest g c =
    subst (λ (l : List g.row.T.Denot). IfSome c.last.result (λ row. (id : ℕ) → g.T.Numbered.number row.now < id → list_any (λ r. g.T.Numbered.number r == id) l ≡ false)) (all_in g c)
    c.last.ensures.greatest

pub returns-in-Some-clause-there : goal.returns-in-Some-clause-there
returns-in-Some-clause-there g c =
    subst (λ (l : List g.row.T.Denot). IfSome c.last.result (λ row. list_any (λ r. g.T.Numbered.number r == g.T.Numbered.number row.now) l ≡ true)) (all_in g c) c.last.ensures.there

pub returns-in-Some-clause-none : goal.returns-in-Some-clause-none
returns-in-Some-clause-none g c = subst (λ (l : List g.row.T.Denot). IfNone c.last.result (l ≡ [])) (all_in g c) c.last.ensures.none

pub returns-in-None-clause-none : goal.returns-in-None-clause-none
returns-in-None-clause-none g c = sym (none_in g c)
