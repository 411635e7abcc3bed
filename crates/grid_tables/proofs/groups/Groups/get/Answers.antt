use Rattle.std.proofs.Common.{◌≡◌, Bool, true, false, Some, None, refl, sym, ◌∙◌}
use Rattle.std.specs.Prelude.{◌&&◌}
use Rattle.grid_tables.proofs.GroupLists.{find_led, any_led}
use Rattle.grid_tables.proofs.groups.Groups.get.Goals as goal

front_of : (a b : Bool) → (a && b) ≡ true → a ≡ true
front_of true b e = refl
front_of false b e = absurd (cc)

pub returns-in-Some-clause-row : goal.returns-in-Some-clause-row
returns-in-Some-clause-row g c =
    c.get.ensures.row
    ∙ find_led g.T.Grouped.group g.T.Row.row_cmp g.T.Row.fits (λ r. g.Q.Probe.is_key_of c.args.key r) c.row_group.result (λ r same. g.met.Q.GroupKey.leads c.args.key r same ∙ sym c.row_group.ensures)
    c.self.inside.lists.entries c.self.invariant.groups c.args.self.now c.self.view_is (Some c.in-Some.rows.now) c.in-Some.ensures.value

pub returns-in-Some-clause-alone : goal.returns-in-Some-clause-alone
returns-in-Some-clause-alone g c = λ test.
    sym (any_led g.T.Grouped.group g.T.Row.row_cmp g.T.Row.fits (λ r. g.Q.Probe.is_key_of c.args.key r && test r) c.row_group.result
    (λ r same. g.met.Q.GroupKey.leads c.args.key r (front_of (g.Q.Probe.is_key_of c.args.key r) (test r) same) ∙ sym c.row_group.ensures)
    c.self.inside.lists.entries c.self.invariant.groups c.args.self.now c.self.view_is (Some c.in-Some.rows.now) c.in-Some.ensures.value)
    ∙ c.get.ensures.alone test

pub returns-in-None-clause-row : goal.returns-in-None-clause-row
returns-in-None-clause-row g c =
    find_led g.T.Grouped.group g.T.Row.row_cmp g.T.Row.fits (λ r. g.Q.Probe.is_key_of c.args.key r) c.row_group.result (λ r same. g.met.Q.GroupKey.leads c.args.key r same ∙ sym c.row_group.ensures)
    c.self.inside.lists.entries c.self.invariant.groups c.args.self.now c.self.view_is None c.in-None.ensures.value

pub returns-in-None-clause-alone : goal.returns-in-None-clause-alone
returns-in-None-clause-alone g c = λ test.
    sym (any_led g.T.Grouped.group g.T.Row.row_cmp g.T.Row.fits (λ r. g.Q.Probe.is_key_of c.args.key r && test r) c.row_group.result
    (λ r same. g.met.Q.GroupKey.leads c.args.key r (front_of (g.Q.Probe.is_key_of c.args.key r) (test r) same) ∙ sym c.row_group.ensures)
    c.self.inside.lists.entries c.self.invariant.groups c.args.self.now c.self.view_is None c.in-None.ensures.value)
