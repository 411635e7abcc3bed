use Rattle.std.proofs.Common.{List, ap, ◌∙◌}
use Rattle.std.specs.Prelude.{filter, find, not}
use Rattle.grid_tables.proofs.Counted.{counted_gone, counted_none, gone_found, gone_rows, last_rows, some_counted}
use Rattle.grid_tables.proofs.groups.Groups.remove.Goals as goal

pub overflow_sub-self : goal.overflow_sub-self
overflow_sub-self g c =
    some_counted g.T.Grouped.group g.T.Row.row_cmp g.met.T.Row.total g.T.Row.fits (g.Q.Probe.compare c.args.key) (g.met.Q.Probe.below_greater c.args.key) (g.Q.Probe.is_key_of c.args.key)
    (g.met.Q.Probe.decides c.args.key) (g.Q.GroupKey.leads_to c.args.key) (g.met.Q.GroupKey.leads c.args.key) c.self.inside.lists.entries c.take_out.new.lists.entries c.self.inside.count c.self.invariant
    c.take_out.ensures.taken c.take_out.ensures.rising
    c.in-Some.row c.in-Some.ensures.gone

pub invariant_of-self : goal.invariant_of-self
invariant_of-self g c =
    counted_gone g.T.Grouped.group g.T.Row.row_cmp g.met.T.Row.total g.T.Row.fits (g.Q.Probe.compare c.args.key) (g.met.Q.Probe.below_greater c.args.key) (g.Q.Probe.is_key_of c.args.key)
    (g.met.Q.Probe.decides c.args.key) (g.Q.GroupKey.leads_to c.args.key) (g.met.Q.GroupKey.leads c.args.key) c.self.inside.lists.entries c.take_out.new.lists.entries c.self.inside.count c.self.invariant
    c.take_out.ensures.taken c.take_out.ensures.rising
    c.row_group.result c.drop_empty.new.lists.entries c.drop_empty.ensures.dropped c.drop_empty.ensures.rising c.in-Some.row c.in-Some.ensures.gone

pub invariant_of-self-in-None : goal.invariant_of-self-in-None
invariant_of-self-in-None g c =
    counted_none g.T.Grouped.group g.T.Row.row_cmp g.met.T.Row.total g.T.Row.fits (g.Q.Probe.compare c.args.key) (g.met.Q.Probe.below_greater c.args.key) (g.Q.Probe.is_key_of c.args.key)
    (g.met.Q.Probe.decides c.args.key) (g.Q.GroupKey.leads_to c.args.key) (g.met.Q.GroupKey.leads c.args.key) c.self.inside.lists.entries c.take_out.new.lists.entries c.self.inside.count c.self.invariant
    c.take_out.ensures.taken c.take_out.ensures.rising
    c.in-None.ensures.gone

pub returns-in-Some-clause-left : goal.returns-in-Some-clause-left
returns-in-Some-clause-left g c =
    last_rows g.T.Grouped.group g.T.Row.row_cmp g.met.T.Row.total g.T.Row.fits (g.Q.Probe.compare c.args.key) (g.met.Q.Probe.below_greater c.args.key) (g.Q.Probe.is_key_of c.args.key)
    (g.met.Q.Probe.decides c.args.key) (g.Q.GroupKey.leads_to c.args.key) (g.met.Q.GroupKey.leads c.args.key) c.self.inside.lists.entries c.take_out.new.lists.entries c.self.inside.count c.self.invariant
    c.take_out.ensures.taken c.take_out.ensures.rising
    c.row_group.result c.drop_empty.new.lists.entries c.drop_empty.ensures.dropped c.drop_empty.ensures.rising
    ∙ ap (λ (l : List g.row.T.Denot). filter (λ r. not (g.Q.Probe.is_key_of c.args.key r)) l) c.self.view_is

pub returns-in-Some-clause-gone : goal.returns-in-Some-clause-gone
returns-in-Some-clause-gone g c =
    c.in-Some.ensures.gone
    ∙ gone_found g.T.Grouped.group g.T.Row.row_cmp g.met.T.Row.total g.T.Row.fits (g.Q.Probe.compare c.args.key) (g.met.Q.Probe.below_greater c.args.key) (g.Q.Probe.is_key_of c.args.key)
    (g.met.Q.Probe.decides c.args.key) (g.Q.GroupKey.leads_to c.args.key) (g.met.Q.GroupKey.leads c.args.key) c.self.inside.lists.entries c.take_out.new.lists.entries c.self.inside.count c.self.invariant
    c.take_out.ensures.taken c.take_out.ensures.rising
    ∙ ap (λ (l : List g.row.T.Denot). find (λ r. g.Q.Probe.is_key_of c.args.key r) l) c.self.view_is

pub returns-in-None-clause-left : goal.returns-in-None-clause-left
returns-in-None-clause-left g c =
    gone_rows g.T.Grouped.group g.T.Row.row_cmp g.met.T.Row.total g.T.Row.fits (g.Q.Probe.compare c.args.key) (g.met.Q.Probe.below_greater c.args.key) (g.Q.Probe.is_key_of c.args.key)
    (g.met.Q.Probe.decides c.args.key) (g.Q.GroupKey.leads_to c.args.key) (g.met.Q.GroupKey.leads c.args.key) c.self.inside.lists.entries c.take_out.new.lists.entries c.self.inside.count c.self.invariant
    c.take_out.ensures.taken c.take_out.ensures.rising
    ∙ ap (λ (l : List g.row.T.Denot). filter (λ r. not (g.Q.Probe.is_key_of c.args.key r)) l) c.self.view_is

pub returns-in-None-clause-gone : goal.returns-in-None-clause-gone
returns-in-None-clause-gone g c =
    c.in-None.ensures.gone
    ∙ gone_found g.T.Grouped.group g.T.Row.row_cmp g.met.T.Row.total g.T.Row.fits (g.Q.Probe.compare c.args.key) (g.met.Q.Probe.below_greater c.args.key) (g.Q.Probe.is_key_of c.args.key)
    (g.met.Q.Probe.decides c.args.key) (g.Q.GroupKey.leads_to c.args.key) (g.met.Q.GroupKey.leads c.args.key) c.self.inside.lists.entries c.take_out.new.lists.entries c.self.inside.count c.self.invariant
    c.take_out.ensures.taken c.take_out.ensures.rising
    ∙ ap (λ (l : List g.row.T.Denot). find (λ r. g.Q.Probe.is_key_of c.args.key r) l) c.self.view_is
