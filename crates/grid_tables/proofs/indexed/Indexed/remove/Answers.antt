use Rattle.std.proofs.Common.{List, sym, ap, ◌∙◌, subst}
use Rattle.std.specs.Prelude.{filter, not}
use Rattle.std.specs.Ordering.{is_eq}
use Rattle.grid_tables.specs.IndexKeys.{AreKeysOf}
use Rattle.grid_tables.specs.Places.{passes}
use Rattle.grid_tables.proofs.IndexKeys.{key-forgot, keys-same}
use Rattle.grid_tables.proofs.Indexes.{any_found}
use Rattle.grid_tables.proofs.Searching.{one_key}
use Rattle.grid_tables.proofs.indexed.Indexed.remove.Goals as goal

pub invariant_of-self : goal.invariant_of-self
invariant_of-self g c =
    let is_key = g.Q.Probe.is_key_of c.args.key in
    let one = one_key g.T.Row.row_cmp (g.Q.Probe.compare c.args.key) (g.met.Q.Probe.below_greater c.args.key) is_key (g.met.Q.Probe.decides c.args.key) g.met.T.Row.total
    c.self.inside.rows c.in_order.ensures.ordered in
    let left = c.remove-in-Some.ensures ∙ ap (λ x. filter (λ k. not (is_eq (g.K.Key.order (g.K.IndexKey.of x) k))) c.self.inside.keys) c.new.ensures in
    subst (λ (l : List g.row.T.Denot). AreKeysOf g.K.IndexKey.of g.K.Key.order l c.remove-in-Some.new.self) (sym c.in-Some.ensures.left)
    (key-forgot g.T.Row.row_cmp g.met.T.Row.total g.K.IndexKey.of g.K.Key.order g.met.K.Key.total g.met.K.IndexKey.whole c.self.inside.rows c.in_order.ensures.ordered
    g.met.K.OwnKey.own is_key c.in-Some.row c.in-Some.ensures.gone (λ test. any_found is_key test c.self.inside.rows one ∙ ap (passes test) (sym c.in-Some.ensures.gone))
    c.self.inside.keys c.remove-in-Some.new.self left c.self.invariant)

pub invariant_of-self-in-None : goal.invariant_of-self-in-None
invariant_of-self-in-None g c =
    subst (λ (l : List g.row.T.Denot). AreKeysOf g.K.IndexKey.of g.K.Key.order l c.self.inside.keys) (sym c.in-None.ensures.left)
    (keys-same g.K.IndexKey.of g.K.Key.order (g.Q.Probe.is_key_of c.args.key) c.self.inside.rows c.self.inside.keys c.in-None.ensures.gone c.self.invariant)
