use Rattle.std.proofs.Common.{List, sym, ap, ◌∙◌, subst}
use Rattle.std.specs.Prelude.{filter, not}
use Rattle.std.specs.Ordering.{is_eq}
use Rattle.grid_tables.specs.IndexKeys.{AreKeysOf}
use Rattle.grid_tables.proofs.IndexKeys.{key-moved, key-put}
use Rattle.grid_tables.proofs.indexed.Indexed.put.Goals as goal

pub invariant_of-self-in-Some : goal.invariant_of-self-in-Some
invariant_of-self-in-Some g c =
    let left = c.remove.ensures ∙ ap (λ x. filter (λ k. not (is_eq (g.K.Key.order (g.K.IndexKey.of x) k))) c.put_both.new.keys) c.new.ensures in
    subst (λ (l : List g.row.T.Denot). AreKeysOf g.K.IndexKey.of g.K.Key.order l c.remove.new.self) (sym c.in_ok-old.ensures.put)
    (key-moved g.T.Row.row_cmp g.met.T.Row.total g.K.IndexKey.of g.K.Key.order g.met.K.Key.total g.met.K.IndexKey.whole c.self.inside.rows c.in_order.ensures.ordered
    c.args.row c.in_ok-key.key c.in_ok-key.ensures c.self.inside.keys c.self.invariant c.put_both.new.keys c.in_ok-old.ensures.keys g.met.K.OwnKey.own
    c.in-Some.old (sym c.in-Some.is ∙ c.in_ok-old.ensures.replaced) c.remove.new.self left)

pub invariant_of-self-in-None : goal.invariant_of-self-in-None
invariant_of-self-in-None g c =
    subst (λ (l : List g.row.T.Denot). AreKeysOf g.K.IndexKey.of g.K.Key.order l c.put_both.new.keys) (sym c.in_ok-old.ensures.put)
    (key-put g.T.Row.row_cmp g.met.T.Row.total g.K.IndexKey.of g.K.Key.order g.met.K.Key.total g.met.K.IndexKey.whole c.self.inside.rows c.in_order.ensures.ordered
    c.args.row c.in_ok-key.key c.in_ok-key.ensures c.self.inside.keys c.self.invariant c.put_both.new.keys c.in_ok-old.ensures.keys g.met.K.OwnKey.own
    (sym c.in-None.is ∙ c.in_ok-old.ensures.replaced))
