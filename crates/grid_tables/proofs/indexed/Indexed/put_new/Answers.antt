use Rattle.std.proofs.Common.{List, sym, ap, ◌∙◌, subst}
use Rattle.std.specs.List.{list_any}
use Rattle.std.specs.Ordering.{eq_by_cmp}
use Rattle.grid_tables.specs.IndexKeys.{AreKeysOf}
use Rattle.grid_tables.proofs.IndexKeys.{absent_found, key-new}
use Rattle.grid_tables.proofs.indexed.Indexed.put_new.Goals as goal

pub invariant_of-self-2 : goal.invariant_of-self-2
invariant_of-self-2 g c =
    let is_old = λ (r : g.row.T.Denot). eq_by_cmp g.T.Row.row_cmp r c.args.row in
    let absent = ap (λ (l : List g.row.T.Denot). list_any is_old l) c.self.view_is ∙ c.requires.absent in
    subst (λ (l : List g.row.T.Denot). AreKeysOf g.K.IndexKey.of g.K.Key.order l c.put_both.new.keys) (sym c.in_ok-put_both.ensures.put)
    (key-new g.T.Row.row_cmp g.met.T.Row.total g.K.IndexKey.of g.K.Key.order g.met.K.Key.total g.met.K.IndexKey.whole c.self.inside.rows c.in_order.ensures.ordered
    c.args.row c.in_ok-key.key c.in_ok-key.ensures c.self.inside.keys c.self.invariant c.put_both.new.keys c.in_ok-put_both.ensures.keys
    (absent_found is_old c.self.inside.rows absent))
