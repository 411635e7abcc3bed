use Rattle.std.proofs.Common.{List, ap, ◌∙◌, subst}
use Rattle.std.specs.Prelude.{filter, ◌&&◌}
use Rattle.std.specs.List.{list_any}
use Rattle.std.specs.Ordering.{is_eq}
use Rattle.grid_tables.specs.IndexKeys.{AreKeysOf}
use Rattle.grid_tables.proofs.IndexKeys.{keys-at, any-key}
use Rattle.grid_tables.proofs.indexed.Indexed.at.Goals as goal

of_rows : (g : _) (c : goal.After-at g) → AreKeysOf g.K.IndexKey.of g.K.Key.order (filter (λ r. is_eq (g.F.Front.side c.args.front (g.K.IndexKey.of r))) c.self.inside.rows) c.at.result
of_rows g c = keys-at g.K.IndexKey.of g.K.Key.order (λ k. is_eq (g.F.Front.side c.args.front k)) c.self.inside.rows c.self.inside.keys c.at.result c.at.ensures c.self.invariant

pub returns-clause-keys : goal.returns-clause-keys
returns-clause-keys g c =
    subst (λ (l : List g.row.T.Denot). AreKeysOf g.K.IndexKey.of g.K.Key.order (filter (λ r. is_eq (g.F.Front.side c.args.front (g.K.IndexKey.of r))) l) c.at.result) c.self.view_is (of_rows g c)

pub returns-clause-any : goal.returns-clause-any
returns-clause-any g c = λ test.
    any-key g.K.IndexKey.of g.K.Key.order (λ k. is_eq (g.F.Front.side c.args.front k)) test c.self.inside.rows c.at.result (of_rows g c)
    ∙ ap (λ (l : List g.row.T.Denot). list_any (λ r. is_eq (g.F.Front.side c.args.front (g.K.IndexKey.of r)) && test (g.K.IndexKey.of r)) l) c.self.view_is
