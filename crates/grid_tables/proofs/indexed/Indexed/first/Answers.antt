use Rattle.std.proofs.Common.{List, refl, ◌∙◌, subst}
use Rattle.std.specs.Prelude.{filter}
use Rattle.std.specs.Ordering.{is_eq}
use Rattle.grid_tables.specs.IndexKeys.{AreKeysOf}
use Rattle.grid_tables.proofs.IndexKeys.{keys-at}
use Rattle.grid_tables.proofs.KeyLookUps.{first_found}
use Rattle.grid_tables.proofs.indexed.Indexed.first.Goals as goal

pub returns : goal.returns
returns g c =
    let is_at = λ (k : g.row.K.Denot). is_eq (g.F.Front.side c.args.front k) in
    let keys = filter is_at c.self.inside.keys in (
      keys,
      subst (λ (l : List g.row.T.Denot). AreKeysOf g.K.IndexKey.of g.K.Key.order (filter (λ r. is_eq (g.F.Front.side c.args.front (g.K.IndexKey.of r))) l) keys) c.self.view_is
          (keys-at g.K.IndexKey.of g.K.Key.order is_at c.self.inside.rows c.self.inside.keys keys refl c.self.invariant),
      c.find.ensures ∙ first_found is_at c.self.inside.keys,
    )
