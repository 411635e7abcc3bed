use Rattle.std.proofs.Common.{List, ap, ◌∙◌}
use Rattle.std.specs.Prelude.{is_some}
use Rattle.std.specs.List.{list_any}
use Rattle.std.specs.Ordering.{is_eq}
use Rattle.grid_model.proofs.FoundRows.{is_some-find}
use Rattle.grid_tables.proofs.IndexKeys.{any-of-rows}
use Rattle.grid_tables.proofs.Searching.{copied}
use Rattle.grid_tables.proofs.indexed.Indexed.has_at.Goals as goal

pub returns : goal.returns
returns g c =
    let is_at = λ (k : g.row.K.Denot). is_eq (g.F.Front.side c.args.front k) in
    c.is_some.ensures ∙ copied c.find.result ∙ ap is_some c.find.ensures ∙ is_some-find is_at c.self.inside.keys
    ∙ any-of-rows g.K.IndexKey.of g.K.Key.order is_at c.self.inside.rows c.self.inside.keys c.self.invariant
    ∙ ap (λ (l : List g.row.T.Denot). list_any (λ r. is_at (g.K.IndexKey.of r)) l) c.self.view_is
