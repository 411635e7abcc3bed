use Rattle.std.proofs.Common.{◌==◌, List, ap, map, ◌∙◌, subst}
use Rattle.std.specs.Prelude.{filter}
use Rattle.grid_tables.specs.Indexes.{IsIndex, place_cmp}
use Rattle.grid_tables.proofs.Children.{ids_of}
use Rattle.grid_tables.proofs.named.Named.children.Goals as goal

pub returns : goal.returns
returns g c =
    subst (λ (l : List g.row.T.Denot). IsIndex g.T.Numbered.number (place_cmp g.T.Placed.parent g.T.Placed.name) (filter (λ r. g.T.Placed.parent r == c.args.parent) l) c.of.result) c.self.view_is
    (ids_of g.T.Numbered.number g.T.Placed.parent g.T.Placed.name g.T.Row.row_cmp g.met.T.Row.total g.met.T.Numbered.by_number c.self.inside.rows c.len-count.ensures.table.ordered
    c.self.inside.keys c.self.invariant
    c.args.parent c.of.result (c.of.ensures ∙ ap (map (λ k. k.id)) c.at.ensures))
