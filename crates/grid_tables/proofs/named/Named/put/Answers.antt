use Rattle.std.proofs.Common.{List, sym, ◌∙◌}
use Rattle.grid_model.specs.Rows.{with_row}
use Rattle.grid_tables.specs.ChildKeys.{AreNamed}
use Rattle.grid_tables.proofs.Children.{named_in_place}
use Rattle.grid_tables.proofs.Outcomes.{left_by}
use Rattle.grid_tables.proofs.named.Named.put.Goals as goal

pub invariant_of-self : goal.invariant_of-self
invariant_of-self g c =
    left_by (λ (l : List g.row.T.Denot). AreNamed g.T.Numbered.number g.T.Placed.parent g.T.Placed.name l c.self.inside.keys) c.put.result c.put.new.self
    (with_row g.T.Row.row_cmp c.self.inside.rows c.args.row) c.self.inside.rows c.put.ensures.put c.put.ensures.failed
    (named_in_place g.T.Numbered.number g.T.Placed.parent g.T.Placed.name g.T.Row.row_cmp g.met.T.Row.total g.met.T.Numbered.by_number c.self.inside.rows c.len-count.ensures.table.ordered
    c.self.inside.keys c.self.invariant
    c.args.row (sym c.is_in_place.ensures ∙ c.if-is_in_place.true))
    c.self.invariant
