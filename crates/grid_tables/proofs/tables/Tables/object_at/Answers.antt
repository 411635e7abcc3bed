use Rattle.std.proofs.Common.{Some, None, sym, ap, ◌∙◌}
use Rattle.grid_model.specs.RowPaths.{object_at}
use Rattle.grid_tables.proofs.Descending.{object_located, no_object}
use Rattle.grid_tables.proofs.tables.Tables.object_at.Goals as goal

pub returns-in-None : goal.returns-in-None
returns-in-None c = sym (no_object c.args.self.now c.names.result.now c.in-None.ensures.cases) ∙ ap (object_at c.args.self.now) c.names.ensures.names

pub returns-in-Some-located : goal.returns-in-Some-located
returns-in-Some-located c =
    c.object_named.ensures
    ∙ sym (object_located c.args.self.now c.names.result.now c.in-Some.above.now c.in-Some.name.now (Some c.in-Some-located.collection) c.in-Some.ensures.cases.0 c.in-Some-located.ensures)
    ∙ ap (object_at c.args.self.now) c.names.ensures.names

pub returns-in-None-located : goal.returns-in-None-located
returns-in-None-located c =
    sym (object_located c.args.self.now c.names.result.now c.in-Some.above.now c.in-Some.name.now None c.in-Some.ensures.cases.0 c.in-None-located.ensures)
    ∙ ap (object_at c.args.self.now) c.names.ensures.names
