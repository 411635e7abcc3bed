use Rattle.std.proofs.Common.{Some, None, sym, ap, ◌∙◌}
use Rattle.grid_model.specs.RowPaths.{collection_at}
use Rattle.grid_tables.proofs.Descending.{collection_located, id_there, id_not_there}
use Rattle.grid_tables.proofs.tables.Tables.collection_at.Goals as goal

pub returns-then-has_collection : goal.returns-then-has_collection
returns-then-has_collection c =
    id_there c.args.self.now c.in-Some.id (sym c.has_collection.ensures ∙ c.if-has_collection.true)
    ∙ sym (collection_located c.args.self.now c.names.result.now (Some c.in-Some.id) c.in-Some.ensures) ∙ ap (collection_at c.args.self.now) c.names.ensures.names

pub returns-else-has_collection : goal.returns-else-has_collection
returns-else-has_collection c =
    id_not_there c.args.self.now c.in-Some.id (sym c.has_collection.ensures ∙ c.if-has_collection.false)
    ∙ sym (collection_located c.args.self.now c.names.result.now (Some c.in-Some.id) c.in-Some.ensures) ∙ ap (collection_at c.args.self.now) c.names.ensures.names

pub returns-in-None : goal.returns-in-None
returns-in-None c = sym (collection_located c.args.self.now c.names.result.now None c.in-None.ensures) ∙ ap (collection_at c.args.self.now) c.names.ensures.names
