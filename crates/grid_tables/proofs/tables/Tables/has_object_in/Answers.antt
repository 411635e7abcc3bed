use Rattle.std.proofs.Common.{◌==◌, ap, ◌∙◌}
use Rattle.std.specs.Prelude.{not}
use Rattle.std.specs.List.{list_any}
use Rattle.grid_model.specs.Rows.{Cat}
use Rattle.grid_model.specs.declared.deltas.ObjectRow.{ObjectRow}
use Rattle.grid_tables.specs.Indexes.{place_cmp}
use Rattle.grid_tables.proofs.Indexes.{index_some}
use Rattle.grid_tables.proofs.tables.Tables.has_object_in.Goals as goal

pub returns : goal.returns
returns c =
    ap not c.is_empty.ensures
    ∙ index_some (λ (r : ObjectRow). r.id) (place_cmp (λ (r : ObjectRow). r.collection) (λ r. r.name)) (λ r. r.collection == c.args.id) c.self.inside.objects c.children.result c.children.ensures
    ∙ ap (λ (t : Cat). list_any (λ r. r.collection == c.args.id) t.objects) c.self.view_is
