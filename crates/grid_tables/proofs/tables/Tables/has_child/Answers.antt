use Rattle.std.proofs.Common.{◌==◌, ap, ◌∙◌}
use Rattle.std.specs.Prelude.{not}
use Rattle.std.specs.List.{list_any}
use Rattle.grid_model.specs.Rows.{Cat}
use Rattle.grid_model.specs.Applying.{is_child}
use Rattle.grid_model.specs.declared.deltas.CollectionRow.{CollectionRow}
use Rattle.grid_tables.specs.Indexes.{place_cmp}
use Rattle.grid_tables.proofs.Indexes.{index_any}
use Rattle.grid_tables.proofs.tables.Tables.has_child.Goals as goal

pub returns : goal.returns
returns c =
    c.has_some_id.ensures
    ∙ index_any (λ (r : CollectionRow). r.id) (place_cmp (λ (r : CollectionRow). r.parent) (λ r. r.name)) (λ r. r.parent == c.args.id) (λ id. not (id == 0)) c.self.inside.collections c.children.result c.children.ensures
    ∙ ap (λ (t : Cat). list_any (λ r. is_child c.args.id r) t.collections) c.self.view_is
