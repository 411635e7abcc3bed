use Rattle.std.proofs.Common.{◌==◌, List, ap, ◌∙◌}
use Rattle.std.specs.Prelude.{not, ◌&&◌}
use Rattle.std.specs.List.{list_any}
use Rattle.grid_model.specs.Rows.{Cat}
use Rattle.grid_model.specs.declared.deltas.ReplicaRow.{ReplicaRow}
use Rattle.grid_tables.proofs.Finding.{any_alike, any_kept, grouped}
use Rattle.grid_tables.proofs.tables.Tables.is_leaf_of_another.Goals as goal

pub returns : goal.returns
returns c =
    let other = λ (o : ReplicaRow). not (o.number == c.args.row.now.number) && (o.leaf == c.args.row.now.leaf) in
    c.has_other_on_leaf.ensures ∙ ap (λ (l : List ReplicaRow). list_any other l) c.of_object.ensures
    ∙ any_kept (λ (o : ReplicaRow). o.object == c.args.row.now.object) other c.self.inside.replicas
    ∙ any_alike _ _ (λ (o : ReplicaRow). grouped (o.object == c.args.row.now.object) (not (o.number == c.args.row.now.number)) (o.leaf == c.args.row.now.leaf)) c.self.inside.replicas
    ∙ ap (λ (t : Cat). list_any (λ o. (o.object == c.args.row.now.object) && not (o.number == c.args.row.now.number) && (o.leaf == c.args.row.now.leaf)) t.replicas) c.self.view_is
