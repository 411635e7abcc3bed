use Rattle.std.proofs.Common.{◌==◌, List, length, ap, ◌∙◌}
use Rattle.std.specs.Prelude.{not}
use Rattle.std.specs.List.{list_any}
use Rattle.grid_model.specs.Rows.{Cat}
use Rattle.grid_model.specs.declared.deltas.ReplicaRow.{ReplicaRow}
use Rattle.grid_tables.proofs.Finding.{some_kept}
use Rattle.grid_tables.proofs.tables.Tables.has_replica_of.Goals as goal

pub returns : goal.returns
returns c =
    ap not c.is_empty.ensures ∙ ap (λ (l : List ReplicaRow). not (length l == 0)) c.of_object.ensures ∙ some_kept (λ (r : ReplicaRow). r.object == c.args.id) c.self.inside.replicas
    ∙ ap (λ (t : Cat). list_any (λ (r : ReplicaRow). r.object == c.args.id) t.replicas) c.self.view_is
