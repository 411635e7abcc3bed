use Rattle.std.proofs.Common.{◌==◌, List, ap, ◌∙◌}
use Rattle.std.specs.List.{list_any}
use Rattle.grid_model.specs.declared.deltas.ReplicaRow.{ReplicaRow}
use Rattle.grid_tables.proofs.VaultNumbers.{has_vault}
use Rattle.grid_tables.proofs.vaults.Replicas.has_vault.Goals as goal

pub returns : goal.returns
returns c =
    c.has.ensures ∙ has_vault c.self.inside.rows c.self.inside.vaults c.self.invariant c.args.vault ∙ ap (λ (l : List ReplicaRow). list_any (λ o. o.vault == c.args.vault) l) c.self.view_is
