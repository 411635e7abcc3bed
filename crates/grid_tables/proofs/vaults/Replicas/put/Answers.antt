use Rattle.std.proofs.Common.{◌==◌, List, sym, ap, ◌∙◌, subst}
use Rattle.std.specs.Prelude.{not, ◌&&◌}
use Rattle.std.specs.List.{list_any}
use Rattle.grid_model.specs.Applying.{is_replica}
use Rattle.grid_model.specs.declared.deltas.ReplicaRow.{ReplicaRow}
use Rattle.grid_tables.specs.declared.vaults.Vault.{Vault}
use Rattle.grid_tables.specs.Vaults.{IsVaults, is_left}
use Rattle.grid_tables.proofs.VaultNumbers.{holds, holds_put, vaults_put, vaults_moved, undone}
use Rattle.grid_tables.proofs.vaults.Replicas.put.Goals as goal

pub invariant_of-self-in-Ok : goal.invariant_of-self-in-Ok
invariant_of-self-in-Ok c =
    let row = c.args.row in
    let free = ap (λ (l : List ReplicaRow). list_any (λ o. (o.vault == row.vault) && not (is_replica row.object row.number o)) l) c.self.view_is ∙ c.requires in
    subst (λ (l : List ReplicaRow). IsVaults l c.drop_other.new.vaults) (sym c.in-Ok.ensures.put)
    (vaults_put c.self.inside.rows c.in_order.ensures.ordered c.self.inside.vaults c.self.invariant row c.vault_of-before.result c.drop_other.new.vaults free c.vault_of-before.ensures
    (λ n. c.drop_other.ensures n ∙ ap (λ b. b && not (is_left c.vault_of-before.result row.vault n))
    (ap (λ (l : List Vault). holds l n) c.in_ok-known.ensures.put ∙ holds_put c.self.inside.vaults (record { vault = row.vault }) n)))

pub invariant_of-self-in-Err : goal.invariant_of-self-in-Err
invariant_of-self-in-Err c =
    subst (λ (l : List ReplicaRow). IsVaults l c.drop_where.new.vaults) (sym c.in-Err.ensures.failed)
    (vaults_moved c.self.inside.rows c.self.inside.vaults c.drop_where.new.vaults
    (undone c.self.inside.vaults c.put_vault.new.vaults c.drop_where.new.vaults c.args.row.vault c.in_ok-known.known c.in_ok-known.ensures.known
    (λ n. ap (λ (l : List Vault). holds l n) c.in_ok-known.ensures.put ∙ holds_put c.self.inside.vaults (record { vault = c.args.row.vault }) n)
    c.drop_where.ensures) c.self.invariant)
