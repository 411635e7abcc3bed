use Rattle.std.proofs.Common.{◌≡◌, List, Some, None, Bool, true, false, refl, sym, ap, ◌∙◌, subst}
use Rattle.std.specs.Prelude.{not, ◌&&◌}
use Rattle.grid_model.specs.declared.deltas.ReplicaRow.{ReplicaRow}
use Rattle.grid_tables.specs.declared.vaults.Vault.{Vault}
use Rattle.grid_tables.specs.Vaults.{IsVaults}
use Rattle.grid_tables.proofs.VaultNumbers.{holds, holds_dropped, vaults_without}
use Rattle.grid_tables.proofs.vaults.Replicas.remove.Goals as goal

whole : (b : Bool) → b ≡ (b && not false)
whole true = refl
whole false = refl

pub invariant_of-self : goal.invariant_of-self
invariant_of-self c =
    subst (λ (l : List ReplicaRow). IsVaults l c.remove-in-Some.new.self) (sym c.remove.ensures)
    (vaults_without c.self.inside.rows c.in_order.ensures.ordered c.self.inside.vaults c.self.invariant c.args.object c.args.number c.remove-in-Some.new.self (Some c.in-Some.vault) c.in-Some.ensures
    (λ n. ap (λ (l : List Vault). holds l n) c.remove-in-Some.ensures.left ∙ holds_dropped c.self.inside.vaults c.in-Some.vault n))

pub invariant_of-self-in-None : goal.invariant_of-self-in-None
invariant_of-self-in-None c =
    subst (λ (l : List ReplicaRow). IsVaults l c.self.inside.vaults) (sym c.remove.ensures)
    (vaults_without c.self.inside.rows c.in_order.ensures.ordered c.self.inside.vaults c.self.invariant c.args.object c.args.number c.self.inside.vaults None c.in-None.ensures (λ n. whole (holds c.self.inside.vaults n)))
