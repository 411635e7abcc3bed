use Rattle.std.proofs.Common.{◌==◌, List, sym, ap, ◌∙◌}
use Rattle.std.specs.Prelude.{not, ◌&&◌}
use Rattle.std.specs.List.{list_any}
use Rattle.grid_model.specs.Applying.{is_replica}
use Rattle.grid_model.specs.declared.deltas.ReplicaRow.{ReplicaRow}
use Rattle.grid_tables.proofs.VaultNumbers.{own_vault, other_vault, no_vault, some_same, some_none}
use Rattle.grid_tables.proofs.vaults.Replicas.has_other_with_vault.Goals as goal

pub returns-then-not-known : goal.returns-then-not-known
returns-then-not-known c =
    no_vault c.self.inside.rows c.in_order.ensures.ordered c.self.inside.vaults c.self.invariant c.args.row.now.object c.args.row.now.number c.args.row.now.vault (sym c.has-known.ensures ∙ c.if-not-known.true)
    ∙ ap (λ (l : List ReplicaRow). list_any (λ o. (o.vault == c.args.row.now.vault) && not (is_replica c.args.row.now.object c.args.row.now.number o)) l) c.self.view_is

pub returns-then-own-row : goal.returns-then-own-row
returns-then-own-row c =
    own_vault c.self.inside.rows c.in_order.ensures.ordered c.self.inside.vaults c.self.invariant c.args.row.now.object c.args.row.now.number c.args.row.now.vault c.in-Some.own c.in-Some.ensures c.if-own-row.true
    ∙ ap (λ (l : List ReplicaRow). list_any (λ o. (o.vault == c.args.row.now.vault) && not (is_replica c.args.row.now.object c.args.row.now.number o)) l) c.self.view_is

pub returns-else-own-row : goal.returns-else-own-row
returns-else-own-row c =
    sym c.if-not-known.false ∙ c.has-known.ensures
    ∙ other_vault c.self.inside.rows c.in_order.ensures.ordered c.self.inside.vaults c.self.invariant c.args.row.now.object c.args.row.now.number c.args.row.now.vault (λ own is same. c.if-own-row.false (some_same _ _ _ c.in-Some.ensures is ∙ same))
    ∙ ap (λ (l : List ReplicaRow). list_any (λ o. (o.vault == c.args.row.now.vault) && not (is_replica c.args.row.now.object c.args.row.now.number o)) l) c.self.view_is

pub returns-in-None : goal.returns-in-None
returns-in-None c =
    sym c.if-not-known.false ∙ c.has-known.ensures
    ∙ other_vault c.self.inside.rows c.in_order.ensures.ordered c.self.inside.vaults c.self.invariant c.args.row.now.object c.args.row.now.number c.args.row.now.vault (λ own is same. some_none _ _ is c.in-None.ensures)
    ∙ ap (λ (l : List ReplicaRow). list_any (λ o. (o.vault == c.args.row.now.vault) && not (is_replica c.args.row.now.object c.args.row.now.number o)) l) c.self.view_is
