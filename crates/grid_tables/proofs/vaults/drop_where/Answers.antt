use Rattle.std.proofs.Common.{◌==◌, List, sym, ap, ◌∙◌}
use Rattle.std.specs.Prelude.{not, ◌&&◌}
use Rattle.grid_tables.specs.declared.vaults.Vault.{Vault}
use Rattle.grid_tables.proofs.VaultNumbers.{holds, holds_dropped}
use Rattle.grid_tables.proofs.vaults.drop_where.Goals as goal

pub returns-then-is_dropped : goal.returns-then-is_dropped
returns-then-is_dropped c = λ n.
    ap (λ (l : List Vault). holds l n) c.remove.ensures.left ∙ holds_dropped c.args.vaults.now c.args.vault n
    ∙ ap (λ b. holds c.args.vaults.now n && not (b && (n == c.args.vault))) (sym c.if-is_dropped.true)
