use Rattle.std.proofs.Common.{◌==◌, ap, ◌∙◌}
use Rattle.std.specs.Prelude.{is_some}
use Rattle.grid_model.proofs.FoundRows.{is_some-find}
use Rattle.grid_tables.specs.declared.vaults.Vault.{Vault}
use Rattle.grid_tables.proofs.vaults.put_vault.Goals as goal

pub returns-in-Ok-clause-known : goal.returns-in-Ok-clause-known
returns-in-Ok-clause-known c =
    c.is_some.ensures ∙ ap is_some c.in-Ok.ensures.replaced ∙ is_some-find (λ (v : Vault). v.vault == c.args.vault) c.args.vaults.now
