use Rattle.std.proofs.Common.{arith}
use Rattle.grid_outside.proofs.Spans.{none_called}
use Rattle.grid_vault.specs.Vault.{WritesAmong}
use Rattle.grid_vault.proofs.Writing.{Among-same}
use Rattle.grid_vault.proofs.Copied.{IsCalled}
use Rattle.grid_deed.proofs.copying.copy_each.Goals as goal

pub returns-then-is_empty-clause-any_moment : goal.returns-then-is_empty-clause-any_moment
returns-then-is_empty-clause-any_moment g c =
    none_called g.P.Plugin.plugin (WritesAmong c.args.files.now) (Among-same c.args.files.now) (IsCalled g.P.Plugin.plugin c.args.from.now c.args.files.now) _ _ _ (omega arith) c.requires.last
