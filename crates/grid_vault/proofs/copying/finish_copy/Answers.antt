use Rattle.std.proofs.Common.{arith}
use Rattle.grid_outside.proofs.Spans.{none_called}
use Rattle.grid_vault.specs.Vault.{WritesAmong, HasSlot}
use Rattle.grid_vault.proofs.Writing.{Among-same}
use Rattle.grid_vault.proofs.copying.finish_copy.Goals as goal

pub returns-in-Some-clause-any_moment : goal.returns-in-Some-clause-any_moment
returns-in-Some-clause-any_moment g c = none_called g.P.Plugin.plugin (WritesAmong c.args.files.now) (Among-same c.args.files.now) (HasSlot c.args.files.now) _ _ _ (omega arith) c.requires.last
