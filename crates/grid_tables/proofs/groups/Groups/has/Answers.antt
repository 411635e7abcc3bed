use Rattle.std.proofs.Common.{ap, ◌∙◌}
use Rattle.std.specs.Prelude.{is_some}
use Rattle.grid_model.proofs.FoundRows.{is_some-find}
use Rattle.grid_tables.proofs.Searching.{copied}
use Rattle.grid_tables.proofs.groups.Groups.has.Goals as goal

pub returns : goal.returns
returns g c = c.is_some.ensures ∙ copied c.get.result ∙ ap is_some c.get.ensures.row ∙ is_some-find (λ r. g.Q.Probe.is_key_of c.args.key r) c.args.self.now
