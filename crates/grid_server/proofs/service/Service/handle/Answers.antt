use Rattle.std.proofs.Common.{ap, ◌∙◌}
use Rattle.grid_server.specs.Turning.{after}
use Rattle.grid_server.proofs.service.Service.handle.Goals as goal

pub returns-clause-commands : goal.returns-clause-commands
returns-clause-commands g c = (
  c.command-answered.result,
  c.after.ensures ∙ ap (λ l. after l c.command-answered.result) c.is_last-last.ensures,
  λ source. record {
    obeys = c.command-answered.ensures.obeys source;
    worn = c.command-answered.ensures.worn source;
    whole = c.command-answered.ensures.whole;
    call = c.command-answered.ensures.call;
    remembers = c.command-answered.ensures.remembers;
    moments = c.command-answered.ensures.in_few;
    few = c.command-answered.ensures.few source;
  },
  c.command-answered.ensures.dry,
)
