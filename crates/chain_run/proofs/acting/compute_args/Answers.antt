use Rattle.std.proofs.Common.{sym, inr}
use Rattle.chain_core.specs.Seen.{rules_of}
use Rattle.rule_cond.specs.Scopes.{env_of}
use Rattle.chain_run.proofs.Making.{none_made}
use Rattle.chain_run.proofs.Answering.{stepped}
use Rattle.chain_run.proofs.acting.compute_args.Goals as goal

pub compute_step-requires-clause-there : goal.compute_step-requires-clause-there
compute_step-requires-clause-there g c = c.requires.there

pub compute_step-requires-clause-checked : goal.compute_step-requires-clause-checked
compute_step-requires-clause-checked g c = c.requires.checked

pub returns-in-Ok-compute_step-clause-acts : goal.returns-in-Ok-compute_step-clause-acts
returns-in-Ok-compute_step-clause-acts g c =
    let at = g.O.Doer.place c.args.doer.now in
    stepped (rules_of c.args.rules.now) (env_of c.args.env.now) c.args.frames.now c.args.place.0 c.args.place.1 c.in-Ok-compute_step.event at c.requires.asked
    (c.in-Ok-compute_step.ensures at.grid (sym c.in-Ok.ensures.size))

pub returns-in-Err-clause-makes : goal.returns-in-Err-clause-makes
returns-in-Err-clause-makes g c = inr (none_made g.O.Doer.went _ c.args.doer.now (g.met.O.Doer.begins c.args.doer.now), c.in-Err.ensures.stopped)

pub returns-in-Err-compute_step-clause-makes : goal.returns-in-Err-compute_step-clause-makes
returns-in-Err-compute_step-clause-makes g c = none_made g.O.Doer.went _ c.args.doer.now (g.met.O.Doer.begins c.args.doer.now)

pub returns-in-Ok-compute_step-clause-makes : goal.returns-in-Ok-compute_step-clause-makes
returns-in-Ok-compute_step-clause-makes g c = none_made g.O.Doer.went _ c.args.doer.now (g.met.O.Doer.begins c.args.doer.now)
