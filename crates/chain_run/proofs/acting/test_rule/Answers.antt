use Rattle.std.proofs.Common.{sym, inr}
use Rattle.chain_core.specs.Seen.{rules_of}
use Rattle.rule_cond.specs.Scopes.{env_of}
use Rattle.chain_run.proofs.Making.{none_made}
use Rattle.chain_run.proofs.Answering.{tested}
use Rattle.chain_run.proofs.acting.test_rule.Goals as goal

pub test-requires : goal.test-requires
test-requires g c = c.requires.there

pub returns-in-Ok-test-clause-acts : goal.returns-in-Ok-test-clause-acts
returns-in-Ok-test-clause-acts g c =
    let at = g.O.Doer.place c.args.doer.now in
    tested (rules_of c.args.rules.now) (env_of c.args.env.now) c.args.frames.now c.args.rule c.in-Ok-test.holds at c.requires.asked
    (c.in-Ok-test.ensures at.grid (sym c.in-Ok.ensures.size))

pub returns-in-Err-clause-makes : goal.returns-in-Err-clause-makes
returns-in-Err-clause-makes g c = inr (none_made g.O.Doer.went _ c.args.doer.now (g.met.O.Doer.begins c.args.doer.now), c.in-Err.ensures.stopped)

pub returns-in-Err-test-clause-makes : goal.returns-in-Err-test-clause-makes
returns-in-Err-test-clause-makes g c = none_made g.O.Doer.went _ c.args.doer.now (g.met.O.Doer.begins c.args.doer.now)

pub returns-in-Ok-test-clause-makes : goal.returns-in-Ok-test-clause-makes
returns-in-Ok-test-clause-makes g c = none_made g.O.Doer.went _ c.args.doer.now (g.met.O.Doer.begins c.args.doer.now)
