use Rattle.std.proofs.Common.{Some, None, inl, inr}
use Rattle.chain_run.proofs.Answering.{undone}
use Rattle.chain_run.proofs.Turning.{call_made}
use Rattle.chain_run.proofs.acting.run_recovery.Goals as goal

pub last_recovery-call-requires : goal.last_recovery-call-requires
last_recovery-call-requires g c = c.requires.listed

pub returns-in-Ok-clause-acts : goal.returns-in-Ok-clause-acts
returns-in-Ok-clause-acts g c = λ rules env user.
    undone rules env c.args.frames.now c.last_recovery-call.ensures.0 c.last_recovery-call.result.now c.in-Ok.failure (g.O.Doer.place c.args.doer.now)
    (g.O.Doer.place c.undo.new.self) c.requires.asked c.last_recovery-call.ensures.1 user c.in-Ok.ensures.recovers

pub returns-in-Ok-clause-makes : goal.returns-in-Ok-clause-makes
returns-in-Ok-clause-makes g c =
    call_made g.O.Doer.went c.args.doer.now c.undo.new.self c.args.frames.now (g.O.Doer.place c.args.doer.now) c.last_recovery-call.result.now
    c.undo-listed.result.now None (g.met.O.Doer.begins c.args.doer.now)
    (inr (c.last_recovery-call.ensures.0, c.requires.asked, c.last_recovery-call.ensures.1)) c.undo-listed.ensures c.in-Ok.ensures.goes

pub returns-in-Err-clause-makes : goal.returns-in-Err-clause-makes
returns-in-Err-clause-makes g c =
    inl (call_made g.O.Doer.went c.args.doer.now c.undo.new.self c.args.frames.now (g.O.Doer.place c.args.doer.now) c.last_recovery-call.result.now
    c.undo-listed.result.now (Some c.in-Err.stop) (g.met.O.Doer.begins c.args.doer.now)
    (inr (c.last_recovery-call.ensures.0, c.requires.asked, c.last_recovery-call.ensures.1)) c.undo-listed.ensures c.in-Err.ensures.goes)
