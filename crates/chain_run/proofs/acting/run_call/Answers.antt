use Rattle.std.proofs.Common.{Some, None, inl}
use Rattle.chain_run.proofs.Answering.{ran}
use Rattle.chain_run.proofs.Turning.{call_made}
use Rattle.chain_run.proofs.acting.run_call.Goals as goal

pub returns-in-Ok-clause-acts : goal.returns-in-Ok-clause-acts
returns-in-Ok-clause-acts g c = λ rules env user.
    ran rules env c.args.frames.now c.args.call.now c.in-Ok.ran (g.O.Doer.place c.args.doer.now) (g.O.Doer.place c.perform.new.self) c.requires.asked user c.in-Ok.ensures.performs

pub returns-in-Ok-clause-makes : goal.returns-in-Ok-clause-makes
returns-in-Ok-clause-makes g c =
    call_made g.O.Doer.went c.args.doer.now c.perform.new.self c.args.frames.now (g.O.Doer.place c.args.doer.now) c.args.call.now c.undo-listed.result.now None
    (g.met.O.Doer.begins c.args.doer.now) (inl c.requires.asked) c.undo-listed.ensures c.in-Ok.ensures.goes

pub returns-in-Err-clause-makes : goal.returns-in-Err-clause-makes
returns-in-Err-clause-makes g c =
    inl (call_made g.O.Doer.went c.args.doer.now c.perform.new.self c.args.frames.now (g.O.Doer.place c.args.doer.now) c.args.call.now c.undo-listed.result.now
    (Some c.in-Err.stop) (g.met.O.Doer.begins c.args.doer.now) (inl c.requires.asked) c.undo-listed.ensures c.in-Err.ensures.goes)
