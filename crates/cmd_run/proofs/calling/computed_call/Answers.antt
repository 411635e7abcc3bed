use Rattle.std.proofs.Common.{refl, ◌∙◌}
use Rattle.cmd_run.proofs.CallTexts.{computed_all, long_all}
use Rattle.cmd_run.proofs.calling.computed_call.Goals as goal

pub returns-clause-call : goal.returns-clause-call
returns-clause-call c =
    computed_all _ c.args.env.now.user c.requires.env (c.from_vec-none.ensures ∙ c.new.ensures.items) (c.from_vec-none.ensures ∙ c.new.ensures.items) refl
    c.args.call.now c.requires.fits c.look_at_alone.ensures c.compute.result c.compute.ensures.call c.compute.ensures.short

pub returns-clause-long : goal.returns-clause-long
returns-clause-long c =
    long_all _ c.args.env.now.user c.requires.env (c.from_vec-none.ensures ∙ c.new.ensures.items) (c.from_vec-none.ensures ∙ c.new.ensures.items) refl
    c.args.call.now c.compute.result c.compute.ensures.long
