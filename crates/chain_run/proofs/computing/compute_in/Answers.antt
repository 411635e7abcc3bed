use Rattle.chain_run.proofs.Computed.{step_alone, step_with}
use Rattle.chain_run.proofs.computing.compute_in.Goals as goal

pub returns-in-None : goal.returns-in-None
returns-in-None c = λ g has.
    step_alone c.args.scope.now g has c.look_at_size.ensures c.args.step.now c.in-Ok.call c.in-None.is c.requires c.look_at_alone.ensures
    (c.in-Ok.ensures.call g has) c.in-Ok.ensures.short

pub returns-in-Ok-compute : goal.returns-in-Ok-compute
returns-in-Ok-compute c = λ g has.
    step_with c.args.scope.now g has c.look_at_size.ensures c.args.step.now c.in-Ok.call c.in-Ok-compute.recovery c.in-Some.recovery c.in-Some.is c.requires
    c.look_at_alone.ensures (c.in-Ok.ensures.call g has) c.in-Ok.ensures.short (c.in-Ok-compute.ensures.call g has) c.in-Ok-compute.ensures.short
