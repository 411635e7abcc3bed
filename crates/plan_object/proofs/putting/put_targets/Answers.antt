use Rattle.plan_object.specs.Writing.{Wanted}
use Rattle.plan_object.proofs.PutRows.{goes_to}
use Rattle.plan_object.proofs.putting.put_targets.Goals as goal

pub returns-in-Ok-targets : goal.returns-in-Ok-targets
returns-in-Ok-targets c =
    let w : Wanted = record { path = c.args.path.now; resource = c.args.resource.now; mode = c.args.mode; size = c.args.size } in
    goes_to c.args.tables.now _ w c.in-Ok.resource c.args.word c.in-Ok-targets.leaves c.in-Ok.ensures c.in-Ok-targets.ensures.names c.in-Ok-targets.ensures.leaves
