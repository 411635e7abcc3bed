use Rattle.plan_object.proofs.CopyRows.{may_copy, no_copy, no_source}
use Rattle.plan_object.proofs.copying.copy_source.Goals as goal

pub returns-in-Err : goal.returns-in-Err
returns-in-Err c = no_source c.args.tables.now _ c.args.from.now c.args.to.now c.args.resource.now c.in-Err.refusal c.in-Err.ensures

pub returns-in-Err-check_put : goal.returns-in-Err-check_put
returns-in-Err-check_put c =
    no_copy c.args.tables.now _ c.args.from.now c.args.to.now c.args.resource.now c.in-Ok.file c.in-Ok.ensures c.in-Err-check_put.error c.in-Err-check_put.ensures

pub returns-in-Ok-check_put : goal.returns-in-Ok-check_put
returns-in-Ok-check_put c =
    may_copy c.args.tables.now _ c.args.from.now c.args.to.now c.args.resource.now c.in-Ok.file c.in-Ok.ensures c.requires.made _ c.in-Ok-check_put.ensures
