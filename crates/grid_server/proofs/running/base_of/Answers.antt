use Rattle.grid_server.proofs.BaseLemmas.{checked_base, has_base}
use Rattle.grid_server.proofs.running.base_of.Goals as goal

pub returns-in-Some-clause-has : goal.returns-in-Some-clause-has
returns-in-Some-clause-has c =
    has_base c.in_ok-rules.field-0 c.in-Some.rules c.in-Some.is c.new.result c.new.ensures c.args.tables.now c.rules.result.now c.rules.ensures c.in_ok-rules.ensures.some

pub returns-in-Some-clause-checked : goal.returns-in-Some-clause-checked
returns-in-Some-clause-checked c = checked_base c.in_ok-rules.field-0 c.in-Some.rules c.in-Some.is c.new.result c.new.ensures c.in_ok-rules.ensures.checked
