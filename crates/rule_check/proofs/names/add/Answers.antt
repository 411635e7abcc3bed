use Rattle.std.proofs.Common.{sym}
use Rattle.rule_check.proofs.TableLemmas.{name_added, name_kept}
use Rattle.rule_check.proofs.names.add.Goals as goal

pub returns-in-Some : goal.returns-in-Some
returns-in-Some c = name_kept c.args.counts.now c.args.name.now c.args.count c.in-Some.field-0.now (sym c.in-Some.ensures.value)

pub returns-in_ok-insert-in-None : goal.returns-in_ok-insert-in-None
returns-in_ok-insert-in-None c =
    name_added c.args.counts.now c.insert.new.self c.args.name.now c.args.count (sym c.in-None.ensures.value) c.in_ok-insert-in-None.ensures.updates
