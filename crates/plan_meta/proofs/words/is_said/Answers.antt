use Rattle.std.proofs.Common.{◌∙◌}
use Rattle.plan_meta.proofs.TripleRows.{said_there}
use Rattle.plan_meta.proofs.words.is_said.Goals as goal

pub returns : goal.returns
returns c = c.has_words.ensures ∙ said_there c.args.tables.now c.args.item c.args.attribute.now c.args.value.now c.args.unit.now c.triples_of.result.now c.triples_of.ensures
