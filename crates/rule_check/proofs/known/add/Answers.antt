use Rattle.rule_check.proofs.TableLemmas.{text_added}
use Rattle.rule_check.proofs.known.add.Goals as goal

pub returns-clause-added : goal.returns-clause-added
returns-clause-added c = text_added c.args.set.now c.insert_full.new.self c.args.text.now (λ q. c.in_ok-fresh.ensures.updates.0 q)
