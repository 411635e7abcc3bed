use Rattle.chain_core.specs.Seen.{rules_of}
use Rattle.chain_core.proofs.Asking.{on_ok, told, usable_next, continues, ends}
use Rattle.chain_core.proofs.frames.Frames.next.Goals as goal

pub returns-clause-tells : goal.returns-clause-tells
returns-clause-tells c =
    told (rules_of c.args.rules.now) c.ask.new.self c.ask.result c.ask.ensures.asked
    (usable_next (rules_of c.args.rules.now) c.args.self.now c.take.new.self c.ask.new.self c.args.event c.requires c.in_ok-take.ensures c.ask.ensures.settles)

pub returns-clause-usable : goal.returns-clause-usable
returns-clause-usable c =
    on_ok c.ask.result (usable_next (rules_of c.args.rules.now) c.args.self.now c.take.new.self c.ask.new.self c.args.event c.requires c.in_ok-take.ensures c.ask.ensures.settles)

pub returns-clause-continues : goal.returns-clause-continues
returns-clause-continues c =
    on_ok c.ask.result (continues (rules_of c.args.rules.now) c.args.self.now c.take.new.self c.ask.new.self c.args.event c.requires c.in_ok-take.ensures c.ask.ensures.settles)

pub returns-clause-ends : goal.returns-clause-ends
returns-clause-ends c =
    on_ok c.ask.result (ends (rules_of c.args.rules.now) c.args.self.now c.take.new.self c.ask.new.self c.args.event c.requires c.in_ok-take.ensures c.ask.ensures.settles)
