use Rattle.chain_core.specs.Seen.{rules_of}
use Rattle.chain_core.proofs.Asking.{on_ok, told, usable_start, begins}
use Rattle.chain_core.proofs.frames.Frames.start.Goals as goal

pub returns-clause-tells : goal.returns-clause-tells
returns-clause-tells c =
    told (rules_of c.args.rules.now) c.ask.new.self c.ask.result c.ask.ensures.asked
    (usable_start (rules_of c.args.rules.now) c.args.self.now c.begin.new.self c.ask.new.self c.args.what c.in_ok-begin.ensures c.ask.ensures.settles)

pub returns-clause-usable : goal.returns-clause-usable
returns-clause-usable c =
    on_ok c.ask.result (usable_start (rules_of c.args.rules.now) c.args.self.now c.begin.new.self c.ask.new.self c.args.what c.in_ok-begin.ensures c.ask.ensures.settles)

pub returns-clause-begins : goal.returns-clause-begins
returns-clause-begins c =
    on_ok c.ask.result (begins (rules_of c.args.rules.now) c.args.self.now c.begin.new.self c.ask.new.self c.args.what c.in_ok-begin.ensures c.ask.ensures.settles)
