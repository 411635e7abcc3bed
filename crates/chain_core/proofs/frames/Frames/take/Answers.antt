use Rattle.std.proofs.Common.{◌∙◌, sym}
use Rattle.chain_core.specs.declared.kinds.Kind.TheVariants.{Name}
use Rattle.chain_core.specs.Seen.{rules_of}
use Rattle.chain_core.proofs.Taking.{tests_takes, runs_takes, fails_takes, ended_takes}
use Rattle.chain_core.proofs.frames.Frames.take.Goals as goal

pub returns-in-Tests : goal.returns-in-Tests
returns-in-Tests c =
    tests_takes (rules_of c.args.rules.now) c.args.self.now c.tested.new.self c.args.event c.in-Tests.frame c.in-Tests.last (sym c.replace.ensures.value ∙ c.in-Tests.is) (c.tested.ensures Name)

pub returns-in-Runs : goal.returns-in-Runs
returns-in-Runs c =
    runs_takes (rules_of c.args.rules.now) c.args.self.now c.ran.new.self c.args.event c.in-Runs.call (sym c.replace.ensures.value ∙ c.in-Runs.is) (c.ran.ensures (rules_of c.args.rules.now) Name)

pub returns-in-Fails : goal.returns-in-Fails
returns-in-Fails c =
    fails_takes (rules_of c.args.rules.now) c.args.self.now c.went_back.new.self c.args.event c.in-Fails.frame c.in-Fails.failure c.in-Fails.halts
    (sym c.replace.ensures.value ∙ c.in-Fails.is) (c.went_back.ensures (rules_of c.args.rules.now) Name)

pub returns-in-Ended : goal.returns-in-Ended
returns-in-Ended c = ended_takes (rules_of c.args.rules.now) c.args.self.now _ c.args.event c.in-Ended.outcome (sym c.replace.ensures.value ∙ c.in-Ended.is) c.set.ensures
