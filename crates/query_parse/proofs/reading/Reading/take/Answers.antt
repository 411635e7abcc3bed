use Rattle.std.proofs.Common.{sym, subst, ◌∙◌}
use Rattle.query_parse.specs.Seen.{meaning}
use Rattle.query_parse.specs.Stages.{QueryProgress, LeadsByToken}
use Rattle.query_parse.specs.declared.stage.Stage.TheVariants.{BehindCond}
use Rattle.query_parse.proofs.ParseLemmas.{asked}
use Rattle.query_parse.proofs.reading.Reading.take.Goals as goal

pub returns-in_ok-push-in-Ask-clause-taken : goal.returns-in_ok-push-in-Ask-clause-taken
returns-in_ok-push-in-Ask-clause-taken c = λ _.
    let before : QueryProgress = record { stage = c.self.inside.stage; columns = c.self.inside.columns.items; conds = c.self.inside.conds.items } in
    let after : QueryProgress = record { stage = BehindCond; columns = c.self.inside.columns.items; conds = c.push-in-Ask.new.self.items } in
    subst (λ p. LeadsByToken p (meaning c.args.kind) after) c.self.view_is
    (asked before (meaning c.args.kind) c.in-Ask.cond c.push-in-Ask.new.self.items (sym c.step_from.ensures ∙ c.in-Ask.is) (c.in_ok-fits-in-Ask.ensures.0 c.if-not-branch.false) c.in_ok-push-in-Ask.ensures.items)
