use Rattle.std.proofs.Common.{◌≡◌, ◌∙◌, get_or, subst, List, ap, sym}
use Rattle.grid_model.specs.declared.rules.Rule.{Rule}
use Rattle.grid_model.specs.declared.rules.Step.{Step}
use Rattle.chain_run.proofs.Lists.{at_step, in_rules, in_steps}
use Rattle.chain_run.proofs.Checking.{step_fits}
use Rattle.chain_run.proofs.computing.step_at.Goals as goal

pub returns-clause-step : goal.returns-clause-step
returns-clause-step c =
    let rule = c.index-rules-rule.result in
    let step = c.index-steps-step.result in
    at_step c.args.rules.now.rules c.args.rule c.args.step rule step
    (subst (λ (xs : List Rule). rule ≡ get_or xs c.args.rule rule) (c.as_slice-rules.ensures ∙ c.rules.ensures) c.index-rules-rule.is)
    (subst (λ (xs : List Step). step ≡ get_or xs c.args.step step) (c.as_slice-steps.ensures ∙ ap (λ (r : Rule). r.steps) (sym c.index-rules-rule.is)) c.index-steps-step.is) c.requires

pub returns-clause-fails : goal.returns-clause-fails
returns-clause-fails c = λ none.
    let rule = c.index-rules-rule.result in
    let step = c.index-steps-step.result in
    let is = subst (λ (xs : List Rule). rule ≡ get_or xs c.args.rule rule) (c.as_slice-rules.ensures ∙ c.rules.ensures) c.index-rules-rule.is in
    step_fits c.args.rules.now.rules c.args.rule c.args.step rule step none (in_rules c.args.rules.now.rules c.args.rule c.args.step c.requires) is
    (in_steps c.args.rules.now.rules c.args.rule c.args.step rule is c.requires)
    (subst (λ (xs : List Step). step ≡ get_or xs c.args.step step) (c.as_slice-steps.ensures ∙ ap (λ (r : Rule). r.steps) (sym c.index-rules-rule.is)) c.index-steps-step.is)
