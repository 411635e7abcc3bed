use Rattle.std.proofs.Common.{◌≡◌, ◌∙◌, [], ◌∷◌, length, refl, sym, ap, subst, arith, length-append}
use Rattle.chain_core.specs.Answers.{Tells}
use Rattle.chain_core.specs.Seen.{rules_of}
use Rattle.grid_model.specs.RuleText.{Rule}
use Rattle.grid_model.specs.Values.{Env}
use Rattle.rule_cond.specs.Scopes.{env_of}
use Rattle.std.specs.Prelude.{List}
use Rattle.chain_run.specs.Runs.{DoesAction}
use Rattle.chain_run.specs.declared.acting.Acted.{Acted}
use Rattle.chain_run.proofs.Making.{none_made}
use Rattle.chain_run.proofs.Turning.{IfOk-weaker}
use Rattle.chain_run.proofs.acting.act.Goals as goal

pub test_rule-requires-clause-asked : goal.test_rule-requires-clause-asked
test_rule-requires-clause-asked g c = sym c.requires.asked ∙ c.in-Test.is

pub test_rule-requires-clause-there : goal.test_rule-requires-clause-there
test_rule-requires-clause-there g c = subst (Tells (rules_of c.args.rules.now) c.args.frames.now) c.in-Test.is c.requires.tells

pub compute_args-requires-clause-asked : goal.compute_args-requires-clause-asked
compute_args-requires-clause-asked g c = sym c.requires.asked ∙ c.in-Eval.is

pub compute_args-requires-clause-there : goal.compute_args-requires-clause-there
compute_args-requires-clause-there g c = subst (Tells (rules_of c.args.rules.now) c.args.frames.now) c.in-Eval.is c.requires.tells

pub compute_args-requires-clause-checked : goal.compute_args-requires-clause-checked
compute_args-requires-clause-checked g c = c.requires.checked

pub run_call-requires-clause-asked : goal.run_call-requires-clause-asked
run_call-requires-clause-asked g c = sym c.requires.asked ∙ c.in-Run.is

pub run_recovery-requires-clause-asked : goal.run_recovery-requires-clause-asked
run_recovery-requires-clause-asked g c = sym c.requires.asked ∙ c.in-Undo.is

pub run_recovery-requires-clause-listed : goal.run_recovery-requires-clause-listed
run_recovery-requires-clause-listed g c =
    let told = subst (Tells (rules_of c.args.rules.now) c.args.frames.now) c.in-Undo.is c.requires.tells in
    omega (arith, ap length told.2, length-append told.0 (told.1 ∷ []))

pub returns-in-End-clause-acts : goal.returns-in-End-clause-acts
returns-in-End-clause-acts g c = (sym c.requires.asked ∙ c.in-End.is, refl)

pub returns-in-End-clause-makes : goal.returns-in-End-clause-makes
returns-in-End-clause-makes g c = none_made g.O.Doer.went _ c.args.doer.now (g.met.O.Doer.begins c.args.doer.now)

pub returns-in-Test-clause-acts : goal.returns-in-Test-clause-acts
returns-in-Test-clause-acts g c = c.test_rule.ensures.acts

pub returns-in-Test-clause-makes : goal.returns-in-Test-clause-makes
returns-in-Test-clause-makes g c = c.test_rule.ensures.makes

pub returns-in-Eval-clause-acts : goal.returns-in-Eval-clause-acts
returns-in-Eval-clause-acts g c = c.compute_args.ensures.acts

pub returns-in-Eval-clause-makes : goal.returns-in-Eval-clause-makes
returns-in-Eval-clause-makes g c = c.compute_args.ensures.makes

pub returns-in-Run-clause-acts : goal.returns-in-Run-clause-acts
returns-in-Run-clause-acts g c =
    let at = g.O.Doer.place c.args.doer.now in
    let left = g.O.Doer.place c.run_call.new.doer in
    IfOk-weaker (λ (a : Acted). (rules : List Rule) (env : Env) → env.user ≡ at.user → DoesAction rules env c.args.frames.now a at left)
    (λ (a : Acted). DoesAction (rules_of c.args.rules.now) (env_of c.args.env.now) c.args.frames.now a at left) c.run_call.result
    (λ a acts. acts (rules_of c.args.rules.now) (env_of c.args.env.now) (sym c.requires.user)) c.run_call.ensures.acts

pub returns-in-Run-clause-makes : goal.returns-in-Run-clause-makes
returns-in-Run-clause-makes g c = c.run_call.ensures.makes

pub returns-in-Undo-clause-acts : goal.returns-in-Undo-clause-acts
returns-in-Undo-clause-acts g c =
    let at = g.O.Doer.place c.args.doer.now in
    let left = g.O.Doer.place c.run_recovery.new.doer in
    IfOk-weaker (λ (a : Acted). (rules : List Rule) (env : Env) → env.user ≡ at.user → DoesAction rules env c.args.frames.now a at left)
    (λ (a : Acted). DoesAction (rules_of c.args.rules.now) (env_of c.args.env.now) c.args.frames.now a at left) c.run_recovery.result
    (λ a acts. acts (rules_of c.args.rules.now) (env_of c.args.env.now) (sym c.requires.user)) c.run_recovery.ensures.acts

pub returns-in-Undo-clause-makes : goal.returns-in-Undo-clause-makes
returns-in-Undo-clause-makes g c = c.run_recovery.ensures.makes
