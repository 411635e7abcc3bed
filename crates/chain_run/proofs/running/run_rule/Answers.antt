use Rattle.chain_core.specs.Running.{HasValues}
use Rattle.chain_core.specs.Seen.{rules_of}
use Rattle.grid_model.specs.Values.{Value}
use Rattle.rule_cond.specs.Scopes.{env_of}
use Rattle.std.proofs.Common.{List}
use Rattle.chain_run.specs.Calls.{stop_of}
use Rattle.chain_run.specs.Places.{course_from}
use Rattle.chain_run.specs.Runs.{ReachesEnd, IsDue, by_itself, rest_from, whole_from}
use Rattle.chain_run.proofs.Making.{none_made, until_as}
use Rattle.chain_run.proofs.Reaching.{due_as, ends_as}
use Rattle.chain_run.proofs.Turning.{IfOk-weaker}
use Rattle.chain_run.proofs.running.run_rule.Goals as goal

pub go_on-requires-clause-user : goal.go_on-requires-clause-user
go_on-requires-clause-user g c = c.requires.user

pub go_on-requires-clause-checked : goal.go_on-requires-clause-checked
go_on-requires-clause-checked g c = c.requires.checked

pub go_on-requires-clause-usable : goal.go_on-requires-clause-usable
go_on-requires-clause-usable g c = c.in-Ok.ensures.usable

pub go_on-requires-clause-asked : goal.go_on-requires-clause-asked
go_on-requires-clause-asked g c = c.in-Ok.ensures.asked

pub go_on-requires-clause-tells : goal.go_on-requires-clause-tells
go_on-requires-clause-tells g c = c.in-Ok.ensures.tells

pub returns-in-Err-clause-makes : goal.returns-in-Err-clause-makes
returns-in-Err-clause-makes g c = λ vs has. none_made g.O.Doer.went _ c.args.doer.now (g.met.O.Doer.begins c.args.doer.now)

pub returns-in-Ok-clause-ends : goal.returns-in-Ok-clause-ends
returns-in-Ok-clause-ends g c =
    let rules = rules_of c.args.rules.now in
    let env = env_of c.args.env.now in
    let entry = g.O.Doer.place c.args.doer.now in
    let left = g.O.Doer.place c.go_on.new.doer in
    let v = rest_from rules env c.start.new.self entry in
    IfOk-weaker (λ o. ReachesEnd v entry o c.go_on.new.frames left)
    (λ o. (vs : List Value) → HasValues c.args.call vs → ReachesEnd (whole_from (by_itself rules env c.args.call vs) c.args.frames.now entry) entry o c.go_on.new.frames left)
    c.go_on.result
    (λ o e vs has.
    ends_as v (whole_from (by_itself rules env c.args.call vs) c.args.frames.now entry) entry o c.go_on.new.frames left
    (λ marks. c.in-Ok.ensures.begins env vs (course_from entry marks) has) e)
    c.go_on.ensures.ends

pub returns-in-Ok-clause-makes : goal.returns-in-Ok-clause-makes
returns-in-Ok-clause-makes g c = λ vs has.
    let rules = rules_of c.args.rules.now in
    let env = env_of c.args.env.now in
    let entry = g.O.Doer.place c.args.doer.now in
    let v = rest_from rules env c.start.new.self entry in
    let w = whole_from (by_itself rules env c.args.call vs) c.args.frames.now entry in
    until_as g.O.Doer.went (IsDue rules env v entry) (IsDue rules env w entry) g.O.Doer.no_size (stop_of c.go_on.result) c.args.doer.now c.go_on.new.doer
    (λ x due. due_as rules env v w entry (λ marks. c.in-Ok.ensures.begins env vs (course_from entry marks) has) x due) c.go_on.ensures.makes
