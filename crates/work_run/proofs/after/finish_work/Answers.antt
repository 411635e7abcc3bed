use Rattle.std.proofs.Common.{sym, ap, ◌∙◌, subst, arith, ◌^◌}
use Rattle.grid_model.specs.RowGrids.{user_name}
use Rattle.chain_core.specs.Seen.{rules_of}
use Rattle.run_laws.specs.Passes.{AreReady}
use Rattle.service_run.specs.Commands.{place_by}
use Rattle.work_run.specs.Behind.{IsBehind, Said, from_worked}
use Rattle.work_run.specs.Pointed.{AreFor, RunsAfter, begun_by, draws_by}
use Rattle.work_run.proofs.Ends.{ended_alone}
use Rattle.work_run.proofs.after.finish_work.Goals as goal

-- ---- there are rules

pub end_work-requires-clause-held : goal.end_work-requires-clause-held
end_work-requires-clause-held g c = c.requires.held

pub end_work-requires-clause-user : goal.end_work-requires-clause-user
end_work-requires-clause-user g c = c.requires.user

pub end_work-requires-clause-keepable : goal.end_work-requires-clause-keepable
end_work-requires-clause-keepable g c = c.requires.keepable

pub end_work-requires-clause-slots : goal.end_work-requires-clause-slots
end_work-requires-clause-slots g c = c.requires.slots

pub end_work-requires-clause-shown : goal.end_work-requires-clause-shown
end_work-requires-clause-shown g c = c.requires.shown

pub end_work-requires-clause-rows : goal.end_work-requires-clause-rows
end_work-requires-clause-rows g c = c.requires.rows

pub end_work-requires-clause-checked : goal.end_work-requires-clause-checked
end_work-requires-clause-checked g c = c.requires.checked

pub end_work-requires-clause-name : goal.end_work-requires-clause-name
end_work-requires-clause-name g c = subst (λ a. AreFor a (user_name c.args.store.now.cat c.args.command.user)) c.in-Some.is c.requires.name

pub end_work-requires-clause-ready : goal.end_work-requires-clause-ready
end_work-requires-clause-ready g c =
    subst (λ a. AreReady g.D.Disk.disk g.P.Plugin.plugin g.K.Sink.sink (draws_by (2 ^ 65) a) (record { outside = c.args.outside.now; sink = c.args.sink.now })) c.in-Some.is c.requires.ready

pub returns-in-Some-clause-executes : goal.returns-in-Some-clause-executes
returns-in-Some-clause-executes g c source at request before x from taken user w p text_of sent asked does_so asked_so runs amid tells behind nothing number =
    let its = subst (λ a. RunsAfter at request (rules_of c.args.rules.now) a p) c.in-Some.is runs in
    c.end_work.ensures.executes source at request before x from taken user w its.0 text_of sent asked does_so asked_so its.2 amid tells
    (subst (λ o. IsBehind at request taken (place_by c.args.store.now.cat c.args.command) c.in-Some.after.frames.begun
    (from_worked at o (record { words = c.args.words; rows = c.args.rows; sent = sent }))) its.1
    (subst (λ a. IsBehind at request taken (place_by c.args.store.now.cat c.args.command) (begun_by a)
    (from_worked at p (record { words = c.args.words; rows = c.args.rows; sent = sent }))) c.in-Some.is behind)) number

pub returns-in-Some-clause-vaults : goal.returns-in-Some-clause-vaults
returns-in-Some-clause-vaults g c place none is = absurd (let both = sym c.in-Some.is ∙ none in cc both)

pub returns-in-Some-clause-passes : goal.returns-in-Some-clause-passes
returns-in-Some-clause-passes g c = c.end_work.ensures.passes

pub returns-in-Some-clause-idle : goal.returns-in-Some-clause-idle
returns-in-Some-clause-idle g c none nothing = absurd (let both = sym c.in-Some.is ∙ none in cc both)

pub returns-in-Some-clause-drawn : goal.returns-in-Some-clause-drawn
returns-in-Some-clause-drawn g c each most = omega (arith, c.end_work.ensures.drawn each most, ap (draws_by each) c.in-Some.is)

-- ---- there are none

pub conclude-requires-clause-held : goal.conclude-requires-clause-held
conclude-requires-clause-held g c = c.requires.held

pub conclude-requires-clause-writable : goal.conclude-requires-clause-writable
conclude-requires-clause-writable g c = c.requires.shown

pub conclude-requires-clause-rows : goal.conclude-requires-clause-rows
conclude-requires-clause-rows g c = c.requires.rows

pub conclude-requires-clause-ready : goal.conclude-requires-clause-ready
conclude-requires-clause-ready g c =
    subst (λ a. AreReady g.D.Disk.disk g.P.Plugin.plugin g.K.Sink.sink (draws_by (2 ^ 65) a) (record { outside = c.args.outside.now; sink = c.args.sink.now })) c.in-None.is c.requires.ready

pub returns-in-None-clause-executes : goal.returns-in-None-clause-executes
returns-in-None-clause-executes g c source at request before x from taken user w p text_of sent asked does_so asked_so runs amid tells behind nothing number =
    let said : Said = record { words = c.args.words; rows = c.args.rows; sent = sent } in
    let place = place_by c.args.store.now.cat c.args.command in
    let none = subst (λ a. RunsAfter at request (rules_of c.args.rules.now) a p) c.in-None.is runs in
    c.conclude.ensures.executes source at request before x from taken user w text_of sent asked does_so asked_so amid tells
    (ended_alone at request taken place 0 said
    (subst (λ o. IsBehind at request taken place 0 (from_worked at o said)) none
    (subst (λ a. IsBehind at request taken place (begun_by a) (from_worked at p said)) c.in-None.is behind)))
    nothing (λ was. number)

pub returns-in-None-clause-vaults : goal.returns-in-None-clause-vaults
returns-in-None-clause-vaults g c place none is = c.conclude.ensures.vaults place is

pub returns-in-None-clause-passes : goal.returns-in-None-clause-passes
returns-in-None-clause-passes g c = c.conclude.ensures.passes

pub returns-in-None-clause-idle : goal.returns-in-None-clause-idle
returns-in-None-clause-idle g c none nothing = (c.conclude.ensures.idle nothing, c.conclude.ensures.stores)

pub returns-in-None-clause-drawn : goal.returns-in-None-clause-drawn
returns-in-None-clause-drawn g c each most = omega (arith, c.conclude.ensures.drawn, ap (draws_by each) c.in-None.is)
