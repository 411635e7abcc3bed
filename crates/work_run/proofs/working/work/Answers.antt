use Rattle.std.proofs.Common.{[]}
use Rattle.deed_run.specs.Puts.{does_op}
use Rattle.grid_model.specs.RowGrids.{user_name}
use Rattle.grid_model.specs.Working.{running}
use Rattle.run_laws.specs.Around.{around}
use Rattle.work_run.proofs.Next.{may_be_noted, name_by, next_by, no_source, stores_by}
use Rattle.work_run.proofs.working.work.Goals as goal

pub dispatch-requires-clause-held : goal.dispatch-requires-clause-held
dispatch-requires-clause-held g c = c.requires.held

pub dispatch-requires-clause-user : goal.dispatch-requires-clause-user
dispatch-requires-clause-user g c = c.requires.user

pub dispatch-requires-clause-noted : goal.dispatch-requires-clause-noted
dispatch-requires-clause-noted g c = may_be_noted c.args.command.now c.requires.keepable.0 c.requires.keepable.1 c.are_short.ensures

pub dispatch-requires-clause-slots : goal.dispatch-requires-clause-slots
dispatch-requires-clause-slots g c = c.requires.slots

pub dispatch-requires-clause-words : goal.dispatch-requires-clause-words
dispatch-requires-clause-words g c = c.requires.words

pub dispatch-requires-clause-verb : goal.dispatch-requires-clause-verb
dispatch-requires-clause-verb g c = c.requires.verb

pub dispatch-requires-clause-ready : goal.dispatch-requires-clause-ready
dispatch-requires-clause-ready g c = c.requires.ready

pub returns-clause-step : goal.returns-clause-step
returns-clause-step g c = c.dispatch.ensures.step

pub returns-clause-refused : goal.returns-clause-refused
returns-clause-refused g c = c.dispatch.ensures.refused

pub returns-clause-quiet : goal.returns-clause-quiet
returns-clause-quiet g c = c.dispatch.ensures.quiet

pub returns-clause-files : goal.returns-clause-files
returns-clause-files g c = c.dispatch.ensures.files

pub returns-clause-number : goal.returns-clause-number
returns-clause-number g c = c.dispatch.ensures.number

pub returns-clause-passes : goal.returns-clause-passes
returns-clause-passes g c = c.dispatch.ensures.passes

pub returns-clause-drawn : goal.returns-clause-drawn
returns-clause-drawn g c = c.dispatch.ensures.drawn

pub returns-clause-next : goal.returns-clause-next
returns-clause-next g c =
    let op = c.requires.verb.0 in
    let rows = c.args.store.now in
    let x = c.args.command.now in
    next_by (around g.D.Disk.disk g.A.Ambient.ambient g.P.Plugin.plugin c.args.outside.now (g.K.Sink.sink c.args.sink.now) no_source)
    (around g.D.Disk.disk g.A.Ambient.ambient g.P.Plugin.plugin c.dispatch.new.outside (g.K.Sink.sink c.dispatch.new.sink) no_source) c.requires.held.0 rows x
    (running op) [] c.dispatch.new.command c.dispatch.new.store (does_op (user_name rows.cat x.user) op) c.dispatch.result
    (c.dispatch.ensures.step no_source c.requires.held.0 op c.requires.held.1 c.requires.verb.1) c.requires.user c.requires.keepable.0 c.requires.keepable.1

pub returns-clause-name : goal.returns-clause-name
returns-clause-name g c =
    let op = c.requires.verb.0 in
    let rows = c.args.store.now in
    let x = c.args.command.now in
    name_by (around g.D.Disk.disk g.A.Ambient.ambient g.P.Plugin.plugin c.args.outside.now (g.K.Sink.sink c.args.sink.now) no_source)
    (around g.D.Disk.disk g.A.Ambient.ambient g.P.Plugin.plugin c.dispatch.new.outside (g.K.Sink.sink c.dispatch.new.sink) no_source) c.requires.held.0 rows x
    (running op) [] c.dispatch.new.command c.dispatch.new.store (does_op (user_name rows.cat x.user) op) c.dispatch.result
    (c.dispatch.ensures.step no_source c.requires.held.0 op c.requires.held.1 c.requires.verb.1) c.requires.user

pub returns-clause-stores : goal.returns-clause-stores
returns-clause-stores g c =
    let op = c.requires.verb.0 in
    let rows = c.args.store.now in
    let x = c.args.command.now in
    stores_by (around g.D.Disk.disk g.A.Ambient.ambient g.P.Plugin.plugin c.args.outside.now (g.K.Sink.sink c.args.sink.now) no_source)
    (around g.D.Disk.disk g.A.Ambient.ambient g.P.Plugin.plugin c.dispatch.new.outside (g.K.Sink.sink c.dispatch.new.sink) no_source) c.requires.held.0 rows x
    (running op) [] c.dispatch.new.command c.dispatch.new.store (does_op (user_name rows.cat x.user) op) c.dispatch.result
    (c.dispatch.ensures.step no_source c.requires.held.0 op c.requires.held.1 c.requires.verb.1)
