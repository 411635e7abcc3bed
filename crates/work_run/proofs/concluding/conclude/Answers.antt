use Rattle.work_run.proofs.Concluded.{concluded}
use Rattle.work_run.proofs.VaultNeeds.{ends_without}
use Rattle.work_run.proofs.concluding.conclude.Goals as goal

pub finish-requires-clause-held : goal.finish-requires-clause-held
finish-requires-clause-held g c = c.requires.held

pub finish-requires-clause-writable : goal.finish-requires-clause-writable
finish-requires-clause-writable g c = c.requires.writable

pub finish-requires-clause-rows : goal.finish-requires-clause-rows
finish-requires-clause-rows g c = c.requires.rows

pub finish-requires-clause-ready : goal.finish-requires-clause-ready
finish-requires-clause-ready g c = c.requires.ready

pub returns-clause-executes : goal.returns-clause-executes
returns-clause-executes g c source at request before x from taken user w text_of sent asked does_so asked_so amid tells its nothing number =
    concluded g.D.Disk.disk g.A.Ambient.ambient g.P.Plugin.plugin g.K.Sink.sink source at request before x asked from user w does_so asked_so
    c.works_end_by_rows.ensures text_of sent (record { outside = c.args.outside.now; sink = c.args.sink.now }) c.args.command c.args.store.now taken amid tells
    c.requires.ready.outside.main_last (record { outside = c.finish.new.outside; sink = c.finish.new.sink }) c.finish.result c.finish.new.store _ _
    c.finish.ensures.passes c.finish.ensures.ambient c.args.rows c.args.end c.finish.ensures.finishes c.finish.ensures.whole c.finish.ensures.idle its nothing
    number

pub returns-clause-vaults : goal.returns-clause-vaults
returns-clause-vaults g c place is =
    ends_without (g.D.Disk.disk c.args.outside.now.main) (g.D.Disk.disk c.finish.new.outside.main) (g.K.Sink.sink c.args.sink.now)
    (g.K.Sink.sink c.finish.new.sink) c.requires.held.0 c.args.outside.now.moments c.args.command.number c.args.store.now c.args.command _ c.finish.result
    c.finish.new.store (c.finish.ensures.finishes c.requires.held.0 c.requires.held.1) place is

pub returns-clause-passes : goal.returns-clause-passes
returns-clause-passes g c = c.finish.ensures.passes

pub returns-clause-idle : goal.returns-clause-idle
returns-clause-idle g c = c.finish.ensures.idle

pub returns-clause-stores : goal.returns-clause-stores
returns-clause-stores g c = c.finish.ensures.stores

pub returns-clause-drawn : goal.returns-clause-drawn
returns-clause-drawn g c = c.finish.ensures.drawn
