use Rattle.std.proofs.Common.{ap}
use Rattle.std.specs.Prelude.{is_ok}
use Rattle.grid_model.specs.RowGrids.{grid_of}
use Rattle.grid_journal.proofs.KeptDeltas.{plain_kept}
use Rattle.service_run.proofs.ChangeSteps.{changes_cut, changes_made}
use Rattle.service_run.proofs.changing.change.Goals as goal

pub stage-requires-clause-apply : goal.stage-requires-clause-apply
stage-requires-clause-apply g c = ap is_ok c.requires.led.1.applied

pub stage-requires-clause-spelled : goal.stage-requires-clause-spelled
stage-requires-clause-spelled g c = plain_kept c.args.deltas c.requires.led.1.spelled

pub returns-in-Err-clause-step : goal.returns-in-Err-clause-step
returns-in-Err-clause-step g c = λ source kept after call undo does held led makes within.
    let ready = c.requires.ready in
    changes_cut g.D.Disk.disk g.A.Ambient.ambient g.P.Plugin.plugin source c.args.outside.now (g.K.Sink.sink c.args.sink.now) kept c.args.store.now c.args.command.now call undo held ready.outside.main_last ready.sink_last does c.stage.new.store

pub returns-in-Ok-clause-step : goal.returns-in-Ok-clause-step
returns-in-Ok-clause-step g c = λ source kept after call undo does held led makes within.
    let ready = c.requires.ready in
    changes_made g.D.Disk.disk g.A.Ambient.ambient g.P.Plugin.plugin source c.args.outside.now (g.K.Sink.sink c.args.sink.now) kept c.args.store.now c.args.command.now call undo held ready.outside.main_last ready.sink_last does
    c.requires.user after c.args.deltas led makes within c.stage.new.store (c.in-Ok.ensures kept after held led.applied)

pub returns-in-Err-clause-grid : goal.returns-in-Err-clause-grid
returns-in-Err-clause-grid g c after led = tt

pub returns-in-Ok-clause-grid : goal.returns-in-Ok-clause-grid
returns-in-Ok-clause-grid g c after led = ap grid_of (c.in-Ok.ensures c.requires.held.0 after c.requires.held.1 led.applied).cat
