use Rattle.std.proofs.Common.{sym, subst, arith}
use Rattle.grid_model.specs.RowGrids.{user_name}
use Rattle.grid_deed.specs.Held.{IsHeld}
use Rattle.service_run.proofs.Passing.{passes_framed}
use Rattle.service_run.proofs.SeenFiles.{slots_within}
use Rattle.service_run.proofs.SumSteps.{sum_cut, sum_took}
use Rattle.service_run.proofs.summing.chksum.Goals as goal

pub look_at_all-requires-clause-slots : goal.look_at_all-requires-clause-slots
look_at_all-requires-clause-slots g c = slots_within c.args.store.now.cat c.requires.may.read c.args.files.now _ c.requires.slots c.requires.may.files_are

pub take_looked-requires-clause-held : goal.take_looked-requires-clause-held
take_looked-requires-clause-held g c =
    let H : _ → Type 0 = λ m. IsHeld c.requires.held.0 (g.D.Disk.disk m) c.args.store.now in
    (c.requires.held.0, subst H (sym c.look_at_all.ensures.main) c.requires.held.1)

pub take_looked-requires-clause-may : goal.take_looked-requires-clause-may
take_looked-requires-clause-may g c = (user_name c.args.store.now.cat c.args.command.now.user, c.args.files.now, c.requires.may)

-- nothing but what looking gives is known of a call that came to no end
pub returns-in-Err-clause-step : goal.returns-in-Err-clause-step
returns-in-Err-clause-step g c = λ source kept call undo d held row.
    let o = c.args.outside.now in
    let ready = c.requires.ready in
    sum_cut g.D.Disk.disk g.A.Ambient.ambient g.P.Plugin.plugin source o c.look_at_all.new.outside (g.K.Sink.sink c.args.sink.now) kept c.args.store.now c.args.command.now call undo held ready.outside.main_last ready.outside.stores_last ready.sink_last c.look_at_all.ensures.main c.now-now.new.self c.look_at_all.ensures.frame
    c.look_at_all.ensures.looks c.requires.user c.args.path.now c.args.files.now c.requires.may (omega (arith, c.requires.slots, o.stores.ok.0)) c.word-word.result c.now-now.result (g.A.Ambient.ambient c.word-word.new.self) c.word-word.ensures c.now-now.ensures d row c.args.command.now c.args.store.now

pub returns-in-Err-clause-passes : goal.returns-in-Err-clause-passes
returns-in-Err-clause-passes g c = passes_framed g.D.Disk.disk g.P.Plugin.plugin g.K.Sink.sink ⊥ ⊥ c.args.outside.now c.look_at_all.new.outside c.now-now.new.self c.args.sink.now (λ e. e) c.look_at_all.ensures.frame

pub returns-in-Err-take_looked-clause-step : goal.returns-in-Err-take_looked-clause-step
returns-in-Err-take_looked-clause-step g c = λ source kept call undo d held row.
    let o = c.args.outside.now in
    let ready = c.requires.ready in
    sum_cut g.D.Disk.disk g.A.Ambient.ambient g.P.Plugin.plugin source o c.look_at_all.new.outside (g.K.Sink.sink c.args.sink.now) kept c.args.store.now c.args.command.now call undo held ready.outside.main_last ready.outside.stores_last ready.sink_last c.look_at_all.ensures.main c.now-now.new.self c.look_at_all.ensures.frame
    c.look_at_all.ensures.looks c.requires.user c.args.path.now c.args.files.now c.requires.may (omega (arith, c.requires.slots, o.stores.ok.0)) c.word-word.result c.now-now.result (g.A.Ambient.ambient c.word-word.new.self) c.word-word.ensures c.now-now.ensures d row c.take_looked.new.command c.take_looked.new.store

pub returns-in-Err-take_looked-clause-passes : goal.returns-in-Err-take_looked-clause-passes
returns-in-Err-take_looked-clause-passes g c = passes_framed g.D.Disk.disk g.P.Plugin.plugin g.K.Sink.sink ⊥ ⊥ c.args.outside.now c.look_at_all.new.outside c.now-now.new.self c.args.sink.now (λ e. e) c.look_at_all.ensures.frame

pub returns-in-Ok-take_looked-clause-step : goal.returns-in-Ok-take_looked-clause-step
returns-in-Ok-take_looked-clause-step g c = λ source kept call undo d held row.
    let o = c.args.outside.now in
    let n = c.look_at_all.new.outside in
    let rows = c.args.store.now in
    let ready = c.requires.ready in
    let H : _ → Type 0 = λ m. IsHeld kept (g.D.Disk.disk m) rows in
    let took = c.in-Ok-take_looked.ensures kept (user_name rows.cat c.args.command.now.user) c.args.files.now (subst H (sym c.look_at_all.ensures.main) held) c.requires.may in
    sum_took g.D.Disk.disk g.A.Ambient.ambient g.P.Plugin.plugin source o n (g.K.Sink.sink c.args.sink.now) kept rows c.args.command.now call undo held ready.outside.main_last ready.outside.stores_last ready.sink_last c.look_at_all.ensures.main c.now-now.new.self c.look_at_all.ensures.frame
    c.look_at_all.ensures.looks c.requires.user c.args.path.now c.args.files.now c.requires.may (omega (arith, c.requires.slots, o.stores.ok.0)) c.word-word.result c.now-now.result (g.A.Ambient.ambient c.word-word.new.self) c.word-word.ensures c.now-now.ensures d row
    c.take_looked.new.command c.take_looked.new.store c.in-Ok.looked c.in-Ok-take_looked.ran c.in-Ok.ensures.says took

pub returns-in-Ok-take_looked-clause-passes : goal.returns-in-Ok-take_looked-clause-passes
returns-in-Ok-take_looked-clause-passes g c = passes_framed g.D.Disk.disk g.P.Plugin.plugin g.K.Sink.sink ⊥ ⊥ c.args.outside.now c.look_at_all.new.outside c.now-now.new.self c.args.sink.now (λ e. e) c.look_at_all.ensures.frame
