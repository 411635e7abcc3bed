use Rattle.std.proofs.Common.{◌≡◌, None, refl, sym, ap, ◌∙◌, subst}
use Rattle.grid_model.specs.Names.{Text}
use Rattle.grid_model.specs.Rows.{Cat}
use Rattle.run_laws.specs.Around.{around}
use Rattle.run_open.specs.Preparing.{Prepared}
use Rattle.run_open.specs.declared.error.OpenError.TheVariants as error
use Rattle.run_open.proofs.Fronts.{opens-still, prepared-none}
use Rattle.run_open.proofs.Passing.{passes-none}
use Rattle.run_open.proofs.Ways.{stops_as}
use Rattle.run_open.proofs.preparing.prepare.Goals as goal

pub returns-in-None-clause-prepares : goal.returns-in-None-clause-prepares
returns-in-None-clause-prepares g c = λ source rules order begin rules_are.
    let cat = c.args.store.now.cat in
    let none : cat.pending ≡ None = ap (λ (x : Cat). x.pending) (sym c.tables.ensures) ∙ sym c.in-None.ensures in
    subst (λ (rest : Text). Prepared (around g.D.Disk.disk g.A.Ambient.ambient g.P.Plugin.plugin c.args.outside.now (g.K.Sink.sink c.args.sink.now) source) (around g.D.Disk.disk g.A.Ambient.ambient g.P.Plugin.plugin c.args.outside.now (g.K.Sink.sink c.args.sink.now) source) cat rules c.args.store.now rest) (sym (c.from_vec.ensures ∙ c.new.ensures.items))
    (prepared-none (around g.D.Disk.disk g.A.Ambient.ambient g.P.Plugin.plugin c.args.outside.now (g.K.Sink.sink c.args.sink.now) source) cat rules none begin rules_are order c.args.store.now refl c.requires.held)

pub returns-in-None-clause-passes : goal.returns-in-None-clause-passes
returns-in-None-clause-passes g c = passes-none g.D.Disk.disk g.P.Plugin.plugin g.K.Sink.sink _ _ c.args.outside.now c.args.sink.now (λ e. cc e) (λ e. cc e)

pub returns-in-None-clause-held : goal.returns-in-None-clause-held
returns-in-None-clause-held g c = (c.args.store.now.cat, c.requires.held)

pub returns-in_default-clause-prepares : goal.returns-in_default-clause-prepares
returns-in_default-clause-prepares g c = λ source rules order begin rules_are.
    opens-still (around g.D.Disk.disk g.A.Ambient.ambient g.P.Plugin.plugin c.args.outside.now (g.K.Sink.sink c.args.sink.now) source) c.args.store.now.cat
    rules begin order rules_are

pub returns-in_default-clause-stops : goal.returns-in_default-clause-stops
returns-in_default-clause-stops g c = λ e is. stops_as c.args.store.now.cat (g.D.Disk.disk c.args.outside.now.main) (g.D.Disk.disk c.args.outside.now.main) error.Memory e tt is

pub returns-in_default-clause-passes : goal.returns-in_default-clause-passes
returns-in_default-clause-passes g c = passes-none g.D.Disk.disk g.P.Plugin.plugin g.K.Sink.sink _ _ c.args.outside.now c.args.sink.now (λ e. cc e) (λ e. cc e)

pub returns-clause-prepares : goal.returns-clause-prepares
returns-clause-prepares g c = λ source rules order begin rules_are.
    opens-still (around g.D.Disk.disk g.A.Ambient.ambient g.P.Plugin.plugin c.args.outside.now (g.K.Sink.sink c.args.sink.now) source) c.args.store.now.cat
    rules begin order rules_are

pub returns-clause-stops : goal.returns-clause-stops
returns-clause-stops g c = λ e is. stops_as c.args.store.now.cat (g.D.Disk.disk c.args.outside.now.main) (g.D.Disk.disk c.args.outside.now.main) error.Memory e tt is

pub returns-clause-passes : goal.returns-clause-passes
returns-clause-passes g c = passes-none g.D.Disk.disk g.P.Plugin.plugin g.K.Sink.sink _ _ c.args.outside.now c.args.sink.now (λ e. cc e) (λ e. cc e)
