use Rattle.std.proofs.Common.{ap, ◌∙◌}
use Rattle.cmd_run.specs.Sweeping.{orphan_files}
use Rattle.cmd_run.proofs.KeepLemmas.{keep_still}
use Rattle.cmd_run.proofs.SweepEnds.{not_sink_forgot, stands_on, worn_forgot}
use Rattle.cmd_run.proofs.SweepLemmas.{forgets_main, still_main}
use Rattle.cmd_run.proofs.server.Server.sweep_orphans.Goals as goal

pub returns-in_default-clause-leaves : goal.returns-in_default-clause-leaves
returns-in_default-clause-leaves g c =
    still_main c.args.self.now.store.cat _ c.args.outside.now.moments (g.D.Disk.disk c.args.outside.now.main) c.args.self.now.store _ c.requires.fits.held
    c.requires.ready.main_last

pub returns-in_default-clause-whole : goal.returns-in_default-clause-whole
returns-in_default-clause-whole g c =
    keep_still g.P.Plugin.plugin c.args.self.now.store.cat c.args.outside.now.moments (g.D.Disk.disk c.args.outside.now.main) c.args.self.now.store
    c.args.outside.now.stores.items c.requires.fits.held c.requires.ready.main_last

pub returns-then-as_slice-gt-MANY-clause-leaves : goal.returns-then-as_slice-gt-MANY-clause-leaves
returns-then-as_slice-gt-MANY-clause-leaves g c =
    still_main c.args.self.now.store.cat _ c.args.outside.now.moments (g.D.Disk.disk c.args.outside.now.main) c.args.self.now.store _ c.requires.fits.held
    c.requires.ready.main_last

pub returns-then-as_slice-gt-MANY-clause-whole : goal.returns-then-as_slice-gt-MANY-clause-whole
returns-then-as_slice-gt-MANY-clause-whole g c =
    keep_still g.P.Plugin.plugin c.args.self.now.store.cat c.args.outside.now.moments (g.D.Disk.disk c.args.outside.now.main) c.args.self.now.store
    c.args.outside.now.stores.items c.requires.fits.held c.requires.ready.main_last

pub forget-requires-clause-all : goal.forget-requires-clause-all
forget-requires-clause-all g c = c.in-Ok.ensures ∙ ap orphan_files c.tables.ensures

pub returns-clause-stands : goal.returns-clause-stands
returns-clause-stands g c =
    let f = c.forget.ensures in
    stands_on c.args.outside.now.moments (g.D.Disk.disk c.args.outside.now.main) (g.D.Disk.disk c.forget.new.outside.main) c.args.self.now c.forget.new.self
    c.requires.fits f.sessions f.rules c.forget.result f.forgets

pub returns-clause-leaves : goal.returns-clause-leaves
returns-clause-leaves g c =
    forgets_main c.args.self.now.store.cat c.args.outside.now.moments (g.D.Disk.disk c.args.outside.now.main) (g.D.Disk.disk c.forget.new.outside.main)
    c.forget.result c.forget.new.self c.forget.ensures.forgets

pub returns-clause-worn : goal.returns-clause-worn
returns-clause-worn g c =
    worn_forgot c.args.self.now.store.cat c.args.outside.now.moments (g.D.Disk.disk c.args.outside.now.main) (g.D.Disk.disk c.forget.new.outside.main)
    c.forget.result c.forget.new.self c.forget.ensures.forgets

pub returns-clause-not_sink : goal.returns-clause-not_sink
returns-clause-not_sink g c =
    not_sink_forgot c.args.self.now.store.cat c.args.outside.now.moments (g.D.Disk.disk c.args.outside.now.main) (g.D.Disk.disk c.forget.new.outside.main)
    c.forget.result c.forget.new.self c.forget.ensures.forgets
