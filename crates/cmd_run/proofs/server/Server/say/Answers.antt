use Rattle.std.proofs.Common.{[], refl, sym, subst}
use Rattle.grid_journal.specs.Journal.{Journal}
use Rattle.grid_deed.specs.Held.{IsHeld}
use Rattle.cmd_run.proofs.KeepLemmas.{keep_still}
use Rattle.cmd_run.proofs.SayLemmas.{said_so, unsaid}
use Rattle.cmd_run.proofs.Remembering.{still_remembers}
use Rattle.cmd_run.proofs.server.Server.say.Goals as goal

pub returns-in_default-clause-obeys : goal.returns-in_default-clause-obeys
returns-in_default-clause-obeys g c = λ source request before same says.
    let H : Journal → Type 0 = λ s. IsHeld s.cat (g.D.Disk.disk c.args.outside.now.main) s in
    unsaid g.D.Disk.disk g.A.Ambient.ambient g.P.Plugin.plugin source c.args.outside.now (g.K.Sink.sink c.args.sink.now) before c.args.number request
    c.args.self.now (subst H (sym same) c.requires.fits.held) c.requires.ready.outside.main_last c.requires.ready.sink_last

pub returns-clause-obeys : goal.returns-clause-obeys
returns-clause-obeys g c = λ source request before same says.
    said_so g.D.Disk.disk g.A.Ambient.ambient g.P.Plugin.plugin source c.args.outside.now (record c.args.outside.now { moments = c.put_text.new.moments })
    (g.K.Sink.sink c.args.sink.now) (g.K.Sink.sink c.put_text.new.sink) before c.args.self.now c.args.number request [] [] c.args.end refl refl refl same
    c.requires.fits c.requires.ready.outside.main_last c.requires.ready.sink_last says
    c.put_text.result (rw (sym c.in-Ok.ensures, sym c.as_slice.ensures) c.put_text.ensures.put)
    (rw (sym c.in-Ok.ensures, sym c.as_slice.ensures) c.put_text.ensures.ends)

pub returns-in_default-clause-whole : goal.returns-in_default-clause-whole
returns-in_default-clause-whole g c =
    keep_still g.P.Plugin.plugin c.args.self.now.store.cat c.args.outside.now.moments (g.D.Disk.disk c.args.outside.now.main) c.args.self.now.store
    c.args.outside.now.stores.items c.requires.fits.held c.requires.ready.outside.main_last

pub returns-clause-whole : goal.returns-clause-whole
returns-clause-whole g c =
    keep_still g.P.Plugin.plugin c.args.self.now.store.cat c.args.outside.now.moments (g.D.Disk.disk c.args.outside.now.main) c.args.self.now.store
    c.args.outside.now.stores.items c.requires.fits.held c.requires.ready.outside.main_last

pub returns-in_default-clause-remembers : goal.returns-in_default-clause-remembers
returns-in_default-clause-remembers g c =
    let main = c.args.outside.now.main in
    still_remembers g.D.Disk.disk main main c.args.self.now.store c.args.outside.now.moments refl c.requires.ready.outside.main_last c.requires.fits.held
    c.requires.fits.pending

pub returns-clause-remembers : goal.returns-clause-remembers
returns-clause-remembers g c =
    let main = c.args.outside.now.main in
    still_remembers g.D.Disk.disk main main c.args.self.now.store c.args.outside.now.moments refl c.requires.ready.outside.main_last c.requires.fits.held
    c.requires.fits.pending
