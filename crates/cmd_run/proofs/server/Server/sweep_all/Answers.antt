use Rattle.std.proofs.Common.{◌≡◌, refl, sym, ap, ◌∙◌}
use Rattle.grid_model.specs.Replies.{end_line}
use Rattle.grid_model.specs.Working.{well}
use Rattle.cmd_run.proofs.KeepLemmas.{keep_still}
use Rattle.cmd_run.proofs.LeftOrphans.{few_orphans}
use Rattle.cmd_run.proofs.Remembering.{still_remembers}
use Rattle.cmd_run.proofs.SayLemmas.{unsaid}
use Rattle.cmd_run.proofs.SweepEnds.{cut_sweep, none_waits_swept, swept_then}
use Rattle.cmd_run.proofs.SweptFew.{on_ok}
use Rattle.cmd_run.proofs.server.Server.sweep_all.Goals as goal

pub returns-in_default-clause-obeys : goal.returns-in_default-clause-obeys
returns-in_default-clause-obeys g c = λ source request says sweep.
    unsaid g.D.Disk.disk g.A.Ambient.ambient g.P.Plugin.plugin source c.args.outside.now (g.K.Sink.sink c.args.sink.now) c.args.self.now c.args.number request
    c.args.self.now c.requires.fits.held c.requires.ready.outside.main_last c.requires.ready.sink_last

pub returns-in_default-clause-whole : goal.returns-in_default-clause-whole
returns-in_default-clause-whole g c =
    keep_still g.P.Plugin.plugin c.args.self.now.store.cat c.args.outside.now.moments (g.D.Disk.disk c.args.outside.now.main) c.args.self.now.store
    c.args.outside.now.stores.items c.requires.fits.held c.requires.ready.outside.main_last

pub returns-in_default-clause-none_waits : goal.returns-in_default-clause-none_waits
returns-in_default-clause-none_waits g c = λ told settled t main d late left stands.
    let disk = c.args.outside.now.main in
    (still_remembers g.D.Disk.disk disk disk c.args.self.now.store c.args.outside.now.moments refl c.requires.ready.outside.main_last c.requires.fits.held
    c.requires.fits.pending told settled t main d late left stands).0

pub returns-in-Ok-sweep_orphans-clause-obeys : goal.returns-in-Ok-sweep_orphans-clause-obeys
returns-in-Ok-sweep_orphans-clause-obeys g c = λ source request says sweep.
    let line : c.as_slice.result.now ≡ end_line c.args.number well = c.as_slice.ensures ∙ c.in-Ok.ensures ∙ ap (end_line c.args.number) c.well.ensures.is in
    let s = c.in-Ok-sweep_orphans.ensures in
    swept_then g.D.Disk.disk g.A.Ambient.ambient g.P.Plugin.plugin source c.args.outside.now
    (record c.sweep_orphans.new.outside { moments = c.put_text.new.moments }) (g.K.Sink.sink c.args.sink.now) c.args.self.now c.sweep_orphans.new.self
    c.args.number request
    s.frame.ambient s.frame.stores c.requires.ready.sink_last _ s.leaves sweep says c.requires.fits.rules
    c.sweep_orphans.new.outside.moments (g.K.Sink.sink c.put_text.new.sink) (rw (sym line) c.put_text.ensures.put) s.frame.drawn s.stands s.frame.main.tells
    (s.frame.main_last c.requires.ready.outside.main_last) s.leaves.is_now
    c.put_text.result (rw (sym line) c.put_text.ensures.ends)

pub returns-in-Ok-sweep_orphans-clause-few : goal.returns-in-Ok-sweep_orphans-clause-few
returns-in-Ok-sweep_orphans-clause-few g c = λ source.
    let s = c.in-Ok-sweep_orphans.ensures in
    on_ok c.put_text.result (few_orphans g.D.Disk.disk g.A.Ambient.ambient g.P.Plugin.plugin (g.K.Sink.sink c.args.sink.now)
    (g.K.Sink.sink c.put_text.new.sink) source c.args.outside.now (record c.sweep_orphans.new.outside { moments = c.put_text.new.moments })
    c.args.self.now.store.cat c.sweep_orphans.new.self.store.cat
    s.frame.stores.count c.requires.slots s.stands.like.stores s.stands.fits.held.made s.few)

pub returns-in-Ok-sweep_orphans-clause-none_waits : goal.returns-in-Ok-sweep_orphans-clause-none_waits
returns-in-Ok-sweep_orphans-clause-none_waits g c =
    none_waits_swept c.args.self.now.store.cat c.sweep_orphans.new.self.store.cat c.args.outside.now.moments (g.D.Disk.disk c.args.outside.now.main)
    (g.D.Disk.disk c.sweep_orphans.new.outside.main) _ c.requires.fits.pending c.in-Ok-sweep_orphans.ensures.leaves

pub returns-clause-obeys : goal.returns-clause-obeys
returns-clause-obeys g c = λ source request says sweep.
    let s = c.in-Err.ensures in
    cut_sweep g.D.Disk.disk g.A.Ambient.ambient g.P.Plugin.plugin source c.args.outside.now c.sweep_orphans.new.outside (g.K.Sink.sink c.args.sink.now)
    c.args.self.now c.sweep_orphans.new.self c.args.number request
    s.frame.ambient s.frame.stores c.requires.ready.sink_last _ s.leaves sweep says c.requires.fits.rules c.in-Err.ending

pub returns-clause-none_waits : goal.returns-clause-none_waits
returns-clause-none_waits g c =
    none_waits_swept c.args.self.now.store.cat c.sweep_orphans.new.self.store.cat c.args.outside.now.moments (g.D.Disk.disk c.args.outside.now.main)
    (g.D.Disk.disk c.sweep_orphans.new.outside.main) _ c.requires.fits.pending c.in-Err.ensures.leaves

pub returns-clause-worn : goal.returns-clause-worn
returns-clause-worn g c = c.in-Err.ensures.worn
