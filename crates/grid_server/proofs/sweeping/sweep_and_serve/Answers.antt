use Rattle.std.proofs.Common.{◌≡◌, IsTrue, Err, sym, ap, ◌∙◌, subst, arith}
use Rattle.grid_outside.specs.declared.outside.Wear.TheVariants as wear
use Rattle.cmd_run.specs.declared.server.Ending.TheVariants as ending
use Rattle.grid_server.specs.RunEnds.{run_end_of}
use Rattle.grid_server.specs.Serving.{EndsBegun}
use Rattle.grid_server.specs.Turning.{status_of}
use Rattle.grid_server.specs.declared.status.Status.TheVariants as status
use Rattle.grid_server.proofs.RunLemmas.{took_none}
use Rattle.grid_server.proofs.StatusLemmas.{no_long}
use Rattle.grid_server.proofs.SweepingLemmas.{begun_by, disk_of, ended_as, ends_begun, not_source, not_vaults, passes_swept, serves_swept, sink_of, worn_of, worn_swept}
use Rattle.grid_server.proofs.ViewLemmas.{passes_as, passes_then, read_same}
use Rattle.grid_server.proofs.sweeping.sweep_and_serve.Goals as goal

pub sweep_orphans-requires-clause-ready : goal.sweep_orphans-requires-clause-ready
sweep_orphans-requires-clause-ready g c =
    record { main_last = c.requires.ready.outside.main_last; stores_last = c.requires.ready.outside.stores_last; room = omega (arith, c.requires.ready.outside.room) }

pub serve_all-requires-clause-slots : goal.serve_all-requires-clause-slots
serve_all-requires-clause-slots g c =
    omega (arith, c.in-Ok.ensures.stands.like.stores, c.requires.slots, c.in-Ok.ensures.frame.stores.count, c.sweep_orphans.new.outside.stores.ok.0, c.args.outside.now.stores.ok.0)

pub serve_all-requires-clause-spare_last : goal.serve_all-requires-clause-spare_last
serve_all-requires-clause-spare_last g c = omega (arith, c.requires.spare_last, c.in-Ok.ensures.frame.drawn, ap (λ d. (g.D.Disk.disk d).last) c.in-Ok.ensures.frame.spare)

pub serve_all-requires-clause-ready : goal.serve_all-requires-clause-ready
serve_all-requires-clause-ready g c = record {
  outside = record {
    main_last = c.in-Ok.ensures.frame.main_last c.requires.ready.outside.main_last;
    stores_last = c.in-Ok.ensures.frame.stores_last c.requires.ready.outside.stores_last;
    room = omega (arith, c.requires.ready.outside.room, c.in-Ok.ensures.drawn);
  };
  sink_last = omega (arith, c.requires.ready.sink_last, c.in-Ok.ensures.frame.drawn);
}

pub returns-in-Ok-clause-serves : goal.returns-in-Ok-clause-serves
returns-in-Ok-clause-serves g c = λ e found end opened its.
    c.serve_all.ensures.serves e found end
    (begun_by
    (record { disk = g.D.Disk.disk; source = g.S.Source.source; sink = g.K.Sink.sink; ambient = g.A.Ambient.ambient; plugin = g.P.Plugin.plugin })
    (record { outside = c.args.outside.now; source = c.args.source.now; sink = c.args.sink.now })
    c.sweep_orphans.new.outside c.args.server
    (record {
      main_last = c.requires.ready.outside.main_last;
      spare_last = c.requires.spare_last;
      sink_last = c.requires.ready.sink_last;
      stores_last = c.requires.ready.outside.stores_last;
    })
    _ c.in-Ok.ensures.frame c.in-Ok.ensures.whole _ c.sweep_orphans.new.self.store.cat c.in-Ok.ensures.leaves c.in-Ok.ensures.drawn
    c.requires.fits.pending e found opened
    c.sweep_orphans.new.self c.in-Ok.ensures.leaves.is_now c.in-Ok.ensures.stands c.requires.nobody c.requires.slots c.in-Ok.ensures.few
    (λ none. c.in-Ok.ensures.still none)) its

pub returns-in-Ok-clause-worn_only : goal.returns-in-Ok-clause-worn_only
returns-in-Ok-clause-worn_only g c = λ what place is told. c.serve_all.ensures.worn_only what place is (subst IsTrue (sym c.in-Ok.ensures.frame.main.tells) told)

pub returns-in-Ok-clause-passes : goal.returns-in-Ok-clause-passes
returns-in-Ok-clause-passes g c =
    passes_then (record { disk = g.D.Disk.disk; source = g.S.Source.source; sink = g.K.Sink.sink; ambient = g.A.Ambient.ambient; plugin = g.P.Plugin.plugin }) _ ⊥ (c.serve_all.result ≡ status.DiskFault) (c.serve_all.result ≡ status.SinkFault) (record { outside = c.args.outside.now; source = c.args.source.now; sink = c.args.sink.now }) (record { outside = c.sweep_orphans.new.outside; source = c.args.source.now; sink = c.args.sink.now }) (record { outside = c.serve_all.new.outside; source = c.serve_all.new.source; sink = c.serve_all.new.sink }) (λ e. cc e)
    (passes_swept (record { disk = g.D.Disk.disk; source = g.S.Source.source; sink = g.K.Sink.sink; ambient = g.A.Ambient.ambient; plugin = g.P.Plugin.plugin }) (record { outside = c.args.outside.now; source = c.args.source.now; sink = c.args.sink.now }) c.sweep_orphans.new.outside c.args.server (record { main_last = c.requires.ready.outside.main_last; spare_last = c.requires.spare_last; sink_last = c.requires.ready.sink_last; stores_last = c.requires.ready.outside.stores_last }) _ c.in-Ok.ensures.frame) c.serve_all.ensures.passes

pub returns-in-Err-clause-serves : goal.returns-in-Err-clause-serves
returns-in-Err-clause-serves g c = λ e found end opened its.
    serves_swept
    (record { disk = g.D.Disk.disk; source = g.S.Source.source; sink = g.K.Sink.sink; ambient = g.A.Ambient.ambient; plugin = g.P.Plugin.plugin })
    (record { outside = c.args.outside.now; source = c.args.source.now; sink = c.args.sink.now })
    c.sweep_orphans.new.outside c.args.server
    (record {
      main_last = c.requires.ready.outside.main_last;
      spare_last = c.requires.spare_last;
      sink_last = c.requires.ready.sink_last;
      stores_last = c.requires.ready.outside.stores_last;
    })
    _ c.in-Err.ensures.frame c.in-Err.ensures.whole _ c.sweep_orphans.new.self.store.cat c.in-Err.ensures.leaves c.in-Err.ensures.drawn
    c.requires.fits.pending e found opened
    c.in-Err.ending end (ap run_end_of (sym c.status_of.ensures) ∙ its) (λ d. c.in-Err.ensures.frame.cause (ap Err d)) (λ d. c.in-Err.ensures.not_sink (ap Err d))
    (λ what place is told. worn_swept (g.D.Disk.disk c.args.outside.now.main) (g.D.Disk.disk c.sweep_orphans.new.outside.main) what place (c.in-Err.ensures.worn what place (ap Err is)) told)
    (λ place is. not_vaults (c.in-Err.ensures.worn wear.Vaults place (ap Err is)).0)

pub returns-in-Err-clause-ends : goal.returns-in-Err-clause-ends
returns-in-Err-clause-ends g c = subst EndsBegun (sym c.status_of.ensures) (ends_begun c.in-Err.ending)

pub returns-in-Err-clause-took : goal.returns-in-Err-clause-took
returns-in-Err-clause-took g c = λ told. took_none (g.S.Source.source c.args.source.now)

pub returns-in-Err-clause-long_only : goal.returns-in-Err-clause-long_only
returns-in-Err-clause-long_only g c = λ taken is. absurd (no_long c.in-Err.ending taken (sym c.status_of.ensures ∙ is))

pub returns-in-Err-clause-worn_only : goal.returns-in-Err-clause-worn_only
returns-in-Err-clause-worn_only g c = λ what place is told.
    worn_swept (g.D.Disk.disk c.args.outside.now.main) (g.D.Disk.disk c.sweep_orphans.new.outside.main) what place
    (c.in-Err.ensures.worn what place (ap Err (worn_of c.in-Err.ending what place (sym c.status_of.ensures ∙ is)))) told

pub returns-in-Err-clause-passes : goal.returns-in-Err-clause-passes
returns-in-Err-clause-passes g c =
    passes_as (record { disk = g.D.Disk.disk; source = g.S.Source.source; sink = g.K.Sink.sink; ambient = g.A.Ambient.ambient; plugin = g.P.Plugin.plugin }) _ ⊥ (c.status_of.result ≡ status.DiskFault) (c.status_of.result ≡ status.SinkFault) (record { outside = c.args.outside.now; source = c.args.source.now; sink = c.args.sink.now }) (record { outside = c.sweep_orphans.new.outside; source = c.args.source.now; sink = c.args.sink.now })
    (λ d. c.status_of.ensures ∙ ap status_of (ended_as c.in-Err.ending ending.Disk d))
    (λ d. ap Err (disk_of c.in-Err.ending (sym c.status_of.ensures ∙ d))) (λ d. c.in-Err.ensures.not_sink (ap Err (sink_of c.in-Err.ending (sym c.status_of.ensures ∙ d))))
    (passes_swept (record { disk = g.D.Disk.disk; source = g.S.Source.source; sink = g.K.Sink.sink; ambient = g.A.Ambient.ambient; plugin = g.P.Plugin.plugin }) (record { outside = c.args.outside.now; source = c.args.source.now; sink = c.args.sink.now }) c.sweep_orphans.new.outside c.args.server (record { main_last = c.requires.ready.outside.main_last; spare_last = c.requires.spare_last; sink_last = c.requires.ready.sink_last; stores_last = c.requires.ready.outside.stores_last }) _ c.in-Err.ensures.frame)

pub returns-in-Err-clause-read : goal.returns-in-Err-clause-read
returns-in-Err-clause-read g c = read_same g.S.Source.source c.args.source.now

pub returns-in-Err-clause-cause : goal.returns-in-Err-clause-cause
returns-in-Err-clause-cause g c = λ is. absurd (not_source c.in-Err.ending (sym c.status_of.ensures ∙ is))
