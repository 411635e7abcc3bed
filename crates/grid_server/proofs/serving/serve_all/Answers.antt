use Rattle.grid_server.proofs.ServingLemmas.{after_turn}
use Rattle.grid_server.proofs.StatusLemmas.{starts, ends_first, all_passes, took_so, long_so, worn_only, serves_so}
use Rattle.grid_server.proofs.serving.serve_all.Goals as goal

pub returns-in_default-clause-serves : goal.returns-in_default-clause-serves
returns-in_default-clause-serves g c =
    ends_first (record { disk = g.D.Disk.disk; source = g.S.Source.source; sink = g.K.Sink.sink; ambient = g.A.Ambient.ambient; plugin = g.P.Plugin.plugin }) c.args.server
    (record { outside = c.args.outside.now; source = c.args.source.now; sink = c.args.sink.now }) c.requires.fits c.requires.slots

pub requests-init : goal.requests-init
requests-init g c =
    starts (record { disk = g.D.Disk.disk; source = g.S.Source.source; sink = g.K.Sink.sink; ambient = g.A.Ambient.ambient; plugin = g.P.Plugin.plugin }) c.args.server
    (record { outside = c.args.outside.now; source = c.args.source.now; sink = c.args.sink.now }) c.requires.fits c.requires.slots
    c.in-Ok.service c.in-Ok.ensures.server c.in-Ok.ensures.unread c.in-Ok.ensures.taken c.in-Ok.ensures.number

pub requests-preserved : goal.requests-preserved
requests-preserved g c =
    after_turn (record { disk = g.D.Disk.disk; source = g.S.Source.source; sink = g.K.Sink.sink; ambient = g.A.Ambient.ambient; plugin = g.P.Plugin.plugin }) c.args.server
    (record { outside = c.args.outside.now; source = c.args.source.now; sink = c.args.sink.now }) (record { outside = c.requests.outside; source = c.requests.source; sink = c.requests.sink })
    (record { outside = c.turn.new.outside; source = c.turn.new.source; sink = c.turn.new.sink }) c.requests.service c.turn.new.self c.turn.result c.requests.invariant c.turn.ensures.passes c.turn.ensures.read
    c.turn.ensures.turns c.in-None.is
    (record { main_last = c.requires.ready.outside.main_last; spare_last = c.requires.spare_last; sink_last = c.requires.ready.sink_last; stores_last = c.requires.ready.outside.stores_last }) c.turn.ensures.drawn

pub returns-in-Some-clause-serves : goal.returns-in-Some-clause-serves
returns-in-Some-clause-serves g c =
    serves_so (record { disk = g.D.Disk.disk; source = g.S.Source.source; sink = g.K.Sink.sink; ambient = g.A.Ambient.ambient; plugin = g.P.Plugin.plugin }) c.args.server
    (record { outside = c.args.outside.now; source = c.args.source.now; sink = c.args.sink.now }) (record { outside = c.requests.outside; source = c.requests.source; sink = c.requests.sink })
    (record { outside = c.turn.new.outside; source = c.turn.new.source; sink = c.turn.new.sink }) c.requests.service c.turn.new.self c.turn.result c.requests.invariant c.turn.ensures.passes c.turn.ensures.read
    c.turn.ensures.turns c.in-Some.status c.in-Some.is
    (record { main_last = c.requires.ready.outside.main_last; spare_last = c.requires.spare_last; sink_last = c.requires.ready.sink_last; stores_last = c.requires.ready.outside.stores_last })
    c.turn.ensures.cause

pub returns-in-Some-clause-took : goal.returns-in-Some-clause-took
returns-in-Some-clause-took g c =
    took_so (record { disk = g.D.Disk.disk; source = g.S.Source.source; sink = g.K.Sink.sink; ambient = g.A.Ambient.ambient; plugin = g.P.Plugin.plugin }) c.args.server
    (record { outside = c.args.outside.now; source = c.args.source.now; sink = c.args.sink.now }) (record { outside = c.requests.outside; source = c.requests.source; sink = c.requests.sink })
    (record { outside = c.turn.new.outside; source = c.turn.new.source; sink = c.turn.new.sink }) c.requests.service c.turn.new.self c.turn.result c.requests.invariant c.turn.ensures.passes c.turn.ensures.read
    c.turn.ensures.turns c.in-Some.status c.in-Some.is

pub returns-in-Some-clause-long_only : goal.returns-in-Some-clause-long_only
returns-in-Some-clause-long_only g c =
    long_so (record { disk = g.D.Disk.disk; source = g.S.Source.source; sink = g.K.Sink.sink; ambient = g.A.Ambient.ambient; plugin = g.P.Plugin.plugin }) c.args.server
    (record { outside = c.args.outside.now; source = c.args.source.now; sink = c.args.sink.now }) (record { outside = c.requests.outside; source = c.requests.source; sink = c.requests.sink })
    (record { outside = c.turn.new.outside; source = c.turn.new.source; sink = c.turn.new.sink }) c.requests.service c.turn.new.self c.turn.result c.requests.invariant c.turn.ensures.passes c.turn.ensures.read
    c.turn.ensures.turns c.in-Some.status c.in-Some.is

pub returns-in-Some-clause-worn_only : goal.returns-in-Some-clause-worn_only
returns-in-Some-clause-worn_only g c =
    worn_only (record { disk = g.D.Disk.disk; source = g.S.Source.source; sink = g.K.Sink.sink; ambient = g.A.Ambient.ambient; plugin = g.P.Plugin.plugin }) c.args.server
    (record { outside = c.args.outside.now; source = c.args.source.now; sink = c.args.sink.now }) (record { outside = c.requests.outside; source = c.requests.source; sink = c.requests.sink })
    (record { outside = c.turn.new.outside; source = c.turn.new.source; sink = c.turn.new.sink }) c.requests.service c.turn.new.self c.turn.result c.requests.invariant c.turn.ensures.passes c.turn.ensures.read
    c.turn.ensures.turns c.in-Some.status c.in-Some.is

pub returns-in-Some-clause-passes : goal.returns-in-Some-clause-passes
returns-in-Some-clause-passes g c =
    all_passes (record { disk = g.D.Disk.disk; source = g.S.Source.source; sink = g.K.Sink.sink; ambient = g.A.Ambient.ambient; plugin = g.P.Plugin.plugin }) c.args.server
    (record { outside = c.args.outside.now; source = c.args.source.now; sink = c.args.sink.now }) (record { outside = c.requests.outside; source = c.requests.source; sink = c.requests.sink })
    (record { outside = c.turn.new.outside; source = c.turn.new.source; sink = c.turn.new.sink }) c.requests.service c.turn.new.self c.turn.result c.requests.invariant c.turn.ensures.passes c.turn.ensures.read
    c.turn.ensures.turns c.in-Some.status c.in-Some.is
