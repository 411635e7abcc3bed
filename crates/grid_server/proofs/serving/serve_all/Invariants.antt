use Rattle.std.proofs.Common.{◌+◌, ◌-◌, ◌^◌}
use Rattle.grid_server.specs.Serving.{IsAfter}
use Rattle.grid_server.proofs.serving.serve_all.Given as goal

abbrev pub invariant-requests : goal.invariant-requests
invariant-requests g l =
    IsAfter (record { disk = g.D.Disk.disk; source = g.S.Source.source; sink = g.K.Sink.sink; ambient = g.A.Ambient.ambient; plugin = g.P.Plugin.plugin }) l.fn.server
    (record { outside = l.fn.outside; source = l.fn.source; sink = l.fn.sink }) (record { outside = l.outside; source = l.source; sink = l.sink }) l.service

abbrev pub decreases-requests : goal.decreases-requests
decreases-requests g l = 2 ^ 48 + 1 - l.service.number
