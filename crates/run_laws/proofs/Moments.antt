-- The states of a run over a grid that is within the limits are within them.
use Rattle.std.proofs.Common.{List}
use Rattle.grid_model.specs.Rows.{Cat}
use Rattle.grid_model.specs.RowGrids.{grid_of}
use Rattle.grid_model.specs.Runs.{Marked, After}
use Rattle.grid_model.specs.Runs as runs
use Rattle.grid_model.specs.Sessions.{State}
use Rattle.grid_model.specs.Working.{Done}
use Rattle.size_laws.specs.Within.{IsWithin}
use Rattle.size_laws.proofs.SmallRequests.{opening_keeps_within, requests_keep_within}
use Rattle.grid_headline.specs.Reads.{MeansRequest}
use Rattle.run_laws.specs.Undone.{Undone}

-- that behind requests is, where that before them is
pub after-within : {at end : State} {ms : List Marked} {ds : List Done} → After MeansRequest at ms ds end → IsWithin at.grid → IsWithin end.grid
after-within runs.none within = within
after-within (runs.next {at} {end} {m} {more} {d} request means does left after) within =
    after-within after (requests_keep_within at request m.marks d within does)

-- so is the grid that recoveries left
pub undone-within : (found : Cat) (u : Undone found) → IsWithin (grid_of found) → IsWithin u.opened.grid
undone-within found u within = opening_keeps_within found u.report u.opened within u.opened_is
