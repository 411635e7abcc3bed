use Rattle.std.proofs.Common.{map}
use Rattle.frame_log.specs.Records.{placed_body}
use Rattle.grid_journal.proofs.LoopLemmas.{Comes}
use Rattle.grid_journal.proofs.replay.replay.Given as goal

abbrev pub invariant-loop-logged : goal.invariant-loop-logged
invariant-loop-logged l = Comes (map placed_body l.records) l.logged-index l.tables
