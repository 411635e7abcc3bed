use Rattle.grid_journal.proofs.KeptDeltas.{plain_kept}
use Rattle.deed_run.proofs.writing.stage_written.Goals as goal

pub stage-requires-clause-spelled : goal.stage-requires-clause-spelled
stage-requires-clause-spelled g c = plain_kept c.args.after c.requires.spelled
