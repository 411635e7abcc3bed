use Rattle.row_run.proofs.saying.told_thing.Goals as goal

pub unreachable-requires : goal.unreachable-requires
unreachable-requires c = let its = c.requires.told in c.in-Err-BadPath.ensures.none (λ e. cc (e, c.in-Err-BadPath.field-0-is)) its.0 its.1
