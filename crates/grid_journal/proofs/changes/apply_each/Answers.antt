use Rattle.std.proofs.Common.{subst, Option, ℕ}
use Rattle.std.specs.Option.{MatchOption}
use Rattle.grid_journal.specs.Replaying.{TakesAll, RefusesNext}
use Rattle.grid_journal.proofs.TakingLemmas.{none_refused}
use Rattle.grid_journal.proofs.changes.apply_each.Goals as goal

pub unreachable-requires : goal.unreachable-requires
unreachable-requires c =
    let P : Option ℕ → Type 0 = λ o. MatchOption o (TakesAll c.args.deltas c.args.tables.now c.take_each.new.tables) (λ n. RefusesNext c.args.deltas n c.args.tables.now) in
    none_refused c.args.deltas c.in-Some.field-0 c.args.tables.now c.requires.apply c.requires.kept (subst P c.in-Some.is c.in_ok-take_each.ensures)
