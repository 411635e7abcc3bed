use Rattle.std.proofs.Common.{◌≡◌, ◌++◌, drop, IsTrue}
use Rattle.std.specs.List.{list_all}
use Rattle.grid_journal.specs.Journal.{can_be_kept}
use Rattle.file_laws.specs.Removals.{no_orphans}
use Rattle.grid_deed.proofs.discarding.rows_taken.Given as goal

abbrev pub invariant-loop-file : goal.invariant-loop-file
invariant-loop-file l = record {
  changes : l.deltas.items ++ no_orphans (drop l.file-index l.files) ≡ no_orphans l.files;
  kept : IsTrue (list_all can_be_kept l.deltas.items);
}
