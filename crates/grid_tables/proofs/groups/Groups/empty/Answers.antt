use Rattle.std.proofs.Common.{sym, ap, length}
use Rattle.grid_tables.specs.GroupLists.{rows_of_lists}
use Rattle.grid_tables.proofs.GroupLists.{no_groups}
use Rattle.grid_tables.proofs.groups.Groups.empty.Goals as goal

pub invariant_of-result : goal.invariant_of-result
invariant_of-result g c = record {
  groups = no_groups g.T.Grouped.group g.T.Row.row_cmp g.T.Row.fits c.new.result.entries c.new.ensures.empty;
  counted = sym (ap (λ lists. length (rows_of_lists lists)) c.new.ensures.empty);
}
