use Rattle.std.proofs.Common.{List, Vec, sym, subst}
use Rattle.sorted_list.proofs.Orders.{no_blocks}
use Rattle.sorted_list.proofs.list.SortedList.new.Goals as goal

pub invariant_of-result : goal.invariant_of-result
invariant_of-result g c = no_blocks g.K.Key.order c.new.result.items c.new.ensures.items
