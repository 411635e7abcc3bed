use Rattle.std.proofs.Common.{◌≡◌, ◌≤◌, length}
use Rattle.std.specs.Prelude.{min}
use Rattle.grid_tables.proofs.TextOrders.{DecidesFrom}
use Rattle.grid_tables.proofs.texts.text_order.Given as goal

abbrev pub invariant-loop-i : goal.invariant-loop-i
invariant-loop-i l = (l.both ≡ min (length l.one) (length l.other)) × (l.i ≤ l.both) × DecidesFrom l.i l.one l.other
