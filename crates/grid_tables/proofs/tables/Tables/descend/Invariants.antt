use Rattle.std.proofs.Common.{◌≡◌, drop}
use Rattle.grid_tables.specs.Descending.{descend}
use Rattle.grid_tables.proofs.tables.Tables.descend.Given as goal

abbrev pub invariant-loop-name : goal.invariant-loop-name
invariant-loop-name l = descend l.self l.current (drop l.name-index l.names) ≡ descend l.self 0 l.names
