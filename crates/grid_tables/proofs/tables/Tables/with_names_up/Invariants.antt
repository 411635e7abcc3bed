use Rattle.std.proofs.Common.{◌≡◌, ◌-◌}
use Rattle.std.specs.Prelude.{IsTrue}
use Rattle.std.specs.List.{list_all}
use Rattle.grid_model.specs.Names.{is_name}
use Rattle.grid_model.specs.RowPaths.{names_up, names_within}
use Rattle.grid_tables.proofs.WaysUp.{behind}
use Rattle.grid_tables.proofs.tables.Tables.with_names_up.Given as goal

abbrev pub invariant-loop-step : goal.invariant-loop-step
invariant-loop-step l =
    (behind l.names.items (names_within (l._step-end - l._step) l.self l.current) ≡ behind l.fn.names.items (names_up l.self l.id)) × IsTrue (list_all is_name l.names.items)
