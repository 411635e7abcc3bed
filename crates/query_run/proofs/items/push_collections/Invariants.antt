use Rattle.std.proofs.Common.{◌≡◌, ◌++◌, drop}
use Rattle.std.specs.Prelude.{flat_map}
use Rattle.grid_model.specs.RowGrids.{user_name}
use Rattle.query_run.specs.Parts.{KeepsWords}
use Rattle.query_run.specs.Shown.{shown_collection}
use Rattle.query_run.proofs.items.push_collections.Given as goal

-- the rows so far and those of the other collections come to those of all
abbrev pub invariant-loop-id : goal.invariant-loop-id
invariant-loop-id l = record {
  rows : l.rows.items ++ flat_map (shown_collection l.tables (user_name l.tables l.user) l.query) (drop l.id-index l.ids) ≡ l.initial.rows.items ++ flat_map (shown_collection l.tables (user_name l.tables l.user) l.query) l.ids;
  words : KeepsWords l.initial.rows.items l.rows.items;
}
