use Rattle.std.proofs.Common.{◌≡◌, ◌++◌, drop, IsTrue}
use Rattle.std.specs.Prelude.{flat_map}
use Rattle.std.specs.List.{AllByRecursion, list_all}
use Rattle.grid_model.specs.RowGrids.{user_name}
use Rattle.grid_model.specs.Writable.{is_word}
use Rattle.plan_list.specs.Inside.{IsChildOf}
use Rattle.plan_list.specs.Listing.{shown}
use Rattle.plan_list.proofs.listing.child_rows.Given as goal

-- the rows so far and those of the other items come to those of all
abbrev pub invariant-loop-item : goal.invariant-loop-item
invariant-loop-item l = record {
  rows : l.rows.items ++ flat_map (shown l.tables (user_name l.tables l.user) l.path) (drop l.item-index l.item-items) ≡ flat_map (shown l.tables (user_name l.tables l.user) l.path) l.item-items;
  later : AllByRecursion (IsChildOf l.tables l.id) (drop l.item-index l.item-items);
  words : IsTrue (list_all (list_all is_word) l.rows.items);
}
