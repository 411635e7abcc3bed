-- The rows of a query before they are put in order.
use Rattle.std.specs.Prelude.{◌&&◌, List, map, filter}
use Rattle.std.specs.List.{list_all}
use Rattle.grid_model.specs.Names.{Text}
use Rattle.grid_model.specs.Grid.{Grid}
use Rattle.grid_model.specs.QueryRows.{cell, combinations, is_readable, meets}
use Rattle.grid_model.specs.declared.queries.Query.{Query}
use Rattle.tables_laws.proofs.Rows.{IsIn}

-- the row of each combination that the user may read and that meets all conditions
abbrev pub unsorted_rows : Grid → Text → Query → List (List Text)
unsorted_rows g user q = map (λ c. map (cell g c) q.columns) (filter (λ c. is_readable g user c && list_all (meets g c) q.conds) (combinations g q))

-- they are these, in some order and each at least once
pub record HasMembers {X : Type 0} (xs these : List X) : Type 0 where
  pub to : (x : X) → IsIn xs x → IsIn these x
  pub from : (x : X) → IsIn these x → IsIn xs x
