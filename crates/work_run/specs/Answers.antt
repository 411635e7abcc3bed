-- What a query is answered with.
use Rattle.std.specs.Prelude.{◌≡◌, Ok, Err, IsTrue}
use Rattle.std.specs.List.{list_all}
use Rattle.grid_model.specs.Grid.{Grid}
use Rattle.grid_model.specs.Names.{Text}
use Rattle.grid_model.specs.QueryRows.{query_rows}
use Rattle.grid_model.specs.Refusing.{Or}
use Rattle.grid_model.specs.Writable.{is_word}
use Rattle.grid_model.specs.declared.queries.Query.{Query}
use Rattle.grid_model.specs.declared.refusal.Refusal.TheVariants.{BadQuery}
use Rattle.work_run.specs.declared.showing.Answer.{Answer}
use Rattle.work_run.specs.declared.showing.Answer.TheVariants as answer

-- it is that of the query on this grid for this user
abbrev pub IsAnswer : Grid → Text → Or Query → Answer → Type 0
IsAnswer g user q (answer.Rows rows) = (its : Query) × (q ≡ Ok its) × (rows ≡ query_rows g user its)
IsAnswer g user q (answer.Refused place) = q ≡ Err (BadQuery place)

-- what it shows are words
abbrev pub AreWords : Answer → Type 0
AreWords (answer.Rows rows) = IsTrue (list_all (list_all is_word) rows)
AreWords (answer.Refused place) = Unit {0}
