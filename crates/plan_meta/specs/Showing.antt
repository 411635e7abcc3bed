-- The rows that show what is said of a thing.
use Rattle.std.specs.Prelude.{◌≡◌, List, [], ◌∷◌, Result, Ok, Err, IsTrue}
use Rattle.std.specs.List.{list_all}
use Rattle.grid_model.specs.Names.{Text}
use Rattle.grid_model.specs.Grid.{Thing}
use Rattle.grid_model.specs.Listings.{lsmeta_rows}
use Rattle.grid_model.specs.Rows.{Cat}
use Rattle.grid_model.specs.RowGrids.{grid_of}
use Rattle.grid_model.specs.Writable.{is_word}
use Rattle.grid_model.specs.declared.deltas.TripleRow.{TripleRow}
use Rattle.grid_model.specs.declared.plans.PlanError.{PlanError}
use Rattle.grid_model.specs.declared.plans.PlanError.TheVariants.{Refused, Memory}

-- what is shown of a row
abbrev pub triple_words : TripleRow → List Text
triple_words t = t.attribute ∷ t.value ∷ t.unit ∷ []

-- The rows that the user is shown of the thing, each word of which may stand in a reply; or why that is refused, or nothing
-- where memory ran out.
abbrev pub ShowsTriples : Cat → Text → Thing → Result (List (List Text)) PlanError → Type 0
ShowsTriples c user thing (Ok rows) = (lsmeta_rows (grid_of c) user thing ≡ Ok rows) × IsTrue (list_all (list_all is_word) rows)
ShowsTriples c user thing (Err (Refused r)) = lsmeta_rows (grid_of c) user thing ≡ Err r
ShowsTriples c user thing (Err Memory) = Unit {0}
