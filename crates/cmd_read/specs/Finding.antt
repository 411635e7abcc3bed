-- What the readers of a part of the table say of it.
use Rattle.std.specs.Prelude.{List, Option, Some, None}
use Rattle.grid_model.specs.Names.{Text}
use Rattle.cmd_read.specs.Table.{Way}
use Rattle.cmd_read.specs.Reading.{AsksFor, Refuses}
use Rattle.grid_model.specs.declared.requests.Verb.{Verb}
use Rattle.cmd_read.specs.declared.error.ReadError.{ReadError}

-- ways were found, and in one of them the words ask for this
abbrev pub AsksIn : Option (List Way) → List Text → Verb → Type 0
AsksIn None ws verb = ⊥
AsksIn (Some ways) ws verb = AsksFor ways ws verb

-- ways were found, and the words are refused so
abbrev pub RefusesIn : Option (List Way) → List Text → ReadError → Type 0
RefusesIn None ws why = ⊥
RefusesIn (Some ways) ws why = Refuses ways ws why
