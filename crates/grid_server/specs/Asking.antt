-- What the reader of the program's words answers.
use Rattle.std.specs.Prelude.{List}
use Rattle.grid_model.specs.Names.{Text}
use Rattle.grid_server.specs.Tasks.{AsksForTask, AsksNothing, init, serve}
use Rattle.grid_server.specs.declared.words.Asked.{Asked}
use Rattle.grid_server.specs.declared.words.Asked.TheVariants as asked

-- the words ask for what is answered
abbrev pub IsAsked : List Text → Asked → Type 0
IsAsked words asked.Serve = AsksForTask words serve
IsAsked words (asked.Init zone admin) = AsksForTask words (init zone.now admin.now)
IsAsked words asked.Nothing = AsksNothing words
