-- What the words of the program ask for, which is this project's own.
use Rattle.std.specs.Prelude.{◌≡◌, ◌≢◌, List, [], ◌∷◌, IsTrue, codes}
use Rattle.std.specs.Str.{IsUtf8}
use Rattle.grid_model.specs.Names.{Text, is_name}
use Rattle.grid_model.specs.Grid.{everybody}

-- what a run does
pub data Task : Type 0 where
  -- to begin a grid with this zone and this administrator
  init : Text → Text → Task
  -- to answer requests
  serve : Task

-- a name that may stand among the words: it is UTF-8, and does not begin with `-`
pub record IsWord (word : Text) : Type 0 where
  pub name : IsTrue (is_name word)
  pub utf8 : IsUtf8 word
  pub no_dash : (rest : Text) → word ≢ 0x2D ∷ rest

-- the words ask for this
pub data AsksForTask : List Text → Task → Type 0 where
  to_serve : {words : List Text} → words ≡ codes "serve" ∷ [] → AsksForTask words serve
  to_init : {words : List Text} {zone admin : Text} → words ≡ codes "init" ∷ zone ∷ admin ∷ [] → IsWord zone → IsWord admin → admin ≢ everybody
      → AsksForTask words (init zone admin)

-- the words ask for nothing that is built
abbrev pub AsksNothing : List Text → Type 0
AsksNothing words = (task : Task) → ¬ AsksForTask words task
