-- The words of reply lines.
use Rattle.std.specs.Prelude.{◌≡◌, ℕ, List, [], ◌∷◌, ◌++◌}
use Rattle.grid_model.specs.Names.{Text}
use Rattle.grid_model.specs.declared.replies.Passed.{Passed}
use Rattle.reply_fields.specs.Fronts.{Then}
use Rattle.reply_fields.specs.Spelled.{IsEndedWord}
use Rattle.reply_fields.specs.WordLists.{IsWordList}

-- what stands behind the name of a row or of a good end: a newline, or a space and words
pub data IsWords : Text → List Text → Type 0 where
  no_words : {text : Text} → text ≡ 0x0A ∷ [] → IsWords text []
  some_words : {text rest : Text} {ws : List Text} → text ≡ 0x20 ∷ rest → IsWordList rest ws → IsWords text ws

-- behind the name of a recovery: its arguments, and its failure as the last word
pub record IsRecovery (name : Text × ℕ) (text : Text) (passed : Passed) : Type 0 where
  pub name_is : passed.call.name ≡ name.0
  pub words : IsWordList text (passed.call.args ++ passed.failure ∷ [])

-- a refused recovery: its name, a space, and the rest of it
abbrev pub IsPassed : Text → Passed → Type 0
IsPassed = Then (IsEndedWord (0x20 ∷ [])) IsRecovery
