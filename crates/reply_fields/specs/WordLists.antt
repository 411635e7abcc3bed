-- Words in a row, as they end a line.
use Rattle.std.specs.Prelude.{◌≡◌, List, [], ◌∷◌, ◌++◌}
use Rattle.grid_model.specs.Names.{Text}
use Rattle.reply_fields.specs.Spelled.{IsEndedWord}

-- one word or more, each but the last with a space behind it, and that with a newline
pub data IsWordList : Text → List Text → Type 0 where
  last_word : {text w : Text} → IsEndedWord (0x0A ∷ []) text (w, 0x0A) → IsWordList text (w ∷ [])
  more_words : {text first rest w : Text} {ws : List Text} → text ≡ first ++ rest → IsEndedWord (0x20 ∷ []) first (w, 0x20) → IsWordList rest ws
      → IsWordList text (w ∷ ws)
