-- Spaces and comments before what follows them.
use Rattle.std.specs.Prelude.{ℕ, ◌+◌, ◌∷◌, ◌||◌, ◌==◌, Bool, IsTrue, length}
use Rattle.rule_lex.specs.Bytes.{SourceText, is_space}
use Rattle.rule_lex.specs.Tokens.{IsComment}

-- from this place on the text begins with spaces and comments, up to that place and that rest
pub data SkipsBlanks : ℕ → SourceText → ℕ → SourceText → Type 0 where
  none : {place : ℕ} {all : SourceText} → SkipsBlanks place all place all
  space : {place b to : ℕ} {rest left : SourceText} → IsTrue (is_space b) → SkipsBlanks (place + 1) rest to left → SkipsBlanks place (b ∷ rest) to left
  comment : {place to : ℕ} {all rest left : SourceText} (line : SourceText) → IsComment all line rest → SkipsBlanks (place + (length line + 1)) rest to left
      → SkipsBlanks place all to left

-- a space, or what begins a comment
abbrev pub is_skipped : ℕ → Bool
is_skipped b = is_space b || b == 0x23
