-- Tokens at their places in a text.
use Rattle.std.specs.Prelude.{◌≡◌, ℕ, ◌+◌, ◌<◌, ◌≤◌, List, [], ◌∷◌, length, slice_range}
use Rattle.rule_lex.specs.Bytes.{SourceText}
use Rattle.rule_lex.specs.Tokens.{PlacedToken}

-- From this place on the tokens stand in the text one behind the other, each with its bytes.
abbrev pub StandInOrder : SourceText → ℕ → List PlacedToken → Type 0
StandInOrder text from [] = Unit {0}
StandInOrder text from (t ∷ ts) =
    (from ≤ t.at) × (0 < length t.spelled) × (t.at + length t.spelled ≤ length text) × (slice_range text t.at (t.at + length t.spelled) ≡ t.spelled)
    × StandInOrder text (t.at + length t.spelled) ts
