-- The words of a line. The format is this project's own.
use Rattle.std.specs.Prelude.{◌≡◌, ℕ, true, false, Bool, not, ◌&&◌, ◌||◌, List, [], ◌∷◌, ◌++◌, IsTrue, nat_le, nat_lt, ◌==◌, length, flat_map}
use Rattle.std.specs.List.{list_all}
use Rattle.grid_model.specs.Names.{Text}

-- a byte that a word may have: none below 0x20, and not 0x7F
abbrev pub is_word_byte : ℕ → Bool
is_word_byte b = nat_le 0x20 b && not (b == 0x7F)

-- a byte that a word without quotes may have: no space and no `"` either
abbrev pub is_bare_byte : ℕ → Bool
is_bare_byte b = nat_le 0x21 b && not (b == 0x7F) && not (b == 0x22)

-- a word that may stand without quotes
abbrev pub is_bare : Text → Bool
is_bare w = nat_lt 0 (length w) && list_all is_bare_byte w

-- `"` or `\`
abbrev pub is_escaped : ℕ → Bool
is_escaped b = b == 0x22 || b == 0x5C

-- a byte that stands for itself between quotes
abbrev pub is_plain : ℕ → Bool
is_plain b = is_word_byte b && not (is_escaped b)

-- What stands between the quotes of a word, and the bytes that it stands for: `\"` for `"` and `\\` for `\`.
pub data SpellsInner : Text → Text → Type 0 where
  nothing : SpellsInner [] []
  plain : {b : ℕ} {t w : Text} → IsTrue (is_plain b) → SpellsInner t w → SpellsInner (b ∷ t) (b ∷ w)
  escaped : {b : ℕ} {t w : Text} → IsTrue (is_escaped b) → SpellsInner t w → SpellsInner (0x5C ∷ b ∷ t) (b ∷ w)

-- a word that stands as it is, or between quotes
pub data SpellsWord : Text → Text → Type 0 where
  bare : {w : Text} → IsTrue (is_bare w) → SpellsWord w w
  quoted : {text inner w : Text} → SpellsInner inner w → text ≡ 0x22 ∷ inner ++ 0x22 ∷ [] → SpellsWord text w

-- a space or the line's end
abbrev pub EndsWord : Text → Type 0
EndsWord [] = Unit {0}
EndsWord (b ∷ t) = b ≡ 0x20

-- The line has these words in this order, with one or more spaces between them, and any at both ends.
pub data SpellsLine : Text → List Text → Type 0 where
  line_end : SpellsLine [] []
  space : {t : Text} {ws : List Text} → SpellsLine t ws → SpellsLine (0x20 ∷ t) ws
  word : {line s t w : Text} {ws : List Text} → line ≡ s ++ t → SpellsWord s w → EndsWord t → SpellsLine t ws → SpellsLine line (w ∷ ws)

-- how a byte is written between quotes
abbrev pub quote_byte : ℕ → Text
quote_byte b = elim (is_escaped b) [ true ↦ 0x5C ∷ b ∷ [] | false ↦ b ∷ [] ]

-- the one spelling that is written: bare where it can be
abbrev pub quoted_word : Text → Text
quoted_word w = elim (is_bare w) [ true ↦ w | false ↦ 0x22 ∷ flat_map quote_byte w ++ 0x22 ∷ [] ]
