-- The bytes that rule texts are made of.
use Rattle.std.specs.Prelude.{ℕ, Bool, false, not, ◌&&◌, ◌||◌, List, [], ◌∷◌, nat_le, ◌==◌}

-- some bytes
abbrev pub SourceText : Type 0
SourceText = List ℕ

-- from the one to the other
abbrev pub is_within : ℕ → ℕ → ℕ → Bool
is_within least most b = nat_le least b && nat_le b most

-- an ASCII letter or `_`
abbrev pub is_letter : ℕ → Bool
is_letter b = is_within 0x41 0x5A b || is_within 0x61 0x7A b || b == 0x5F

-- `0` to `9`
abbrev pub is_digit : ℕ → Bool
is_digit b = is_within 0x30 0x39 b

-- a letter or a digit
abbrev pub is_rule_name_byte : ℕ → Bool
is_rule_name_byte b = is_letter b || is_digit b

-- the text begins with a letter
abbrev pub starts_with_letter : SourceText → Bool
starts_with_letter [] = false
starts_with_letter (b ∷ t) = is_letter b

-- space, tab, 0D and 0A
abbrev pub is_space : ℕ → Bool
is_space b = b == 0x20 || b == 0x09 || b == 0x0D || b == 0x0A

-- `"` and `'`
abbrev pub is_quote : ℕ → Bool
is_quote b = b == 0x22 || b == 0x27

-- what begins no name, number, text, parameter or session variable
abbrev pub is_other : ℕ → Bool
is_other b = not (is_letter b) && not (is_digit b) && not (b == 0x2D) && not (is_quote b) && not (b == 0x2A) && not (b == 0x24)

-- `\` and the quotes, which stand with a `\` before them
abbrev pub needs_backslash : ℕ → Bool
needs_backslash b = b == 0x5C || is_quote b

-- what stands for itself between quotes
abbrev pub stands_for_itself : ℕ → Bool
stands_for_itself b = nat_le 0x20 b && not (b == 0x7F) && not (needs_backslash b)
