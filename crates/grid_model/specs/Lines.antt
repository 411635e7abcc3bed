-- The lines of an input, each ended by the byte 0x0A or by the input's end. The format is this project's own.
use Rattle.std.specs.Prelude.{◌≢◌, Bool, not, ◌||◌, [], ◌∷◌, length, nat_lt, ◌==◌}
use Rattle.std.specs.List.{list_all}
use Rattle.grid_model.specs.Names.{Text}
use Rattle.grid_model.specs.Limits.{longest_line}

-- no newline is in it
abbrev pub IsLine : Text → Type 0
IsLine [] = Unit {0}
IsLine (byte ∷ bytes) = (byte ≢ 0x0A) × IsLine bytes

-- nothing but spaces, and so without words
abbrev pub is_blank : Text → Bool
is_blank line = list_all (λ b. b == 0x20) line

-- a line with words is a request, and so is one that is too long to look for words
abbrev pub is_request : Text → Bool
is_request line = not (is_blank line) || nat_lt longest_line (length line)
