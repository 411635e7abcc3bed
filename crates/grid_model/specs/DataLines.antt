-- Bytes of a file as lines of a reply: one line for each part, which says how many bytes follow it. The format is this
-- project's own.
use Rattle.std.specs.Prelude.{ℕ, suc, zero, ◌+◌, ◌-◌, ◌/◌, List, [], ◌∷◌, ◌++◌, codes, decimal, length, take, drop, flat_map}
use Rattle.grid_model.specs.Names.{Text}
use Rattle.grid_model.specs.Limits.{part_size}
use Rattle.grid_model.specs.Printing.{line}

-- how many parts so many bytes are sent in
abbrev pub parts : ℕ → ℕ
parts size = (size + (part_size - 1)) / part_size

-- the bytes in parts of `part_size`, the last one of what is left, and at most so many parts
abbrev pub parts_within : ℕ → List ℕ → List (List ℕ)
parts_within zero bytes = []
parts_within (suc d) [] = []
parts_within (suc d) (b ∷ bytes) = take part_size (b ∷ bytes) ∷ parts_within d (drop part_size (b ∷ bytes))

-- `<number> data <count>`, a newline, the bytes and a newline
abbrev pub data_line : ℕ → List ℕ → Text
data_line n part = line n (codes "data" ∷ decimal (length part) ∷ []) ++ part ++ 0x0A ∷ []

-- bytes as data lines, part by part
abbrev pub data_lines : ℕ → List ℕ → Text
data_lines n bytes = flat_map (data_line n) (parts_within (length bytes) bytes)
