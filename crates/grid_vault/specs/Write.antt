-- What an append in parts does to a file.
use Rattle.std.specs.Prelude.{◌≡◌, ℕ, List, ◌++◌}
use Rattle.grid_outside.specs.Files.{Files, file_at, unfinished}

-- a file that was begun has these bytes more
abbrev pub Extends : ℕ → List ℕ → Files → Files → Type 0
Extends name bytes old new = (front : List ℕ) → file_at old name ≡ unfinished front → file_at new name ≡ unfinished (front ++ bytes)
