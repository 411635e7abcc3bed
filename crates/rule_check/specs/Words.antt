-- Tables of the code, as lists of texts.
use Rattle.std.specs.Prelude.{ℕ, Bool, ◌&&◌, ◌||◌, ◌==◌, List, map}
use Rattle.std.specs.List.{list_any}
use Rattle.std.specs.Borrow.{Bor}
use Rattle.grid_model.specs.Names.{Text, same_text}

-- the words of a table
abbrev pub words : List (Bor Text) → List Text
words table = map (λ w. w.now) table

-- an entry is the text
abbrev pub has_word : List (Bor Text) → Text → Bool
has_word table text = list_any (λ w. same_text text w.now) table

-- a service has the name
abbrev pub has_name : List (Bor Text × ℕ) → Text → Bool
has_name table name = list_any (λ s. same_text s.0.now name) table

-- one of the name takes so many arguments
abbrev pub has_count : List (Bor Text × ℕ) → Text → ℕ → Bool
has_count table name count = list_any (λ s. same_text s.0.now name && s.1 == count) table

-- the name is one of a pair
abbrev pub is_in_pair : List (Bor Text × Bor Text) → Text → Bool
is_in_pair table name = list_any (λ p. same_text name p.0.now || same_text name p.1.now) table
