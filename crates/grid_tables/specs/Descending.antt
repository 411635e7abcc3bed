-- The way down from a collection by names.
use Rattle.std.specs.Prelude.{◌==◌, ℕ, Bool, false, [], ◌∷◌, Option, None, Some, find}
use Rattle.grid_model.specs.Names.{Path}
use Rattle.grid_model.specs.Rows.{Cat}
use Rattle.grid_model.specs.Applying.{is_child_named}

-- the collection to which names lead from this one down
abbrev pub descend : Cat → ℕ → Path → Option ℕ
descend c id [] = Some id
descend c id (name ∷ names) = elim (find (λ r. is_child_named id name r) c.collections) [ None ↦ None | Some r ↦ descend c r.id names ]

-- whether it was found, and is this one
abbrev pub is_found : Option ℕ → ℕ → Bool
is_found None id = false
is_found (Some x) id = id == x
