-- The changes that give a user or a group a level at an item, or take it away.
use Rattle.std.specs.Prelude.{ℕ, ◌+◌, ◌-◌, ◌==◌, Bool, false, cond, List, [], ◌∷◌, Option, None, Some}
use Rattle.grid_model.specs.Levels.{level_rank}
use Rattle.grid_model.specs.declared.deltas.Delta.{Delta}
use Rattle.grid_model.specs.declared.deltas.Delta.TheVariants as delta
use Rattle.grid_model.specs.declared.grid.ItemKind.{ItemKind}
use Rattle.grid_model.specs.declared.grid.Level.{Level}
use Rattle.grid_model.specs.declared.grid.Level.TheVariants.{Null}

-- how many entries there are then, of so many, by whether there was one for the user at the item
abbrev pub entries_then : ℕ → Level → Bool → ℕ
entries_then n Null had = n - cond had 1 0
entries_then n level had = n + cond had 0 1

-- there is an entry, of this level
abbrev pub has_level : Option Level → Level → Bool
has_level None level = false
has_level (Some had) level = level_rank had == level_rank level

-- no entry for `null`, and else this one; nothing where that is so already
abbrev pub access_deltas : ItemKind → ℕ → ℕ → Level → Option Level → List Delta
access_deltas k id user Null None = []
access_deltas k id user Null (Some had) = delta.NoEntry k id user ∷ []
access_deltas k id user level had = cond (has_level had level) [] (delta.Entry (record { kind = k; id = id; user = user; level = level }) ∷ [])
