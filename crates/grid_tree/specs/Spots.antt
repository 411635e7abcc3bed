-- Resources with what is left of a word there, by ids and by names.
use Rattle.std.specs.Prelude.{◌≡◌, ℕ, ◌/◌, ◌%◌, List, [], ◌∷◌, length, map, slice_get, IsTrue}
use Rattle.std.specs.List.{AllByRecursion}
use Rattle.std.specs.Option.{option_map_or}
use Rattle.grid_model.specs.Rows.{Cat, has_resource}
use Rattle.grid_model.specs.RowGrids.{resource_name}
use Rattle.grid_tree.specs.Steps as steps
use Rattle.grid_tree.specs.declared.choosing.Spot.{Spot}

-- the same by its name
abbrev pub spot_name : Cat → Spot → steps.Spot
spot_name c s = (resource_name c s.id, s.word)

-- these are at resources, whose names are so
pub record AreSpots (c : Cat) (level : List Spot) (names : List steps.Spot) : Type 0 where
  pub there : AllByRecursion (λ s. IsTrue (has_resource c s.id)) level
  pub named : map (spot_name c) level ≡ names

-- of these the one of the number `word mod k`, with the word `word div k`
abbrev pub picked_ids : List ℕ → ℕ → List Spot
picked_ids kids word = option_map_or (λ kid. record { id = kid; word = word / length kids } ∷ []) (slice_get kids (word % length kids)) []
