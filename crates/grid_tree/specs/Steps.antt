-- One step down the tree of resources (iRODS documentation, composable resources): a leaf that is up stays, one that is not
-- is left out, and a node gives way to those of its children that new data goes to.
use Rattle.std.specs.Prelude.{ℕ, ◌/◌, ◌%◌, Bool, true, false, ◌&&◌, ◌==◌, not, List, [], ◌∷◌, length, map, filter, take, Option, Some, None, slice_get}
use Rattle.std.specs.Option.{option_map_or}
use Rattle.grid_model.specs.Maps.{get}
use Rattle.grid_model.specs.Names.{Text}
use Rattle.grid_model.specs.Grid.{Resource}
use Rattle.grid_model.specs.Rows.{Cat, resource}
use Rattle.grid_model.specs.Applying.{is_storage}
use Rattle.grid_model.specs.Trees.{Resources, children, possible, is_any}
use Rattle.grid_model.specs.declared.deltas.ResourceRow.{ResourceRow}
use Rattle.grid_model.specs.declared.grid.ResourceKind.TheVariants.{Storage, Passthru, Random, Replication}

-- a resource by its row's id has this one as its parent
abbrev pub lies_below : ℕ → ResourceRow → Bool
lies_below parent r = not (r.parent == 0) && (r.parent == parent)

-- the row is that of a leaf that is up
abbrev pub open_by : Option ResourceRow → Bool
open_by None = false
open_by (Some r) = r.up && is_storage r.kind

-- the resource with this id is a leaf that is up
abbrev pub is_open : Cat → ℕ → Bool
is_open c id = open_by (resource c id)

-- ---- where data may go

abbrev pub below_by : Resources → Text → Option Resource → List Text
below_by tree r None = []
below_by tree r (Some x) = elim x.kind [
  | Storage ↦ elim x.up [ true ↦ r ∷ [] | false ↦ [] ]
  | Passthru ↦ take 1 (children tree r)
  | Random ↦ children tree r
  | Replication ↦ children tree r
]

abbrev pub below : Resources → Text → List Text
below tree r = below_by tree r (get tree r)

-- ---- where data goes for a word

-- a resource and the word that is left there
abbrev pub Spot : Type 0
Spot = Text × ℕ

-- the children that new data may go to
abbrev pub open_children : Resources → Text → List Text
open_children tree r = filter (λ kid. is_any (possible tree kid)) (children tree r)

-- of these the one of the number `word mod k`, with the word `word div k`
abbrev pub picked : List Text → ℕ → List Spot
picked kids word = option_map_or (λ kid. (kid, word / length kids) ∷ []) (slice_get kids (word % length kids)) []

-- each with this word
abbrev pub with_word : List Text → ℕ → List Spot
with_word kids word = map (λ kid. (kid, word)) kids

abbrev pub spots_by : Resources → Text → ℕ → Option Resource → List Spot
spots_by tree r word None = []
spots_by tree r word (Some x) = elim x.kind [
  | Storage ↦ elim x.up [ true ↦ (r, word) ∷ [] | false ↦ [] ]
  | Passthru ↦ with_word (take 1 (children tree r)) word
  | Random ↦ picked (open_children tree r) word
  | Replication ↦ with_word (children tree r) word
]

abbrev pub spots : Resources → Spot → List Spot
spots tree s = spots_by tree s.0 s.1 (get tree s.0)
