-- How much the deeds of a grid within the limits read and write, and how many moments that takes.
use Rattle.std.specs.Prelude.{◌≡◌, ℕ, ◌+◌, ◌*◌, ◌^◌, ◌≤◌, List, length, filter, Option, Some, Ok}
use Rattle.grid_model.specs.Names.{Text, Path}
use Rattle.grid_model.specs.Limits.{object_size}
use Rattle.grid_model.specs.Grid.{Grid}
use Rattle.grid_model.specs.DataLines.{parts}
use Rattle.grid_model.specs.Trees.{Resources}
use Rattle.grid_model.specs.Rows.{Cat, object}
use Rattle.grid_model.specs.RowGrids.{grid_of}
use Rattle.grid_model.specs.Applying.{IsMade, is_storage}
use Rattle.grid_model.specs.Deeds.{Act}
use Rattle.grid_model.specs.Operations.Objects.{put_row, close_row}
use Rattle.grid_model.specs.Operations.Replicas.{Source, got}
use Rattle.grid_model.specs.declared.deltas.ObjectRow.{ObjectRow}
use Rattle.grid_model.specs.declared.deltas.ResourceRow.{ResourceRow}
use Rattle.grid_model.specs.declared.grid.Mode.{Mode}
use Rattle.size_laws.specs.Within.{IsWithin}

-- ---- sizes

-- what is put is no larger than an object may be, whatever the grid
abbrev pub BodiesAreSmall : Type 0
BodiesAreSmall = (g : Grid) (user : Text) (p : Path) (r : Text) (mode : Mode) (body : List ℕ) (a : Act)
    → (put_row g user p r mode body ≡ Ok a → length body ≤ object_size)
    × ((tree : Resources) → close_row tree g user p r mode body ≡ Ok a → length body ≤ object_size)

-- within the limits what a get reads is no larger than an object may be
abbrev pub SourcesAreSmall : Type 0
SourcesAreSmall = (g : Grid) (user : Text) (p : Path) (asked : Option Text) (from : Source) → IsWithin g → got g user p asked ≡ Ok from
    → from.object.size ≤ object_size

-- nor is an object of the rows
abbrev pub FoundAreSmall : Type 0
FoundAreSmall = (c : Cat) (id : ℕ) (o : ObjectRow) → IsMade c → IsWithin (grid_of c) → object c id ≡ Some o → o.size ≤ object_size

-- ---- moments

-- what is small has few parts
abbrev pub PartsAreFew : Type 0
PartsAreFew = (size : ℕ) → size ≤ object_size → parts size ≤ 2 ^ 8

-- So many bytes, copied or written to at most as many files as there are leaves, take few moments: two and one a part for each
-- file, and eight beside them.
abbrev pub FilesTakeFew : Type 0
FilesTakeFew = (c : Cat) (files size : ℕ) → IsMade c → IsWithin (grid_of c) → files ≤ length (filter (λ (r : ResourceRow). is_storage r.kind) c.resources)
    → size ≤ object_size → files * (2 + parts size) + 8 ≤ 2 ^ 20
