-- The catalogue that a new grid has, which is this project's own.
use Rattle.std.specs.Prelude.{ℕ, false, List, [], ◌∷◌, ◌++◌, None, Some, flat_map, replicate}
use Rattle.frame_log.specs.Log.{frame}
use Rattle.grid_model.specs.Names.{Text}
use Rattle.grid_model.specs.Grid.{home, everybody}
use Rattle.grid_model.specs.Deltas.{spelling}
use Rattle.grid_model.specs.Rows.{Cat}
use Rattle.grid_model.specs.declared.deltas.Delta.{Delta}
use Rattle.grid_model.specs.declared.deltas.Delta.TheVariants as delta
use Rattle.grid_model.specs.declared.deltas.UserRow.{UserRow}
use Rattle.grid_model.specs.declared.deltas.CollectionRow.{CollectionRow}
use Rattle.grid_model.specs.declared.deltas.EntryRow.{EntryRow}
use Rattle.grid_model.specs.declared.deltas.Numbers.{Numbers}
use Rattle.grid_model.specs.declared.grid.UserKind.TheVariants.{Rodsadmin, Rodsgroup}
use Rattle.grid_model.specs.declared.grid.Level.TheVariants.{Read, Own}
use Rattle.grid_model.specs.declared.grid.ItemKind.TheVariants.{Collection}
use Rattle.grid_journal.specs.Stands.{magic}

-- the administrator has the id 1, and the group of everybody the id 2
abbrev pub start_users : Text → List UserRow
start_users admin =
    record { id = 1; kind = Rodsadmin; name = admin }
    ∷ record { id = 2; kind = Rodsgroup; name = everybody }
    ∷ []

-- `/`, `/<zone>`, `/<zone>/home` and the home of the administrator, by ids from 0 on
abbrev pub start_collections : Text → Text → List CollectionRow
start_collections zone admin =
    record { id = 0; parent = 0; name = []; inherit = false }
    ∷ record { id = 1; parent = 0; name = zone; inherit = false }
    ∷ record { id = 2; parent = 1; name = home; inherit = false }
    ∷ record { id = 3; parent = 2; name = admin; inherit = false }
    ∷ []

-- everybody reads the first three, and the administrator owns the home
abbrev pub start_entries : List EntryRow
start_entries =
    record { kind = Collection; id = 0; user = 2; level = Read }
    ∷ record { kind = Collection; id = 1; user = 2; level = Read }
    ∷ record { kind = Collection; id = 2; user = 2; level = Read }
    ∷ record { kind = Collection; id = 3; user = 1; level = Own }
    ∷ []

-- no vault number was drawn, and no run was begun
abbrev pub start_numbers : Numbers
start_numbers = record { next_vault = 1; run = 0; last = 0 }

-- the catalogue of a new grid with this zone, this administrator and so many stores
abbrev pub start : Text → Text → ℕ → Cat
start zone admin stores = record {
  zone = Some zone;
  stores = stores;
  users = start_users admin;
  members = [];
  collections = start_collections zone admin;
  objects = [];
  replicas = [];
  triples = [];
  entries = start_entries;
  resources = [];
  rules = [];
  orphans = [];
  numbers = start_numbers;
  pending = None;
}

-- the deltas that make it
abbrev pub start_deltas : Text → Text → ℕ → List Delta
start_deltas zone admin stores =
    delta.Zone zone stores
    ∷ delta.User (record { id = 1; kind = Rodsadmin; name = admin })
    ∷ delta.User (record { id = 2; kind = Rodsgroup; name = everybody })
    ∷ delta.Collection (record { id = 0; parent = 0; name = []; inherit = false })
    ∷ delta.Collection (record { id = 1; parent = 0; name = zone; inherit = false })
    ∷ delta.Collection (record { id = 2; parent = 1; name = home; inherit = false })
    ∷ delta.Collection (record { id = 3; parent = 2; name = admin; inherit = false })
    ∷ delta.Entry (record { kind = Collection; id = 0; user = 2; level = Read })
    ∷ delta.Entry (record { kind = Collection; id = 1; user = 2; level = Read })
    ∷ delta.Entry (record { kind = Collection; id = 2; user = 2; level = Read })
    ∷ delta.Entry (record { kind = Collection; id = 3; user = 1; level = Own })
    ∷ delta.Numbers start_numbers
    ∷ []

-- main with one record of this body: the magic bytes, the root 0 and seven more zeros, the record, and a closed gate
abbrev pub main_with : Text → Text
main_with body = magic ++ (replicate 8 0 ++ (frame body ++ 0 ∷ []))

-- main of a new grid
abbrev pub start_main : Text → Text → ℕ → Text
start_main zone admin stores = main_with (flat_map spelling (start_deltas zone admin stores))
