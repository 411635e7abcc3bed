-- The grid once what was at one path, with all that lies below it, is at another.
use Rattle.std.specs.Prelude.{None, Some, ◌++◌}
use Rattle.grid_model.specs.Maps.{rekey}
use Rattle.grid_model.specs.Names.{Path, path_below}
use Rattle.grid_model.specs.Grid.{Grid, Thing, object_at, collection_at, resource_named, user_named}

-- where a path is once what was at `from` is at `to`
abbrev pub moved : Path → Path → Path → Path
moved from to p = elim (path_below from p) [ Some rest ↦ to ++ rest | None ↦ p ]

-- a thing that has a path, by what becomes of that
abbrev pub moved_thing : (Path → Path) → Thing → Thing
moved_thing at (object_at p) = object_at (at p)
moved_thing at (collection_at p) = collection_at (at p)
moved_thing at (resource_named n) = resource_named n
moved_thing at (user_named n) = user_named n

-- the grid with each path where a function has it: metadata and access go with what they are of
abbrev pub with_paths : (Path → Path) → Grid → Grid
with_paths at g = record g {
  collections = rekey at g.collections;
  objects = rekey at g.objects;
  triples = rekey (λ t. record t { of = moved_thing at t.of }) g.triples;
  access = rekey (λ k. (at k.0, k.1)) g.access;
}

-- the grid once what was at `from` is at `to`
abbrev pub moved_grid : Path → Path → Grid → Grid
moved_grid from to g = with_paths (moved from to) g
