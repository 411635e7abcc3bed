-- The grid once a resource has another name.
use Rattle.std.specs.Prelude.{true, false, option_map}
use Rattle.grid_model.specs.Maps.{rekey, with_values}
use Rattle.grid_model.specs.Names.{Text, same_text}
use Rattle.grid_model.specs.Grid.{Grid, Object, Resource, Thing, object_at, collection_at, resource_named, user_named}

-- what a name is once the resource `from` is called `to`
abbrev pub renamed : Text → Text → Text → Text
renamed from to name = elim (same_text from name) [ true ↦ to | false ↦ name ]

-- what metadata is of, by what becomes of the names of resources
abbrev pub renamed_thing : (Text → Text) → Thing → Thing
renamed_thing called (object_at p) = object_at p
renamed_thing called (collection_at p) = collection_at p
renamed_thing called (resource_named n) = resource_named (called n)
renamed_thing called (user_named n) = user_named n

-- an object whose replicas lie on leaves so renamed
abbrev pub renamed_leaves : (Text → Text) → Object → Object
renamed_leaves called o = record o { replicas = with_values (λ r. record r { leaf = called r.leaf }) o.replicas }

-- a resource whose parent is so renamed
abbrev pub renamed_parent : (Text → Text) → Resource → Resource
renamed_parent called r = record r { parent = option_map called r.parent }

-- the resource itself, its children, the replicas on it and its metadata say the new name
abbrev pub renamed_grid : Text → Text → Grid → Grid
renamed_grid from to g = record g {
  objects = with_values (renamed_leaves (renamed from to)) g.objects;
  triples = rekey (λ t. record t { of = renamed_thing (renamed from to) t.of }) g.triples;
  resources = rekey (renamed from to) (with_values (renamed_parent (renamed from to)) g.resources);
}
