-- Things by their paths and names, and the items and rows that they have.
use Rattle.std.specs.Prelude.{◌≡◌, true, Result, Ok, Err, ⊤}
use Rattle.grid_model.specs.Maps.{has}
use Rattle.grid_model.specs.Names.{Text, Path}
use Rattle.grid_model.specs.Grid.{Grid, Thing, object_at, collection_at, resource_named, user_named}
use Rattle.grid_model.specs.Refusing.{Or, ◌>>=◌, unless}
use Rattle.grid_model.specs.Operations.Common.{needs, object_there}
use Rattle.grid_model.specs.Rows.{Cat, item_there, kind_of, id_of}
use Rattle.grid_model.specs.RowPaths.{collection_path}
use Rattle.grid_model.specs.RowGrids.{thing_of}
use Rattle.grid_model.specs.declared.deltas.Item.{Item}
use Rattle.grid_model.specs.declared.deltas.TripleRow.{TripleRow}
use Rattle.grid_model.specs.declared.grid.Level.{Level}
use Rattle.grid_model.specs.declared.refusal.Refusal.{Refusal}
use Rattle.grid_model.specs.declared.refusal.Refusal.TheVariants.{NoCollection}
use Rattle.plan_meta.specs.declared.things.ThingName.{ThingName}
use Rattle.plan_meta.specs.declared.things.ThingName.TheVariants as name

-- the thing with this path or name
abbrev pub thing_by : ThingName → Thing
thing_by (name.ObjectAt path) = object_at path
thing_by (name.CollectionAt path) = collection_at path
thing_by (name.ResourceNamed text) = resource_named text
thing_by (name.UserNamed text) = user_named text

-- the item is there, and is the thing
pub record IsItemOf (c : Cat) (thing : Thing) (i : Item) : Type 0 where
  pub there : item_there c (kind_of i) (id_of i) ≡ true
  pub thing_is : thing_of c (collection_path c) (kind_of i) (id_of i) ≡ thing

-- what looking for a thing gives, of which this is asked: its item where all holds, and else the refusal
abbrev pub FindsItem : Cat → Thing → Or ⊤ → Result Item Refusal → Type 0
FindsItem c thing asked (Ok i) = (asked ≡ Ok tt) × IsItemOf c thing i
FindsItem c thing asked (Err r) = asked ≡ Err r

-- what is asked of an object or a collection at the path where the user is to have this level
abbrev pub asked_of_object : Grid → Text → Path → Level → Or ⊤
asked_of_object g user p level = object_there g p >>= (λ _. needs g user p level)

abbrev pub asked_of_collection : Grid → Text → Path → Level → Or ⊤
asked_of_collection g user p level = unless (has g.collections p) NoCollection >>= (λ _. needs g user p level)

-- the row that says this of the item
abbrev pub row_saying : Item → Text → Text → Text → TripleRow
row_saying i attribute value unit = record { kind = kind_of i; id = id_of i; attribute = attribute; value = value; unit = unit }
