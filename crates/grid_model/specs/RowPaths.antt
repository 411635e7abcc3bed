-- Where the collections and objects of a catalogue are: full paths for ids.
use Rattle.std.specs.Prelude.{ℕ, zero, suc, Bool, true, false, ◌==◌, [], ◌∷◌, length, reverse, find, Option, None, Some, option_map}
use Rattle.grid_model.specs.Names.{Path, same_path}
use Rattle.grid_model.specs.Rows.{Cat, collection, object}
use Rattle.grid_model.specs.declared.deltas.Item.{Item}
use Rattle.grid_model.specs.declared.deltas.Item.TheVariants as item
use Rattle.grid_model.specs.declared.deltas.ObjectRow.{ObjectRow}

-- the names from a collection up to `/`, its own first, where at most so many rows lead there
abbrev pub names_within : ℕ → Cat → ℕ → Option Path
names_within zero c id = None
names_within (suc rows) c id =
    elim (id == 0) [
      | true ↦ Some []
      | false ↦
          elim (collection c id) [ None ↦ None | Some r ↦ option_map (λ names. r.name ∷ names) (names_within rows c r.parent) ]
    ]

-- the names from a collection up to `/`, its own first, or none where `/` is not above it
abbrev pub names_up : Cat → ℕ → Option Path
names_up c id = names_within (length c.collections) c id

-- the path of a collection, or none where `/` is not above it
abbrev pub collection_path : Cat → ℕ → Option Path
collection_path c id = option_map reverse (names_up c id)

-- the path of an object: that of its collection, and its name
abbrev pub object_path : Cat → ObjectRow → Option Path
object_path c r = option_map (λ names. reverse (r.name ∷ names)) (names_up c r.collection)

-- the path of an object or a collection; resources and users have none
abbrev pub item_path : Cat → Item → Option Path
item_path c (item.Object id) = elim (object c id) [ None ↦ None | Some r ↦ object_path c r ]
item_path c (item.Collection id) = collection_path c id
item_path c (item.Resource id) = None
item_path c (item.User id) = None

-- whether there is a path, and it is this one
abbrev pub is_path_of : Option Path → Path → Bool
is_path_of None path = false
is_path_of (Some p) path = same_path p path

-- the collection whose path this is
abbrev pub collection_at : Cat → Path → Option ℕ
collection_at c path = option_map (λ r. r.id) (find (λ r. is_path_of (collection_path c r.id) path) c.collections)

-- the object whose path this is
abbrev pub object_at : Cat → Path → Option ℕ
object_at c path = option_map (λ r. r.id) (find (λ r. is_path_of (object_path c r) path) c.objects)
