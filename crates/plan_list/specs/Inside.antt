-- What lies directly in a collection, by the rows.
use Rattle.std.specs.Prelude.{◌≡◌, ◌≢◌, ℕ, List, [], Some, option_map, unwrap_or}
use Rattle.std.specs.List.Sorted.{IsStrictlySortedBy}
use Rattle.grid_model.specs.Names.{Text, text_cmp}
use Rattle.grid_model.specs.Rows.{Cat, collection, object}
use Rattle.grid_model.specs.declared.deltas.CollectionRow.{CollectionRow}
use Rattle.grid_model.specs.declared.deltas.ObjectRow.{ObjectRow}
use Rattle.grid_model.specs.declared.deltas.Item.{Item}
use Rattle.grid_model.specs.declared.deltas.Item.TheVariants as item
use Rattle.tables_laws.proofs.Rows.{IsIn}

-- the item is a collection or an object that lies in the collection with this id; `/` lies in none
abbrev pub IsChildOf : Cat → ℕ → Item → Type 0
IsChildOf c parent (item.Collection id) = (id ≢ 0) × (r : CollectionRow) × (collection c id ≡ Some r) × (r.parent ≡ parent)
IsChildOf c parent (item.Object id) = (o : ObjectRow) × (object c id ≡ Some o) × (o.collection ≡ parent)
IsChildOf c parent other = ⊥

-- the name of an object or a collection; no bytes where it is not there
abbrev pub item_name : Cat → Item → Text
item_name c (item.Collection id) = unwrap_or (option_map (λ r. r.name) (collection c id)) []
item_name c (item.Object id) = unwrap_or (option_map (λ o. o.name) (object c id)) []
item_name c other = []

-- these are the items in the collection, in the order of their names
pub record AreChildren (c : Cat) (parent : ℕ) (items : List Item) : Type 0 where
  pub each : (x : Item) → IsIn items x → IsChildOf c parent x
  pub all : (x : Item) → IsChildOf c parent x → IsIn items x
  pub ordered : IsStrictlySortedBy (λ x y. text_cmp (item_name c x) (item_name c y)) items
