-- The rows of a listing, by the rows of the catalogue.
use Rattle.std.specs.Prelude.{◌≡◌, ℕ, true, false, List, [], ◌∷◌, ◌++◌, map, flat_map, Result, Ok, Err, IsTrue}
use Rattle.std.specs.List.{list_all}
use Rattle.grid_model.specs.Names.{Text, Path}
use Rattle.grid_model.specs.Grid.{Replica}
use Rattle.grid_model.specs.Levels.{may}
use Rattle.grid_model.specs.Listings.{collection_listing, replica_listing, ls_rows}
use Rattle.grid_model.specs.Rows.{Cat, replicas_of}
use Rattle.grid_model.specs.RowGrids.{grid_of, replica_of}
use Rattle.grid_model.specs.Writable.{is_word}
use Rattle.grid_model.specs.declared.deltas.Item.{Item}
use Rattle.grid_model.specs.declared.deltas.Item.TheVariants as item
use Rattle.grid_model.specs.declared.deltas.ReplicaRow.{ReplicaRow}
use Rattle.grid_model.specs.declared.grid.Level.TheVariants.{Read}
use Rattle.grid_model.specs.declared.plans.PlanError.{PlanError}
use Rattle.grid_model.specs.declared.plans.PlanError.TheVariants.{Refused, Memory}
use Rattle.plan_list.specs.Inside.{AreChildren, item_name}

-- the number and the replica of a row
abbrev pub numbered : Cat → ReplicaRow → ℕ × Replica
numbered c x = (x.number, replica_of c x)

-- the rows of an item by itself, which is at the path
abbrev pub item_rows : Cat → Path → Item → List (List Text)
item_rows c p (item.Collection id) = collection_listing p ∷ []
item_rows c p (item.Object id) = map (λ x. replica_listing (grid_of c) p (numbered c x)) (replicas_of c id)
item_rows c p other = []

-- the path of an item in the collection at this path
abbrev pub child_path : Cat → Path → Item → Path
child_path c above x = above ++ item_name c x ∷ []

-- what the user is shown of it
abbrev pub shown : Cat → Text → Path → Item → List (List Text)
shown c user above x = elim (may (grid_of c) user (child_path c above x) Read) [ true ↦ item_rows c (child_path c above x) x | false ↦ [] ]

-- what is shown of an item at the path: of a collection, what is shown of each of its children
abbrev pub shown_at : Cat → Text → Path → Item → List (List Text) → Type 0
shown_at c user p (item.Collection id) rows = (items : List Item) × AreChildren c id items × (rows ≡ flat_map (shown c user p) items)
shown_at c user p x rows = rows ≡ item_rows c p x

-- The rows that a listing shows a user, each word of which may stand in a reply; or why it is refused, or nothing where memory ran
-- out.
abbrev pub Lists : Cat → Text → Path → Result (List (List Text)) PlanError → Type 0
Lists c user p (Ok rows) = (ls_rows (grid_of c) user p ≡ Ok rows) × IsTrue (list_all (list_all is_word) rows)
Lists c user p (Err (Refused r)) = ls_rows (grid_of c) user p ≡ Err r
Lists c user p (Err Memory) = Unit {0}
