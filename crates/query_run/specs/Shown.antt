-- What a query shows of one collection or object, step by step.
use Rattle.std.specs.Prelude.{ℕ, Bool, true, false, List, [], ◌∷◌, ◌++◌, Option, None, Some, map, flat_map, option_map}
use Rattle.std.specs.List.{list_any}
use Rattle.std.specs.Option.{option_map_or}
use Rattle.grid_model.specs.Names.{Text, Path}
use Rattle.grid_model.specs.Grid.{Grid, Replica, Triple}
use Rattle.grid_model.specs.QueryRows.{Combination, cell, choices, columns_named, is_readable}
use Rattle.grid_model.specs.Rows.{Cat, object, replicas_of, triples_of}
use Rattle.grid_model.specs.RowPaths.{collection_path}
use Rattle.grid_model.specs.RowGrids.{grid_of, collection_place, object_of, triple_of}
use Rattle.grid_model.specs.declared.deltas.ObjectRow.{ObjectRow}
use Rattle.grid_model.specs.declared.grid.ItemKind.TheVariants as kind
use Rattle.grid_model.specs.declared.queries.Query.{Query}
use Rattle.plan_list.specs.Listing.{numbered}
use Rattle.query_run.specs.Stages.{is_of_stage, meets_stage}
use Rattle.query_run.specs.declared.stages.Stage.TheVariants.{OfItem, OfReplica, OfTriple}

-- ---- on the grid

-- the rows where the test holds, and else none
abbrev pub rows_if : Bool → List (List Text) → List (List Text)
rows_if true rows = rows
rows_if false rows = []

-- the row of a combination
abbrev pub cells : Grid → Query → Combination → List Text
cells g q c = map (cell g c) q.columns

-- the row of a combination, where the conditions on triples hold
abbrev pub shown_triple : Grid → Query → Combination → List (List Text)
shown_triple g q c = rows_if (meets_stage g OfTriple q c) (cells g q c ∷ [])

-- the rows of a combination with one of these triples, where the conditions on replicas hold
abbrev pub shown_replica : Grid → Query → List (Option Triple) → Combination → List (List Text)
shown_replica g q ts c = rows_if (meets_stage g OfReplica q c) (flat_map (λ t. shown_triple g q (record c { triple = t })) ts)

-- those with one of these replicas, where the other conditions hold
abbrev pub shown_item : Grid → Query → List (Option (ℕ × Replica)) → List (Option Triple) → Combination → List (List Text)
shown_item g q rs ts c = rows_if (meets_stage g OfItem q c) (flat_map (λ r. shown_replica g q ts (record c { replica = r })) rs)

-- those that the user may read
abbrev pub shown_readable : Grid → Text → Query → List (Option (ℕ × Replica)) → List (Option Triple) → Combination → List (List Text)
shown_readable g user q rs ts c = rows_if (is_readable g user c) (shown_item g q rs ts c)

-- ---- by the rows of the catalogue

-- a collection at the path, or an object in it
abbrev pub item_combination : Cat → Path → Option ObjectRow → Combination
item_combination c p o = record { collection = p; object = option_map (λ x. (p ++ x.name ∷ [], object_of c x)) o; replica = None; triple = None }

-- the replicas to choose from
abbrev pub replica_choices : Cat → Query → Option ObjectRow → List (Option (ℕ × Replica))
replica_choices c q None = None ∷ []
replica_choices c q (Some o) = choices (list_any (is_of_stage OfReplica) (columns_named q)) (map (numbered c) (replicas_of c o.id))

-- the triples to choose from
abbrev pub triple_choices : Cat → Query → Option ObjectRow → List (Option Triple)
triple_choices c q None = None ∷ []
triple_choices c q (Some o) =
    choices (list_any (is_of_stage OfTriple) (columns_named q)) (map (triple_of c (collection_path c)) (triples_of c kind.Object o.id))

-- what the user is shown of an object in the collection at the path, or of that collection
abbrev pub shown_at_path : Cat → Text → Query → Path → Option ObjectRow → List (List Text)
shown_at_path c user q p o = shown_readable (grid_of c) user q (replica_choices c q o) (triple_choices c q o) (item_combination c p o)

-- of the object with this id
abbrev pub shown_object : Cat → Text → Query → ℕ → List (List Text)
shown_object c user q id = option_map_or (λ o. shown_at_path c user q (collection_place (collection_path c) o.collection) (Some o)) (object c id) []

-- of the collection with this id
abbrev pub shown_collection : Cat → Text → Query → ℕ → List (List Text)
shown_collection c user q id = shown_at_path c user q (collection_place (collection_path c) id) None
