-- What a row of a query is made of, as the rows of the catalogue have it.
use Rattle.std.specs.Prelude.{◌++◌, List, [], ◌∷◌, Some, decimal, option_map, option_copied, IsTrue, IfSome}
use Rattle.std.specs.List.{list_all}
use Rattle.grid_model.specs.Digests.{checksum}
use Rattle.grid_model.specs.Names.{Text, is_name}
use Rattle.grid_model.specs.QueryRows.{Combination, status_number}
use Rattle.grid_model.specs.Rows.{Cat, has_resource}
use Rattle.grid_model.specs.RowPaths.{collection_path}
use Rattle.grid_model.specs.RowGrids.{grid_of, object_of, resource_name, triple_of}
use Rattle.grid_model.specs.Trees.{hierarchy}
use Rattle.grid_model.specs.Writable.{is_word}
use Rattle.grid_model.specs.declared.deltas.ObjectRow.{ObjectRow}
use Rattle.grid_model.specs.declared.deltas.ReplicaRow.{ReplicaRow}
use Rattle.grid_model.specs.declared.deltas.TripleRow.{TripleRow}
use Rattle.grid_model.specs.declared.queries.Column.{Column}
use Rattle.grid_model.specs.declared.queries.Column.TheVariants as column
use Rattle.grid_model.specs.declared.queries.Query.{Query}
use Rattle.plan_list.specs.Listing.{numbered}
use Rattle.query_run.specs.Shown.{replica_choices, triple_choices, shown_item, shown_replica, shown_triple}
use Rattle.query_run.specs.declared.parts.Parts.{Parts}

-- the combination that they are
abbrev pub combination_of : Cat → Parts → Combination
combination_of c p = record {
  collection = p.collection.now;
  object = option_map (λ o. (p.collection.now ++ o.name ∷ [], object_of c o)) (option_copied p.object);
  replica = option_map (numbered c) (option_copied p.replica);
  triple = option_map (triple_of c (collection_path c)) (option_copied p.triple);
}

-- an attribute, a value and a unit that may stand in a reply
pub record AreWords (t : TripleRow) : Type 0 where
  pub attribute : IsTrue (is_word t.attribute)
  pub value : IsTrue (is_word t.value)
  pub unit : IsTrue (is_word t.unit)

-- each can be shown: the object has a name, the replica is on a leaf, and the triple has words
pub record CanBeShown (c : Cat) (p : Parts) : Type 0 where
  pub object : IfSome p.object (λ o. IsTrue (is_name o.now.name))
  pub replica : IfSome p.replica (λ r. IsTrue (has_resource c r.now.leaf))
  pub triple : IfSome p.triple (λ t. AreWords t.now)

-- what a row of an object shows in a column of the object
abbrev pub object_text : ObjectRow → Column → Text
object_text o column.DataName = o.name
object_text o column.DataModifyTime = decimal o.time
object_text o other = []

-- what it shows in one of its replica
abbrev pub replica_text : Cat → ReplicaRow → Column → Text
replica_text c r column.DataSize = decimal r.size
replica_text c r column.DataReplNum = decimal r.number
replica_text c r column.DataReplStatus = decimal (status_number r.good)
replica_text c r column.DataRescHier = hierarchy (grid_of c).resources (resource_name c r.leaf)
replica_text c r column.DataChecksum = checksum r.digest
replica_text c r other = []

-- what it shows in one of its triple
abbrev pub triple_text : TripleRow → Column → Text
triple_text t column.MetaDataAttrName = t.attribute
triple_text t column.MetaDataAttrValue = t.value
triple_text t column.MetaDataAttrUnits = t.unit
triple_text t other = []

-- ---- what is shown of them

-- the row with the replica and the triple that are chosen
abbrev pub row_of : Cat → Query → Parts → List (List Text)
row_of c q p = shown_triple (grid_of c) q (combination_of c p)

-- that with this triple
abbrev pub row_with : Cat → Query → Parts → TripleRow → List (List Text)
row_with c q p t = shown_triple (grid_of c) q (record (combination_of c p) { triple = Some (triple_of c (collection_path c) t) })

-- the rows with the replica that is chosen, with each of the triples
abbrev pub rows_of : Cat → Query → Parts → List (List Text)
rows_of c q p = shown_replica (grid_of c) q (triple_choices c q (option_copied p.object)) (combination_of c p)

-- those with this replica
abbrev pub rows_with : Cat → Query → Parts → ReplicaRow → List (List Text)
rows_with c q p r =
    shown_replica (grid_of c) q (triple_choices c q (option_copied p.object)) (record (combination_of c p) { replica = Some (numbered c r) })

-- the rows with each of the replicas
abbrev pub all_rows_of : Cat → Query → Parts → List (List Text)
all_rows_of c q p = shown_item (grid_of c) q (replica_choices c q (option_copied p.object)) (triple_choices c q (option_copied p.object)) (combination_of c p)

-- where the old rows may stand in a reply, the new ones may
abbrev pub KeepsWords : List (List Text) → List (List Text) → Type 0
KeepsWords old new = IsTrue (list_all (list_all is_word) old) → IsTrue (list_all (list_all is_word) new)
