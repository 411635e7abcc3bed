-- Where to look for what a query shows, by its conditions with `=`.
use Rattle.std.specs.Prelude.{◌≡◌, ℕ, Bool, true, false, List, Option, None, Some, map, filter}
use Rattle.grid_model.specs.Names.{Text, print_path}
use Rattle.grid_model.specs.Rows.{Cat, has_collection}
use Rattle.grid_model.specs.RowPaths.{collection_path}
use Rattle.grid_model.specs.RowGrids.{collection_place}
use Rattle.grid_model.specs.declared.deltas.CollectionRow.{CollectionRow}
use Rattle.grid_model.specs.declared.deltas.ObjectRow.{ObjectRow}
use Rattle.grid_model.specs.declared.grid.ItemKind.{ItemKind}
use Rattle.grid_model.specs.declared.grid.ItemKind.TheVariants as kind
use Rattle.grid_model.specs.declared.queries.Column.{Column}
use Rattle.grid_model.specs.declared.queries.Cond.{Cond}
use Rattle.grid_model.specs.declared.queries.Op.TheVariants.{Equal}
use Rattle.grid_model.specs.declared.queries.Query.{Query}
use Rattle.grid_tables.specs.declared.index_key.ItemWithValue.{ItemWithValue}
use Rattle.tables_laws.proofs.Rows.{IsIn}
use Rattle.query_run.specs.Shown.{shown_collection, shown_object}

-- one of these conditions asks that the column has this text
pub record WantsText (conds : List Cond) (column : Column) (text : Text) : Type 0 where
  pub cond : Cond
  pub there : IsIn conds cond
  pub column_is : cond.column ≡ column
  pub op_is : cond.op ≡ Equal
  pub text_is : cond.literal ≡ text

-- the ids of the objects that the user is shown something of are among these
abbrev pub HasShownObjects : Cat → Text → Query → List ℕ → Type 0
HasShownObjects c user q ids = (o : ObjectRow) (row : List Text) → IsIn c.objects o → IsIn (shown_object c user q o.id) row → IsIn ids o.id

-- each object that a user is shown something of is in this collection
abbrev pub ShowsInside : Cat → Query → ℕ → Type 0
ShowsInside c q id = (user : Text) (o : ObjectRow) (row : List Text) → IsIn c.objects o → IsIn (shown_object c user q o.id) row → o.collection ≡ id

-- the collection whose path is printed so, if there is one
abbrev pub FindsPrinted : Cat → Text → Option ℕ → Type 0
FindsPrinted c text None = (id : ℕ) → has_collection c id ≡ true → print_path (collection_place (collection_path c) id) ≡ text → ⊥
FindsPrinted c text (Some id) =
    (has_collection c id ≡ true) × ((other : ℕ) → has_collection c other ≡ true → print_path (collection_place (collection_path c) other) ≡ text → other ≡ id)

-- the ids of the collections that the user is shown are among these
abbrev pub HasShownCollections : Cat → Text → Query → List ℕ → Type 0
HasShownCollections c user q ids = (r : CollectionRow) (row : List Text) → IsIn c.collections r → IsIn (shown_collection c user q r.id) row → IsIn ids r.id

-- it is an object
abbrev pub is_object : ItemKind → Bool
is_object kind.Object = true
is_object other = false

-- the ids of the objects among these items
abbrev pub object_ids : List ItemWithValue → List ℕ
object_ids keys = map (λ k. k.id) (filter (λ k. is_object k.kind) keys)
