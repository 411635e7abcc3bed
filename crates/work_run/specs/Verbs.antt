-- What verbs do: an operation, or the rows of a query.
use Rattle.std.specs.Prelude.{◌≡◌, ℕ, Bool, true, false, Err}
use Rattle.grid_model.specs.Grid.{Grid}
use Rattle.grid_model.specs.Names.{Text}
use Rattle.grid_model.specs.Operations.Table.{Operation, row}
use Rattle.grid_model.specs.Orders.{works}
use Rattle.grid_model.specs.QueryOrders.{ReadsQuery}
use Rattle.grid_model.specs.Refusing.{Or}
use Rattle.grid_model.specs.declared.queries.Query.{Query}
use Rattle.grid_model.specs.declared.refusal.Refusal.{Refusal}
use Rattle.grid_model.specs.declared.requests.Verb.{Verb}
use Rattle.grid_model.specs.declared.requests.Verb.TheVariants as verb
use Rattle.point_laws.specs.Works.{Work, operation, query}
use Rattle.row_run.specs.Verbs.{WorksBy}
use Rattle.run_laws.specs.Ends.{MakesFile}

-- the verb asks for what its text is read as
abbrev pub AsksBy : Verb → Or Query → Type 0
AsksBy (verb.Query text) q = ReadsQuery text q
AsksBy other q = ⊥

-- the verb, with this body, does this work
abbrev pub WorksAs : Verb → Text → Work → Type 0
WorksAs v body (operation op) = WorksBy v body op
WorksAs v body (query q) = AsksBy v q

-- it asks for rows, or has an operation
abbrev pub HasWork : Verb → Text → Type 0
HasWork (verb.Query text) body = Unit {0}
HasWork other body = (op : Operation) × WorksBy other body op

-- its operation, where it has one, sends no bytes: it is done as a call of the command
abbrev pub is_call : Verb → Bool
is_call (verb.Get path resource) = false
is_call (verb.Query text) = false
is_call other = true

-- whatever marks come it changes nothing: it is refused, or shows rows
abbrev pub IsIdle : Grid → Text → Verb → Text → Type 0
IsIdle g user (verb.Query text) body = Unit {0}
IsIdle g user other body = (op : Operation) × WorksBy other body op × (r : Refusal) × (row g user op ≡ Err r)

-- its operation makes files, for which its line promised so many bytes
abbrev pub MayMakeFile : ℕ → Verb → Text → Type 0
MayMakeFile count (verb.Query text) body = ⊥
MayMakeFile count other body = (op : Operation) → WorksBy other body op → MakesFile (works op count)
