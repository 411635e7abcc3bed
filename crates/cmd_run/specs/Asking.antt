-- What a request asks for that was read.
use Rattle.std.specs.Prelude.{◌≡◌, ℕ, ◌<◌, ◌≤◌, Bool, true, false, length, nat_le, Result, Ok, Err}
use Rattle.std.specs.Bool.{MatchBool}
use Rattle.grid_model.specs.Names.{Text}
use Rattle.grid_model.specs.Grid.{Thing}
use Rattle.grid_model.specs.Limits.{object_size}
use Rattle.grid_model.specs.Orders.{Order, lists_triples, queries}
use Rattle.grid_model.specs.QueryOrders.{ReadsQuery}
use Rattle.grid_model.specs.Refusing.{Or}
use Rattle.grid_model.specs.Runs as runs
use Rattle.grid_model.specs.declared.grid.ItemKind.{ItemKind}
use Rattle.grid_model.specs.declared.queries.Query.{Query}
use Rattle.grid_model.specs.declared.requests.Request.{Request}
use Rattle.grid_model.specs.declared.requests.Verb.{Verb}
use Rattle.grid_model.specs.declared.requests.Verb.TheVariants as verb
use Rattle.grid_model.specs.declared.refusal.Refusal.{Refusal}
use Rattle.grid_model.specs.declared.refusal.Refusal.TheVariants as refusal
use Rattle.grid_model.specs.Completing.{IsOfGrid}
use Rattle.grid_model.specs.Sessions.{State}
use Rattle.cmd_read.specs.Orders.{MeansOrder, NamesThing, promised}
use Rattle.row_run.specs.Verbs.{HasGoodWords}
use Rattle.grid_headline.specs.Reads.{is_built, texts}

-- The verb means this order with a body that has as many bytes as were promised, of which this is held: all of it, where no more were promised
-- than an object may have.
abbrev pub MeansHeld : State → Verb → Text → Order → Type 0
MeansHeld at verb held order =
    (body : Text) × MeansOrder texts at verb body order × (nat_le (promised verb) object_size ≡ true → body ≡ held) × (promised verb ≤ length body)

-- The verb asks in the session for this request where the state is so; one that is not built is refused as unknown.
abbrev pub AsksForVerb : State → ℕ → Verb → Text → runs.Request → Type 0
AsksForVerb at session verb held request = MatchBool (is_built verb)
    ((order : Order) × (request ≡ Ok (session, order)) × MeansHeld at verb held order)
    (request ≡ Err refusal.UnknownCommand)

-- The words ask for this request where the state is so, or were refused.
abbrev pub AsksForRequest : State → Result Request Refusal → Text → runs.Request → Type 0
AsksForRequest at (Err r) held request = request ≡ Err r
AsksForRequest at (Ok asked) held request = AsksForVerb at asked.session asked.verb held request

-- the verb ends the input
abbrev pub is_end : Verb → Bool
is_end verb.Quit = true
is_end other = false

-- what was asked ends the input
abbrev pub ends_input : Result Request Refusal → Bool
ends_input (Ok request) = is_end request.verb
ends_input (Err r) = false

-- the line that is noted is this one, unless the words were refused
abbrev pub IsLineOf : Result Request Refusal → Text → Text → Type 0
IsLineOf (Ok request) noted line = noted ≡ line
IsLineOf (Err r) noted line = Unit {0}

-- what words are read as: the session is one of 64, its words are good, and a refusal is one that words may have
abbrev pub IsForm : Result Request Refusal → Type 0
IsForm (Ok asked) = (asked.session < 64) × HasGoodWords asked.verb
IsForm (Err r) = IsOfGrid r

-- the request asks in the session what is said of the thing that is told so
abbrev pub ShowOf : ℕ → ItemKind → Text → runs.Request → Type 0
ShowOf session kind name request = (thing : Thing) × NamesThing kind name thing × (request ≡ Ok (session, lists_triples thing))

-- the request asks in the session for the rows of what the text says as a query
abbrev pub QueryOf : ℕ → Text → runs.Request → Type 0
QueryOf session text request = (query : Or Query) × ReadsQuery text query × (request ≡ Ok (session, queries query))
