-- A query, as the server does it, and what it does where there are no rules.
use Rattle.std.proofs.Common.{◌≡◌, ℕ, Some, Ok, refl, sym, subst}
use Rattle.std.specs.Prelude.{Result, ⊤}
use Rattle.grid_outside.specs.Ambient.{AmbientState}
use Rattle.grid_outside.specs.Disk.{DiskState}
use Rattle.grid_outside.specs.Files.{StoreState}
use Rattle.grid_outside.specs.Sink.{SinkState}
use Rattle.grid_outside.specs.Source.{SourceState}
use Rattle.grid_model.specs.Names.{Text}
use Rattle.grid_model.specs.Orders.{queries}
use Rattle.grid_model.specs.QueryOrders.{ReadsQuery}
use Rattle.grid_model.specs.Refusing.{Or}
use Rattle.grid_model.specs.RowGrids.{user_name}
use Rattle.grid_model.specs.Runs.{Request}
use Rattle.grid_model.specs.Sessions.{State}
use Rattle.grid_model.specs.declared.queries.Query.{Query}
use Rattle.grid_journal.specs.Journal.{Journal}
use Rattle.query_parse.proofs.EachText.{each_text}
use Rattle.run_laws.specs.Passes.{Seen}
use Rattle.sess.specs.Places.{at, user_of}
use Rattle.service_run.specs.declared.command.Command.{Command}
use Rattle.service_run.specs.declared.ending.Ending as calls
use Rattle.rule_run.specs.Asked.{IsAsked}
use Rattle.rule_run.specs.Executing.{Executes, MakesNoFiles}
use Rattle.work_run.specs.Works.{DoesQuery}
use Rattle.cmd_run.specs.Asking.{QueryOf}
use Rattle.cmd_run.specs.Calls.{begun_command}
use Rattle.cmd_run.specs.Fits.{FitsMain, state_of}
use Rattle.cmd_run.specs.declared.server.Server.{Server}
use Rattle.cmd_run.proofs.Called.{asked_for, makes_none}
use Rattle.cmd_run.proofs.Operating.{with_login}
use Rattle.cmd_run.proofs.WorkingLemmas.{login, who}

-- some request asks for what a text says
pub some_query : (session : ℕ) (text : Text) → (request : Request) × QueryOf session text request
some_query session text = let its = each_text text in (Ok (session, queries its.0), (its.0, its.1, refl))

module _ {D A P K : Type 0} (disk : D → DiskState) (ambient : A → AmbientState) (plugin : P → StoreState) (sink : K → SinkState)
    (before : Server) (session user : ℕ) (text : Text) (x : Command) (number : ℕ) (line : Text) (from new : Seen D A P K)
    (result : Result ⊤ calls.Ending) (after : Journal)
    (fits : FitsMain (disk from.outside.main) before) (has : user_of (at before.sessions session) ≡ Some user)
    (x_is : x ≡ begun_command before.store.cat.numbers.run number user line)
    (runs : (source : SourceState) (at : State) (request : Request) (query : Or Query) → IsAsked at request before.store.cat x → ReadsQuery text query
    → DoesQuery at request (user_name before.store.cat x.user) query → at.rules ≡ (state_of before).rules → MakesNoFiles request
    → Executes disk ambient plugin sink source at request before.store.cat x from new result after) where
  does_query : (query : Or Query) → DoesQuery (state_of before) (Ok (session, queries query)) (user_name before.store.cat user) query
  does_query query marks = with_login (state_of before) session (queries query) marks (who before session user has) (login before session user has)

  pub executed_query : (request : Request) → QueryOf session text request → (source : SourceState)
      → Executes disk ambient plugin sink source (state_of before) request before.store.cat x from new result after
  executed_query request asks source =
      let its : Request = Ok (session, queries asks.0) in
      let A : Command → Type 0 = λ y. IsAsked (state_of before) its before.store.cat y in
      let N : Command → Type 0 = λ y. DoesQuery (state_of before) its (user_name before.store.cat y.user) asks.0 in
      let E : Request → Type 0 = λ q. Executes disk ambient plugin sink source (state_of before) q before.store.cat x from new result after in
      subst E (sym asks.2) (runs source (state_of before) its asks.0
      (subst A (sym x_is) (asked_for before session user has (queries asks.0) number line (fits.users session user has) fits.pending fits.rules))
      asks.1 (subst N (sym x_is) (does_query asks.0)) refl (makes_none session (queries asks.0) (λ makes. makes)))
