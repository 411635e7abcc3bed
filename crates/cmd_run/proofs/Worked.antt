-- An operation of a verb, as the server does it.
use Rattle.std.proofs.Common.{◌≡◌, inl, inr, ℕ, List, [], ◌∷◌, Some, Ok, Err, refl, sym, ap, ◌∙◌, subst}
use Rattle.std.specs.Prelude.{◌≢◌, ◌⊎◌, Result, ⊤}
use Rattle.grid_outside.specs.Ambient.{AmbientState}
use Rattle.grid_outside.specs.Disk.{DiskState}
use Rattle.grid_outside.specs.Files.{StoreState}
use Rattle.grid_outside.specs.Sink.{SinkState}
use Rattle.grid_outside.specs.Source.{SourceState}
use Rattle.grid_outside.specs.declared.outside.Wear.TheVariants as wear
use Rattle.grid_model.specs.Names.{Text}
use Rattle.grid_model.specs.Operations.Table.{Operation, put, repl, row}
use Rattle.grid_model.specs.Orders.{works}
use Rattle.grid_model.specs.RowGrids.{grid_of, user_name}
use Rattle.grid_model.specs.RuleText.{Rule}
use Rattle.grid_model.specs.Runs.{Request}
use Rattle.grid_model.specs.Sessions.{State}
use Rattle.grid_model.specs.Working.{begun}
use Rattle.grid_model.specs.declared.refusal.Refusal.{Refusal}
use Rattle.grid_model.specs.declared.replies.Reply.{Reply}
use Rattle.grid_model.specs.declared.requests.Verb.{Verb}
use Rattle.grid_journal.specs.Journal.{Journal}
use Rattle.grid_headline.specs.Ends.{MakesFiles}
use Rattle.point_laws.specs.Works.{operation}
use Rattle.run_laws.specs.Ends.{MakesFile}
use Rattle.run_laws.specs.Passes.{Seen}
use Rattle.sess.specs.Places.{at, user_of}
use Rattle.service_run.specs.declared.command.Command.{Command}
use Rattle.service_run.specs.declared.ending.Ending as calls
use Rattle.service_run.specs.declared.ending.Ending.TheVariants as called
use Rattle.row_run.specs.Verbs.{WorksBy}
use Rattle.rule_run.specs.Asked.{IsAsked}
use Rattle.rule_run.specs.Executing.{Executes}
use Rattle.work_run.specs.Works.{DoesWork, MakesFilesBy}
use Rattle.cmd_run.specs.Calls.{begun_command}
use Rattle.cmd_run.specs.Fits.{FitsMain, state_of}
use Rattle.cmd_run.specs.Obeys.{IsRefusedAtOnce, MayMakeFile}
use Rattle.cmd_run.specs.Works.{IsWorkOf}
use Rattle.cmd_run.specs.declared.server.Server.{Server}
use Rattle.cmd_run.proofs.Called.{asked_for, one_order}
use Rattle.cmd_run.proofs.Operating.{not_too_much, refused_row, with_login}
use Rattle.cmd_run.proofs.WorkingLemmas.{login, who}

module _ (s : Server) (session user : ℕ) (has : user_of (at s.sessions session) ≡ Some user) (verb : Verb) (body : Text) where
  abbrev now : State
  now = state_of s

  abbrev name : Text
  name = user_name s.store.cat user

  -- the request does the operation of the user
  pub does_work : (request : Request) (w : IsWorkOf session verb body request) → DoesWork now request name w.op
  does_work request w =
      let Q : Request → Type 0 = λ q. DoesWork now q name w.op in
      subst Q (sym w.is) (λ marks. with_login now session (works w.op w.count) marks (who s session user has) (login s session user has)
      ∙ not_too_much now (who s session user has) w.op w.count (begun now.grid marks) w.small)

  -- where it is refused without a mark its row refuses it
  pub refused_by_row : now.rules ≡ [] → (request : Request) (w : IsWorkOf session verb body request) → IsRefusedAtOnce now request
      → (r : Refusal) × (row (grid_of s.store.cat) name w.op ≡ Err r)
  refused_by_row none request w refused =
      refused_row now none name w.op refused.d refused.why (sym (does_work request w []) ∙ refused.does_so) (ap (λ (x : Reply). x.end) refused.reply_is)

-- some request does it
pub some_work : (session : ℕ) (verb : Verb) (body : Text) → (op : Operation) × WorksBy verb body op → (request : Request) × IsWorkOf session verb body request
some_work session verb body its = (Ok (session, works its.0 0), record { op = its.0; by_verb = its.1; count = 0; is = refl; small = refl })

-- an operation that makes files is one that may make a file
may_make : (op : Operation) (count : ℕ) → MakesFiles (works op count) → MakesFile (works op 0)
may_make (put p r mode body) count makes = tt
may_make (repl p r) count makes = tt
may_make other count makes = absurd makes

-- where there are no rules it is so, or there are some
pub may_rule : {P : Type 0} (rules : List Rule) → (rules ≡ [] → P) → P ⊎ (rules ≢ [])
may_rule [] so = inl (so refl)
may_rule (r ∷ rules) so = inr (λ none. cc)

module _ {D A P K : Type 0} (disk : D → DiskState) (ambient : A → AmbientState) (plugin : P → StoreState) (sink : K → SinkState)
    (before : Server) (session user : ℕ) (verb : Verb) (body : Text) (x : Command) (number : ℕ) (line : Text) (from new : Seen D A P K)
    (result : Result ⊤ calls.Ending) (after : Journal)
    (fits : FitsMain (disk from.outside.main) before) (has : user_of (at before.sessions session) ≡ Some user)
    (x_is : x ≡ begun_command before.store.cat.numbers.run number user line)
    (runs : (source : SourceState) (at : State) (request : Request) (op : Operation) → IsAsked at request before.store.cat x → WorksBy verb body op
    → DoesWork at request (user_name before.store.cat x.user) op → at.rules ≡ (state_of before).rules → MakesFilesBy request (operation op)
    → Executes disk ambient plugin sink source at request before.store.cat x from new result after) where
  pub executed_work : (request : Request) → IsWorkOf session verb body request → (source : SourceState)
      → Executes disk ambient plugin sink source (state_of before) request before.store.cat x from new result after
  executed_work request w source =
      let A : Command → Type 0 = λ y. IsAsked (state_of before) request before.store.cat y in
      let N : Command → Type 0 = λ y. DoesWork (state_of before) request (user_name before.store.cat y.user) w.op in
      let Q : Request → Type 0 = λ q. IsAsked (state_of before) q before.store.cat (begun_command before.store.cat.numbers.run number user line) in
      runs source (state_of before) request w.op
      (subst A (sym x_is) (subst Q (sym w.is) (asked_for before session user has (works w.op w.count) number line (fits.users session user has) fits.pending
      fits.rules)))
      w.by_verb (subst N (sym x_is) (does_work before session user has verb body request w)) refl
      (λ n order is makes. may_make w.op w.count
      (subst MakesFiles (sym (one_order request (session, works w.op w.count) (n, order) w.is is)) makes))

  -- the numbers of vault files run out only where it or a rule makes files
  pub makes_if_dry : ((op : Operation) (count place : ℕ) → WorksBy verb body op → (state_of before).rules ≡ [] → result ≡ Err (called.Worn wear.Vaults place)
      → MakesFile (works op count)) → (request : Request) → IsWorkOf session verb body request → (place : ℕ)
      → result ≡ Err (called.Worn wear.Vaults place) → MayMakeFile (state_of before) request
  makes_if_dry files request w place dry =
      subst (λ (r : Request). MayMakeFile (state_of before) r) (sym w.is)
      (may_rule (state_of before).rules (λ none. files w.op w.count place w.by_verb none dry))
