-- A call by itself, of whoever is logged in to a session.
use Rattle.std.proofs.Common.{◌≡◌, ℕ, Bool, true, false, List, [], Some, Ok, Err, IsTrue, refl, sym, ap, ◌∙◌, subst}
use Rattle.std.specs.Prelude.{None, map}
use Rattle.grid_model.specs.Applying.{is_user}
use Rattle.grid_model.specs.Chains.{begin_step, call_rule, counted}
use Rattle.grid_model.specs.Completing.{IsOfGrid}
use Rattle.grid_model.specs.Meanings.{Meaning, gives, mapped}
use Rattle.grid_model.specs.Names.{Text}
use Rattle.grid_model.specs.Obeying.{after_exec, exec_scope, no_env}
use Rattle.grid_model.specs.Orders.{Order, executes}
use Rattle.grid_model.specs.RowGrids.{grid_of, user_name}
use Rattle.grid_model.specs.RuleText.{CallText}
use Rattle.grid_model.specs.Runs.{Request}
use Rattle.grid_model.specs.Sessions.{State}
use Rattle.grid_model.specs.Values.{Env, computed, is_short, value}
use Rattle.grid_model.specs.Working.{Done, answered, begun, end_of, refused_at_once}
use Rattle.grid_model.specs.declared.calls.Call.{Call}
use Rattle.grid_model.specs.declared.marks.Mark.{Mark}
use Rattle.grid_model.specs.declared.refusal.Failure.TheVariants.{LongText}
use Rattle.grid_model.specs.declared.refusal.Refusal.{Refusal}
use Rattle.grid_model.specs.declared.replies.End.TheVariants as end
use Rattle.grid_headline.specs.Ends.{MakesFiles}
use Rattle.grid_headline.specs.Reads.{HasRules}
use Rattle.sess.specs.Places.{at, user_of}
use Rattle.rule_run.specs.Asked.{IsAsked}
use Rattle.rule_run.specs.Executing.{DoesCall, MakesNoFiles}
use Rattle.cmd_run.specs.Calls.{IsComputed, begun_command}
use Rattle.cmd_run.specs.Fits.{state_of}
use Rattle.cmd_run.specs.Obeys.{SaysOnly}
use Rattle.cmd_run.specs.declared.server.Server.{Server}
use Rattle.cmd_run.proofs.Operating.{with_login}
use Rattle.cmd_run.proofs.WorkingLemmas.{login, who}

-- what a request asks for is one order
pub one_order : (request : Request) (a b : ℕ × Order) → request ≡ Ok a → request ≡ Ok b → a.1 ≡ b.1
one_order request a b one other = let both : a ≡ b = cc in ap (λ (p : ℕ × Order). p.1) both

-- an order that makes no files asks for none
pub makes_none : (session : ℕ) (order : Order) → (MakesFiles order → ⊥) → MakesNoFiles (Ok (session, order))
makes_none session order none n o is makes =
    none (subst MakesFiles (sym (one_order (Ok (session, order)) (session, order) (n, o) refl is)) makes)

module _ (s : Server) (session user : ℕ) (has : user_of (at s.sessions session) ≡ Some user) where
  abbrev now : State
  now = state_of s

  abbrev name : Text
  name = user_name s.store.cat user

  -- an order is asked for
  pub asked_for : (order : Order) (number : ℕ) (line : Text) → IsTrue (is_user s.store.cat user) → s.store.cat.pending ≡ None → HasRules s.store.cat now.rules
      → IsAsked now (Ok (session, order)) s.store.cat (begun_command s.store.cat.numbers.run number user line)
  asked_for order number line there none has_rules = record {
    session = session;
    order = order;
    asks = refl;
    of = who s session user has;
    logged_in = login s session user has;
    user = there;
    name = refl;
    grid = refl;
    rules = has_rules;
    run = refl;
    begun = refl;
    none = none;
  }

  -- what is asked for is no call
  pub says_no_call : (r : Refusal) → IsOfGrid r → SaysOnly now (Ok (session, executes (Err r))) (end.Refused r) now
  says_no_call r of_grid = record {
    d = refused_at_once now (begun now.grid []) r;
    does_so = with_login now session (executes (Err r)) [] (who s session user has) (login s session user has);
    reply_is = refl;
    all = refl;
    state = refl;
    grid = refl;
    by_rows = of_grid;
  }

  module _ (call : CallText) where
    -- what it does, by whether no argument is too long
    abbrev by_short : List Mark → Bool → Meaning Done
    by_short marks b = elim b [
      | false ↦ gives (answered now (begun now.grid marks) (end_of LongText))
      | true ↦ mapped (after_exec now)
          (begin_step (call_rule now.rules (no_env name)) name (map (value (exec_scope name) now.grid) call.args) (computed (exec_scope name) now.grid call)
          (counted (begun now.grid marks)))
    ]

    -- one of its arguments is too long
    pub says_long : is_short (computed (exec_scope name) now.grid call) ≡ false → SaysOnly now (Ok (session, executes (Ok call))) (end.Failed LongText) now
    says_long long = record {
      d = answered now (begun now.grid []) (end_of LongText);
      does_so = with_login now session (executes (Ok call)) [] (who s session user has) (login s session user has) ∙ ap (by_short []) long;
      reply_is = refl;
      all = refl;
      state = refl;
      grid = refl;
      by_rows = tt;
    }

    does_by : (done : Call) → IsComputed name (grid_of s.store.cat) call done
        → DoesCall now (Ok (session, executes (Ok call))) now.rules (no_env name) done (map (value (exec_scope name) now.grid) call.args)
    does_by done c marks =
        with_login now session (executes (Ok call)) marks (who s session user has) (login s session user has)
        ∙ ap (by_short marks) (sym (ap is_short c.is) ∙ c.short)
        ∙ ap (λ (x : Call). mapped (after_exec now)
        (begin_step (call_rule now.rules (no_env name)) name (map (value (exec_scope name) now.grid) call.args) x (counted (begun now.grid marks)))) (sym c.is)

    -- what it does by session variables that are these
    pub does_call : (done : Call) (env : Env) → env ≡ no_env name → IsComputed name (grid_of s.store.cat) call done
        → DoesCall now (Ok (session, executes (Ok call))) now.rules env done (map (value (exec_scope name) now.grid) call.args)
    does_call done env is c =
        let E : Env → Type 0 = λ e. DoesCall now (Ok (session, executes (Ok call))) now.rules e done (map (value (exec_scope name) now.grid) call.args) in
        subst E (sym is) (does_by done c)
