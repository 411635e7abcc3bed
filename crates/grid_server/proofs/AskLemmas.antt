-- What a request that was heard asks for.
use Rattle.std.proofs.Common.{◌≡◌, ℕ, ◌<◌, ◌≤◌, length, Bool, true, false, List, [], ◌∷◌, arith, refl, sym, ap, ◌∙◌, subst}
use Rattle.std.specs.Bool.{MatchBool}
use Rattle.std.specs.Prelude.{nat_lt, Option, Some, None, Result, Ok, Err, IsTrue}
use Rattle.std.proofs.lemmas.Bool.{ltb-true}
use Rattle.grid_model.specs.Names.{Text}
use Rattle.grid_model.specs.Writable.{is_word}
use Rattle.grid_model.specs.Orders.{Order, quits}
use Rattle.grid_model.specs.Sessions.{State}
use Rattle.grid_model.specs.Runs as runs
use Rattle.grid_model.specs.Completing.{IsOfGrid}
use Rattle.grid_model.specs.declared.requests.Request.{Request}
use Rattle.grid_model.specs.declared.requests.Verb.{Verb}
use Rattle.grid_model.specs.declared.refusal.Refusal.{Refusal}
use Rattle.grid_model.specs.declared.refusal.Refusal.TheVariants as refusal
use Rattle.cmd_read.specs.Reading.{Reads, as_session, session_of, ReadsBehind, ReadsIn}
use Rattle.cmd_read.specs.Table.{number_of}
use Rattle.cmd_read.specs.Orders.{refusal_of, promised, asks_for as reads_so}
use Rattle.cmd_read.specs.declared.error.ReadError.{ReadError}
use Rattle.cmd_read.specs.declared.error.ReadError.TheVariants as error
use Rattle.grid_headline.specs.Reads.{texts, is_built, MeansRequest, EndsInput}
use Rattle.req_lines.specs.Hearing.{IsReadAs, a_request, cut_short, wrong_words, no_words, too_long, held_of, KeepsLine}
use Rattle.req_lines.proofs.AskingLemmas.{asks_for, asks_refused, asks_unbuilt}
use Rattle.req_lines.proofs.LineBytes.{line_is_word}
use Rattle.req_lines.proofs.ReadingOnce.{IsReadAs-unique}
use Rattle.cmd_run.specs.Asking.{AsksForRequest, IsForm, IsLineOf, MeansHeld, ends_input}
use Rattle.cmd_run.proofs.GoodWords.{good_words_of}
use Rattle.cmd_run.proofs.Meant.{meant, end_built, end_means, quits_end}

-- ---- its form

small_number : (n : Option ℕ) (session : ℕ) → as_session n ≡ Some session → session < 64
small_number None session e = absurd cc
small_number (Some n) session e = by (nat_lt n 64) refl e
  where
    by : (b : Bool) → nat_lt n 64 ≡ b → elim b as (λ _. Option ℕ) [ true ↦ Some n | false ↦ None ] ≡ Some session → session < 64
    by true less is = let same : n ≡ session = cc in subst (λ (k : ℕ). k < 64) same (ltb-true n 64 less)
    by false less is = absurd cc

session_in : (session : ℕ) (ws : List Text) (request : Request) → ReadsIn session ws (Ok request) → request.session ≡ session
session_in session [] request reads = absurd cc
session_in session (v ∷ ws) request reads = reads.0

session_behind : (n : Option ℕ) (k : Option ℕ) → as_session k ≡ n → (ws : List Text) (request : Request) → ReadsBehind n ws (Ok request) → request.session < 64
session_behind None k e ws request reads = absurd cc
session_behind (Some session) k e ws request reads =
    let small : session < 64 = small_number k session e in
    let same : request.session ≡ session = session_in session ws request reads in
    omega (arith, small, same)

session_small : (words : List Text) (request : Request) → Reads words (Ok request) → request.session < 64
session_small [] request reads = absurd cc
session_small (w ∷ ws) request reads = session_behind (session_of w) (number_of w) refl ws request reads

refused_form : (why : ReadError) (r : Refusal) → refusal_of why ≡ Some r → IsOfGrid r
refused_form (error.BadWord index) r e = let same : refusal.BadWord index ≡ r = cc in subst IsOfGrid same tt
refused_form error.UnknownCommand r e = let same : refusal.UnknownCommand ≡ r = cc in subst IsOfGrid same tt
refused_form (error.BadPath place) r e = let same : refusal.BadPath place ≡ r = cc in subst IsOfGrid same tt
refused_form (error.BadName place) r e = let same : refusal.BadName place ≡ r = cc in subst IsOfGrid same tt
refused_form error.Memory r e = absurd cc

pub form_of : (line body : Text) (asked : Result Request Refusal) → IsReadAs line body asked → IsForm asked
form_of line body asked (a_request {words = words} request short spells reads all) = (session_small words request reads, good_words_of line words spells request reads)
form_of line body asked (cut_short request short spells reads few) = tt
form_of line body asked (wrong_words {r = r} why short spells reads is) = refused_form why r is
form_of line body asked (no_words short refused) = tt
form_of line body asked (too_long long) = tt

-- ---- its line

pub kept_line : (asked : Result Request Refusal) (text line : Text) → KeepsLine asked text line → IsLineOf asked text line
kept_line (Ok request) text line keeps = keeps
kept_line (Err r) text line keeps = tt

pub kept_word : (line body : Text) (asked : Result Request Refusal) (text : Text) → IsReadAs line body asked → KeepsLine asked text line → IsTrue (is_word text)
kept_word line body (Ok request) text read keeps = subst (λ (t : Text). IsTrue (is_word t)) (sym keeps) (line_is_word line body request read)
kept_word line body (Err r) text read keeps = subst (λ (t : Text). IsTrue (is_word t)) (sym keeps) refl

-- ---- what it asks for

-- the request as it is handled and as it was meant
pub record Asks (at : State) (line body : Text) (asked : Result Request Refusal) (held : Text) : Type 0 where
  pub request : runs.Request
  pub asks : AsksForRequest at asked held request
  pub means : MeansRequest at (record { line = line; body = body }) request

-- a body has as many bytes as were promised
promised_there : (line body : Text) (asked : Result Request Refusal) → IsReadAs line body asked → (request : Request) → asked ≡ Ok request
    → promised request.verb ≤ length body
promised_there line body asked (a_request {words = words} own short spells reads all) request e =
    let same : own ≡ request = cc in
    subst (λ (r : Request). promised r.verb ≤ length body) same all
promised_there line body asked (cut_short own short spells reads few) request e = absurd cc
promised_there line body asked (wrong_words {r = r} why short spells reads is) request e = absurd cc
promised_there line body asked (no_words short refused) request e = absurd cc
promised_there line body asked (too_long long) request e = absurd cc

-- all of a body, or nothing
abbrev all_or_none : Text → Bool → Text
all_or_none body b = elim b [ true ↦ body | false ↦ [] ]

module _ (at : State) (line body held : Text) where
  -- what the verb asks for in the session, where it is built or not
  abbrev by_built : ℕ → Verb → runs.Request → Bool → Type 0
  by_built session v request b = MatchBool b ((order : Order) × (request ≡ Ok (session, order)) × MeansHeld at v held order) (request ≡ Err refusal.UnknownCommand)

  by_verb : (session : ℕ) (v : Verb) (built : Bool) → is_built v ≡ built → IsReadAs line body (Ok (record { session = session; verb = v }))
      → held ≡ held_of (Ok (record { session = session; verb = v })) body → Asks at line body (Ok (record { session = session; verb = v })) held
  by_verb session v true built read is =
      let asked : Result Request Refusal = Ok (record { session = session; verb = v }) in
      let m = meant at v body held built (form_of line body asked read).1 (λ small. sym (is ∙ ap (all_or_none body) small))
      (promised_there line body asked read (record { session = session; verb = v }) refl) in
      record {
        request = Ok (session, m.0);
        asks = subst (by_built session v (Ok (session, m.0))) (sym built) (m.0, refl, m.1);
        means = asks_for texts at line body (record { session = session; verb = v }) m.0 read built m.2;
      }
  by_verb session v false not_built read is = record {
    request = Err refusal.UnknownCommand;
    asks = subst (by_built session v (Err refusal.UnknownCommand)) (sym not_built) refl;
    means = asks_unbuilt texts at line body (record { session = session; verb = v }) read not_built;
  }

  pub asks_so : (asked : Result Request Refusal) → IsReadAs line body asked → held ≡ held_of asked body → Asks at line body asked held
  asks_so (Ok request) read is = by_verb request.session request.verb (is_built request.verb) refl read is
  asks_so (Err r) read is = record { request = Err r; asks = refl; means = asks_refused texts at line body r read }

-- ---- whether it ends the input

order_is : (m n : ℕ) (a b : Order) → (let r : runs.Request = Ok (m, a) in r ≡ Ok (n, b)) → a ≡ b
order_is m n a b e = let pairs : (m, a) ≡ (n, b) = cc in ap (λ (p : ℕ × Order). p.1) pairs

asked_to_end : (at : State) (line body : Text) (asked : Result Request Refusal) → IsReadAs line body asked → (r : runs.Request) (session : ℕ) → r ≡ Ok (session, quits)
    → MeansRequest at (record { line = line; body = body }) r → ends_input asked ≡ true
asked_to_end at line body asked read r session e (reads_so {session = other} {order = order} request short spells reads same all built means) =
    let is : order ≡ quits = order_is other session order quits e in
    ap ends_input (IsReadAs-unique line body asked (Ok request) read (a_request request short spells reads all)) ∙ quits_end at request.verb body order is means
asked_to_end at line body asked read r session e other = absurd cc

pub not_ending : (line body : Text) (asked : Result Request Refusal) → IsReadAs line body asked → ends_input asked ≡ false → ¬ EndsInput (record { line = line; body = body })
not_ending line body asked read others q = let quitting = asked_to_end q.at line body asked read (Ok (q.session, quits)) q.session refl q.quits in absurd (cc (quitting, others))

pub ends_input_so : (at : State) (line body : Text) (asked : Result Request Refusal) → IsReadAs line body asked → ends_input asked ≡ true → EndsInput (record { line = line; body = body })
ends_input_so at line body (Err r) read e = absurd cc
ends_input_so at line body (Ok request) read e = record {
  at = at;
  session = request.session;
  quits = asks_for texts at line body request quits read (end_built request.verb e) (end_means at request.verb body e);
}
