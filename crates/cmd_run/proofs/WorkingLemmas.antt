-- The operations of a session that is logged in, or not.
use Rattle.std.proofs.Common.{◌≡◌, ℕ, ◌<◌, Bool, true, false, [], Some, None, Ok, refl, ◌∙◌, subst, arith}
use Rattle.std.specs.Prelude.{nat_le}
use Rattle.std.specs.Prelude.{Result}
use Rattle.std.proofs.lemmas.Bool.{leb-true}
use Rattle.grid_model.specs.Maps.{get}
use Rattle.grid_model.specs.Names.{Text}
use Rattle.grid_model.specs.Limits.{object_size}
use Rattle.grid_model.specs.RowGrids.{user_name}
use Rattle.grid_model.specs.Doing.{Course}
use Rattle.grid_model.specs.Operations.Table.{Operation}
use Rattle.grid_model.specs.Orders.{works}
use Rattle.grid_model.specs.declared.requests.Request as model
use Rattle.grid_model.specs.declared.requests.Verb.{Verb}
use Rattle.grid_model.specs.declared.requests.Verb.TheVariants as verb
use Rattle.cmd_run.specs.Asking.{AsksForRequest, AsksForVerb}
use Rattle.grid_model.specs.Runs.{Request}
use Rattle.grid_model.specs.Sessions.{Session, State}
use Rattle.grid_model.specs.Working.{begun, refused_at_once}
use Rattle.grid_model.specs.declared.refusal.Refusal.{Refusal}
use Rattle.grid_model.specs.declared.refusal.Refusal.TheVariants as refusal
use Rattle.grid_model.specs.declared.replies.End.TheVariants as end
use Rattle.sess.specs.Places.{at, user_of}
use Rattle.sess.proofs.PlacesLemmas.{sessions_of-user}
use Rattle.cmd_run.specs.declared.server.Server.{Server}
use Rattle.cmd_run.specs.Fits.{state_of}
use Rattle.cmd_run.specs.Obeys.{SaysOnly}
use Rattle.cmd_run.proofs.Operating.{with_login, too_much}

module _ (s : Server) (session user : ℕ) (has : user_of (at s.sessions session) ≡ Some user) where
  abbrev now : State
  now = state_of s

  abbrev name : Text
  name = user_name s.store.cat user

  abbrev pub who : Session
  who = record { user = name; upload = None }

  abbrev from : Course
  from = begun now.grid []

  pub login : get now.sessions session ≡ Some who
  login = sessions_of-user (user_name s.store.cat) s.sessions session user has

  -- more bytes were promised than an object may have
  pub says_too_large : (op : Operation) (count : ℕ) → nat_le count object_size ≡ false
      → SaysOnly now (Ok (session, works op count)) (end.Refused (refusal.TooLarge object_size)) now
  says_too_large op count more = record {
    d = refused_at_once now from (refusal.TooLarge object_size);
    does_so = with_login now session (works op count) [] who login ∙ too_much now who op count from more;
    reply_is = refl;
    all = refl;
    state = refl;
    grid = refl;
    by_rows = tt;
  }

-- ---- what was read

-- what it asks for, where its verb is known
pub verb_asks : (at : State) (asked : Result model.Request Refusal) (body : Text) (request : Request) (r : model.Request) (v : Verb) → asked ≡ Ok r
    → r.verb ≡ v → AsksForRequest at asked body request
    → AsksForVerb at r.session v body request
verb_asks at asked body request r v is verb_is asks =
    let A : Result model.Request Refusal → Type 0 = λ a. AsksForRequest at a body request in
    let V : Verb → Type 0 = λ x. AsksForVerb at r.session x body request in
    subst V verb_is (subst A is asks)

-- one that is more is not at most
pub not_le : (a b : ℕ) → b < a → nat_le a b ≡ false
not_le a b more = by (nat_le a b) refl
  where
    by : (t : Bool) → nat_le a b ≡ t → t ≡ false
    by true e = absurd (omega (arith, more, leb-true a b e))
    by false e = refl
