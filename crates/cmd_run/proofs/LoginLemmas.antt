-- Who logs in and out.
use Rattle.std.proofs.Common.{◌≡◌, ◌≢◌, ◌==◌, ℕ, [], Bool, true, false, Option, Some, None, Ok, Err, refl, sym, ap, ◌∙◌, eq-eqb}
use Rattle.std.specs.Prelude.{option_map, unwrap_or, find, not, ◌&&◌}
use Rattle.std.proofs.lemmas.Bool.{and_from}
use Rattle.grid_model.specs.Maps.{get, put, remove}
use Rattle.grid_model.specs.Names.{Text, same_text}
use Rattle.grid_model.specs.Rows.{Cat, IsCat, user_cmp, user}
use Rattle.grid_model.specs.RowGrids.{grid_of, user_name}
use Rattle.grid_model.specs.Applying.{is_group_kind}
use Rattle.grid_model.specs.Meanings.{gives}
use Rattle.grid_model.specs.Operations.Common.{is_person}
use Rattle.grid_model.specs.Levels.{is_admin}
use Rattle.grid_model.specs.Refusing.{unless}
use Rattle.grid_model.specs.Orders.{Order, logs_in, logs_out, quits, sweeps}
use Rattle.grid_model.specs.Runs.{does}
use Rattle.grid_model.specs.Sessions as sessions
use Rattle.grid_model.specs.Sessions.{State, Sessions}
use Rattle.grid_model.specs.Uploading.{has_upload, with_session}
use Rattle.grid_model.specs.Obeying.{not_logged_in}
use Rattle.grid_model.specs.Completing.{IsOfGrid}
use Rattle.grid_model.specs.Doing.{Course}
use Rattle.grid_model.specs.Working.{Done, begun, answered, refused_at_once, well}
use Rattle.grid_model.specs.declared.deltas.UserRow.{UserRow}
use Rattle.grid_model.specs.declared.replies.End.TheVariants as end
use Rattle.grid_model.specs.declared.refusal.Refusal.{Refusal}
use Rattle.grid_model.specs.declared.refusal.Refusal.TheVariants as refusal
use Rattle.grid_model.proofs.Comparing.{same_text-Decides}
use Rattle.grid_model.proofs.FoundRows.{find-self, found_of}
use Rattle.grid_model.proofs.RowOrders.{lower_id}
use Rattle.tables_laws.proofs.LookUps.{get-users}
use Rattle.tables_laws.proofs.Rows.{IsIn, in_from_find, any_from_in}
use Rattle.sess.specs.Places.{Places, at, user_of, sessions_of, found}
use Rattle.sess.specs.declared.sessions.Session.{Session as Place}
use Rattle.sess.proofs.PlacesLemmas.{sessions_of-get, sessions_of-user, sessions_of-nobody, sessions_of-login, sessions_of-logout}
use Rattle.cmd_run.specs.declared.server.Server.{Server}
use Rattle.cmd_run.specs.Fits.{state_by, state_of}
use Rattle.cmd_run.specs.Logins.{FindsPerson}
use Rattle.cmd_run.specs.Obeys.{SaysOnly}
use Rattle.cmd_run.proofs.Operating.{with_login, without_login}

-- ---- a user by the name

-- the row of this name, which has this id
pub record Named (c : Cat) (name : Text) (id : ℕ) : Type 0 where
  pub row : UserRow
  pub here : IsIn c.users row
  pub id_is : row.id ≡ id
  pub name_is : row.name ≡ name
  pub by_id : user c id ≡ Some row
  pub by_name : get (grid_of c).users name ≡ Some row.kind

abbrev with_name : Cat → Text → Option UserRow
with_name c name = find (λ r. same_text r.name name) c.users

pub is_named : (c : Cat) (name : Text) (id : ℕ) → IsCat c → Some id ≡ option_map (λ r. r.id) (with_name c name) → Named c name id
is_named c name id in_order e = by_row (with_name c name) refl e
  where
    by_row : (o : Option UserRow) → with_name c name ≡ o → Some id ≡ option_map (λ (r : UserRow). r.id) o → Named c name id
    by_row None is some = absurd cc
    by_row (Some x) is some =
        let same : x.id ≡ id = cc in
        let self : user c x.id ≡ Some x = found_of (λ x. user c x.id ≡ Some x) (λ r. same_text r.name name) c.users x
        (find-self user_cmp (λ r. r.id) (λ a b l. lower_id a.id b.id l) c.users in_order.users.ordered) is in
        let there = in_from_find (λ (r : UserRow). same_text r.name name) c.users x is in
        record {
          row = x;
          here = there.0;
          id_is = same;
          name_is = (same_text-Decides x.name name).0 there.1;
          by_id = ap (user c) (sym same) ∙ self;
          by_name = get-users c name ∙ ap (option_map (λ (r : UserRow). r.kind)) is;
        }

pub nobody : (c : Cat) (name : Text) → None ≡ option_map (λ r. r.id) (with_name c name) → FindsPerson c name None
nobody c name e = by_row (with_name c name) refl e
  where
    by_row : (o : Option UserRow) → with_name c name ≡ o → None ≡ option_map (λ (r : UserRow). r.id) o → FindsPerson c name None
    by_row None is none = ap is_person (get-users c name ∙ ap (option_map (λ (r : UserRow). r.kind)) is)
    by_row (Some x) is none = absurd cc

module _ (c : Cat) (name : Text) (id : ℕ) (n : Named c name id) where
  -- a row that was found by the id is that one
  pub row_is : (x : UserRow) → Some x ≡ user c id → x ≡ n.row
  row_is x is = let both : Some x ≡ Some n.row = is ∙ n.by_id in cc

  pub is_nobody : None ≡ user c id → ⊥
  is_nobody is = let both : None ≡ Some n.row = is ∙ n.by_id in cc

  pub no_person : (x : UserRow) → Some x ≡ user c id → not (is_group_kind x.kind) ≡ false → FindsPerson c name None
  no_person x is group = ap is_person n.by_name ∙ ap (λ (r : UserRow). not (is_group_kind r.kind)) (sym (row_is x is)) ∙ group

  pub a_person : (x : UserRow) → Some x ≡ user c id → not (is_group_kind x.kind) ≡ true → FindsPerson c name (Some id)
  a_person x is person =
      let kind : not (is_group_kind n.row.kind) ≡ true = ap (λ (r : UserRow). not (is_group_kind r.kind)) (sym (row_is x is)) ∙ person in
      let here : ((n.row.id == id) && not (is_group_kind n.row.kind)) ≡ true = and_from (n.row.id == id) (not (is_group_kind n.row.kind))
      (eq-eqb n.row.id id n.id_is) kind in (
        ap is_person n.by_name ∙ kind,
        any_from_in (λ u. (u.id == id) && not (is_group_kind u.kind)) c.users n.row n.here here,
        ap (λ (o : Option UserRow). unwrap_or (option_map (λ (r : UserRow). r.name) o) []) n.by_id ∙ n.name_is,
      )

-- ---- sessions

-- no session has an upload
no_upload : (names : ℕ → Text) (p : Option Place) → has_upload (found names p) ≡ false
no_upload names None = refl
no_upload names (Some x) = refl

module _ (s : Server) (session : ℕ) where
  abbrev now : State
  now = state_of s

  abbrev c : Cat
  c = s.store.cat

  abbrev names : ℕ → Text
  names = user_name c

  abbrev from : Course
  from = begun now.grid []

  -- ---- to log in

  module _ (user : Text) where
    abbrev by_tests : Bool → Bool → Done
    by_tests person busy = elim person [
      | false ↦ refused_at_once now from refusal.NoUser
      | true ↦ elim busy [
        | true ↦ refused_at_once now from refusal.Open
        | false ↦ answered (with_session now session (record { user = user; upload = None })) from well
      ]
    ]

    abbrev is_open : Bool
    is_open = has_upload (get now.sessions session)

    abbrev person : Bool
    person = is_person (get (grid_of c).users user)

    either : does now (Ok (session, logs_in user)) [] ≡ gives (by_tests person is_open)
    either = by (get now.sessions session) refl
      where
        by : (o : Option sessions.Session) → get now.sessions session ≡ o → does now (Ok (session, logs_in user)) [] ≡ gives (by_tests person is_open)
        by None is = without_login now session (logs_in user) [] is
        by (Some x) is = with_login now session (logs_in user) [] x is

    pub says_nobody : FindsPerson c user None → SaysOnly now (Ok (session, logs_in user)) (end.Refused refusal.NoUser) now
    says_nobody is = record {
      d = refused_at_once now from refusal.NoUser;
      does_so = either ∙ ap (λ b. gives (by_tests b is_open)) is;
      reply_is = refl;
      all = refl;
      state = refl;
      grid = refl;
      by_rows = tt;
    }

    module _ (id : ℕ) (is : FindsPerson c user (Some id)) (new : Places) (own : at new session ≡ Some (record { user = id }))
        (others : (n : ℕ) → n ≢ session → at new n ≡ at s.sessions n) where
      sessions_are : put now.sessions session (record { user = user; upload = None }) ≡ sessions_of names new
      sessions_are =
          ap (λ (t : Text). put now.sessions session (record { user = t; upload = None })) (sym is.2)
          ∙ sym (sessions_of-login names s.sessions new session id own others)

      pub says_login : SaysOnly now (Ok (session, logs_in user)) well (state_by c now.rules new)
      says_login = record {
        d = answered (with_session now session (record { user = user; upload = None })) from well;
        does_so =
            either ∙ ap (λ b. gives (by_tests b is_open)) is.0 ∙ ap (λ b. gives (by_tests true b))
            (ap has_upload (sessions_of-get names s.sessions session) ∙ no_upload names (at s.sessions session));
        reply_is = refl;
        all = refl;
        state = ap (λ (x : Sessions). (let t : State = record { grid = grid_of c; rules = now.rules; sessions = x } in t)) sessions_are;
        grid = refl;
        by_rows = tt;
      }

  -- ---- to log out, or to quit

  -- nobody is logged in, and asks for something else
  pub says_no_login : (order : Order) → user_of (at s.sessions session) ≡ None
      → not_logged_in now session order from ≡ gives (refused_at_once now from refusal.NoLogin)
      → SaysOnly now (Ok (session, order)) (end.Refused refusal.NoLogin) now
  says_no_login order none is = record {
    d = refused_at_once now from refusal.NoLogin;
    does_so = without_login now session order [] (sessions_of-nobody names s.sessions session none) ∙ is;
    reply_is = refl;
    all = refl;
    state = refl;
    grid = refl;
    by_rows = tt;
  }

  module _ (u : ℕ) (has : user_of (at s.sessions session) ≡ Some u) (new : Places) (own : at new session ≡ None)
      (others : (n : ℕ) → n ≢ session → at new n ≡ at s.sessions n) where
    pub says_logout : SaysOnly now (Ok (session, logs_out)) well (state_by c now.rules new)
    says_logout = record {
      d = answered (record now { sessions = remove now.sessions session }) from well;
      does_so = with_login now session logs_out [] (record { user = names u; upload = None }) (sessions_of-user names s.sessions session u has);
      reply_is = refl;
      all = refl;
      state =
          ap (λ (x : Sessions). (let t : State = record { grid = grid_of c; rules = now.rules; sessions = x } in t))
          (sym (sessions_of-logout names s.sessions new session own others));
      grid = refl;
      by_rows = tt;
    }

  pub says_quit : SaysOnly now (Ok (session, quits)) well now
  says_quit = record {
    d = answered now from well;
    does_so = by (get now.sessions session) refl;
    reply_is = refl;
    all = refl;
    state = refl;
    grid = refl;
    by_rows = tt;
  }
    where
      by : (o : Option sessions.Session) → get now.sessions session ≡ o → does now (Ok (session, quits)) [] ≡ gives (answered now from well)
      by None is = without_login now session quits [] is
      by (Some x) is = with_login now session quits [] x is

  -- ---- a sweep

  -- what a sweep answers, by whether an administrator asks for it
  abbrev swept_by : Bool → Done
  swept_by admin = elim (unless admin refusal.NotAdmin) [ Err r ↦ refused_at_once now from r | Ok _ ↦ answered now from well ]

  module _ (u : ℕ) (has : user_of (at s.sessions session) ≡ Some u) where
    swept_so : (admin : Bool) → is_admin (get (grid_of c).users (names u)) ≡ admin → does now (Ok (session, sweeps)) [] ≡ gives (swept_by admin)
    swept_so admin is =
        with_login now session sweeps [] (record { user = names u; upload = None }) (sessions_of-user names s.sessions session u has)
        ∙ ap (λ b. gives (swept_by b)) is

    pub says_swept : is_admin (get (grid_of c).users (names u)) ≡ true → SaysOnly now (Ok (session, sweeps)) well now
    says_swept admin =
        record { d = answered now from well; does_so = swept_so true admin; reply_is = refl; all = refl; state = refl; grid = refl; by_rows = tt }

    pub says_not_admin : is_admin (get (grid_of c).users (names u)) ≡ false → SaysOnly now (Ok (session, sweeps)) (end.Refused refusal.NotAdmin) now
    says_not_admin other = record {
      d = refused_at_once now from refusal.NotAdmin;
      does_so = swept_so false other;
      reply_is = refl;
      all = refl;
      state = refl;
      grid = refl;
      by_rows = tt;
    }

  -- ---- words that were refused

  pub says_refused : (r : Refusal) → IsOfGrid r → SaysOnly now (Err r) (end.Refused r) now
  says_refused r of_grid = record {
    d = refused_at_once now from r;
    does_so = refl;
    reply_is = refl;
    all = refl;
    state = refl;
    grid = refl;
    by_rows = of_grid;
  }
