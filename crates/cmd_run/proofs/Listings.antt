-- A listing that is asked for by a session that is logged in.
use Rattle.std.proofs.Common.{◌≡◌, ℕ, List, [], Some, None, Ok, Err, refl, ap, subst, ◌∙◌}
use Rattle.std.specs.Prelude.{flat_map, map, ◌∷◌}
use Rattle.grid_model.specs.Grid.{Grid, Thing, Triple, object_at, collection_at, resource_named, user_named}
use Rattle.grid_model.specs.Names.{Text, Path}
use Rattle.grid_model.specs.Levels.{may}
use Rattle.grid_model.specs.Listings.{ls_rows, listed, lsmeta_rows, may_see, object_rows, triples_at}
use Rattle.grid_model.specs.Maps.{get, has}
use Rattle.grid_model.specs.MapLists.{values}
use Rattle.grid_model.specs.Meanings.{Meaning, gives}
use Rattle.grid_model.specs.Obeying.{listing}
use Rattle.grid_model.specs.Operations.Common.{is_taken, needs, object_there}
use Rattle.grid_model.specs.Orders.{lists, lists_triples}
use Rattle.grid_model.specs.Refusing.{Or, ◌>>=◌, unless}
use Rattle.grid_model.specs.RowGrids.{grid_of, user_name}
use Rattle.grid_model.specs.Sessions.{State}
use Rattle.grid_model.specs.Working.{Done, begun, done, well, refused_at_once}
use Rattle.grid_model.specs.declared.grid.Level.TheVariants.{Read}
use Rattle.grid_model.specs.declared.refusal.Refusal.{Refusal}
use Rattle.grid_model.specs.declared.refusal.Refusal.TheVariants.{NoObject, NoAccess, NoCollection, NoResource, NoUser}
use Rattle.grid_model.specs.declared.replies.End.TheVariants as end
use Rattle.chain_laws.proofs.OfGrid.{OfGrid, then_of, there_of, unless_of}
use Rattle.sess.specs.Places.{at, user_of}
use Rattle.cmd_run.specs.declared.server.Server.{Server}
use Rattle.cmd_run.specs.Fits.{state_of}
use Rattle.cmd_run.specs.Obeys.{SaysOnly, SaysRows}
use Rattle.cmd_run.proofs.Operating.{with_login}
use Rattle.cmd_run.proofs.WorkingLemmas.{login, who}

module _ (g : Grid) (user : Text) (p : Path) where
  abbrev rows_at : List (List Text)
  rows_at = elim (get g.objects p) [ Some o ↦ object_rows g (p, o) | None ↦ flat_map (λ rows. rows) (values (listed g user p)) ]

  abbrev shown : Or (List (List Text))
  shown = Ok rows_at

  ls_of : OfGrid (ls_rows g user p)
  ls_of =
      then_of (unless (is_taken g p) NoObject) (λ _. needs g user p Read >>= (λ _. shown)) (unless_of (is_taken g p) NoObject tt) (λ _.
      then_of (needs g user p Read) (λ _. shown) (unless_of (may g user p Read) NoAccess tt) (λ _. tt))

module _ (s : Server) (session user : ℕ) (has : user_of (at s.sessions session) ≡ Some user) (p : Path) where
  abbrev now : State
  now = state_of s

  abbrev name : Text
  name = user_name s.store.cat user

  abbrev by_rows : Or (List (List Text)) → Meaning Done
  by_rows o = gives (listing now o (begun now.grid []))

  -- these rows are shown
  pub says_listed : (rows : List (List Text)) → ls_rows (grid_of s.store.cat) name p ≡ Ok rows → SaysRows now (Ok (session, lists p)) rows well now
  says_listed rows is = record {
    d = done now (begun now.grid []) [] rows None well;
    does_so = with_login now session (lists p) [] (who s session user has) (login s session user has) ∙ ap by_rows is;
    reply_is = refl;
    all = refl;
    state = refl;
    grid = refl;
    by_rows = tt;
  }

  -- or nothing is
  pub says_unlisted : (r : Refusal) → ls_rows (grid_of s.store.cat) name p ≡ Err r → SaysOnly now (Ok (session, lists p)) (end.Refused r) now
  says_unlisted r is = record {
    d = refused_at_once now (begun now.grid []) r;
    does_so = with_login now session (lists p) [] (who s session user has) (login s session user has) ∙ ap by_rows is;
    reply_is = refl;
    all = refl;
    state = refl;
    grid = refl;
    by_rows = subst OfGrid is (ls_of (grid_of s.store.cat) name p);
  }

-- ---- metadata

module _ (g : Grid) (user : Text) where
  may_see_of : (thing : Thing) → OfGrid (may_see g user thing)
  may_see_of (object_at p) =
      then_of (object_there g p) (λ _. needs g user p Read) (there_of (get g.objects p) NoObject tt) (λ _. unless_of (may g user p Read) NoAccess tt)
  may_see_of (collection_at p) =
      then_of (unless (has g.collections p) NoCollection) (λ _. needs g user p Read) (unless_of (has g.collections p) NoCollection tt)
      (λ _. unless_of (may g user p Read) NoAccess tt)
  may_see_of (resource_named n) = unless_of (has g.resources n) NoResource tt
  may_see_of (user_named n) = unless_of (has g.users n) NoUser tt

  lsmeta_of : (thing : Thing) → OfGrid (lsmeta_rows g user thing)
  lsmeta_of thing =
      let rows : List (List Text) = map (λ (t : Triple). t.attribute ∷ t.value ∷ t.unit ∷ []) (triples_at g thing) in
      then_of (may_see g user thing) (λ _. Ok rows) (may_see_of thing) (λ _. tt)

module _ (s : Server) (session user : ℕ) (has_user : user_of (at s.sessions session) ≡ Some user) (thing : Thing) where
  abbrev at_once : State
  at_once = state_of s

  abbrev user_now : Text
  user_now = user_name s.store.cat user

  abbrev by_triples : Or (List (List Text)) → Meaning Done
  by_triples o = gives (listing at_once o (begun at_once.grid []))

  -- what is said of a thing is shown
  pub says_told : (rows : List (List Text)) → lsmeta_rows (grid_of s.store.cat) user_now thing ≡ Ok rows
      → SaysRows at_once (Ok (session, lists_triples thing)) rows well at_once
  says_told rows is = record {
    d = done at_once (begun at_once.grid []) [] rows None well;
    does_so = with_login at_once session (lists_triples thing) [] (who s session user has_user) (login s session user has_user) ∙ ap by_triples is;
    reply_is = refl;
    all = refl;
    state = refl;
    grid = refl;
    by_rows = tt;
  }

  -- or nothing is
  pub says_untold : (r : Refusal) → lsmeta_rows (grid_of s.store.cat) user_now thing ≡ Err r
      → SaysOnly at_once (Ok (session, lists_triples thing)) (end.Refused r) at_once
  says_untold r is = record {
    d = refused_at_once at_once (begun at_once.grid []) r;
    does_so = with_login at_once session (lists_triples thing) [] (who s session user has_user) (login s session user has_user) ∙ ap by_triples is;
    reply_is = refl;
    all = refl;
    state = refl;
    grid = refl;
    by_rows = subst OfGrid is (lsmeta_of (grid_of s.store.cat) user_now thing);
  }
