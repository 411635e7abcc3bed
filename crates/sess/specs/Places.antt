-- Who is logged in where, as places by the numbers of sessions.
use Rattle.std.specs.Prelude.{ℕ, suc, zero, ◌+◌, List, [], ◌∷◌, Option, Some, None}
use Rattle.grid_model.specs.Maps.{empty, put}
use Rattle.grid_model.specs.Names.{Text}
use Rattle.grid_model.specs.Sessions as model
use Rattle.sess.specs.declared.sessions.Session.{Session}

-- a place for each session, from number 0 on
abbrev pub Places : Type 0
Places = List (Option Session)

-- the session of this number, if it is logged in
abbrev pub at : Places → ℕ → Option Session
at [] n = None
at (x ∷ xs) zero = x
at (x ∷ xs) (suc n) = at xs n

-- the user of a session
abbrev pub user_of : Option Session → Option ℕ
user_of None = None
user_of (Some s) = Some s.user

-- the session of a user of this name
abbrev pub session_by_name : (ℕ → Text) → Session → model.Session
session_by_name names s = record { user = names s.user; upload = None }

-- the same, where it is logged in
abbrev pub found : (ℕ → Text) → Option Session → Option model.Session
found names None = None
found names (Some s) = Some (session_by_name names s)

-- sessions with one more of this number, where it is logged in
abbrev pub with_place : (ℕ → Text) → ℕ → Option Session → model.Sessions → model.Sessions
with_place names n None sessions = sessions
with_place names n (Some s) sessions = put sessions n (session_by_name names s)

-- the sessions of places that begin with this number
abbrev pub sessions_from : (ℕ → Text) → ℕ → Places → model.Sessions
sessions_from names n [] = empty
sessions_from names n (x ∷ xs) = with_place names n x (sessions_from names (n + 1) xs)

-- the sessions that are logged in, where users have these names
abbrev pub sessions_of : (ℕ → Text) → Places → model.Sessions
sessions_of names places = sessions_from names 0 places
