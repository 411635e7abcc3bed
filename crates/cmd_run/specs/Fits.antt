-- What a server stands for.
use Rattle.std.specs.Prelude.{◌≡◌, ℕ, List, [], None, Some, IsTrue, map}
use Rattle.grid_outside.specs.Disk.{DiskState}
use Rattle.grid_model.specs.Applying.{is_user}
use Rattle.grid_model.specs.Checks.{first_fault, rules_faults}
use Rattle.grid_model.specs.Parsed.{rule_of}
use Rattle.grid_model.specs.RowGrids.{grid_of, user_name}
use Rattle.grid_model.specs.RuleText.{Rule}
use Rattle.grid_model.specs.Sessions.{State}
use Rattle.sess.specs.Places.{Places, at, user_of, sessions_of}
use Rattle.grid_model.specs.Rows.{Cat}
use Rattle.grid_deed.specs.Held.{IsHeld}
use Rattle.grid_headline.specs.Reads.{HasRules}
use Rattle.chain_core.specs.Seen.{rules_of}
use Rattle.cmd_run.specs.declared.server.Server.{Server}

-- the state of these rows, with these rules, and of who is logged in where
abbrev pub state_by : Cat → List Rule → Places → State
state_by c rules places = record { grid = grid_of c; rules = rules; sessions = sessions_of (user_name c) places }

-- the state that a server stands for
abbrev pub state_of : Server → State
state_of s = state_by s.store.cat (rules_of s.rules) s.sessions

-- who is logged in is a user that there is
abbrev pub AreUsers : Cat → Places → Type 0
AreUsers c places = (n id : ℕ) → user_of (at places n) ≡ Some id → IsTrue (is_user c id)

-- Memory has the rows that main has, with nothing staged; no command is pending, the rules are those of the rows, which are checked ones,
-- and who is logged in is there.
pub record FitsMain (main : DiskState) (s : Server) : Type 0 where
  pub held : IsHeld s.store.cat main s.store
  pub staged : s.store.staged ≡ []
  pub pending : s.store.cat.pending ≡ None
  pub rules : HasRules s.store.cat (rules_of s.rules)
  pub checked : first_fault (rules_faults (map rule_of s.rules.rules)) ≡ None
  pub users : AreUsers s.store.cat s.sessions
