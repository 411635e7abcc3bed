use Rattle.std.proofs.Common.{◌≡◌, None}
use Rattle.rule_cond.specs.Scopes.{env_of}
use Rattle.chain_core.specs.Seen.{rules_of}
use Rattle.chain_core.specs.Answers.{asked, IsUsable, Tells}
use Rattle.chain_core.specs.Ending.{events_left}
use Rattle.chain_run.specs.Calls.{MakesCalls}
use Rattle.chain_run.specs.Runs.{Reaches, IsDue, rest_from}
use Rattle.chain_run.proofs.running.go_on.Given as goal

abbrev pub invariant-actions : goal.invariant-actions
invariant-actions g l = record {
  user : (g.O.Doer.place l.doer).user ≡ l.env.user;
  usable : IsUsable (rules_of l.rules) l.frames;
  asked : l.action ≡ asked l.frames;
  tells : Tells (rules_of l.rules) l.frames l.action;
  ready : g.O.Doer.ready l.doer;
  reached : Reaches (rules_of l.rules) (env_of l.env) (rest_from (rules_of l.rules) (env_of l.env) l.fn.frames (g.O.Doer.place l.fn.doer)) (g.O.Doer.place l.fn.doer)
      l.frames (g.O.Doer.place l.doer);
  made : MakesCalls g.O.Doer.went
      (IsDue (rules_of l.rules) (env_of l.env) (rest_from (rules_of l.rules) (env_of l.env) l.fn.frames (g.O.Doer.place l.fn.doer)) (g.O.Doer.place l.fn.doer))
      None l.fn.doer l.doer;
}

abbrev pub decreases-actions : goal.decreases-actions
decreases-actions g l = events_left (rules_of l.rules) l.frames
