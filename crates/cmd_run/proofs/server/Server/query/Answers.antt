use Rattle.std.proofs.Common.{refl, sym, subst}
use Rattle.grid_outside.specs.declared.outside.Wear.TheVariants.{Vaults}
use Rattle.grid_model.specs.Orders.{queries}
use Rattle.grid_model.specs.Runs.{Request}
use Rattle.grid_model.specs.declared.refusal.Refusal.TheVariants as refusal
use Rattle.grid_model.specs.declared.replies.End.TheVariants as end
use Rattle.cmd_run.specs.Fits.{state_of}
use Rattle.cmd_run.specs.Obeys.{SaysOnly}
use Rattle.cmd_run.proofs.LoginLemmas.{says_no_login}
use Rattle.cmd_run.proofs.Remembering.{remembers_none}
use Rattle.cmd_run.proofs.server.Server.query.Goals as goal

pub returns-in-None-clause-obeys : goal.returns-in-None-clause-obeys
returns-in-None-clause-obeys g c = λ source request asks.
    let s = c.args.self.now in
    let Q : Request → Type 0 = λ r. SaysOnly (state_of s) r (end.Refused refusal.NoLogin) (state_of s) in
    c.say.ensures.obeys source request s refl (subst Q (sym asks.2) (says_no_login s c.args.session (queries asks.0) (sym c.in-None.ensures) refl))

pub returns-in-None-clause-worn : goal.returns-in-None-clause-worn
returns-in-None-clause-worn g c = λ source request asks what place is. absurd (c.say.ensures.worn what place is)

pub returns-in-None-clause-dry : goal.returns-in-None-clause-dry
returns-in-None-clause-dry g c place is = absurd (c.say.ensures.worn Vaults place is)

pub returns-in-None-clause-remembers : goal.returns-in-None-clause-remembers
returns-in-None-clause-remembers g c =
    remembers_none c.args.line c.args.self.now.store.cat c.args.outside.now.moments (g.D.Disk.disk c.args.outside.now.main)
    (g.D.Disk.disk c.say.new.outside.main) c.say.ensures.remembers

pub returns-in-None-clause-idle : goal.returns-in-None-clause-idle
returns-in-None-clause-idle g c = λ request asks calls. (c.say.ensures.rows, c.say.ensures.stores)

pub query_as-requires-clause-logged_in : goal.query_as-requires-clause-logged_in
query_as-requires-clause-logged_in g c = sym c.in-Some.ensures
