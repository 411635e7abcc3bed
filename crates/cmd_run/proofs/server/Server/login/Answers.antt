use Rattle.std.proofs.Common.{refl, sym, subst, None, Some}
use Rattle.grid_model.specs.Rows.{Cat}
use Rattle.grid_model.specs.Runs.{Request}
use Rattle.grid_model.specs.declared.replies.End.TheVariants as end
use Rattle.grid_model.specs.declared.refusal.Refusal.TheVariants as refusal
use Rattle.grid_model.specs.Working.{well}
use Rattle.cmd_run.specs.Fits.{state_by, state_of}
use Rattle.cmd_run.specs.Logins.{FindsPerson}
use Rattle.cmd_run.specs.Obeys.{SaysOnly}
use Rattle.cmd_run.proofs.LoginLemmas.{says_nobody, says_login}
use Rattle.cmd_run.proofs.server.Server.login.Goals as goal

pub returns-in-None-clause-obeys : goal.returns-in-None-clause-obeys
returns-in-None-clause-obeys g c = λ source request is.
    let s = c.args.self.now in
    let F : Cat → Type 0 = λ x. FindsPerson x c.args.user.now None in
    let Q : Request → Type 0 = λ r. SaysOnly (state_of s) r (end.Refused refusal.NoUser) (state_of s) in
    c.say.ensures.obeys source request s refl (subst Q (sym is) (says_nobody s c.args.session c.args.user.now (subst F c.tables.ensures c.in-None.ensures)))

pub returns-in-Some-clause-obeys : goal.returns-in-Some-clause-obeys
returns-in-Some-clause-obeys g c = λ source request is.
    let s = c.args.self.now in
    let new = c.login.new.self in
    let F : Cat → Type 0 = λ x. FindsPerson x c.args.user.now (Some c.in-Some.id) in
    let Q : Request → Type 0 = λ r. SaysOnly (state_of s) r well (state_by s.store.cat (state_of s).rules new) in
    let E : _ → Type 0 = λ e. SaysOnly (state_of s) request e (state_by s.store.cat (state_of s).rules new) in
    c.say-in-Some.ensures.obeys source request s refl (subst E (sym c.well.ensures.is)
    (subst Q (sym is) (says_login s c.args.session c.args.user.now c.in-Some.id (subst F c.tables.ensures c.in-Some.ensures) new c.login.ensures.own
    c.login.ensures.others)))
