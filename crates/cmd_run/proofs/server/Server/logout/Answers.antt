use Rattle.std.proofs.Common.{refl, sym, subst}
use Rattle.grid_model.specs.Orders.{logs_out}
use Rattle.grid_model.specs.Runs.{Request}
use Rattle.grid_model.specs.declared.replies.End.TheVariants as end
use Rattle.grid_model.specs.declared.refusal.Refusal.TheVariants as refusal
use Rattle.grid_model.specs.Working.{well}
use Rattle.cmd_run.specs.Fits.{state_by, state_of}
use Rattle.cmd_run.specs.Obeys.{SaysOnly}
use Rattle.cmd_run.proofs.LoginLemmas.{says_no_login, says_logout}
use Rattle.cmd_run.proofs.server.Server.logout.Goals as goal

pub returns-in-None-clause-obeys : goal.returns-in-None-clause-obeys
returns-in-None-clause-obeys g c = λ source request is.
    let s = c.args.self.now in
    let Q : Request → Type 0 = λ r. SaysOnly (state_of s) r (end.Refused refusal.NoLogin) (state_of s) in
    c.say.ensures.obeys source request s refl (subst Q (sym is) (says_no_login s c.args.session logs_out (sym c.in-None.ensures) refl))

pub returns-in-Some-clause-obeys : goal.returns-in-Some-clause-obeys
returns-in-Some-clause-obeys g c = λ source request is.
    let s = c.args.self.now in
    let new = c.logout.new.self in
    let Q : Request → Type 0 = λ r. SaysOnly (state_of s) r well (state_by s.store.cat (state_of s).rules new) in
    let E : _ → Type 0 = λ e. SaysOnly (state_of s) request e (state_by s.store.cat (state_of s).rules new) in
    c.say-in-Some.ensures.obeys source request s refl (subst E (sym c.well.ensures.is)
    (subst Q (sym is) (says_logout s c.args.session c.in-Some.field-0 (sym c.in-Some.ensures) new c.logout.ensures.own c.logout.ensures.others)))
