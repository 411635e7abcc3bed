use Rattle.std.proofs.Common.{arith, ap, ◌∙◌}
use Rattle.sess.specs.Places.{at}
use Rattle.sess.proofs.PlacesLemmas.{at-set_same, at-set_other}
use Rattle.sess.proofs.sessions.Sessions.logout.Goals as goal

pub returns-clause-own : goal.returns-clause-own
returns-clause-own c = at-set_same c.self.inside.places.items c.args.session _ (omega (arith, c.requires, c.self.invariant))

pub returns-clause-others : goal.returns-clause-others
returns-clause-others c n apart = at-set_other c.self.inside.places.items c.args.session _ n apart ∙ ap (λ p. at p n) c.self.view_is
