use Rattle.std.proofs.Common.{arith, ap, sym, ◌∙◌}
use Rattle.sess.specs.Places.{at, user_of}
use Rattle.sess.proofs.PlacesLemmas.{at-index}
use Rattle.sess.proofs.sessions.Sessions.user.Goals as goal

pub returns-in-Some : goal.returns-in-Some
returns-in-Some c =
    ap user_of (sym c.in-Some.is ∙ at-index c.self.inside.places.items c.args.session c.index.result.now (omega (arith, c.requires, c.self.invariant)) c.index.ensures ∙ ap (λ p. at p c.args.session) c.self.view_is)

pub returns-in-None : goal.returns-in-None
returns-in-None c =
    ap user_of (sym c.in-None.is ∙ at-index c.self.inside.places.items c.args.session c.index.result.now (omega (arith, c.requires, c.self.invariant)) c.index.ensures ∙ ap (λ p. at p c.args.session) c.self.view_is)
