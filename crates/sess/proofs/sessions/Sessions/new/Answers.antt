use Rattle.std.proofs.Common.{ap, ◌∙◌}
use Rattle.sess.specs.Places.{at}
use Rattle.sess.proofs.PlacesLemmas.{at-none}
use Rattle.sess.proofs.sessions.Sessions.new.Goals as goal

pub returns : goal.returns
returns c n = ap (λ p. at p n) c.in_ok-from_array.ensures.items ∙ at-none 64 n
