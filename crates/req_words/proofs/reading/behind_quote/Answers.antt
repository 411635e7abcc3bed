use Rattle.std.proofs.Common.{◌≡◌, ℕ, Bool, true, false, [], eqb, refl, sym, subst}
use Rattle.std.specs.Bool.{then_some}
use Rattle.std.proofs.lemmas.Bool.{eqb-true, eqb-false}
use Rattle.req_words.specs.Going.{StepsTo}
use Rattle.req_words.specs.declared.reading.Place.TheVariants.{Gap, Closed}
use Rattle.req_words.proofs.Steps.{spaced, behind_space}
use Rattle.req_words.proofs.reading.behind_quote.Goals as goal

closed : (b : ℕ) (x : Bool) → eqb b 0x20 ≡ x → StepsTo Closed b (then_some x Gap) []
closed b true e = let is = eqb-true b 0x20 e in record {
  to = λ rest ws line. (is, spaced b rest ws is line);
  from = λ rest ws line. (ws, refl, behind_space b rest ws is line.1);
}
closed b false e = λ rest ws line. eqb-false b 0x20 e line.0

pub returns : goal.returns
returns c = subst (λ o. StepsTo Closed c.args.byte o []) (sym c.then_some.ensures) (closed c.args.byte (eqb c.args.byte 0x20) refl)
