use Rattle.std.proofs.Common.{refl}
use Rattle.grid_model.specs.QueryTokens.{equal}
use Rattle.std.specs.Prelude.{slice_index}
use Rattle.query_parse.proofs.FrontLemmas.{comma_at, sign_of_one, equal_ends, last_sign}
use Rattle.query_parse.proofs.signs.sign.Goals as goal

pub greater-requires : goal.greater-requires
greater-requires c = record { some = c.requires.some; begins = last_sign (slice_index c.args.text.now 0) c.requires.begins c.if-first-eq44.false c.if-first-eq61.false c.if-first-eq60.false }

pub returns-then-first-eq44 : goal.returns-then-first-eq44
returns-then-first-eq44 c = comma_at c.args.text.now c.requires.some c.if-first-eq44.true

pub returns-then-first-eq61 : goal.returns-then-first-eq61
returns-then-first-eq61 c = sign_of_one c.args.text.now equal 0x3D refl c.requires.some c.if-first-eq61.true (equal_ends c.args.text.now)
