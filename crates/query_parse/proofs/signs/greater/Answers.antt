use Rattle.std.proofs.Common.{refl, sym, ◌∙◌, arith}
use Rattle.grid_model.specs.QueryTokens.{at_least, greater}
use Rattle.query_parse.proofs.FrontLemmas.{sign_of_one, sign_of_two, greater_ends}
use Rattle.query_parse.proofs.signs.greater.Goals as goal

pub returns-then-byte_at-eq61 : goal.returns-then-byte_at-eq61
returns-then-byte_at-eq61 c = sign_of_two c.args.text.now at_least 0x3E 0x3D refl (λ b. refl) (omega arith) c.requires.begins (sym c.byte_at.ensures ∙ c.if-byte_at-eq61.true)

pub returns : goal.returns
returns c =
    sign_of_one c.args.text.now greater 0x3E refl c.requires.some c.requires.begins
    (greater_ends c.args.text.now (λ e. c.if-byte_at-eq61.false (c.byte_at.ensures ∙ e)))
