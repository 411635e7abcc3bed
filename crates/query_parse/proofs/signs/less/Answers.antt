use Rattle.std.proofs.Common.{refl, sym, ◌∙◌, arith}
use Rattle.grid_model.specs.QueryTokens.{not_equal, at_most, less}
use Rattle.query_parse.proofs.FrontLemmas.{sign_of_one, sign_of_two, less_ends}
use Rattle.query_parse.proofs.signs.less.Goals as goal

pub returns-then-second-eq62 : goal.returns-then-second-eq62
returns-then-second-eq62 c = sign_of_two c.args.text.now not_equal 0x3C 0x3E refl (λ b. refl) (omega arith) c.requires.begins (sym c.byte_at-second.ensures ∙ c.if-second-eq62.true)

pub returns-then-second-eq61 : goal.returns-then-second-eq61
returns-then-second-eq61 c = sign_of_two c.args.text.now at_most 0x3C 0x3D refl (λ b. refl) (omega arith) c.requires.begins (sym c.byte_at-second.ensures ∙ c.if-second-eq61.true)

pub returns : goal.returns
returns c =
    sign_of_one c.args.text.now less 0x3C refl c.requires.some c.requires.begins
    (less_ends c.args.text.now (λ e. c.if-second-eq62.false (c.byte_at-second.ensures ∙ e)) (λ e. c.if-second-eq61.false (c.byte_at-second.ensures ∙ e)))
