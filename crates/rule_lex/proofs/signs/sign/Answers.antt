use Rattle.std.proofs.Common.{refl, arith, ap, sym, ◌∙◌}
use Rattle.std.specs.Prelude.{◌==◌, [], ◌∷◌, slice_index}
use Rattle.rule_lex.specs.declared.token.Symbol.TheVariants.{OpenParenthesis, CloseParenthesis, OpenBrace, CloseBrace, Comma, Semicolon, Join, Equal, NotEqual, AtMost, AtLeast, Less, Greater, And, Or, Not}
use Rattle.rule_lex.proofs.SignLemmas.{one_byte, two_bytes, no_bytes, begun_one, same_false, no_sign_first}
use Rattle.rule_lex.proofs.signs.sign.Goals as goal

pub returns-in-40 : goal.returns-in-40
returns-in-40 c = one_byte c.args.rest.now 40 OpenParenthesis c.requires.some c.in-40.is refl refl refl

pub returns-in-41 : goal.returns-in-41
returns-in-41 c = one_byte c.args.rest.now 41 CloseParenthesis c.requires.some c.in-41.is refl refl refl

pub returns-in-123 : goal.returns-in-123
returns-in-123 c = one_byte c.args.rest.now 123 OpenBrace c.requires.some c.in-123.is refl refl refl

pub returns-in-125 : goal.returns-in-125
returns-in-125 c = one_byte c.args.rest.now 125 CloseBrace c.requires.some c.in-125.is refl refl refl

pub returns-in-44 : goal.returns-in-44
returns-in-44 c = one_byte c.args.rest.now 44 Comma c.requires.some c.in-44.is refl refl refl

pub returns-in-59 : goal.returns-in-59
returns-in-59 c = one_byte c.args.rest.now 59 Semicolon c.requires.some c.in-59.is refl refl refl

pub returns-in-43 : goal.returns-in-43
returns-in-43 c = two_bytes c.args.rest.now 43 43 Join c.in-43.is (sym c.byte_at-second.ensures ∙ c.if-second-eq43.true) (omega arith) refl refl refl

pub returns-in-61 : goal.returns-in-61
returns-in-61 c = two_bytes c.args.rest.now 61 61 Equal c.in-61.is (sym c.byte_at-second.ensures ∙ c.if-second-eq61.true) (omega arith) refl refl refl

pub returns-in-38 : goal.returns-in-38
returns-in-38 c = two_bytes c.args.rest.now 38 38 And c.in-38.is (sym c.byte_at-second.ensures ∙ c.if-second-eq38.true) (omega arith) refl refl refl

pub returns-in-124 : goal.returns-in-124
returns-in-124 c = two_bytes c.args.rest.now 124 124 Or c.in-124.is (sym c.byte_at-second.ensures ∙ c.if-second-eq124.true) (omega arith) refl refl refl

pub returns-in-33 : goal.returns-in-33
returns-in-33 c = two_bytes c.args.rest.now 33 61 NotEqual c.in-33.is (sym c.byte_at-second.ensures ∙ c.if-second-eq61-2.true) (omega arith) refl refl refl

pub returns-in-60 : goal.returns-in-60
returns-in-60 c = two_bytes c.args.rest.now 60 61 AtMost c.in-60.is (sym c.byte_at-second.ensures ∙ c.if-second-eq61-3.true) (omega arith) refl refl refl

pub returns-in-62 : goal.returns-in-62
returns-in-62 c = two_bytes c.args.rest.now 62 61 AtLeast c.in-62.is (sym c.byte_at-second.ensures ∙ c.if-second-eq61-4.true) (omega arith) refl refl refl

pub returns-in-33-2 : goal.returns-in-33-2
returns-in-33-2 c = one_byte c.args.rest.now 33 Not c.requires.some c.in-33.is refl refl (ap (λ b. b == 61) (sym c.byte_at-second.ensures) ∙ same_false c.byte_at-second.result 61 c.if-second-eq61-2.false)

pub returns-in-60-2 : goal.returns-in-60-2
returns-in-60-2 c = one_byte c.args.rest.now 60 Less c.requires.some c.in-60.is refl refl (ap (λ b. b == 61) (sym c.byte_at-second.ensures) ∙ same_false c.byte_at-second.result 61 c.if-second-eq61-3.false)

pub returns-in-62-2 : goal.returns-in-62-2
returns-in-62-2 c = one_byte c.args.rest.now 62 Greater c.requires.some c.in-62.is refl refl (ap (λ b. b == 61) (sym c.byte_at-second.ensures) ∙ same_false c.byte_at-second.result 61 c.if-second-eq61-4.false)

pub returns-in-43-2 : goal.returns-in-43-2
returns-in-43-2 c = begun_one c.args.rest.now 43 Join (43 ∷ []) c.requires.some c.in-43.is refl refl refl (ap (λ b. b == 43) (sym c.byte_at-second.ensures) ∙ same_false c.byte_at-second.result 43 c.if-second-eq43.false)

pub returns-in-61-2 : goal.returns-in-61-2
returns-in-61-2 c = begun_one c.args.rest.now 61 Equal (61 ∷ []) c.requires.some c.in-61.is refl refl refl (ap (λ b. b == 61) (sym c.byte_at-second.ensures) ∙ same_false c.byte_at-second.result 61 c.if-second-eq61.false)

pub returns-in-38-2 : goal.returns-in-38-2
returns-in-38-2 c = begun_one c.args.rest.now 38 And (38 ∷ []) c.requires.some c.in-38.is refl refl refl (ap (λ b. b == 38) (sym c.byte_at-second.ensures) ∙ same_false c.byte_at-second.result 38 c.if-second-eq38.false)

pub returns-in-124-2 : goal.returns-in-124-2
returns-in-124-2 c = begun_one c.args.rest.now 124 Or (124 ∷ []) c.requires.some c.in-124.is refl refl refl (ap (λ b. b == 124) (sym c.byte_at-second.ensures) ∙ same_false c.byte_at-second.result 124 c.if-second-eq124.false)

pub returns-in_default : goal.returns-in_default
returns-in_default c =
    let first = slice_index c.args.rest.now 0 in
    no_bytes c.args.rest.now c.requires.some c.requires.begins
    (no_sign_first first (omega arith) (omega arith) (omega arith) (omega arith) (omega arith) (omega arith) (omega arith) (omega arith) (omega arith) (omega arith) (omega arith) (omega arith) (omega arith) (omega arith))
