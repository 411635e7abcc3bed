use Rattle.std.proofs.Common.{◌≡◌, refl, arith, ap, sym, ◌∙◌}
use Rattle.std.specs.Prelude.{◌==◌, codes}
use Rattle.rule_lex.specs.declared.token.Symbol.TheVariants.{Recovery}
use Rattle.rule_lex.proofs.SignLemmas.{three_bytes, begun_one, begun_two, same_false}
use Rattle.rule_lex.proofs.signs.colons.Goals as goal

pub returns-then-byte_at-ne58 : goal.returns-then-byte_at-ne58
returns-then-byte_at-ne58 c =
    begun_one c.args.rest.now 0x3A Recovery (codes "::") c.requires.some c.requires.begins refl refl refl (ap (λ b. b == 58) (sym c.byte_at.ensures) ∙ same_false c.byte_at.result 58 c.if-byte_at-ne58.true)

pub returns-then-byte_at-ne58-2 : goal.returns-then-byte_at-ne58-2
returns-then-byte_at-ne58-2 c =
    let second : c.byte_at.result ≡ 58 = omega arith in
    begun_two c.args.rest.now 0x3A 0x3A Recovery (codes ":") c.requires.begins (sym c.byte_at.ensures ∙ second) (omega arith) refl refl refl refl (ap (λ b. b == 58) (sym c.byte_at-else-byte_at-ne58.ensures) ∙ same_false c.byte_at-else-byte_at-ne58.result 58 c.if-byte_at-ne58-2.true)

pub returns-else-byte_at-ne58-2 : goal.returns-else-byte_at-ne58-2
returns-else-byte_at-ne58-2 c =
    let second : c.byte_at.result ≡ 58 = omega arith in
    let third : c.byte_at-else-byte_at-ne58.result ≡ 58 = omega arith in
    three_bytes c.args.rest.now 0x3A 0x3A 0x3A Recovery c.requires.begins (sym c.byte_at.ensures ∙ second) (sym c.byte_at-else-byte_at-ne58.ensures ∙ third) (omega arith) (omega arith) refl refl
