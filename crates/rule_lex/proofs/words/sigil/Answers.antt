use Rattle.std.proofs.Common.{◌≡◌, false, drop, sym, ap, ◌∙◌, ⊎_elim}
use Rattle.std.proofs.lemmas.List.{take_rest}
use Rattle.rule_lex.specs.Bytes.{starts_with_letter}
use Rattle.rule_lex.proofs.WordLemmas.{param_at, session_at, no_param, no_session}
use Rattle.rule_lex.proofs.words.sigil.Goals as goal

pub returns-in_default : goal.returns-in_default
returns-in_default c =
    let rest = c.args.rest.now in
    let never : starts_with_letter (drop 1 rest) ≡ false = ap starts_with_letter (sym (take_rest rest 1)) ∙ c.in_default.ensures in
    ⊎_elim (λ is. no_param rest c.requires.some is never) (λ is. no_session rest c.requires.some is never) c.requires.begins

pub returns-then-rest-eq42 : goal.returns-then-rest-eq42
returns-then-rest-eq42 c = param_at c.args.rest.now c.in-Some.len c.requires.some c.if-rest-eq42.true c.in-Some.ensures

pub returns-else-rest-eq42 : goal.returns-else-rest-eq42
returns-else-rest-eq42 c =
    session_at c.args.rest.now c.in-Some.len c.requires.some (⊎_elim (λ is. absurd (c.if-rest-eq42.false is)) (λ is. is) c.requires.begins) c.in-Some.ensures
