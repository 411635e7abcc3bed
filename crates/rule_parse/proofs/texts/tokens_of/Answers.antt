use Rattle.std.proofs.Common.{Err, ap, subst}
use Rattle.rule_lex.specs.Places as lexed
use Rattle.rule_parse.proofs.texts.tokens_of.Goals as goal

pub returns-in-Err-BadToken-clause-bad_token : goal.returns-in-Err-BadToken-clause-bad_token
returns-in-Err-BadToken-clause-bad_token c = λ at cause is.
    (cc, subst (lexed.IsSourceRefusedAt c.args.text.now) (cc) (c.in-Err-BadToken.ensures.bad_token c.in-Err-BadToken.at (ap Err c.in-Err-BadToken.field-0-is)))
