-- Tokens as the code has them, without where they lie in memory.
use Rattle.rule_lex.specs.Tokens.{RuleToken as Meaning, PlacedToken, named, param, session, number, text, symbol}
use Rattle.rule_lex.specs.declared.token.Value.{Value}
use Rattle.rule_lex.specs.declared.token.Value.TheVariants as value
use Rattle.rule_lex.specs.declared.token.Token.{Token}

-- what a token of the code is
abbrev pub meaning_of : Value → Meaning
meaning_of (value.Name s) = named s.now
meaning_of (value.Param s) = param s.now
meaning_of (value.Session s) = session s.now
meaning_of (value.Number n) = number n
meaning_of (value.Text v) = text v.items
meaning_of (value.Symbol x) = symbol x

-- with its place and its bytes
abbrev pub rule_token_of : Token → PlacedToken
rule_token_of t = record { at = t.at; spelled = t.spelled.now; token = meaning_of t.value }
