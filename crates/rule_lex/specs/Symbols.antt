-- The words and signs of the language.
use Rattle.std.specs.Prelude.{codes}
use Rattle.rule_lex.specs.Bytes.{SourceText}
use Rattle.rule_lex.specs.declared.token.Symbol.{Symbol}
use Rattle.rule_lex.specs.declared.token.Symbol.TheVariants.{On, Like, True, False, OpenParenthesis, CloseParenthesis, OpenBrace}
use Rattle.rule_lex.specs.declared.token.Symbol.TheVariants.{CloseBrace, Comma, Semicolon, Recovery, Join, Equal, NotEqual, AtMost, AtLeast}
use Rattle.rule_lex.specs.declared.token.Symbol.TheVariants.{Less, Greater, And, Or, Not}

-- the bytes of a word or a sign
abbrev pub symbol_text : Symbol → SourceText
symbol_text On = codes "on"
symbol_text Like = codes "like"
symbol_text True = codes "true"
symbol_text False = codes "false"
symbol_text OpenParenthesis = codes "("
symbol_text CloseParenthesis = codes ")"
symbol_text OpenBrace = codes "{"
symbol_text CloseBrace = codes "}"
symbol_text Comma = codes ","
symbol_text Semicolon = codes ";"
symbol_text Recovery = codes ":::"
symbol_text Join = codes "++"
symbol_text Equal = codes "=="
symbol_text NotEqual = codes "!="
symbol_text AtMost = codes "<="
symbol_text AtLeast = codes ">="
symbol_text Less = codes "<"
symbol_text Greater = codes ">"
symbol_text And = codes "&&"
symbol_text Or = codes "||"
symbol_text Not = codes "!"
