-- How rules are printed: each in a line, as its tokens with one space between each two. An operand that has an operator
-- itself stands in parentheses, every call has its parentheses, and texts stand between `"`.
use Rattle.std.specs.Prelude.{ℕ, Bool, true, false, List, [], ◌∷◌, ◌++◌, Option, Some, None, map, flat_map}
use Rattle.std.specs.Fmt.{signed_decimal}
use Rattle.grid_model.specs.Names.{Text}
use Rattle.grid_model.specs.Printing.{spaced}
use Rattle.grid_model.specs.RuleText.{Expr, CallText, Step, Rule, literal, number, truth, parameter, session, negated, applied}
use Rattle.rule_lex.specs.Bytes.{needs_backslash}
use Rattle.rule_lex.specs.Symbols.{symbol_text}
use Rattle.rule_lex.specs.Tokens.{RuleToken, named, param, session as session_token, number as number_token, text, symbol}
use Rattle.rule_lex.specs.declared.token.Symbol.TheVariants as sign
use Rattle.rule_parse.specs.Grammar.{sign_of}

-- ---- a token

abbrev pub print_byte : ℕ → Text
print_byte b = elim (needs_backslash b) [ true ↦ 0x5C ∷ b ∷ [] | false ↦ b ∷ [] ]

abbrev pub print_token : RuleToken → Text
print_token (named n) = n
print_token (param n) = 0x2A ∷ n
print_token (session_token n) = 0x24 ∷ n
print_token (number_token z) = signed_decimal z
print_token (text t) = 0x22 ∷ flat_map print_byte t ++ 0x22 ∷ []
print_token (symbol x) = symbol_text x

-- ---- the tokens of rules

abbrev pub in_parentheses : List RuleToken → List RuleToken
in_parentheses ts = symbol sign.OpenParenthesis ∷ ts ++ symbol sign.CloseParenthesis ∷ []

abbrev pub in_braces : List RuleToken → List RuleToken
in_braces ts = symbol sign.OpenBrace ∷ ts ++ symbol sign.CloseBrace ∷ []

-- it has an operator
abbrev pub is_operation : Expr → Bool
is_operation (negated e) = true
is_operation (applied op x y) = true
is_operation _ = false

-- these tokens of an operand, in parentheses where it has an operator itself
abbrev pub as_operand : Expr → List RuleToken → List RuleToken
as_operand e ts = elim (is_operation e) [ true ↦ in_parentheses ts | false ↦ ts ]

abbrev pub expr_tokens : Expr → List RuleToken
expr_tokens (literal t) = text t ∷ []
expr_tokens (number z) = number_token z ∷ []
expr_tokens (truth true) = symbol sign.True ∷ []
expr_tokens (truth false) = symbol sign.False ∷ []
expr_tokens (parameter n) = param n ∷ []
expr_tokens (session n) = session_token n ∷ []
expr_tokens (negated e) = symbol sign.Not ∷ as_operand e (expr_tokens e)
expr_tokens (applied op x y) = as_operand x (expr_tokens x) ++ symbol (sign_of op) ∷ as_operand y (expr_tokens y)

abbrev pub behind_comma : List RuleToken → List RuleToken
behind_comma ts = symbol sign.Comma ∷ ts

-- with a comma before each but the first
abbrev pub with_commas : List (List RuleToken) → List RuleToken
with_commas [] = []
with_commas (ts ∷ rest) = ts ++ flat_map behind_comma rest

abbrev pub call_tokens : CallText → List RuleToken
call_tokens c = named c.name ∷ in_parentheses (with_commas (map expr_tokens c.args))

abbrev pub recovery_tokens : Option CallText → List RuleToken
recovery_tokens None = []
recovery_tokens (Some c) = symbol sign.Recovery ∷ call_tokens c

abbrev pub step_tokens : Step → List RuleToken
step_tokens s = call_tokens s.call ++ recovery_tokens s.recovery ++ symbol sign.Semicolon ∷ []

abbrev pub body_tokens : Option Expr → List Step → List RuleToken
body_tokens None ss = flat_map step_tokens ss
body_tokens (Some e) ss = symbol sign.On ∷ in_parentheses (expr_tokens e) ++ in_braces (flat_map step_tokens ss)

abbrev pub rule_tokens : Rule → List RuleToken
rule_tokens r = named r.name ∷ in_parentheses (with_commas (map (λ n. param n ∷ []) r.params)) ++ in_braces (body_tokens r.cond r.steps)

-- ---- rules

abbrev pub print_rule : Rule → Text
print_rule r = spaced (map print_token (rule_tokens r)) ++ 0x0A ∷ []

abbrev pub print_rules : List Rule → Text
print_rules rs = flat_map print_rule rs
