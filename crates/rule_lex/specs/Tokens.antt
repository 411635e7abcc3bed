-- The tokens of rule texts, and which bytes spell them.
use Rattle.std.specs.Prelude.{◌≡◌, ◌≢◌, ℕ, zero, suc, ◌+◌, ◌-◌, ◌*◌, ◌^◌, ◌<◌, ◌≤◌, ℤ, pos, negsuc, Bool, not, ◌&&◌, List, [], ◌∷◌, ◌++◌}
use Rattle.std.specs.Prelude.{IsTrue, length, take, ◌==◌}
use Rattle.std.specs.List.{list_all}
use Rattle.rule_lex.specs.Bytes.{SourceText, is_digit, is_rule_name_byte, starts_with_letter, is_space, is_quote, needs_backslash, stands_for_itself}
use Rattle.rule_lex.specs.Symbols.{symbol_text}
use Rattle.rule_lex.specs.declared.token.Symbol.{Symbol}

-- what a token is
pub data RuleToken : Type 0 where
  named : SourceText → RuleToken
  -- without the `*`
  param : SourceText → RuleToken
  -- without the `$`
  session : SourceText → RuleToken
  number : ℤ → RuleToken
  -- what stands between its quotes
  text : SourceText → RuleToken
  symbol : Symbol → RuleToken

-- a token, its place in the text and the bytes that spell it there
pub record PlacedToken : Type 0 where
  pub at : ℕ
  pub spelled : SourceText
  pub token : RuleToken

-- a letter, and letters and digits
abbrev pub is_identifier : SourceText → Bool
is_identifier s = starts_with_letter s && list_all is_rule_name_byte s

-- A word of at most 255 bytes that is none of the language.
pub record IsName (s : SourceText) : Type 0 where
  pub word : IsTrue (is_identifier s)
  pub short : length s ≤ 255
  pub not_ours : (x : Symbol) → s ≢ symbol_text x

-- the number that these digits add to the one so far
abbrev pub number_from : ℕ → SourceText → ℕ
number_from n [] = n
number_from n (b ∷ t) = number_from (10 * n + (b - 0x30)) t

-- Digits without a leading zero.
pub record IsPlainDecimal (s : SourceText) : Type 0 where
  pub some : 0 < length s
  pub digits : IsTrue (list_all is_digit s)
  pub no_zero_first : (t : SourceText) → s ≡ 0x30 ∷ t → t ≡ []

-- the number with `-` before it
abbrev pub minus : ℕ → ℤ
minus zero = pos zero
minus (suc n) = negsuc n

-- A decimal of 64 bits with sign, but no `-0`.
pub data SpellsNumber : SourceText → ℤ → Type 0 where
  from_zero : {s : SourceText} → IsPlainDecimal s → number_from 0 s < 2 ^ 63 → SpellsNumber s (pos (number_from 0 s))
  below_zero : {s : SourceText} (digits : SourceText) → s ≡ 0x2D ∷ digits → IsPlainDecimal digits → 0 < number_from 0 digits → number_from 0 digits ≤ 2 ^ 63
      → SpellsNumber s (minus (number_from 0 digits))

-- what stands between quotes, with its `\`, and what it means
pub data SpellsQuoted : SourceText → SourceText → Type 0 where
  nothing : SpellsQuoted [] []
  plain : {b : ℕ} {s t : SourceText} → IsTrue (stands_for_itself b) → SpellsQuoted s t → SpellsQuoted (b ∷ s) (b ∷ t)
  escaped : {b : ℕ} {s t : SourceText} → IsTrue (needs_backslash b) → SpellsQuoted s t → SpellsQuoted (0x5C ∷ b ∷ s) (b ∷ t)

-- which bytes spell which token
pub data SpellsToken : SourceText → RuleToken → Type 0 where
  a_name : {s : SourceText} → IsName s → SpellsToken s (named s)
  a_param : {s : SourceText} (name : SourceText) → s ≡ 0x2A ∷ name → IsName name → SpellsToken s (param name)
  a_session : {s : SourceText} (name : SourceText) → s ≡ 0x24 ∷ name → IsName name → SpellsToken s (session name)
  a_number : {s : SourceText} {n : ℤ} → SpellsNumber s n → SpellsToken s (number n)
  a_text : {s t : SourceText} (quote : ℕ) (inner : SourceText) → IsTrue (is_quote quote) → SpellsQuoted inner t → s ≡ quote ∷ inner ++ quote ∷ []
      → SpellsToken s (text t)
  a_symbol : {s : SourceText} (x : Symbol) → s ≡ symbol_text x → SpellsToken s (symbol x)

-- The text begins with these bytes of a token, and with no longer ones of any.
pub record Longest (all spelled : SourceText) (t : RuleToken) (rest : SourceText) : Type 0 where
  pub split : all ≡ spelled ++ rest
  pub spells : SpellsToken spelled t
  pub none_longer : (n : ℕ) (u : RuleToken) → length spelled < n → n ≤ length all → ¬ SpellsToken (take n all) u

-- any byte but 0A
abbrev pub is_in_line : ℕ → Bool
is_in_line b = not (b == 0x0A)

-- the end of a line or of the text
abbrev pub EndsLine : SourceText → Type 0
EndsLine [] = Unit {0}
EndsLine (b ∷ t) = b ≡ 0x0A

-- The text is a `#`, the bytes behind it up to the end of the line, and the rest.
pub record IsComment (all line rest : SourceText) : Type 0 where
  pub split : all ≡ 0x23 ∷ line ++ rest
  pub one_line : IsTrue (list_all is_in_line line)
  pub ends : EndsLine rest

-- a text from this place on: tokens, each the longest that stands at its place, and what separates them
pub data SpellsRuleTokens : ℕ → SourceText → List PlacedToken → Type 0 where
  at_end : {place : ℕ} → SpellsRuleTokens place [] []
  space : {place b : ℕ} {rest : SourceText} {ts : List PlacedToken} → IsTrue (is_space b) → SpellsRuleTokens (place + 1) rest ts
      → SpellsRuleTokens place (b ∷ rest) ts
  comment : {place : ℕ} {all rest : SourceText} {ts : List PlacedToken} (line : SourceText) → IsComment all line rest
      → SpellsRuleTokens (place + (length line + 1)) rest ts → SpellsRuleTokens place all ts
  token : {place : ℕ} {all rest : SourceText} {ts : List PlacedToken} (spelled : SourceText) (t : RuleToken) → Longest all spelled t rest
      → SpellsRuleTokens (place + length spelled) rest ts
      → SpellsRuleTokens place all (record { at = place; spelled = spelled; token = t } ∷ ts)
