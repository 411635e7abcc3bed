-- Printed tokens with spaces behind them are read as they are.
use Rattle.std.proofs.Common.{◌≡◌, ℕ, ◌+◌, Bool, true, false, List, [], ◌∷◌, ◌++◌, length, refl, sym, ap, subst, ◌∙◌}
use Rattle.std.specs.Prelude.{not, ◌&&◌, ◌||◌, ◌==◌, flat_map}
use Rattle.std.specs.List.{list_all}
use Rattle.std.proofs.lemmas.Bool.{both_ways}
use Rattle.std.proofs.lemmas.List.{append_assoc}
use Rattle.rule_lex.specs.Bytes.{SourceText, is_letter, is_digit, is_rule_name_byte, is_space, is_quote, needs_backslash, stands_for_itself}
use Rattle.rule_lex.specs.Fronts.{BeginsToken, IsLongestToken}
use Rattle.rule_lex.specs.Symbols.{symbol_text}
use Rattle.rule_lex.specs.Tokens.{RuleToken, text, PlacedToken, IsName, IsPlainDecimal, SpellsNumber, from_zero, below_zero, SpellsQuoted, nothing, plain, escaped, SpellsToken, a_name, a_param, a_session, a_number, a_text, a_symbol, SpellsRuleTokens, space, token}
use Rattle.rule_lex.specs.declared.token.Symbol.{Symbol}
use Rattle.rule_lex.specs.declared.token.Symbol.TheVariants.{On, Like, True, False, OpenParenthesis, CloseParenthesis, OpenBrace, CloseBrace, Comma, Semicolon, Recovery, Join, Equal, NotEqual, AtMost, AtLeast, Less, Greater, And, Or, Not}
use Rattle.rule_lex.proofs.Firsts.{both_true, differs_from}
use Rattle.rule_lex.proofs.KindLemmas.{front_by_end, letter_no_quote, no_empty_token}
use Rattle.rule_lex.proofs.Lifting.{longest_front}
use Rattle.rule_lex.proofs.QuoteLemmas.{front_text}
use Rattle.rule_parse.specs.Printed.{print_byte, print_token}
use Rattle.rule_parse.proofs.Decimals.{number_written}

-- neither a space nor a newline
abbrev is_tight : ℕ → Bool
is_tight b = not (b == 0x20) && not (b == 0x0A)

tight_byte : (p : ℕ → Bool) → p 0x20 ≡ false → p 0x0A ≡ false → (b : ℕ) → p b ≡ true → is_tight b ≡ true
tight_byte p no_space no_line b h = ap (λ x. not x && not (b == 0x0A)) (differs_from p 0x20 no_space b h) ∙ ap not (differs_from p 0x0A no_line b h)

all_tight : (p : ℕ → Bool) → p 0x20 ≡ false → p 0x0A ≡ false → (s : SourceText) → list_all p s ≡ true → list_all is_tight s ≡ true
all_tight p no_space no_line [] h = refl
all_tight p no_space no_line (b ∷ s) h =
    let parts = both_true (p b) (list_all p s) h in
    ap (λ x. x && list_all is_tight s) (tight_byte p no_space no_line b parts.0) ∙ all_tight p no_space no_line s parts.1

symbol_tight : (x : Symbol) → list_all is_tight (symbol_text x) ≡ true
symbol_tight On = refl
symbol_tight Like = refl
symbol_tight True = refl
symbol_tight False = refl
symbol_tight OpenParenthesis = refl
symbol_tight CloseParenthesis = refl
symbol_tight OpenBrace = refl
symbol_tight CloseBrace = refl
symbol_tight Comma = refl
symbol_tight Semicolon = refl
symbol_tight Recovery = refl
symbol_tight Join = refl
symbol_tight Equal = refl
symbol_tight NotEqual = refl
symbol_tight AtMost = refl
symbol_tight AtLeast = refl
symbol_tight Less = refl
symbol_tight Greater = refl
symbol_tight And = refl
symbol_tight Or = refl
symbol_tight Not = refl

abbrev starts_quoted : SourceText → Bool
starts_quoted [] = false
starts_quoted (b ∷ s) = is_quote b

name_tight : (s : SourceText) → IsName s → list_all is_tight s ≡ true
name_tight s h = all_tight is_rule_name_byte refl refl s (both_true _ (list_all is_rule_name_byte s) h.word).1

number_tight : {s : SourceText} {z : _} → SpellsNumber s z → list_all is_tight s ≡ true
number_tight (from_zero {s = s} h small) = all_tight is_digit refl refl s h.digits
number_tight (below_zero digits e h some most) = ap (list_all is_tight) e ∙ all_tight is_digit refl refl digits h.digits

-- what begins with no quote has no space in it
token_tight : {s : SourceText} {t : RuleToken} → SpellsToken s t → starts_quoted s ≡ false → list_all is_tight s ≡ true
token_tight (a_name {s = s} h) unq = name_tight s h
token_tight (a_param name e h) unq = ap (list_all is_tight) e ∙ name_tight name h
token_tight (a_session name e h) unq = ap (list_all is_tight) e ∙ name_tight name h
token_tight (a_number h) unq = number_tight h
token_tight (a_text quote inner is h e) unq = absurd (both_ways (is_quote quote) (ap starts_quoted (sym e) ∙ unq) is)
token_tight (a_symbol x e) unq = ap (list_all is_tight) e ∙ symbol_tight x

starts_append : (f more : SourceText) → (f ≡ [] → ⊥) → starts_quoted f ≡ false → starts_quoted (f ++ more) ≡ false
starts_append [] more some h = absurd (some refl)
starts_append (b ∷ f) more some h = h

last_tight : (f more : SourceText) (b : ℕ) → list_all is_tight ((f ++ b ∷ []) ++ more) ≡ true → is_tight b ≡ true
last_tight [] more b h = (both_true (is_tight b) (list_all is_tight more) h).0
last_tight (c ∷ f) more b h = last_tight f more b (both_true (is_tight c) (list_all is_tight ((f ++ b ∷ []) ++ more)) h).1

no_longer : (f rest : SourceText) (t : RuleToken) (b : ℕ) → SpellsToken f t → starts_quoted f ≡ false → is_tight b ≡ false → BeginsToken (f ++ b ∷ []) → ⊥
no_longer f rest t b h unq gap begins =
    both_ways (is_tight b) gap (last_tight f begins.more b (token_tight begins.spells (ap starts_quoted (append_assoc f (b ∷ []) begins.more) ∙ starts_append f (b ∷ begins.more) (λ e. no_empty_token (subst (λ s. SpellsToken s t) e h)) unq)))

tight_front : (f rest : SourceText) (t : RuleToken) (b : ℕ) → SpellsToken f t → starts_quoted f ≡ false → is_tight b ≡ false → IsLongestToken f (b ∷ rest) t
tight_front f rest t b h unq gap = front_by_end f (b ∷ rest) t h (λ c r e begins. no_longer f rest t b h unq gap (subst (λ k. BeginsToken (f ++ k ∷ [])) (first_of c r e) begins))
  where
    first_of : (c : ℕ) (r : SourceText) → b ∷ rest ≡ c ∷ r → c ≡ b
    first_of c r e = cc

name_unquoted : (s : SourceText) → IsName s → starts_quoted s ≡ false
name_unquoted [] h = refl
name_unquoted (b ∷ s) h = letter_no_quote b (both_true (is_letter b) (list_all is_rule_name_byte (b ∷ s)) h.word).0

symbol_unquoted : (x : Symbol) → starts_quoted (symbol_text x) ≡ false
symbol_unquoted On = refl
symbol_unquoted Like = refl
symbol_unquoted True = refl
symbol_unquoted False = refl
symbol_unquoted _ = refl

decimal_unquoted : (s : SourceText) → IsPlainDecimal s → starts_quoted s ≡ false
decimal_unquoted [] h = refl
decimal_unquoted (b ∷ s) h = differs (both_true (is_digit b) (list_all is_digit s) h.digits).0
  where
    differs : is_digit b ≡ true → is_quote b ≡ false
    differs d = ap (λ x. x || b == 0x27) (differs_from is_digit 0x22 refl b d) ∙ differs_from is_digit 0x27 refl b d

number_unquoted : {s : SourceText} {z : _} → SpellsNumber s z → starts_quoted s ≡ false
number_unquoted (from_zero {s = s} h small) = decimal_unquoted s h
number_unquoted (below_zero digits e h some most) = ap starts_quoted e

-- a token before a space or a newline
front_before : {f : SourceText} {t : RuleToken} (rest : SourceText) (b : ℕ) → is_tight b ≡ false → SpellsToken f t → IsLongestToken f (b ∷ rest) t
front_before rest b gap (a_name {s = s} h) = tight_front s rest _ b (a_name h) (name_unquoted s h) gap
front_before {f = f} rest b gap (a_param name e h) = tight_front f rest _ b (a_param name e h) (ap starts_quoted e) gap
front_before {f = f} rest b gap (a_session name e h) = tight_front f rest _ b (a_session name e h) (ap starts_quoted e) gap
front_before {f = f} rest b gap (a_number h) = tight_front f rest _ b (a_number h) (number_unquoted h) gap
front_before rest b gap (a_text {t = t} quote inner is h e) = subst (λ s. IsLongestToken s (b ∷ rest) (text t)) (sym e) (front_text quote inner t (b ∷ rest) is h)
front_before {f = f} rest b gap (a_symbol x e) = tight_front f rest _ b (a_symbol x e) (ap starts_quoted e ∙ symbol_unquoted x) gap

-- ---- what is printed is a token

plain_unescaped : (b : ℕ) → stands_for_itself b ≡ true → needs_backslash b ≡ false
plain_unescaped b h = by (needs_backslash b) (both_true _ (not (needs_backslash b)) h).1
  where
    by : (x : Bool) → not x ≡ true → x ≡ false
    by true h = absurd (both_ways false refl h)
    by false h = refl

quoted_again : {s t : SourceText} → SpellsQuoted s t → SpellsQuoted (flat_map print_byte t) t
quoted_again nothing = nothing
quoted_again (plain {b = b} {t = t} is h) = subst (λ x. SpellsQuoted (x ++ flat_map print_byte t) (b ∷ t)) (sym (ap (λ y. elim y as (λ z. SourceText) [ true ↦ 0x5C ∷ b ∷ [] | false ↦ b ∷ [] ]) (plain_unescaped b is))) (plain is (quoted_again h))
quoted_again (escaped {b = b} {t = t} is h) = subst (λ x. SpellsQuoted (x ++ flat_map print_byte t) (b ∷ t)) (sym (ap (λ y. elim y as (λ z. SourceText) [ true ↦ 0x5C ∷ b ∷ [] | false ↦ b ∷ [] ]) is)) (escaped is (quoted_again h))

-- the token is spelled as it is printed
abbrev pub IsWritable : RuleToken → Type 0
IsWritable t = SpellsToken (print_token t) t

pub written : {s : SourceText} {t : RuleToken} → SpellsToken s t → IsWritable t
written (a_name h) = a_name h
written (a_param name e h) = a_param name refl h
written (a_session name e h) = a_session name refl h
written (a_number h) = a_number (number_written h)
written (a_text {t = t} quote inner is h e) = a_text 0x22 (flat_map print_byte t) refl (quoted_again h) refl
written (a_symbol x e) = a_symbol x refl

abbrev pub AllWritable : List RuleToken → Type 0
AllWritable [] = Unit {0}
AllWritable (t ∷ ts) = IsWritable t × AllWritable ts

-- a printed token, a space or a newline, and what is made of tokens
pub one_more : {p : ℕ} {rest : SourceText} {ts : List PlacedToken} (b : ℕ) (t : RuleToken) → IsWritable t → is_tight b ≡ false → is_space b ≡ true → SpellsRuleTokens (p + length (print_token t) + 1) rest ts
    → SpellsRuleTokens p (print_token t ++ b ∷ rest) (record { at = p; spelled = print_token t; token = t } ∷ ts)
one_more {rest = rest} b t h gap is more = token (print_token t) t (longest_front (b ∷ rest) (front_before rest b gap h)) (space is more)
