-- The bytes of the printed text of rules.
use Rattle.std.proofs.Common.{◌≡◌, ◌⊎◌, inl, inr, ℕ, suc, ◌<◌, ◌≤◌, ◌^◌, Bool, true, false, List, [], ◌∷◌, ◌++◌, length, get_or, map, IsTrue, refl, sym, ap}
use Rattle.std.proofs.Common.{◌∙◌, subst, arith, eqb-true}
use Rattle.std.specs.Prelude.{not, ◌&&◌, ◌||◌, ◌==◌, nat_le, nat_lt}
use Rattle.std.specs.List.{list_all}
use Rattle.std.proofs.lemmas.Bool.{and_from, and_parts, le-leb, leb-true, lt-ltb, or_cases, or_left, or_right}
use Rattle.grid_model.specs.Deltas.{delta_fits, is_byte, is_rule_byte, is_shown_byte}
use Rattle.grid_model.specs.Names.{Text}
use Rattle.grid_model.specs.Parsed.{RuleAt, plain_rule}
use Rattle.grid_model.specs.Printing.{spaced}
use Rattle.grid_model.specs.Words.{is_word_byte}
use Rattle.grid_model.specs.declared.deltas.Delta.TheVariants as delta
use Rattle.grid_model.proofs.Fronts.{list_all-both}
use Rattle.rule_lex.specs.Bytes.{is_digit, is_letter, is_quote, is_rule_name_byte, is_within, needs_backslash}
use Rattle.rule_lex.specs.Symbols.{symbol_text}
use Rattle.rule_lex.specs.Tokens.{IsName, PlacedToken, RuleToken, SpellsNumber, SpellsQuoted, SpellsRuleTokens, SpellsToken}
use Rattle.rule_lex.specs.Tokens.{a_name, a_number, a_param, a_session, a_symbol, a_text, at_end, below_zero, comment, escaped, from_zero, nothing, plain}
use Rattle.rule_lex.specs.Tokens.{space, token}
use Rattle.rule_lex.specs.declared.token.Symbol.{Symbol}
use Rattle.rule_lex.specs.declared.token.Symbol.TheVariants.{On, Like, True, False, OpenParenthesis, CloseParenthesis, OpenBrace, CloseBrace}
use Rattle.rule_lex.specs.declared.token.Symbol.TheVariants.{Comma, Semicolon, Recovery, Join, Equal, NotEqual, AtMost, AtLeast, Less, Greater, And, Or, Not}
use Rattle.rule_parse.specs.Grammar.{SpellsRules, Tokens, no_rules, rules}
use Rattle.rule_parse.specs.Printed.{print_rules, print_token, rule_tokens}
use Rattle.rule_parse.specs.RuleTexts.{IsTextOf, located}
use Rattle.rule_parse.proofs.PrintedAgain.{back_writable, front_writable, rule_printed}
use Rattle.rule_parse.proofs.PrintedTerms.{kinds}
use Rattle.cmd_run.specs.Rules.{is_line_byte}
use Rattle.rule_parse.proofs.TokenLexing.{AllWritable, written}

-- ---- bytes of tokens

word_byte : (b : ℕ) → 0x20 ≤ b → (b == 0x7F) ≡ false → is_word_byte b ≡ true
word_byte b low other = and_from (nat_le 0x20 b) (not (b == 0x7F)) (le-leb 0x20 b low) (ap not other)

-- a byte that one of several tests knows, each of which knows such bytes alone
either : {P : Type 0} (x y : Bool) → (x ≡ true → P) → (y ≡ true → P) → (x || y) ≡ true → P
either x y one other is = elim (or_cases x y is) [ inl e ↦ one e | inr e ↦ other e ]

within : (least most : ℕ) → 0x20 ≤ least → most < 0x7F → (b : ℕ) → is_within least most b ≡ true → is_word_byte b ≡ true
within least most low high b is = word_byte b (omega (arith, low, leb-true least b both.0)) (by (b == 0x7F) refl)
  where
    both : (nat_le least b ≡ true) × (nat_le b most ≡ true)
    both = and_parts (nat_le least b) (nat_le b most) is

    by : (t : Bool) → (b == 0x7F) ≡ t → t ≡ false
    by true e = absurd (omega (arith, high, leb-true b most both.1, eqb-true b 0x7F e))
    by false e = refl

this_byte : (k : ℕ) → is_word_byte k ≡ true → (b : ℕ) → (b == k) ≡ true → is_word_byte b ≡ true
this_byte k good b is = subst (λ (x : ℕ). is_word_byte x ≡ true) (sym (eqb-true b k is)) good

letter : (b : ℕ) → is_letter b ≡ true → is_word_byte b ≡ true
letter b is =
    either (is_within 0x41 0x5A b || is_within 0x61 0x7A b) (b == 0x5F)
    (either (is_within 0x41 0x5A b) (is_within 0x61 0x7A b) (within 0x41 0x5A (omega arith) (omega arith) b) (within 0x61 0x7A (omega arith) (omega arith) b))
    (this_byte 0x5F refl b) is

digit : (b : ℕ) → is_digit b ≡ true → is_word_byte b ≡ true
digit b is = within 0x30 0x39 (omega arith) (omega arith) b is

name_byte : (b : ℕ) → is_rule_name_byte b ≡ true → is_word_byte b ≡ true
name_byte b is = either (is_letter b) (is_digit b) (letter b) (digit b) is

quote_byte : (b : ℕ) → is_quote b ≡ true → is_word_byte b ≡ true
quote_byte b is = either (b == 0x22) (b == 0x27) (this_byte 0x22 refl b) (this_byte 0x27 refl b) is

all_as : (p : ℕ → Bool) → ((b : ℕ) → p b ≡ true → is_word_byte b ≡ true) → (s : Text) → list_all p s ≡ true → list_all is_word_byte s ≡ true
all_as p so [] all = refl
all_as p so (b ∷ s) all =
    let both = and_parts (p b) (list_all p s) all in
    and_from (is_word_byte b) (list_all is_word_byte s) (so b both.0) (all_as p so s both.1)

-- ---- tokens

name_bytes : (s : Text) → IsName s → list_all is_word_byte s ≡ true
name_bytes s is = all_as is_rule_name_byte name_byte s (and_parts _ (list_all is_rule_name_byte s) is.word).1

quoted_bytes : {s t : Text} → SpellsQuoted s t → list_all is_word_byte s ≡ true
quoted_bytes nothing = refl
quoted_bytes (plain {b = b} {s = s} is more) =
    and_from (is_word_byte b) (list_all is_word_byte s) (and_parts (is_word_byte b) (not (needs_backslash b)) is).0 (quoted_bytes more)
quoted_bytes (escaped {b = b} {s = s} is more) =
    and_from (is_word_byte b) (list_all is_word_byte s) (either (b == 0x5C) (is_quote b) (this_byte 0x5C refl b) (quote_byte b) is) (quoted_bytes more)

symbol_bytes : (x : Symbol) → list_all is_word_byte (symbol_text x) ≡ true
symbol_bytes On = refl
symbol_bytes Like = refl
symbol_bytes True = refl
symbol_bytes False = refl
symbol_bytes OpenParenthesis = refl
symbol_bytes CloseParenthesis = refl
symbol_bytes OpenBrace = refl
symbol_bytes CloseBrace = refl
symbol_bytes Comma = refl
symbol_bytes Semicolon = refl
symbol_bytes Recovery = refl
symbol_bytes Join = refl
symbol_bytes Equal = refl
symbol_bytes NotEqual = refl
symbol_bytes AtMost = refl
symbol_bytes AtLeast = refl
symbol_bytes Less = refl
symbol_bytes Greater = refl
symbol_bytes And = refl
symbol_bytes Or = refl
symbol_bytes Not = refl

number_bytes : {s : Text} {z : _} → SpellsNumber s z → list_all is_word_byte s ≡ true
number_bytes (from_zero {s = s} is small) = all_as is_digit digit s is.digits
number_bytes (below_zero digits e is some most) = ap (list_all is_word_byte) e ∙ all_as is_digit digit digits is.digits

token_bytes : {s : Text} {t : RuleToken} → SpellsToken s t → list_all is_word_byte s ≡ true
token_bytes (a_name {s = s} is) = name_bytes s is
token_bytes (a_param name e is) = ap (list_all is_word_byte) e ∙ name_bytes name is
token_bytes (a_session name e is) = ap (list_all is_word_byte) e ∙ name_bytes name is
token_bytes (a_number is) = number_bytes is
token_bytes (a_text quote inner is spells e) =
    ap (list_all is_word_byte) e ∙ and_from (is_word_byte quote) (list_all is_word_byte (inner ++ quote ∷ [])) (quote_byte quote is)
    (list_all-both is_word_byte inner (quote ∷ []) (quoted_bytes spells) (and_from (is_word_byte quote) true (quote_byte quote is) refl))
token_bytes (a_symbol x e) = ap (list_all is_word_byte) e ∙ symbol_bytes x

-- ---- lines

spaced_bytes : (ts : List RuleToken) → AllWritable ts → list_all is_word_byte (spaced (map print_token ts)) ≡ true
spaced_bytes [] all = refl
spaced_bytes (t ∷ []) all = token_bytes all.0
spaced_bytes (t ∷ u ∷ ts) all =
    list_all-both is_word_byte (print_token t) (0x20 ∷ spaced (map print_token (u ∷ ts))) (token_bytes all.0) (spaced_bytes (u ∷ ts) all.1)

as_line : (s : Text) → list_all is_word_byte s ≡ true → list_all is_line_byte s ≡ true
as_line [] all = refl
as_line (b ∷ s) all =
    let both = and_parts (is_word_byte b) (list_all is_word_byte s) all in
    and_from (is_line_byte b) (list_all is_line_byte s) (or_left (is_word_byte b) (b == 0x0A) both.0) (as_line s both.1)

rules_bytes : {us : Tokens} {rs : List RuleAt} → SpellsRules us rs → AllWritable (kinds us) → list_all is_line_byte (print_rules (map plain_rule rs)) ≡ true
rules_bytes no_rules all = refl
rules_bytes (rules {all = every} {ts = us} {us = vs} {r = r} {rs = rs} one more split) all =
    let ts = rule_tokens (plain_rule r) in
    list_all-both is_line_byte (spaced (map print_token ts) ++ 0x0A ∷ []) (print_rules (map plain_rule rs))
    (list_all-both is_line_byte (spaced (map print_token ts)) (0x0A ∷ [])
    (as_line (spaced (map print_token ts)) (spaced_bytes ts (rule_printed one (front_writable every us vs split all)).writable)) refl)
    (rules_bytes more (back_writable every us vs split all))

-- tokens of a text are spelled as they are printed
text_writable : {p : ℕ} {text : Text} {ts : List PlacedToken} → SpellsRuleTokens p text ts → AllWritable (kinds (map located ts))
text_writable at_end = tt
text_writable (space is more) = text_writable more
text_writable (comment line is more) = text_writable more
text_writable (token spelled t longest more) = (written longest.spells, text_writable more)

-- the printed text of rules that a text spells has such bytes alone
pub printed_bytes : (text : Text) (rs : List RuleAt) → IsTextOf SpellsRules text rs → list_all is_line_byte (print_rules (map plain_rule rs)) ≡ true
printed_bytes text rs spells = rules_bytes spells.spells (text_writable spells.made)

-- ---- what may be kept

all_rule_bytes : (s : Text) → ((i : ℕ) → get_or s i 0 < 256) → list_all is_line_byte s ≡ true → list_all is_rule_byte s ≡ true
all_rule_bytes [] below all = refl
all_rule_bytes (b ∷ s) below all =
    let both = and_parts (is_line_byte b) (list_all is_line_byte s) all in
    and_from (is_rule_byte b) (list_all is_rule_byte s) (by (or_cases (is_word_byte b) (b == 0x0A) both.0)) (all_rule_bytes s (λ i. below (suc i)) both.1)
  where
    by : (is_word_byte b ≡ true) ⊎ ((b == 0x0A) ≡ true) → is_rule_byte b ≡ true
    by (inl word) = or_left (is_shown_byte b) (b == 0x0A) (and_from (is_word_byte b) (is_byte b) word (lt-ltb b 256 (below 0)))
    by (inr line) = or_right (is_shown_byte b) (b == 0x0A) line

-- the catalogue may have a text in memory of such bytes as that of its rules
pub fits_rules : (text : Text) → ((i : ℕ) → get_or text i 0 < 256) → length text < 2 ^ 64 → list_all is_line_byte text ≡ true
    → IsTrue (delta_fits (delta.Rules text))
fits_rules text below short all =
    let sized = and_from (nat_lt (length text) (2 ^ 64)) (list_all is_rule_byte text) (lt-ltb (length text) (2 ^ 64) short) (all_rule_bytes text below all) in
    let both = nat_lt (length text) (2 ^ 64) && list_all is_rule_byte text in
    and_from true (both && true) refl (and_from both true sized refl)
