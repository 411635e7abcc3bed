-- The first bytes of tokens.
use Rattle.std.proofs.Common.{◌≡◌, ℕ, ◌<◌, Bool, true, false, [], ◌∷◌, ◌++◌, length, refl, sym, ap, subst, ◌∙◌, arith}
use Rattle.std.specs.Prelude.{◌&&◌, ◌||◌, ◌==◌, not}
use Rattle.std.specs.List.{list_all}
use Rattle.std.proofs.lemmas.Bool.{both_ways, eqb-true}
use Rattle.rule_lex.specs.Bytes.{SourceText, is_letter, is_digit, is_space, is_quote, starts_with_letter, is_rule_name_byte}
use Rattle.rule_lex.specs.Symbols.{symbol_text}
use Rattle.rule_lex.specs.Tokens.{RuleToken, SpellsToken, a_name, a_param, a_session, a_number, a_text, a_symbol, SpellsNumber, from_zero, below_zero, IsPlainDecimal}
use Rattle.rule_lex.specs.declared.token.Symbol.{Symbol}
use Rattle.rule_lex.specs.declared.token.Symbol.TheVariants.{On}

pub both_true : (a b : Bool) → a && b ≡ true → (a ≡ true) × (b ≡ true)
both_true true b h = (refl, h)
both_true false b h = absurd (cc)

-- a byte of a test that this one fails is not this one
pub differs_from : (p : ℕ → Bool) (k : ℕ) → p k ≡ false → (b : ℕ) → p b ≡ true → (b == k) ≡ false
differs_from p k never b h = by (b == k) refl
  where
    by : (e : Bool) → (b == k) ≡ e → (b == k) ≡ false
    by true e = absurd (both_ways (p k) never (subst (λ c. p c ≡ true) (eqb-true b k e) h))
    by false e = e

-- neither a space nor the beginning of a comment
abbrev pub is_first : ℕ → Bool
is_first b = not (is_space b) && not (b == 0x23)

-- the text begins so
abbrev pub StartsToken : SourceText → Type 0
StartsToken [] = ⊥
StartsToken (b ∷ s) = is_first b ≡ true

-- bytes of this test are no spaces, and begin no comment
record Apart (p : ℕ → Bool) : Type 0 where
  space : p 0x20 ≡ false
  tab : p 0x09 ≡ false
  return : p 0x0D ≡ false
  line : p 0x0A ≡ false
  hash : p 0x23 ≡ false

first_byte : (p : ℕ → Bool) → Apart p → (b : ℕ) → p b ≡ true → is_first b ≡ true
first_byte p a b h =
    ap (λ x. not (x || b == 0x09 || b == 0x0D || b == 0x0A) && not (b == 0x23)) (differs_from p 0x20 a.space b h)
    ∙ ap (λ x. not (x || b == 0x0D || b == 0x0A) && not (b == 0x23)) (differs_from p 0x09 a.tab b h)
    ∙ ap (λ x. not (x || b == 0x0A) && not (b == 0x23)) (differs_from p 0x0D a.return b h)
    ∙ ap (λ x. not x && not (b == 0x23)) (differs_from p 0x0A a.line b h)
    ∙ ap not (differs_from p 0x23 a.hash b h)

pub letter_is_first : (b : ℕ) → is_letter b ≡ true → is_first b ≡ true
letter_is_first b h = first_byte is_letter (record { space = refl; tab = refl; return = refl; line = refl; hash = refl }) b h

pub digit_is_first : (b : ℕ) → is_digit b ≡ true → is_first b ≡ true
digit_is_first b h = first_byte is_digit (record { space = refl; tab = refl; return = refl; line = refl; hash = refl }) b h

pub quote_is_first : (b : ℕ) → is_quote b ≡ true → is_first b ≡ true
quote_is_first b h = first_byte is_quote (record { space = refl; tab = refl; return = refl; line = refl; hash = refl }) b h

symbol_starts : (x : Symbol) → StartsToken (symbol_text x)
symbol_starts On = refl
symbol_starts _ = refl

letter_starts : (s : SourceText) → starts_with_letter s && list_all is_rule_name_byte s ≡ true → StartsToken s
letter_starts [] h = absurd (cc)
letter_starts (b ∷ s) h = letter_is_first b (both_true (is_letter b) (list_all is_rule_name_byte (b ∷ s)) h).0

digits_start : (s : SourceText) → IsPlainDecimal s → StartsToken s
digits_start [] d = absurd (omega (arith, d.some))
digits_start (b ∷ s) d = digit_is_first b (both_true (is_digit b) (list_all is_digit s) d.digits).0

number_starts : {s : SourceText} {n : _} → SpellsNumber s n → StartsToken s
number_starts (from_zero {s = s} d low) = digits_start s d
number_starts (below_zero digits is d some low) = subst StartsToken (sym is) refl

-- each token begins so
pub starts_token : {s : SourceText} {t : RuleToken} → SpellsToken s t → StartsToken s
starts_token (a_name {s = s} n) = letter_starts s n.word
starts_token (a_param name is n) = subst StartsToken (sym is) refl
starts_token (a_session name is n) = subst StartsToken (sym is) refl
starts_token (a_number n) = number_starts n
starts_token (a_text quote inner q spells is) = subst StartsToken (sym is) (quote_is_first quote q)
starts_token (a_symbol x is) = subst StartsToken (sym is) (symbol_starts x)

pub starts_append : (s t : SourceText) → StartsToken s → StartsToken (s ++ t)
starts_append [] t h = absurd h
starts_append (b ∷ s) t h = h

pub starts_length : (s : SourceText) → StartsToken s → 0 < length s
starts_length [] h = absurd h
starts_length (b ∷ s) h = omega arith
