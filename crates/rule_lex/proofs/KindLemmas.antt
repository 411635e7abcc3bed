-- Which tokens begin with which bytes, and what stands at a front where one byte more begins no token.
use Rattle.std.proofs.Common.{◌≡◌, ℕ, zero, suc, ◌+◌, ◌<◌, ◌≤◌, Bool, true, false, [], ◌∷◌, ◌++◌, length, take, drop, refl, sym, ap, subst, ◌∙◌, arith, inl, inr, ⊎_elim}
use Rattle.std.specs.Prelude.{◌⊎◌, ◌&&◌, ◌||◌, ◌==◌, not, ℤ}
use Rattle.std.specs.List.{list_all}
use Rattle.std.proofs.lemmas.Bool.{both_ways, cases_lt, eqb-true, or_right}
use Rattle.std.proofs.lemmas.Bool.Decides.{nat_tests}
use Rattle.std.proofs.lemmas.List.{append_assoc, append-nil, take-append-drop, take-take}
use Rattle.rule_lex.specs.Bytes.{SourceText, is_letter, is_digit, is_quote, is_other, is_rule_name_byte, starts_with_letter}
use Rattle.rule_lex.specs.Symbols.{symbol_text}
use Rattle.rule_lex.specs.Tokens.{RuleToken, SpellsToken, a_name, a_param, a_session, a_number, a_text, a_symbol, SpellsNumber, from_zero, below_zero, SpellsQuoted, IsPlainDecimal, IsName, is_identifier}
use Rattle.rule_lex.specs.Fronts.{BeginsToken, IsLongestToken, IsNoFront}
use Rattle.rule_lex.specs.declared.token.Symbol.{Symbol}
use Rattle.rule_lex.specs.declared.token.Symbol.TheVariants.{On, Like, True, False}
use Rattle.rule_lex.proofs.Firsts.{both_true, differs_from, starts_token}

-- the text begins with a byte of this test
abbrev pub starts_so : (ℕ → Bool) → SourceText → Bool
starts_so p [] = false
starts_so p (b ∷ s) = p b

-- what a number begins with
abbrev pub is_number_first : ℕ → Bool
is_number_first b = b == 0x2D || is_digit b

-- what a sign begins with
abbrev pub is_sign_first : ℕ → Bool
is_sign_first b = b == 0x28 || b == 0x29 || b == 0x7B || b == 0x7D || b == 0x2C || b == 0x3B || b == 0x3A || b == 0x2B || b == 0x3D || b == 0x21 || b == 0x3C || b == 0x3E || b == 0x26 || b == 0x7C

-- ---- bytes of two tests

pub digit_no_letter : (b : ℕ) → is_digit b ≡ true → is_letter b ≡ false
digit_no_letter b h = grind (arith, nat_tests)

quote_is : (b : ℕ) → is_quote b ≡ true → (b ≡ 0x22) ⊎ (b ≡ 0x27)
quote_is b h = by (b == 0x22) refl
  where
    by : (e : Bool) → (b == 0x22) ≡ e → (b ≡ 0x22) ⊎ (b ≡ 0x27)
    by true e = inl (eqb-true b 0x22 e)
    by false e = inr (eqb-true b 0x27 (sym (ap (λ x. x || b == 0x27) e) ∙ h))

-- a test that fails at both quotes
pub quote_fails : (p : ℕ → Bool) → p 0x22 ≡ false → p 0x27 ≡ false → (b : ℕ) → is_quote b ≡ true → p b ≡ false
quote_fails p one two b h = ⊎_elim (λ e. ap p e ∙ one) (λ e. ap p e ∙ two) (quote_is b h)

pub letter_no_number : (b : ℕ) → is_letter b ≡ true → is_number_first b ≡ false
letter_no_number b h = ap (λ x. x || is_digit b) (differs_from is_letter 0x2D refl b h) ∙ by (is_digit b) refl
  where
    by : (e : Bool) → is_digit b ≡ e → is_digit b ≡ false
    by true e = absurd (both_ways (is_letter b) (digit_no_letter b e) h)
    by false e = e

-- ---- which token begins so

pub no_start : (p q : ℕ → Bool) (s : SourceText) → ((b : ℕ) → p b ≡ true → q b ≡ false) → starts_so p s ≡ true → starts_so q s ≡ true → ⊥
no_start p q [] apart h k = both_ways false refl h
no_start p q (b ∷ s) apart h k = both_ways (q b) (apart b h) k

pub at_head : (p : ℕ → Bool) {s r : SourceText} {c : ℕ} → s ≡ c ∷ r → starts_so p s ≡ true → p c ≡ true
at_head p e h = subst (λ s. starts_so p s ≡ true) e h

pub word_starts : (s : SourceText) → is_identifier s ≡ true → starts_so is_letter s ≡ true
word_starts [] h = absurd (both_ways false refl h)
word_starts (b ∷ s) h = (both_true (is_letter b) (list_all is_rule_name_byte (b ∷ s)) h).0

pub letter_so : (s : SourceText) → starts_with_letter s ≡ true → starts_so is_letter s ≡ true
letter_so [] h = h
letter_so (b ∷ s) h = h

pub decimal_starts : (s : SourceText) → IsPlainDecimal s → starts_so is_digit s ≡ true
decimal_starts [] d = absurd (omega (arith, d.some))
decimal_starts (b ∷ s) d = (both_true (is_digit b) (list_all is_digit s) d.digits).0

digit_number : (s : SourceText) → starts_so is_digit s ≡ true → starts_so is_number_first s ≡ true
digit_number [] h = h
digit_number (b ∷ s) h = or_right (b == 0x2D) (is_digit b) h

pub number_starts : {s : SourceText} {n : ℤ} → SpellsNumber s n → starts_so is_number_first s ≡ true
number_starts (from_zero {s = s} d low) = digit_number s (decimal_starts s d)
number_starts (below_zero digits is d some low) = subst (λ s. starts_so is_number_first s ≡ true) (sym is) refl

pub quote_starts : {s r : SourceText} {q : ℕ} → is_quote q ≡ true → s ≡ q ∷ r → starts_so is_quote s ≡ true
quote_starts h is = subst (λ s. starts_so is_quote s ≡ true) (sym is) h

-- words begin with letters, and signs with none
pub symbol_starts : (x : Symbol) → (starts_so is_letter (symbol_text x) ≡ true) ⊎ (starts_so is_sign_first (symbol_text x) ≡ true)
symbol_starts On = inl refl
symbol_starts Like = inl refl
symbol_starts True = inl refl
symbol_starts False = inl refl
symbol_starts _ = inr refl

pub symbol_no_number : (x : Symbol) → starts_so is_number_first (symbol_text x) ≡ false
symbol_no_number On = refl
symbol_no_number _ = refl

pub symbol_no_quote : (x : Symbol) → starts_so is_quote (symbol_text x) ≡ false
symbol_no_quote On = refl
symbol_no_quote _ = refl

pub symbol_no_sigil : (x : Symbol) → starts_so (λ b. b == 0x2A || b == 0x24) (symbol_text x) ≡ false
symbol_no_sigil On = refl
symbol_no_sigil _ = refl

word_symbol : (x : Symbol) → starts_so is_letter (symbol_text x) ≡ true → (list_all is_rule_name_byte (symbol_text x) ≡ true) × (length (symbol_text x) ≤ 255)
word_symbol On h = (refl, omega arith)
word_symbol Like h = (refl, omega arith)
word_symbol True h = (refl, omega arith)
word_symbol False h = (refl, omega arith)
word_symbol _ h = absurd (both_ways false refl h)

-- what begins with a letter is a word of at most 255 bytes
pub of_letter : {s : SourceText} {t : RuleToken} → SpellsToken s t → starts_with_letter s ≡ true → (list_all is_rule_name_byte s ≡ true) × (length s ≤ 255)
of_letter (a_name {s = s} n) h = ((both_true (starts_with_letter s) (list_all is_rule_name_byte s) n.word).1, n.short)
of_letter (a_param name is n) h = absurd (both_ways false refl (subst (λ s. starts_with_letter s ≡ true) is h))
of_letter (a_session name is n) h = absurd (both_ways false refl (subst (λ s. starts_with_letter s ≡ true) is h))
of_letter (a_number {s = s} n) h = absurd (no_start is_letter is_number_first s letter_no_number (letter_so s h) (number_starts n))
of_letter (a_text {s = s} q inner is_q spells is) h = absurd (no_start is_quote is_letter s (quote_fails is_letter refl refl) (quote_starts is_q is) (letter_so s h))
of_letter (a_symbol {s = s} x is) h =
    let word = word_symbol x (letter_so (symbol_text x) (subst (λ s. starts_with_letter s ≡ true) is h)) in
    (ap (list_all is_rule_name_byte) is ∙ word.0, subst (λ s. length s ≤ 255) (sym is) word.1)

-- what begins with a `*` is a parameter
pub of_star : {s rest : SourceText} {t : RuleToken} → SpellsToken s t → s ≡ 0x2A ∷ rest → IsName rest
of_star (a_name {s = s} n) e = absurd (both_ways false refl (at_head is_letter e (word_starts s n.word)))
of_star (a_param name is n) e = subst IsName (let both : 0x2A ∷ name ≡ 0x2A ∷ _ = sym is ∙ e in cc) n
of_star (a_session name is n) e = absurd (both_ways false refl (at_head (λ b. b == 0x24) e (subst (λ s. starts_so (λ b. b == 0x24) s ≡ true) (sym is) refl)))
of_star (a_number n) e = absurd (both_ways false refl (at_head is_number_first e (number_starts n)))
of_star (a_text q inner is_q spells is) e = absurd (both_ways false refl (at_head is_quote e (quote_starts is_q is)))
of_star (a_symbol x is) e = absurd (both_ways _ (symbol_no_sigil x) (subst (λ s. starts_so (λ b. b == 0x2A || b == 0x24) s ≡ true) (sym e ∙ is) refl))

-- what begins with a `$` is a session variable
pub of_dollar : {s rest : SourceText} {t : RuleToken} → SpellsToken s t → s ≡ 0x24 ∷ rest → IsName rest
of_dollar (a_name {s = s} n) e = absurd (both_ways false refl (at_head is_letter e (word_starts s n.word)))
of_dollar (a_param name is n) e = absurd (both_ways false refl (at_head (λ b. b == 0x2A) e (subst (λ s. starts_so (λ b. b == 0x2A) s ≡ true) (sym is) refl)))
of_dollar (a_session name is n) e = subst IsName (let both : 0x24 ∷ name ≡ 0x24 ∷ _ = sym is ∙ e in cc) n
of_dollar (a_number n) e = absurd (both_ways false refl (at_head is_number_first e (number_starts n)))
of_dollar (a_text q inner is_q spells is) e = absurd (both_ways false refl (at_head is_quote e (quote_starts is_q is)))
of_dollar (a_symbol x is) e = absurd (both_ways _ (symbol_no_sigil x) (subst (λ s. starts_so (λ b. b == 0x2A || b == 0x24) s ≡ true) (sym e ∙ is) refl))

-- what begins with a digit or `-` is a number
pub of_number : {s : SourceText} {t : RuleToken} → SpellsToken s t → starts_so is_number_first s ≡ true → (n : ℤ) × SpellsNumber s n
of_number (a_name {s = s} n) h = absurd (no_start is_letter is_number_first s letter_no_number (word_starts s n.word) h)
of_number (a_param name is n) h = absurd (both_ways false refl (at_head is_number_first is h))
of_number (a_session name is n) h = absurd (both_ways false refl (at_head is_number_first is h))
of_number (a_number {n = n} h) start = (n, h)
of_number (a_text {s = s} q inner is_q spells is) h = absurd (no_start is_quote is_number_first s (quote_fails is_number_first refl refl) (quote_starts is_q is) h)
of_number (a_symbol x is) h = absurd (both_ways _ (symbol_no_number x) (subst (λ s. starts_so is_number_first s ≡ true) is h))

-- what begins with a quote is a text
pub record Quoted (s : SourceText) : Type 0 where
  pub quote : ℕ
  pub inner : SourceText
  pub value : SourceText
  pub is_quote : is_quote quote ≡ true
  pub spells : SpellsQuoted inner value
  pub is : s ≡ quote ∷ inner ++ quote ∷ []

pub letter_no_quote : (b : ℕ) → is_letter b ≡ true → is_quote b ≡ false
letter_no_quote b h = ap (λ x. x || b == 0x27) (differs_from is_letter 0x22 refl b h) ∙ differs_from is_letter 0x27 refl b h

pub number_no_quote : (b : ℕ) → is_number_first b ≡ true → is_quote b ≡ false
number_no_quote b h = ap (λ x. x || b == 0x27) (differs_from is_number_first 0x22 refl b h) ∙ differs_from is_number_first 0x27 refl b h

pub of_quote : {s : SourceText} {t : RuleToken} → SpellsToken s t → starts_so is_quote s ≡ true → Quoted s
of_quote (a_name {s = s} n) h = absurd (no_start is_letter is_quote s letter_no_quote (word_starts s n.word) h)
of_quote (a_param name is n) h = absurd (both_ways false refl (at_head is_quote is h))
of_quote (a_session name is n) h = absurd (both_ways false refl (at_head is_quote is h))
of_quote (a_number {s = s} n) h = absurd (no_start is_number_first is_quote s number_no_quote (number_starts n) h)
of_quote (a_text {t = t} q inner is_q spells is) h = record { quote = q; inner = inner; value = t; is_quote = is_q; spells = spells; is = is }
of_quote (a_symbol x is) h = absurd (both_ways _ (symbol_no_quote x) (subst (λ s. starts_so is_quote s ≡ true) is h))

-- what begins otherwise is a sign
record Other (b : ℕ) : Type 0 where
  no_letter : is_letter b ≡ false
  no_number : is_number_first b ≡ false
  no_quote : is_quote b ≡ false
  no_star : (b == 0x2A) ≡ false
  no_dollar : (b == 0x24) ≡ false

is_false : (x : Bool) → not x ≡ true → x ≡ false
is_false true h = absurd (both_ways false refl h)
is_false false h = refl

other : (b : ℕ) → is_other b ≡ true → Other b
other b h =
    let five = both_true (not (is_letter b) && not (is_digit b) && not (b == 0x2D) && not (is_quote b) && not (b == 0x2A)) (not (b == 0x24)) h in
    let four = both_true (not (is_letter b) && not (is_digit b) && not (b == 0x2D) && not (is_quote b)) (not (b == 0x2A)) five.0 in
    let three = both_true (not (is_letter b) && not (is_digit b) && not (b == 0x2D)) (not (is_quote b)) four.0 in
    let two = both_true (not (is_letter b) && not (is_digit b)) (not (b == 0x2D)) three.0 in
    let one = both_true (not (is_letter b)) (not (is_digit b)) two.0 in
    record {
      no_letter = is_false (is_letter b) one.0;
      no_number = ap (λ x. x || is_digit b) (is_false (b == 0x2D) two.1) ∙ is_false (is_digit b) one.1;
      no_quote = is_false (is_quote b) three.1;
      no_star = is_false (b == 0x2A) four.1;
      no_dollar = is_false (b == 0x24) five.1;
    }

pub of_other : {s rest : SourceText} {t : RuleToken} {c : ℕ} → is_other c ≡ true → SpellsToken s t → s ≡ c ∷ rest → (x : Symbol) × (s ≡ symbol_text x) × (starts_so is_letter (symbol_text x) ≡ true → ⊥)
of_other {c = c} o (a_name {s = s} n) e = absurd (both_ways (is_letter c) (other c o).no_letter (at_head is_letter e (word_starts s n.word)))
of_other {c = c} o (a_param name is n) e = absurd (both_ways (c == 0x2A) (other c o).no_star (at_head (λ b. b == 0x2A) e (subst (λ s. starts_so (λ b. b == 0x2A) s ≡ true) (sym is) refl)))
of_other {c = c} o (a_session name is n) e = absurd (both_ways (c == 0x24) (other c o).no_dollar (at_head (λ b. b == 0x24) e (subst (λ s. starts_so (λ b. b == 0x24) s ≡ true) (sym is) refl)))
of_other {c = c} o (a_number n) e = absurd (both_ways (is_number_first c) (other c o).no_number (at_head is_number_first e (number_starts n)))
of_other {c = c} o (a_text q inner is_q spells is) e = absurd (both_ways (is_quote c) (other c o).no_quote (at_head is_quote e (quote_starts is_q is)))
of_other {c = c} o (a_symbol x is) e = (x, is, λ h. both_ways (is_letter c) (other c o).no_letter (at_head is_letter (sym is ∙ e) h))

-- ---- fronts that one byte more ends

-- a front of what begins a token begins it too
pub begins_front : (s more : SourceText) → BeginsToken (s ++ more) → BeginsToken s
begins_front s more b = record { more = more ++ b.more; token = b.token; spells = subst (λ x. SpellsToken x b.token) (append_assoc s more b.more) b.spells }

pub spells_begins : {s : SourceText} {t : RuleToken} (more : SourceText) → SpellsToken (s ++ more) t → BeginsToken s
spells_begins more h = record { more = more; token = _; spells = h }

pub front_by_end : (f rest : SourceText) (t : RuleToken) → SpellsToken f t → ((b : ℕ) (r : SourceText) → rest ≡ b ∷ r → BeginsToken (f ++ b ∷ []) → ⊥) → IsLongestToken f rest t
front_by_end f rest t spells ends = record {
  spells = spells;
  none_longer = λ k u some high h. never rest k some high (λ b r e. e) (record { more = []; token = u; spells = subst (λ s. SpellsToken s u) (sym (append-nil (f ++ take k rest))) h });
  steady = λ k some high b. absurd (never rest k some high (λ b r e. e) b);
}
  where
    never : (s : SourceText) (k : ℕ) → 0 < k → k ≤ length s → ((b : ℕ) (r : SourceText) → s ≡ b ∷ r → rest ≡ b ∷ r) → BeginsToken (f ++ take k s) → ⊥
    never [] k some high is h = omega (arith, some, high)
    never (b ∷ r) zero some high is h = omega (arith, some)
    never (b ∷ r) (suc k) some high is h = ends b r (is b r refl) (begins_front (f ++ b ∷ []) (take k r) (subst BeginsToken (sym (append_assoc f (b ∷ []) (take k r))) h))

pub no_front_by_end : (rest : SourceText) (n : ℕ) → n ≤ length rest → (starts_with_letter rest ≡ true → ⊥) → ((k : ℕ) (u : RuleToken) → k ≤ n → SpellsToken (take k rest) u → ⊥) → (0 < n → BeginsToken (take n rest)) → (n < length rest → BeginsToken (take (n + 1) rest) → ⊥) → IsNoFront rest n
no_front_by_end rest n within no_letter none begins ends = record {
  within = within;
  no_letter = no_letter;
  none = λ k u high h. by k u high h (cases_lt n k);
  begins = begins;
  longest = λ k low high b. beyond k low high b;
}
  where
    beyond : (k : ℕ) → n < k → k ≤ length rest → BeginsToken (take k rest) → ⊥
    beyond k low high b = ends (omega (arith, low, high)) (begins_front (take (n + 1) rest) (drop (n + 1) (take k rest)) (subst BeginsToken split b))
      where
        split : take k rest ≡ take (n + 1) rest ++ drop (n + 1) (take k rest)
        split = sym (take-append-drop (n + 1) (take k rest)) ∙ ap (λ s. s ++ drop (n + 1) (take k rest)) (take-take (n + 1) k rest (omega (arith, low)))

    by : (k : ℕ) (u : RuleToken) → k ≤ length rest → SpellsToken (take k rest) u → (n < k) ⊎ (k ≤ n) → ⊥
    by k u high h (inl past) = beyond k past high (record { more = []; token = u; spells = subst (λ s. SpellsToken s u) (sym (append-nil (take k rest))) h })
    by k u high h (inr inside) = none k u inside h

pub no_empty_token : {t : RuleToken} → SpellsToken [] t → ⊥
no_empty_token h = starts_token h
