-- Each text has one list of tokens.
use Rattle.std.proofs.Common.{◌≡◌, ℕ, ◌+◌, ◌<◌, true, false, List, [], ◌∷◌, ◌++◌, Option, Some, None, length, take, drop, refl, sym, ap, subst, ◌∙◌, arith, inl, inr}
use Rattle.std.specs.Prelude.{◌⊎◌, ◌||◌, ◌==◌, ℤ, if◌then◌else◌}
use Rattle.std.specs.Str.{bytes_eq}
use Rattle.std.proofs.lemmas.Bool.{both_ways, cases_order}
use Rattle.std.proofs.lemmas.List.{take_at, drop_at, length-append, same_from_push}
use Rattle.rule_lex.specs.Bytes.{SourceText, is_letter, is_quote, stands_for_itself}
use Rattle.rule_lex.specs.Symbols.{symbol_text}
use Rattle.rule_lex.specs.Tokens.{RuleToken, PlacedToken, named, param, session, number, text, symbol, SpellsToken, a_name, a_param, a_session, a_number, a_text, a_symbol, SpellsNumber, from_zero, below_zero, number_from, minus, SpellsQuoted, nothing, plain, escaped, IsName, Longest, SpellsRuleTokens, at_end, space, comment, token}
use Rattle.rule_lex.specs.declared.token.Symbol.{Symbol}
use Rattle.rule_lex.specs.declared.token.Symbol.TheVariants.{On, Like, True, False, OpenParenthesis, CloseParenthesis, OpenBrace, CloseBrace, Comma, Semicolon, Recovery, Join, Equal, NotEqual, AtMost, AtLeast, Less, Greater, And, Or, Not}
use Rattle.rule_lex.proofs.Firsts.{StartsToken, starts_token, starts_append}
use Rattle.rule_lex.proofs.KindLemmas.{starts_so, is_number_first, at_head, no_start, word_starts, number_starts, decimal_starts, quote_starts, letter_no_number, letter_no_quote, number_no_quote, symbol_no_number, symbol_no_quote, symbol_no_sigil}
use Rattle.rule_lex.proofs.NumberLemmas.{minus_first}
use Rattle.rule_lex.proofs.Lifting.{FirstToken, first_token, after_space, after_comment}

-- ---- symbols

-- the first of these symbols that has these bytes
first_of : SourceText → List Symbol → Option Symbol
first_of s [] = None
first_of s (x ∷ xs) = if bytes_eq s (symbol_text x) then Some x else first_of s xs

symbol_of : SourceText → Option Symbol
symbol_of s = first_of s
    (On ∷ Like ∷ True ∷ False ∷ OpenParenthesis ∷ CloseParenthesis ∷ OpenBrace ∷ CloseBrace ∷ Comma ∷ Semicolon ∷ Recovery ∷ Join ∷ Equal ∷ NotEqual ∷ AtMost ∷ AtLeast ∷ Less ∷ Greater ∷ And ∷ Or ∷ Not ∷ [])

found_symbol : (x : Symbol) → symbol_of (symbol_text x) ≡ Some x
unfolding symbol_of first_of
found_symbol On = refl
found_symbol _ = refl

same_spelling : (x y : Symbol) → symbol_text x ≡ symbol_text y → x ≡ y
same_spelling x y e = let one = found_symbol x in let two = found_symbol y in let both = ap symbol_of e in cc

-- ---- what one token is

same_named : {s : SourceText} {u : RuleToken} → IsName s → SpellsToken s u → u ≡ named s
same_named n (a_name m) = refl
same_named {s = s} n (a_param name is m) = absurd (both_ways false refl (at_head is_letter is (word_starts s n.word)))
same_named {s = s} n (a_session name is m) = absurd (both_ways false refl (at_head is_letter is (word_starts s n.word)))
same_named {s = s} n (a_number m) = absurd (no_start is_letter is_number_first s letter_no_number (word_starts s n.word) (number_starts m))
same_named {s = s} n (a_text q inner is_q spells is) = absurd (no_start is_letter is_quote s letter_no_quote (word_starts s n.word) (quote_starts is_q is))
same_named n (a_symbol x is) = absurd (n.not_ours x is)

-- what begins with this sign is none but that
same_param : {s name : SourceText} {u : RuleToken} → s ≡ 0x2A ∷ name → SpellsToken s u → u ≡ param name
same_param {s = s} e (a_name n) = absurd (both_ways false refl (at_head is_letter e (word_starts s n.word)))
same_param e (a_param other is m) = ap param (let both = sym is ∙ e in cc)
same_param e (a_session other is m) = absurd (both_ways false refl (at_head (λ b. b == 0x24) e (subst (λ s. starts_so (λ b. b == 0x24) s ≡ true) (sym is) refl)))
same_param e (a_number m) = absurd (both_ways false refl (at_head is_number_first e (number_starts m)))
same_param e (a_text q inner is_q spells is) = absurd (both_ways false refl (at_head is_quote e (quote_starts is_q is)))
same_param e (a_symbol x is) = absurd (both_ways _ (symbol_no_sigil x) (subst (λ s. starts_so (λ b. b == 0x2A || b == 0x24) s ≡ true) (sym e ∙ is) refl))

same_session : {s name : SourceText} {u : RuleToken} → s ≡ 0x24 ∷ name → SpellsToken s u → u ≡ session name
same_session {s = s} e (a_name n) = absurd (both_ways false refl (at_head is_letter e (word_starts s n.word)))
same_session e (a_param other is m) = absurd (both_ways false refl (at_head (λ b. b == 0x2A) e (subst (λ s. starts_so (λ b. b == 0x2A) s ≡ true) (sym is) refl)))
same_session e (a_session other is m) = ap session (let both = sym is ∙ e in cc)
same_session e (a_number m) = absurd (both_ways false refl (at_head is_number_first e (number_starts m)))
same_session e (a_text q inner is_q spells is) = absurd (both_ways false refl (at_head is_quote e (quote_starts is_q is)))
same_session e (a_symbol x is) = absurd (both_ways _ (symbol_no_sigil x) (subst (λ s. starts_so (λ b. b == 0x2A || b == 0x24) s ≡ true) (sym e ∙ is) refl))

same_value : {s : SourceText} {m n : ℤ} → SpellsNumber s m → SpellsNumber s n → m ≡ n
same_value (from_zero d low) (from_zero e high) = refl
same_value (from_zero {s = s} d low) (below_zero digits is e some high) = absurd (minus_first s digits (decimal_starts s d) is)
same_value (below_zero {s = s} digits is d some low) (from_zero e high) = absurd (minus_first s digits (decimal_starts s e) is)
same_value (below_zero digits is d some low) (below_zero other also e more high) =
    let same : digits ≡ other = let both = sym is ∙ also in cc in
    ap (λ t. minus (number_from 0 t)) same

same_number : {s : SourceText} {n : ℤ} {u : RuleToken} → SpellsNumber s n → SpellsToken s u → u ≡ number n
same_number {s = s} h (a_name n) = absurd (no_start is_letter is_number_first s letter_no_number (word_starts s n.word) (number_starts h))
same_number h (a_param name is m) = absurd (both_ways false refl (at_head is_number_first is (number_starts h)))
same_number h (a_session name is m) = absurd (both_ways false refl (at_head is_number_first is (number_starts h)))
same_number h (a_number m) = ap number (same_value m h)
same_number {s = s} h (a_text q inner is_q spells is) = absurd (no_start is_number_first is_quote s number_no_quote (number_starts h) (quote_starts is_q is))
same_number h (a_symbol x is) = absurd (both_ways _ (symbol_no_number x) (subst (λ s. starts_so is_number_first s ≡ true) is (number_starts h)))

no_plain_escape : (b : ℕ) → stands_for_itself b ≡ true → b ≡ 0x5C → ⊥
no_plain_escape b h e = both_ways false refl (subst (λ k. stands_for_itself k ≡ true) e h)

same_meant : {i j v w : SourceText} → SpellsQuoted i v → SpellsQuoted j w → i ≡ j → v ≡ w
same_meant nothing nothing e = refl
same_meant nothing (plain is more) e = cc
same_meant nothing (escaped is more) e = cc
same_meant (plain is more) nothing e = cc
same_meant (plain {s = s} is more) (plain {s = t} also other) e =
    let rest : s ≡ t = cc in
    let tails = same_meant more other rest in
    cc
same_meant (plain {b = b} is more) (escaped also other) e = absurd (no_plain_escape b is (cc))
same_meant (escaped is more) nothing e = cc
same_meant (escaped is more) (plain {b = b} also other) e = absurd (no_plain_escape b also (let same : b ≡ 0x5C = cc in same))
same_meant (escaped {s = s} is more) (escaped {s = t} also other) e =
    let rest : s ≡ t = cc in
    let tails = same_meant more other rest in
    cc

same_text : {s inner v : SourceText} {u : RuleToken} (q : ℕ) → is_quote q ≡ true → SpellsQuoted inner v → s ≡ q ∷ inner ++ q ∷ [] → SpellsToken s u → u ≡ text v
same_text {s = s} q is_q spells e (a_name n) = absurd (no_start is_letter is_quote s letter_no_quote (word_starts s n.word) (quote_starts is_q e))
same_text q is_q spells e (a_param name is m) = absurd (both_ways false refl (at_head is_quote is (quote_starts is_q e)))
same_text q is_q spells e (a_session name is m) = absurd (both_ways false refl (at_head is_quote is (quote_starts is_q e)))
same_text {s = s} q is_q spells e (a_number m) = absurd (no_start is_number_first is_quote s number_no_quote (number_starts m) (quote_starts is_q e))
same_text {inner = inner} q is_q spells e (a_text p other is_p also is) =
    let both = sym is ∙ e in
    let behind : other ++ p ∷ [] ≡ inner ++ q ∷ [] = cc in
    ap text (same_meant also spells (same_from_push other inner p q behind).0)
same_text q is_q spells e (a_symbol x is) = absurd (both_ways _ (symbol_no_quote x) (subst (λ s. starts_so is_quote s ≡ true) is (quote_starts is_q e)))

same_symbol : {s : SourceText} {u : RuleToken} (x : Symbol) → s ≡ symbol_text x → SpellsToken s u → u ≡ symbol x
same_symbol x e (a_name n) = absurd (n.not_ours x e)
same_symbol x e (a_param name is m) = absurd (both_ways _ (symbol_no_sigil x) (subst (λ s. starts_so (λ b. b == 0x2A || b == 0x24) s ≡ true) (sym is ∙ e) refl))
same_symbol x e (a_session name is m) = absurd (both_ways _ (symbol_no_sigil x) (subst (λ s. starts_so (λ b. b == 0x2A || b == 0x24) s ≡ true) (sym is ∙ e) refl))
same_symbol x e (a_number m) = absurd (both_ways _ (symbol_no_number x) (subst (λ s. starts_so is_number_first s ≡ true) e (number_starts m)))
same_symbol x e (a_text q inner is_q spells is) = absurd (both_ways _ (symbol_no_quote x) (subst (λ s. starts_so is_quote s ≡ true) e (quote_starts is_q is)))
same_symbol x e (a_symbol y is) = ap symbol (same_spelling y x (sym is ∙ e))

pub same_token : {s : SourceText} {t u : RuleToken} → SpellsToken s t → SpellsToken s u → u ≡ t
same_token (a_name n) h = same_named n h
same_token (a_param name is n) h = same_param is h
same_token (a_session name is n) h = same_session is h
same_token (a_number n) h = same_number n h
same_token (a_text q inner is_q spells is) h = same_text q is_q spells is h
same_token (a_symbol x is) h = same_symbol x is h

-- ---- what a text is

-- one text has one longest token
same_longest : {all s r t r' : SourceText} {x y : RuleToken} → Longest all s x r → Longest all t y r' → length s ≡ length t
same_longest {all = all} {s = s} {r = r} {t = t} {r' = r'} {x = x} {y = y} a b = by (cases_order (length s) (length t))
  where
    size : length s + length r ≡ length t + length r'
    size = sym (length-append s r) ∙ ap length (sym a.split ∙ b.split) ∙ length-append t r'

    whole : length all ≡ length s + length r
    whole = ap length a.split ∙ length-append s r

    by : (length s ≡ length t) ⊎ ((length s < length t) ⊎ (length t < length s)) → length s ≡ length t
    by (inl e) = e
    by (inr (inl less)) = absurd (a.none_longer (length t) y less (omega (arith, size, whole)) (subst (λ k. SpellsToken k y) (sym (ap (take (length t)) b.split ∙ take_at t r' (length t) refl)) b.spells))
    by (inr (inr more)) = absurd (b.none_longer (length s) x more (omega (arith, whole)) (subst (λ k. SpellsToken k x) (sym (ap (take (length s)) a.split ∙ take_at s r (length s) refl)) a.spells))

nothing_left : {place : ℕ} {us : List PlacedToken} → SpellsRuleTokens place [] us → us ≡ []
nothing_left at_end = refl
nothing_left (comment line c more) = absurd (let split = c.split in cc)
nothing_left (token {rest = rest} spelled t front more) = absurd (subst StartsToken (sym front.split) (starts_append spelled rest (starts_token front.spells)))

abbrev placed_at : ℕ → SourceText → RuleToken → PlacedToken
placed_at place s t = record { at = place; spelled = s; token = t }

-- equal parts make equal tokens
same_placed : (place : ℕ) {s s' : SourceText} {t t' : RuleToken} {ts ts' : List PlacedToken} → s ≡ s' → t ≡ t' → ts ≡ ts' → placed_at place s t ∷ ts ≡ placed_at place s' t' ∷ ts'
same_placed place {s' = s'} {t = t} {t' = t'} {ts = ts} a b c =
    ap (λ x. placed_at place x t ∷ ts) a ∙ ap (λ y. placed_at place s' y ∷ ts) b ∙ ap (λ z. placed_at place s' t' ∷ z) c

pub one_list : {place : ℕ} {all : SourceText} {ts us : List PlacedToken} → SpellsRuleTokens place all ts → SpellsRuleTokens place all us → us ≡ ts
one_list at_end h = nothing_left h
one_list (space is more) h = one_list more (after_space is h)
one_list (comment line c more) h = one_list more (after_comment line c h)
one_list {place = place} {us = us} (token {all = all} {rest = rest} {ts = later} spelled t front more) h = g.is ∙ same_placed place spelled_is value_is (one_list more behind)
  where
    starts : StartsToken all
    starts = subst StartsToken (sym front.split) (starts_append spelled rest (starts_token front.spells))

    g : FirstToken place all us
    g = first_token starts h

    size : length g.spelled ≡ length spelled
    size = same_longest g.longest front

    spelled_is : g.spelled ≡ spelled
    spelled_is = sym (take_at g.spelled g.rest (length spelled) size) ∙ ap (take (length spelled)) (sym g.longest.split ∙ front.split) ∙ take_at spelled rest (length spelled) refl

    rest_is : g.rest ≡ rest
    rest_is = sym (drop_at g.spelled g.rest (length spelled) size) ∙ ap (drop (length spelled)) (sym g.longest.split ∙ front.split) ∙ drop_at spelled rest (length spelled) refl

    value_is : g.value ≡ t
    value_is = same_token front.spells (subst (λ s. SpellsToken s g.value) spelled_is g.longest.spells)

    behind : SpellsRuleTokens (place + length spelled) rest g.later
    behind = subst (λ k. SpellsRuleTokens (place + k) rest g.later) size (subst (λ r. SpellsRuleTokens (place + length g.spelled) r g.later) rest_is g.spells)
