-- Which signs stand at a front.
use Rattle.std.proofs.Common.{◌≡◌, ◌≢◌, ℕ, zero, suc, ◌<◌, ◌≤◌, Bool, true, false, List, [], ◌∷◌, length, take, drop, refl, sym, ap, subst, ◌∙◌, arith, inl, inr}
use Rattle.std.specs.Prelude.{◌⊎◌, ◌&&◌, ◌||◌, ◌==◌, not, slice_index}
use Rattle.std.proofs.lemmas.Bool.{both_ways}
use Rattle.std.proofs.lemmas.Bool.Decides.{eqb_tells}
use Rattle.rule_lex.specs.Bytes.{SourceText, is_letter, is_other, starts_with_letter}
use Rattle.rule_lex.specs.Symbols.{symbol_text}
use Rattle.rule_lex.specs.Tokens.{RuleToken, SpellsToken, a_symbol, symbol}
use Rattle.rule_lex.specs.Fronts.{BeginsToken, IsLongestToken, IsNoFront}
use Rattle.rule_lex.specs.declared.token.Symbol.{Symbol}
use Rattle.rule_lex.specs.declared.token.Symbol.TheVariants.{On, Like, True, False}
use Rattle.rule_lex.proofs.KindLemmas.{starts_so, is_sign_first, of_other, front_by_end, no_front_by_end, no_empty_token}

-- the second byte of a sign
abbrev pub second_of : ℕ → ℕ → Bool
second_of c b =
    elim (c == 0x21 || c == 0x3C || c == 0x3E || c == 0x3D) [
      | true ↦ b == 0x3D
      | false ↦ elim (c == 0x2B || c == 0x26 || c == 0x7C || c == 0x3A) [ true ↦ b == c | false ↦ false ]
    ]

-- signs of one byte
abbrev pub is_one : ℕ → Bool
is_one c = c == 0x28 || c == 0x29 || c == 0x7B || c == 0x7D || c == 0x2C || c == 0x3B || c == 0x21 || c == 0x3C || c == 0x3E

-- what holds of each sign
abbrev first_so : List ℕ → Bool
first_so [] = true
first_so (c ∷ s) = is_sign_first c

abbrev second_so : List ℕ → Bool
second_so [] = true
second_so (c ∷ []) = true
second_so (c ∷ b ∷ s) = second_of c b

abbrev third_so : List ℕ → Bool
third_so [] = true
third_so (c ∷ []) = true
third_so (c ∷ b ∷ []) = true
third_so (c ∷ b ∷ d ∷ s) = c == 0x3A && d == 0x3A

abbrev fourth_so : List ℕ → Bool
fourth_so [] = true
fourth_so (c ∷ []) = true
fourth_so (c ∷ b ∷ []) = true
fourth_so (c ∷ b ∷ d ∷ []) = true
fourth_so (c ∷ b ∷ d ∷ e ∷ s) = false

abbrev one_so : List ℕ → Bool
one_so [] = true
one_so (c ∷ []) = is_one c
one_so (c ∷ b ∷ s) = true

abbrev two_so : List ℕ → Bool
two_so [] = true
two_so (c ∷ []) = true
two_so (c ∷ b ∷ []) = not (c == 0x3A)
two_so (c ∷ b ∷ d ∷ s) = true

abbrev sign_so : List ℕ → Bool
sign_so s = first_so s && second_so s && third_so s && fourth_so s && one_so s && two_so s

abbrev each_sign : (x : Symbol) → (starts_so is_letter (symbol_text x) ≡ true) ⊎ (sign_so (symbol_text x) ≡ true)
each_sign On = inl refl
each_sign Like = inl refl
each_sign True = inl refl
each_sign False = inl refl
each_sign _ = inr refl

record Sign (s : SourceText) : Type 0 where
  first : first_so s ≡ true
  second : second_so s ≡ true
  third : third_so s ≡ true
  fourth : fourth_so s ≡ true
  one : one_so s ≡ true
  two : two_so s ≡ true

parts : (a b c d e f : Bool) → a && b && c && d && e && f ≡ true → (a ≡ true) × (b ≡ true) × (c ≡ true) × (d ≡ true) × (e ≡ true) × (f ≡ true)
parts true true true true true true h = (refl, refl, refl, refl, refl, refl)
parts true true true true true false h = absurd (both_ways false refl h)
parts true true true true false f h = absurd (both_ways false refl h)
parts true true true false e f h = absurd (both_ways false refl h)
parts true true false d e f h = absurd (both_ways false refl h)
parts true false c d e f h = absurd (both_ways false refl h)
parts false b c d e f h = absurd (both_ways false refl h)

-- what begins as no other token is a sign
as_sign : {c : ℕ} {r : SourceText} {t : RuleToken} → is_other c ≡ true → SpellsToken (c ∷ r) t → Sign (c ∷ r)
as_sign {c = c} {r = r} o h = by (of_other o h refl)
  where
    by : (x : Symbol) × (c ∷ r ≡ symbol_text x) × (starts_so is_letter (symbol_text x) ≡ true → ⊥) → Sign (c ∷ r)
    by (x, is, no_letter) = split (each_sign x)
      where
        split : (starts_so is_letter (symbol_text x) ≡ true) ⊎ (sign_so (symbol_text x) ≡ true) → Sign (c ∷ r)
        split (inl letter) = absurd (no_letter letter)
        split (inr sign) =
            let s = parts (first_so (symbol_text x)) (second_so (symbol_text x)) (third_so (symbol_text x)) (fourth_so (symbol_text x)) (one_so (symbol_text x)) (two_so (symbol_text x)) sign in
            subst Sign (sym is) (record { first = s.0; second = s.1; third = s.2; fourth = s.3; one = s.4; two = s.5 })

pub same_false : (a b : ℕ) → (a ≡ b → ⊥) → (a == b) ≡ false
same_false a b apart = by (eqb_tells a b)
  where
    by : (((a == b) ≡ true) × (a ≡ b)) ⊎ (((a == b) ≡ false) × (a ≢ b)) → (a == b) ≡ false
    by (inl same) = absurd (apart same.1)
    by (inr other) = other.0

no_letter_first : (c : ℕ) (r : SourceText) → is_other c ≡ true → starts_with_letter (c ∷ r) ≡ true → ⊥
no_letter_first c r o h = both_ways (is_other c) (rw h refl) o

-- a sign of one byte, behind which none stands that lengthens it
pub one_byte : (rest : SourceText) (c : ℕ) (x : Symbol) → 0 < length rest → slice_index rest 0 ≡ c → is_other c ≡ true → symbol_text x ≡ c ∷ [] → second_of c (slice_index rest 1) ≡ false → (1 ≤ length rest) × IsLongestToken (take 1 rest) (drop 1 rest) (symbol x)
one_byte [] c x some is o spelled last = absurd (omega (arith, some))
one_byte (a ∷ r) c x some is o spelled last =
    (omega (arith, some), front_by_end (a ∷ []) r (symbol x) (a_symbol x (ap (λ b. b ∷ []) is ∙ sym spelled)) (λ b s e h. ends b s e h))
  where
    ends : (b : ℕ) (s : SourceText) → r ≡ b ∷ s → BeginsToken (a ∷ b ∷ []) → ⊥
    ends b s e h =
        both_ways (second_of a b)
        (ap (λ k. second_of k b) is ∙ ap (second_of c) (sym (ap (λ t. slice_index (a ∷ t) 1) e)) ∙ last)
        (as_sign (subst (λ k. is_other k ≡ true) (sym is) o) h.spells).second

-- a sign of two bytes, which none of three begins
pub two_bytes : (rest : SourceText) (c d : ℕ) (x : Symbol) → slice_index rest 0 ≡ c → slice_index rest 1 ≡ d → 0 < d → is_other c ≡ true → symbol_text x ≡ c ∷ d ∷ [] → (c == 0x3A) ≡ false → (2 ≤ length rest) × IsLongestToken (take 2 rest) (drop 2 rest) (symbol x)
two_bytes [] c d x is also some o spelled last = absurd (omega (arith, also, some))
two_bytes (a ∷ []) c d x is also some o spelled last = absurd (omega (arith, also, some))
two_bytes (a ∷ b ∷ r) c d x is also some o spelled last =
    (omega arith, front_by_end (a ∷ b ∷ []) r (symbol x) (a_symbol x (ap (λ k. k ∷ b ∷ []) is ∙ ap (λ k. c ∷ k ∷ []) also ∙ sym spelled)) (λ e s is_rest h. ends e h))
  where
    ends : (e : ℕ) → BeginsToken (a ∷ b ∷ e ∷ []) → ⊥
    ends e h =
        both_ways (a == 0x3A && e == 0x3A)
        (ap (λ k. k == 0x3A && e == 0x3A) is ∙ ap (λ k. k && e == 0x3A) last)
        (as_sign (subst (λ k. is_other k ≡ true) (sym is) o) h.spells).third

-- a sign of three bytes
pub three_bytes : (rest : SourceText) (c d e : ℕ) (x : Symbol) → slice_index rest 0 ≡ c → slice_index rest 1 ≡ d → slice_index rest 2 ≡ e → 0 < d → 0 < e → is_other c ≡ true → symbol_text x ≡ c ∷ d ∷ e ∷ [] → (3 ≤ length rest) × IsLongestToken (take 3 rest) (drop 3 rest) (symbol x)
three_bytes [] c d e x is also last some more o spelled = absurd (omega (arith, also, some))
three_bytes (a ∷ []) c d e x is also last some more o spelled = absurd (omega (arith, also, some))
three_bytes (a ∷ b ∷ []) c d e x is also last some more o spelled = absurd (omega (arith, last, more))
three_bytes (a ∷ b ∷ y ∷ r) c d e x is also last some more o spelled =
    (omega arith, front_by_end (a ∷ b ∷ y ∷ []) r (symbol x) (a_symbol x (ap (λ k. k ∷ b ∷ y ∷ []) is ∙ ap (λ k. c ∷ k ∷ y ∷ []) also ∙ ap (λ k. c ∷ d ∷ k ∷ []) last ∙ sym spelled)) (λ f s is_rest h. ends f h))
  where
    ends : (f : ℕ) → BeginsToken (a ∷ b ∷ y ∷ f ∷ []) → ⊥
    ends f h = both_ways false refl (as_sign (subst (λ k. is_other k ≡ true) (sym is) o) h.spells).fourth

-- a byte that begins no sign
pub no_bytes : (rest : SourceText) → 0 < length rest → is_other (slice_index rest 0) ≡ true → is_sign_first (slice_index rest 0) ≡ false → IsNoFront rest 0
no_bytes [] some o never = absurd (omega (arith, some))
no_bytes (a ∷ r) some o never =
    no_front_by_end (a ∷ r) 0 (omega arith) (λ h. no_letter_first a r o h)
    (λ k u low h. no_empty_token (subst (λ n. SpellsToken (take n (a ∷ r)) u) (zero_is k low) h))
    (λ low. absurd (omega (arith, low)))
    (λ low b. both_ways (is_sign_first a) never (as_sign o b.spells).first)
  where
    zero_is : (k : ℕ) → k ≤ 0 → k ≡ 0
    zero_is k low = omega (arith, low)

-- one byte that begins signs, and is none
pub begun_one : (rest : SourceText) (c : ℕ) (x : Symbol) (more : SourceText) → 0 < length rest → slice_index rest 0 ≡ c → is_other c ≡ true → symbol_text x ≡ c ∷ more → is_one c ≡ false → second_of c (slice_index rest 1) ≡ false → IsNoFront rest 1
begun_one [] c x more some is o spelled no_one last = absurd (omega (arith, some))
begun_one (a ∷ r) c x more some is o spelled no_one last =
    no_front_by_end (a ∷ r) 1 (omega arith) (λ h. no_letter_first a r o_a h) (λ k u low h. none k u low h)
    (λ low. record { more = more; token = symbol x; spells = a_symbol x (ap (λ k. k ∷ more) is ∙ sym spelled) })
    (λ low b. ends r b (omega (arith, low)) last)
  where
    o_a : is_other a ≡ true
    o_a = subst (λ k. is_other k ≡ true) (sym is) o

    none : (k : ℕ) (u : RuleToken) → k ≤ 1 → SpellsToken (take k (a ∷ r)) u → ⊥
    none zero u low h = no_empty_token h
    none (suc zero) u low h = both_ways (is_one a) (ap is_one is ∙ no_one) (as_sign o_a h).one
    none (suc (suc k)) u low h = omega (arith, low)

    ends : (s : SourceText) → BeginsToken (take 2 (a ∷ s)) → 0 < length s → second_of c (slice_index (a ∷ s) 1) ≡ false → ⊥
    ends [] b low never = omega (arith, low)
    ends (y ∷ s) b low never = both_ways (second_of a y) (ap (λ k. second_of k y) is ∙ never) (as_sign o_a b.spells).second

-- two bytes that begin a sign of three
pub begun_two : (rest : SourceText) (c d : ℕ) (x : Symbol) (more : SourceText) → slice_index rest 0 ≡ c → slice_index rest 1 ≡ d → 0 < d → is_other c ≡ true → symbol_text x ≡ c ∷ d ∷ more → is_one c ≡ false → (c == 0x3A) ≡ true → (slice_index rest 2 == 0x3A) ≡ false → IsNoFront rest 2
begun_two [] c d x more is also some o spelled no_one colon last = absurd (omega (arith, also, some))
begun_two (a ∷ []) c d x more is also some o spelled no_one colon last = absurd (omega (arith, also, some))
begun_two (a ∷ y ∷ r) c d x more is also some o spelled no_one colon last =
    no_front_by_end (a ∷ y ∷ r) 2 (omega arith) (λ h. no_letter_first a (y ∷ r) o_a h) (λ k u low h. none k u low h)
    (λ low. record { more = more; token = symbol x; spells = a_symbol x (ap (λ k. k ∷ y ∷ more) is ∙ ap (λ k. c ∷ k ∷ more) also ∙ sym spelled) })
    (λ low b. ends r b (omega (arith, low)) last)
  where
    o_a : is_other a ≡ true
    o_a = subst (λ k. is_other k ≡ true) (sym is) o

    none : (k : ℕ) (u : RuleToken) → k ≤ 2 → SpellsToken (take k (a ∷ y ∷ r)) u → ⊥
    none zero u low h = no_empty_token h
    none (suc zero) u low h = both_ways (is_one a) (ap is_one is ∙ no_one) (as_sign o_a h).one
    none (suc (suc zero)) u low h = both_ways (not (a == 0x3A)) (ap (λ k. not (k == 0x3A)) is ∙ ap not colon) (as_sign o_a h).two
    none (suc (suc (suc k))) u low h = omega (arith, low)

    ends : (s : SourceText) → BeginsToken (take 3 (a ∷ y ∷ s)) → 0 < length s → (slice_index (a ∷ y ∷ s) 2 == 0x3A) ≡ false → ⊥
    ends [] b low never = omega (arith, low)
    ends (z ∷ s) b low never = both_ways (a == 0x3A && z == 0x3A) (by (a == 0x3A)) (as_sign o_a b.spells).third
      where
        by : (e : Bool) → (e && z == 0x3A) ≡ false
        by true = never
        by false = refl

pub no_sign_first : (b : ℕ) → (b ≡ 0x28 → ⊥) → (b ≡ 0x29 → ⊥) → (b ≡ 0x7B → ⊥) → (b ≡ 0x7D → ⊥) → (b ≡ 0x2C → ⊥) → (b ≡ 0x3B → ⊥) → (b ≡ 0x3A → ⊥) → (b ≡ 0x2B → ⊥) → (b ≡ 0x3D → ⊥) → (b ≡ 0x21 → ⊥) → (b ≡ 0x3C → ⊥) → (b ≡ 0x3E → ⊥) → (b ≡ 0x26 → ⊥) → (b ≡ 0x7C → ⊥) → is_sign_first b ≡ false
no_sign_first b h1 h2 h3 h4 h5 h6 h7 h8 h9 h10 h11 h12 h13 h14 =
    rw (same_false b 0x28 h1, same_false b 0x29 h2, same_false b 0x7B h3, same_false b 0x7D h4, same_false b 0x2C h5, same_false b 0x3B h6, same_false b 0x3A h7, same_false b 0x2B h8, same_false b 0x3D h9, same_false b 0x21 h10, same_false b 0x3C h11, same_false b 0x3E h12, same_false b 0x26 h13, same_false b 0x7C h14) refl
