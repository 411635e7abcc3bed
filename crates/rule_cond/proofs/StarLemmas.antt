-- The test of patterns with stars, and the relation of texts that match them.
use Rattle.std.proofs.Common.{◌≡◌, ◌≢◌, ◌⊎◌, ℕ, Bool, true, false, eqb, cond, List, [], ◌∷◌, ◌++◌, refl, sym, ap, subst, ◌∙◌, inl, inr}
use Rattle.std.proofs.lemmas.Bool.{or_cases, or_left, or_right, and_parts, and_from, eqb-true, eq-eqb}
use Rattle.std.proofs.lemmas.Bool.Decides.{eqb_tells}
use Rattle.grid_model.specs.Wildcards.{matches_star, some_rest, starts_and}
use Rattle.rule_like.specs.Patterns.{Matches, nothing, this_byte, one_byte, any_bytes, star_piece}
use Rattle.rule_like.specs.declared.piece.Piece.TheVariants.{AnyBytes, OneByte, Byte}

-- some front is passed, and the test holds of the rest
pub record Rests (p : List ℕ → Bool) (text : List ℕ) : Type 0 where
  pub before : List ℕ
  pub rest : List ℕ
  pub split : text ≡ before ++ rest
  pub passes : p rest ≡ true

rests : (p : List ℕ → Bool) (text : List ℕ) → some_rest p text ≡ true → Rests p text
rests p [] h = record { before = []; rest = []; split = refl; passes = h }
rests p (b ∷ text) h = elim (or_cases (p (b ∷ text)) (some_rest p text) h) [
  | inl now ↦ record { before = []; rest = b ∷ text; split = refl; passes = now }
  | inr later ↦
      let r = rests p text later in
      record { before = b ∷ r.before; rest = r.rest; split = ap (λ t. b ∷ t) r.split; passes = r.passes }
]

-- the test holds of the text itself
at_once : (p : List ℕ → Bool) (text : List ℕ) → p text ≡ true → some_rest p text ≡ true
at_once p [] h = h
at_once p (b ∷ text) h = or_left (p (b ∷ text)) (some_rest p text) h

some_from : (p : List ℕ → Bool) (before rest : List ℕ) → p rest ≡ true → some_rest p (before ++ rest) ≡ true
some_from p [] rest h = at_once p rest h
some_from p (b ∷ before) rest h = or_right (p (b ∷ before ++ rest)) (some_rest p (before ++ rest)) (some_from p before rest h)

-- what a byte stands for
star : (c : ℕ) → c ≡ 0x2A → star_piece c ≡ AnyBytes
star c e = subst (λ (b : Bool). cond b AnyBytes (Byte c) ≡ AnyBytes) (sym (eq-eqb c 0x2A e)) refl

plain_byte : (c : ℕ) → eqb c 0x2A ≡ false → star_piece c ≡ Byte c
plain_byte c e = subst (λ (b : Bool). cond b AnyBytes (Byte c) ≡ Byte c) (sym e) refl

-- the test at a pattern's first byte
at_star : (c : ℕ) (pattern text : List ℕ) → eqb c 0x2A ≡ true → matches_star (c ∷ pattern) text ≡ some_rest (matches_star pattern) text
at_star c pattern text e = ap (λ (b : Bool). elim b as (λ _. Bool) [ true ↦ some_rest (matches_star pattern) text | false ↦ starts_and (matches_star pattern) c text ]) e

at_plain : (c : ℕ) (pattern text : List ℕ) → eqb c 0x2A ≡ false → matches_star (c ∷ pattern) text ≡ starts_and (matches_star pattern) c text
at_plain c pattern text e = ap (λ (b : Bool). elim b as (λ _. Bool) [ true ↦ some_rest (matches_star pattern) text | false ↦ starts_and (matches_star pattern) c text ]) e

-- which first byte it is, by what it stands for
abbrev Tells : ℕ → Type 0
Tells c = ((eqb c 0x2A ≡ true) × (c ≡ 0x2A)) ⊎ ((eqb c 0x2A ≡ false) × (c ≢ 0x2A))

by_any : (c : ℕ) → Tells c → star_piece c ≡ AnyBytes → eqb c 0x2A ≡ true
by_any c (inl any) is = any.0
by_any c (inr one) is = let other = plain_byte c one.0 in absurd (cc)

by_byte : (c b : ℕ) → Tells c → star_piece c ≡ Byte b → (eqb c 0x2A ≡ false) × (c ≡ b)
by_byte c b (inl any) is = let other = star c any.1 in absurd (cc)
by_byte c b (inr one) is = let this = plain_byte c one.0 in (one.0, cc)

by_one : (c : ℕ) → Tells c → star_piece c ≡ OneByte → ⊥
by_one c (inl any) is = let other = star c any.1 in cc
by_one c (inr one) is = let other = plain_byte c one.0 in cc

-- each text that passes the test of the pattern matches it
abbrev Tested : List ℕ → Type 0
Tested pattern = (text : List ℕ) → matches_star pattern text ≡ true → Matches star_piece text pattern

plain_one : (c : ℕ) (pattern text : List ℕ) → starts_and (matches_star pattern) c text ≡ true → eqb c 0x2A ≡ false → Tested pattern → Matches star_piece text (c ∷ pattern)
plain_one c pattern [] h e more = absurd (cc)
plain_one c pattern (b ∷ text) h e more =
    let parts = and_parts (eqb c b) (matches_star pattern text) h in
    let same : c ≡ b = eqb-true c b parts.0 in
    this_byte (plain_byte c e ∙ ap Byte same) (more text parts.1)

by_first : (c : ℕ) (pattern text : List ℕ) → matches_star (c ∷ pattern) text ≡ true → Tells c → Tested pattern → Matches star_piece text (c ∷ pattern)
by_first c pattern text h (inl any) more =
    let r = rests (matches_star pattern) text (sym (at_star c pattern text any.0) ∙ h) in
    any_bytes r.before (star c any.1) r.split (more r.rest r.passes)
by_first c pattern text h (inr one) more = plain_one c pattern text (sym (at_plain c pattern text one.0) ∙ h) one.0 more

pub matches_from_test : (pattern text : List ℕ) → matches_star pattern text ≡ true → Matches star_piece text pattern
matches_from_test [] [] h = nothing
matches_from_test [] (b ∷ text) h = absurd (cc)
matches_from_test (c ∷ pattern) text h = by_first c pattern text h (eqb_tells c 0x2A) (matches_from_test pattern)

pub test_from_matches : (pattern text : List ℕ) → Matches star_piece text pattern → matches_star pattern text ≡ true
test_from_matches [] [] nothing = refl
test_from_matches [] (b ∷ text) h = elim h [ ]
test_from_matches (c ∷ pattern) all (any_bytes {rest = rest} before is split more) =
    let first = by_any c (eqb_tells c 0x2A) is in
    at_star c pattern all first ∙ subst (λ t. some_rest (matches_star pattern) t ≡ true) (sym split) (some_from (matches_star pattern) before rest (test_from_matches pattern rest more))
test_from_matches (c ∷ pattern) (b ∷ text) (this_byte is more) =
    let first = by_byte c b (eqb_tells c 0x2A) is in
    at_plain c pattern (b ∷ text) first.0 ∙ and_from (eqb c b) (matches_star pattern text) (eq-eqb c b first.1) (test_from_matches pattern text more)
test_from_matches (c ∷ pattern) (b ∷ text) (one_byte is more) = absurd (by_one c (eqb_tells c 0x2A) is)
