-- The test of patterns with `%` and `_`, and the relation of texts that match them.
use Rattle.std.proofs.Common.{◌≡◌, ℕ, Bool, true, false, eqb, cond, List, [], ◌∷◌, ◌++◌, refl, sym, ap, subst, ◌∙◌, inl, inr}
use Rattle.std.proofs.lemmas.Bool.{or_cases, or_left, or_right, and_parts, and_from, eqb-true, eq-eqb}
use Rattle.grid_model.specs.Wildcards.{matches_sql, some_rest, starts_and, one_byte_and}
use Rattle.rule_like.specs.Patterns.{Matches, nothing, this_byte, one_byte, any_bytes, sql_piece}
use Rattle.rule_like.specs.declared.piece.Piece.{Piece}
use Rattle.rule_like.specs.declared.piece.Piece.TheVariants.{AnyBytes, OneByte, Byte}

-- some front is passed, and the test holds of the rest
record Rests (p : List ℕ → Bool) (text : List ℕ) : Type 0 where
  before : List ℕ
  rest : List ℕ
  split : text ≡ before ++ rest
  passes : p rest ≡ true

rests : (p : List ℕ → Bool) (text : List ℕ) → some_rest p text ≡ true → Rests p text
rests p [] h = record { before = []; rest = []; split = refl; passes = h }
rests p (b ∷ text) h = elim (or_cases (p (b ∷ text)) (some_rest p text) h) [
  | inl now ↦ record { before = []; rest = b ∷ text; split = refl; passes = now }
  | inr later ↦
      let r = rests p text later in
      record { before = b ∷ r.before; rest = r.rest; split = ap (λ t. b ∷ t) r.split; passes = r.passes }
]

at_once : (p : List ℕ → Bool) (text : List ℕ) → p text ≡ true → some_rest p text ≡ true
at_once p [] h = h
at_once p (b ∷ text) h = or_left (p (b ∷ text)) (some_rest p text) h

some_from : (p : List ℕ → Bool) (before rest : List ℕ) → p rest ≡ true → some_rest p (before ++ rest) ≡ true
some_from p [] rest h = at_once p rest h
some_from p (b ∷ before) rest h = or_right (p (b ∷ before ++ rest)) (some_rest p (before ++ rest)) (some_from p before rest h)

-- what a byte stands for, and the test at it
pub data Kind (c : ℕ) : Type 0 where
  any : eqb c 0x25 ≡ true → Kind c
  single : eqb c 0x25 ≡ false → eqb c 0x5F ≡ true → Kind c
  plain : eqb c 0x25 ≡ false → eqb c 0x5F ≡ false → Kind c

abbrev piece_by : Bool → Bool → ℕ → Piece
piece_by a b c = cond a AnyBytes (cond b OneByte (Byte c))

abbrev test_by : Bool → Bool → ℕ → List ℕ → List ℕ → Bool
test_by a b c pattern text = elim a as (λ _. Bool) [
  | true ↦ some_rest (matches_sql pattern) text
  | false ↦ elim b as (λ _. Bool) [ true ↦ one_byte_and (matches_sql pattern) text | false ↦ starts_and (matches_sql pattern) c text ]
]

kind_by : (c : ℕ) (a b : Bool) → eqb c 0x25 ≡ a → eqb c 0x5F ≡ b → Kind c
kind_by c true b is also = any is
kind_by c false true is also = single is also
kind_by c false false is also = plain is also

kind_of_byte : (c : ℕ) → Kind c
kind_of_byte c = kind_by c (eqb c 0x25) (eqb c 0x5F) refl refl

piece_is : (c : ℕ) (a b : Bool) → eqb c 0x25 ≡ a → eqb c 0x5F ≡ b → sql_piece c ≡ piece_by a b c
piece_is c a b is also i = piece_by (is i) (also i) c

any_piece : (c : ℕ) → eqb c 0x25 ≡ true → sql_piece c ≡ AnyBytes
any_piece c is i = piece_by (is i) (eqb c 0x5F) c

any_test : (c : ℕ) (pattern text : List ℕ) → eqb c 0x25 ≡ true → matches_sql (c ∷ pattern) text ≡ some_rest (matches_sql pattern) text
any_test c pattern text is i = test_by (is i) (eqb c 0x5F) c pattern text

other_test : (c : ℕ) (pattern text : List ℕ) (b : Bool) → eqb c 0x25 ≡ false → eqb c 0x5F ≡ b → matches_sql (c ∷ pattern) text ≡ test_by false b c pattern text
other_test c pattern text b is also i = test_by (is i) (also i) c pattern text

abbrev Tested : List ℕ → Type 0
Tested pattern = (text : List ℕ) → matches_sql pattern text ≡ true → Matches sql_piece text pattern

single_first : (c : ℕ) (pattern text : List ℕ) → one_byte_and (matches_sql pattern) text ≡ true → sql_piece c ≡ OneByte → Tested pattern → Matches sql_piece text (c ∷ pattern)
single_first c pattern [] h is more = absurd (cc)
single_first c pattern (b ∷ text) h is more = one_byte is (more text h)

plain_first : (c : ℕ) (pattern text : List ℕ) → starts_and (matches_sql pattern) c text ≡ true → sql_piece c ≡ Byte c → Tested pattern → Matches sql_piece text (c ∷ pattern)
plain_first c pattern [] h is more = absurd (cc)
plain_first c pattern (b ∷ text) h is more =
    let parts = and_parts (eqb c b) (matches_sql pattern text) h in
    let same : c ≡ b = eqb-true c b parts.0 in
    this_byte (is ∙ ap Byte same) (more text parts.1)

by_first : (c : ℕ) (pattern text : List ℕ) → matches_sql (c ∷ pattern) text ≡ true → Kind c → Tested pattern → Matches sql_piece text (c ∷ pattern)
by_first c pattern text h (any is) more =
    let r = rests (matches_sql pattern) text (sym (any_test c pattern text is) ∙ h) in
    any_bytes r.before (any_piece c is) r.split (more r.rest r.passes)
by_first c pattern text h (single is also) more = single_first c pattern text (sym (other_test c pattern text true is also) ∙ h) (piece_is c false true is also) more
by_first c pattern text h (plain is also) more = plain_first c pattern text (sym (other_test c pattern text false is also) ∙ h) (piece_is c false false is also) more

pub matches_from_test : (pattern text : List ℕ) → matches_sql pattern text ≡ true → Matches sql_piece text pattern
matches_from_test [] [] h = nothing
matches_from_test [] (b ∷ text) h = absurd (cc)
matches_from_test (c ∷ pattern) text h = by_first c pattern text h (kind_of_byte c) (matches_from_test pattern)

-- ---- and back

from_any : (c : ℕ) (pattern before rest text : List ℕ) → sql_piece c ≡ AnyBytes → text ≡ before ++ rest → matches_sql pattern rest ≡ true → Kind c → matches_sql (c ∷ pattern) text ≡ true
from_any c pattern before rest text is split more (any so) =
    any_test c pattern text so ∙ subst (λ t. some_rest (matches_sql pattern) t ≡ true) (sym split) (some_from (matches_sql pattern) before rest more)
from_any c pattern before rest text is split more (single so also) = let other = piece_is c false true so also in absurd (cc)
from_any c pattern before rest text is split more (plain so also) = let other = piece_is c false false so also in absurd (cc)

from_one : (c b : ℕ) (pattern text : List ℕ) → sql_piece c ≡ OneByte → matches_sql pattern text ≡ true → Kind c → matches_sql (c ∷ pattern) (b ∷ text) ≡ true
from_one c b pattern text is more (any so) = let other = any_piece c so in absurd (cc)
from_one c b pattern text is more (single so also) = other_test c pattern (b ∷ text) true so also ∙ more
from_one c b pattern text is more (plain so also) = let other = piece_is c false false so also in absurd (cc)

from_this : (c b : ℕ) (pattern text : List ℕ) → sql_piece c ≡ Byte b → matches_sql pattern text ≡ true → Kind c → matches_sql (c ∷ pattern) (b ∷ text) ≡ true
from_this c b pattern text is more (any so) = let other = any_piece c so in absurd (cc)
from_this c b pattern text is more (single so also) = let other = piece_is c false true so also in absurd (cc)
from_this c b pattern text is more (plain so also) =
    let other = piece_is c false false so also in
    let same : c ≡ b = cc in
    other_test c pattern (b ∷ text) false so also ∙ and_from (eqb c b) (matches_sql pattern text) (eq-eqb c b same) more

pub test_from_matches : (pattern text : List ℕ) → Matches sql_piece text pattern → matches_sql pattern text ≡ true
test_from_matches [] [] nothing = refl
test_from_matches [] (b ∷ text) h = elim h [ ]
test_from_matches (c ∷ pattern) all (any_bytes {rest = rest} before is split more) = from_any c pattern before rest all is split (test_from_matches pattern rest more) (kind_of_byte c)
test_from_matches (c ∷ pattern) (b ∷ text) (this_byte is more) = from_this c _ pattern text is (test_from_matches pattern text more) (kind_of_byte c)
test_from_matches (c ∷ pattern) (b ∷ text) (one_byte is more) = from_one c b pattern text is (test_from_matches pattern text more) (kind_of_byte c)
