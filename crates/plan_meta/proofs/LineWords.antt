-- The words of a line may stand in the catalogue: none has a byte below 0x20, or 0x7F.
use Rattle.std.proofs.Common.{◌≡◌, ◌==◌, ℕ, Bool, true, false, List, [], ◌∷◌, length, refl, ap, eqb-true, arith}
use Rattle.std.specs.Prelude.{not, nat_le, nat_lt, ◌&&◌, ◌||◌}
use Rattle.std.specs.List.{list_all}
use Rattle.std.proofs.lemmas.Bool.{and_parts, and_from, le-leb, leb-true}
use Rattle.grid_model.specs.Names.{Text}
use Rattle.grid_model.specs.Words.{is_word_byte, is_bare_byte, is_escaped, SpellsInner, nothing, plain, escaped, SpellsWord, bare, quoted, SpellsLine, line_end, space, word}
use Rattle.grid_model.specs.Writable.{is_word}

bare_byte : (b : ℕ) → is_bare_byte b ≡ true → is_word_byte b ≡ true
bare_byte b e =
    let parts = and_parts (nat_le 0x21 b) (not (b == 0x7F)) (and_parts (nat_le 0x21 b && not (b == 0x7F)) (not (b == 0x22)) e).0 in
    and_from (nat_le 0x20 b) (not (b == 0x7F)) (le-leb 0x20 b (omega (arith, leb-true 0x21 b parts.0))) parts.1

bare_word : (w : Text) → list_all is_bare_byte w ≡ true → is_word w ≡ true
bare_word [] e = refl
bare_word (b ∷ w) e = let parts = and_parts (is_bare_byte b) (list_all is_bare_byte w) e in and_from (is_word_byte b) (is_word w) (bare_byte b parts.0) (bare_word w parts.1)

escaped_byte : (b : ℕ) → is_escaped b ≡ true → is_word_byte b ≡ true
escaped_byte b e = by (b == 0x22) (eqb-true b 0x22) e
  where
    by : (t : Bool) → (t ≡ true → b ≡ 0x22) → (t || (b == 0x5C)) ≡ true → is_word_byte b ≡ true
    by true is either = ap is_word_byte (is refl)
    by false is either = ap is_word_byte (eqb-true b 0x5C either)

inner_word : {text w : Text} → SpellsInner text w → is_word w ≡ true
inner_word nothing = refl
inner_word (plain {b = b} {w = w} is rest) = and_from (is_word_byte b) (is_word w) (and_parts (is_word_byte b) (not (is_escaped b)) is).0 (inner_word rest)
inner_word (escaped {b = b} {w = w} is rest) = and_from (is_word_byte b) (is_word w) (escaped_byte b is) (inner_word rest)

spelled_word : {text w : Text} → SpellsWord text w → is_word w ≡ true
spelled_word (bare {w = w} is) = bare_word w (and_parts (nat_lt 0 (length w)) (list_all is_bare_byte w) is).1
spelled_word (quoted inner is) = inner_word inner

-- each word of a line
pub line_words : {line : Text} {ws : List Text} → SpellsLine line ws → list_all is_word ws ≡ true
line_words line_end = refl
line_words (space rest) = line_words rest
line_words (word {w = w} {ws = ws} is one ends rest) = and_from (is_word w) (list_all is_word ws) (spelled_word one) (line_words rest)
