-- A line that spells words has bytes of words alone.
use Rattle.std.proofs.Common.{◌≡◌, ℕ, Bool, true, false, List, [], ◌∷◌, length, IsTrue, refl, ap, ◌∙◌, eqb-true, arith}
use Rattle.std.specs.Prelude.{not, nat_le, nat_lt, ◌&&◌, ◌||◌, ◌==◌, Ok}
use Rattle.std.specs.List.{list_all}
use Rattle.std.proofs.lemmas.Bool.{and_parts, and_from, le-leb, leb-true}
use Rattle.std.proofs.lemmas.List.Folds.{list_all-append}
use Rattle.grid_model.specs.Names.{Text}
use Rattle.grid_model.specs.Words.{is_word_byte, is_bare_byte, is_escaped, SpellsInner, nothing, plain, escaped, SpellsWord, bare, quoted, SpellsLine, line_end, space, word}
use Rattle.grid_model.specs.Writable.{is_word}
use Rattle.grid_model.specs.declared.requests.Request.{Request}
use Rattle.req_lines.specs.Hearing.{IsReadAs, a_request}

-- ---- a line that spells words has no byte below 0x20, and no 0x7F

bare_byte : (b : ℕ) → is_bare_byte b ≡ true → is_word_byte b ≡ true
bare_byte b e =
    let parts = and_parts (nat_le 0x21 b) (not (b == 0x7F)) (and_parts (nat_le 0x21 b && not (b == 0x7F)) (not (b == 0x22)) e).0 in
    and_from (nat_le 0x20 b) (not (b == 0x7F)) (le-leb 0x20 b (omega (arith, leb-true 0x21 b parts.0))) parts.1

bare_bytes : (w : Text) → list_all is_bare_byte w ≡ true → is_word w ≡ true
bare_bytes [] e = refl
bare_bytes (b ∷ w) e = let parts = and_parts (is_bare_byte b) (list_all is_bare_byte w) e in and_from (is_word_byte b) (is_word w) (bare_byte b parts.0) (bare_bytes w parts.1)

escaped_byte : (b : ℕ) → is_escaped b ≡ true → is_word_byte b ≡ true
escaped_byte b e = by (b == 0x22) (eqb-true b 0x22) e
  where
    by : (t : Bool) → (t ≡ true → b ≡ 0x22) → (t || (b == 0x5C)) ≡ true → is_word_byte b ≡ true
    by true is either = ap is_word_byte (is refl)
    by false is either = ap is_word_byte (eqb-true b 0x5C either)

inner_bytes : {text w : Text} → SpellsInner text w → is_word text ≡ true
inner_bytes nothing = refl
inner_bytes (plain {b = b} {t = t} is rest) = and_from (is_word_byte b) (is_word t) (and_parts (is_word_byte b) (not (is_escaped b)) is).0 (inner_bytes rest)
inner_bytes (escaped {b = b} {t = t} is rest) = and_from (is_word_byte b) (is_word t) (escaped_byte b is) (inner_bytes rest)

word_bytes : {text w : Text} → SpellsWord text w → is_word text ≡ true
word_bytes (bare {w = w} is) = bare_bytes w (and_parts (nat_lt 0 (length w)) (list_all is_bare_byte w) is).1
word_bytes (quoted {inner = inner} spells is) = ap is_word is ∙ list_all-append is_word_byte inner (0x22 ∷ []) ∙ and_from (is_word inner) true (inner_bytes spells) refl

pub line_bytes : {line : Text} {words : List Text} → SpellsLine line words → is_word line ≡ true
line_bytes line_end = refl
line_bytes (space rest) = line_bytes rest
line_bytes (word {s = s} {t = t} is one ends rest) = ap is_word is ∙ list_all-append is_word_byte s t ∙ and_from (is_word s) (is_word t) (word_bytes one) (line_bytes rest)

-- ---- a line that is read as a request

pub line_is_word : (line body : Text) (request : Request) → IsReadAs line body (Ok request) → IsTrue (is_word line)
line_is_word line body request (a_request r short spells reads all) = line_bytes spells
