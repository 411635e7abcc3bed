-- What stands in the rows of a listing may stand in a reply.
use Rattle.std.proofs.Common.{◌≡◌, ℕ, zero, suc, ◌+◌, ◌*◌, ◌/◌, ◌%◌, ◌<◌, true, List, [], ◌∷◌, length, refl, ◌∙◌, arith}
use Rattle.std.specs.Prelude.{decimal, ◌^◌, ◌&&◌, ◌==◌, replicate, flat_map, slice_index}
use Rattle.std.specs.Char.{is_ascii_digit}
use Rattle.std.specs.Str.{all_ascii_digits}
use Rattle.std.specs.List.{list_all}
use Rattle.std.proofs.lemmas.Bool.{and_parts, and_from, ltb-true}
use Rattle.std.proofs.lemmas.Fmt.{digits_decimal}
use Rattle.std.proofs.lemmas.List.Folds.{list_all-append}
use Rattle.std.proofs.lemmas.Str.Parse.{numerals_by_value, tells_all_ascii_digits}
use Rattle.base64.specs.Alphabets.{standard}
use Rattle.base64.specs.Rfc4648.{encode_symbols, padding_len}
use Rattle.grid_model.specs.Names.{Text, Path, is_name, is_path, print_path}
use Rattle.grid_model.specs.Deltas.{digest as digest_part, is_byte}
use Rattle.grid_model.specs.Digests.{checksum}
use Rattle.grid_model.specs.Words.{is_word_byte}
use Rattle.grid_model.specs.Writable.{is_word}
use Rattle.grid_tree.proofs.NameWords.{name_word}

-- ---- paths

names_word : (p : Path) → is_path p ≡ true → is_word (flat_map (λ n. 0x2F ∷ n) p) ≡ true
names_word [] all = refl
names_word (n ∷ p) all =
    let parts = and_parts (is_name n) (is_path p) all in
    list_all-append is_word_byte (0x2F ∷ n) (flat_map (λ n. 0x2F ∷ n) p) ∙ and_from (is_word (0x2F ∷ n)) (is_word (flat_map (λ n. 0x2F ∷ n) p)) (name_word n parts.0) (names_word p parts.1)

pub path_word : (p : Path) → is_path p ≡ true → is_word (print_path p) ≡ true
path_word [] all = refl
path_word (n ∷ p) all = names_word (n ∷ p) all

-- ---- numbers

digit_word : (b : ℕ) → is_ascii_digit b ≡ true → is_word_byte b ≡ true
digit_word b e = grind arith

digits_word : (ds : Text) → all_ascii_digits ds ≡ true → is_word ds ≡ true
digits_word [] e = refl
digits_word (d ∷ ds) e =
    let parts = and_parts (is_ascii_digit d) (all_ascii_digits ds) e in
    and_from (is_word_byte d) (is_word ds) (digit_word d parts.0) (digits_word ds parts.1)

pub decimal_word : (n : ℕ) → n < 2 ^ 64 → is_word (decimal n) ≡ true
decimal_word n small = digits_word (decimal n) (digits_decimal (numerals_by_value (λ ds. all_ascii_digits ds ≡ true) tells_all_ascii_digits) n small)

-- ---- digests

at_symbol : (t : Text) (k : ℕ) → is_word t ≡ true → k < length t → is_word_byte (slice_index t k) ≡ true
at_symbol [] k all within = absurd (omega (arith, within))
at_symbol (b ∷ t) zero all within = (and_parts (is_word_byte b) (is_word t) all).0
at_symbol (b ∷ t) (suc k) all within = at_symbol t k (and_parts (is_word_byte b) (is_word t) all).1 (omega (arith, within))

symbol_word : (k : ℕ) → k < 64 → is_word_byte (slice_index standard.symbols k) ≡ true
symbol_word k small = at_symbol standard.symbols k refl small

small_byte : (b : ℕ) → is_byte b ≡ true → b < 256
small_byte b e = ltb-true b 256 e

pub symbols_word : (m : List ℕ) → list_all is_byte m ≡ true → is_word (encode_symbols standard.symbols m) ≡ true
unfolding encode_symbols
symbols_word [] all = refl
symbols_word (a ∷ []) all =
    let x = small_byte a (and_parts (is_byte a) true all).0 in
    and_from (is_word_byte (slice_index standard.symbols (a / 4))) _ (symbol_word (a / 4) (omega (arith, x))) (and_from (is_word_byte (slice_index standard.symbols (a % 4 * 16))) true (symbol_word (a % 4 * 16) (omega arith)) refl)
symbols_word (a ∷ b ∷ []) all =
    let p = and_parts (is_byte a) (list_all is_byte (b ∷ [])) all in
    let x = small_byte a p.0 in
    let y = small_byte b (and_parts (is_byte b) true p.1).0 in
    and_from (is_word_byte (slice_index standard.symbols (a / 4))) _ (symbol_word (a / 4) (omega (arith, x)))
    (and_from (is_word_byte (slice_index standard.symbols (a % 4 * 16 + b / 16))) _ (symbol_word (a % 4 * 16 + b / 16) (omega (arith, y)))
    (and_from (is_word_byte (slice_index standard.symbols (b % 16 * 4))) true (symbol_word (b % 16 * 4) (omega arith)) refl))
symbols_word (a ∷ b ∷ d ∷ rest) all =
    let p = and_parts (is_byte a) (list_all is_byte (b ∷ d ∷ rest)) all in
    let q = and_parts (is_byte b) (list_all is_byte (d ∷ rest)) p.1 in
    let r = and_parts (is_byte d) (list_all is_byte rest) q.1 in
    let x = small_byte a p.0 in
    let y = small_byte b q.0 in
    let z = small_byte d r.0 in
    and_from (is_word_byte (slice_index standard.symbols (a / 4))) _ (symbol_word (a / 4) (omega (arith, x)))
    (and_from (is_word_byte (slice_index standard.symbols (a % 4 * 16 + b / 16))) _ (symbol_word (a % 4 * 16 + b / 16) (omega (arith, y)))
    (and_from (is_word_byte (slice_index standard.symbols (b % 16 * 4 + d / 64))) _ (symbol_word (b % 16 * 4 + d / 64) (omega (arith, z)))
    (and_from (is_word_byte (slice_index standard.symbols (d % 64))) _ (symbol_word (d % 64) (omega arith)) (symbols_word rest r.1))))

padding_word : (n : ℕ) → is_word (replicate n 0x3D) ≡ true
padding_word zero = refl
padding_word (suc n) = padding_word n

pub checksum_word : (d : List ℕ) → (digest_part d).fits ≡ true → is_word (checksum d) ≡ true
checksum_word d fits =
    let parts = and_parts (length d == 32) (list_all is_byte d) fits in
    list_all-append is_word_byte (encode_symbols standard.symbols d) (replicate (padding_len (length d)) 0x3D)
    ∙ and_from (is_word (encode_symbols standard.symbols d)) (is_word (replicate (padding_len (length d)) 0x3D)) (symbols_word d parts.1) (padding_word (padding_len (length d)))

-- ---- rows

pub two_words : (a b : Text) → is_word a ≡ true → is_word b ≡ true → list_all is_word (a ∷ b ∷ []) ≡ true
two_words a b one other = and_from (is_word a) (is_word b && true) one (and_from (is_word b) true other refl)

pub seven_words : (a b d e f g h : Text) → is_word a ≡ true → is_word b ≡ true → is_word d ≡ true → is_word e ≡ true → is_word f ≡ true → is_word g ≡ true → is_word h ≡ true
    → list_all is_word (a ∷ b ∷ d ∷ e ∷ f ∷ g ∷ h ∷ []) ≡ true
seven_words a b d e f g h p q r s t u v =
    and_from (is_word a) _ p (and_from (is_word b) _ q (and_from (is_word d) _ r (and_from (is_word e) _ s (and_from (is_word f) _ t (and_from (is_word g) _ u (and_from (is_word h) true v refl))))))
