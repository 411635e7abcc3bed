-- How the parts of a reply's lines are spelled, each with what ends it.
use Rattle.std.specs.Prelude.{◌≡◌, ◌≢◌, ◌⊎◌, ◌+◌, ℕ, ◌<◌, ◌≤◌, Bool, true, false, not, ◌&&◌, ◌||◌, List, [], ◌∷◌, ◌++◌, length, take}
use Rattle.std.specs.Prelude.{slice_index, slice_index_or, ◌==◌, IsTrue, decimal}
use Rattle.std.specs.List.{list_all, list_any}
use Rattle.std.specs.Char.{is_ascii_digit}
use Rattle.grid_model.specs.Names.{Text}
use Rattle.grid_model.specs.Words.{is_bare_byte, is_escaped, is_word_byte, quote_byte, quoted_word}
use Rattle.grid_model.specs.Writable.{is_word}

-- so many bytes at the front are the same, and the next ones are not
pub record SharesFirst (left right : Text) (n : ℕ) : Type 0 where
  pub in_left : n ≤ length left
  pub in_right : n ≤ length right
  pub same : take n left ≡ take n right
  pub differ : n < length left → n < length right → slice_index left n ≢ slice_index right n

-- one of these names, by its number
pub record IsNameOf (names : List Text) (text : Text) (index : ℕ) : Type 0 where
  pub within : index < length names
  pub is : text ≡ slice_index_or names index []

-- of two texts neither begins the other
abbrev pub is_apart : Text → Text → Bool
is_apart [] t = false
is_apart (a ∷ s) [] = false
is_apart (a ∷ s) (b ∷ t) = not (a == b) || is_apart s t

-- no name begins another one
abbrev pub are_apart : List Text → Bool
are_apart [] = true
are_apart (s ∷ names) = list_all (is_apart s) names && are_apart names

-- no digit, and so what may end a number
abbrev pub is_no_digit : ℕ → Bool
is_no_digit b = not (is_ascii_digit b)

-- the byte is one of these
abbrev pub is_among_bytes : List ℕ → ℕ → Bool
is_among_bytes ends b = list_any (λ e. e == b) ends

-- A number in decimal, and the byte that ends it.
pub record IsNumber (least most : ℕ) (ends : List ℕ) (text : Text) (read : ℕ × ℕ) : Type 0 where
  pub least_is : least ≤ read.0
  pub most_is : read.0 ≤ most
  pub ends_is : IsTrue (is_among_bytes ends read.1)
  pub is : text ≡ decimal read.0 ++ read.1 ∷ []

-- a space or a newline, and so what may end a word
abbrev pub is_word_end : ℕ → Bool
is_word_end b = b == 0x20 || b == 0x0A

-- A word as it is written, and the byte that ends it.
pub record IsEndedWord (ends : List ℕ) (text : Text) (read : Text × ℕ) : Type 0 where
  pub word_is : IsTrue (is_word read.0)
  pub ends_is : IsTrue (is_among_bytes ends read.1)
  pub is : text ≡ quoted_word read.0 ++ read.1 ∷ []

-- so many bytes at the front may stand in a word without quotes, and the next one may not
pub record HasBareFront (rest : Text) (n : ℕ) : Type 0 where
  pub within : n ≤ length rest
  pub bare : IsTrue (list_all is_bare_byte (take n rest))
  pub ends : n < length rest → is_bare_byte (slice_index rest n) ≡ false

-- from the first place on a byte of a word stands between quotes, up to the second
pub record IsInnerByte (rest : Text) (from byte to : ℕ) : Type 0 where
  pub within : to ≤ length rest
  pub forward : from < to
  pub may_stand : IsTrue (is_word_byte byte)
  pub is : take to rest ≡ take from rest ++ quote_byte byte

-- What is at the place may not stand there: it is no byte of a word, or it stands behind a `\` and needs none.
abbrev pub IsNoInnerByte : Text → ℕ → ℕ → Type 0
IsNoInnerByte rest from place =
    (place ≡ from) × (slice_index rest from ≢ 0x5C) × (is_word_byte (slice_index rest from) ≡ false)
    ⊎ (place ≡ from + 1) × (slice_index rest from ≡ 0x5C) × (from + 1 < length rest → is_escaped (slice_index rest (from + 1)) ≡ false)
