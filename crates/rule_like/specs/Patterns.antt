-- Patterns with wildcards, and the texts that match them.
use Rattle.std.specs.Prelude.{◌≡◌, ℕ, List, [], ◌∷◌, ◌++◌, if◌then◌else◌, ◌==◌}
use Rattle.rule_like.specs.declared.piece.Piece.{Piece}
use Rattle.rule_like.specs.declared.piece.Piece.TheVariants.{AnyBytes, OneByte, Byte}

-- `*` stands for any bytes, and each other byte for itself
abbrev pub star_piece : ℕ → Piece
star_piece c = if c == 0x2A then AnyBytes else Byte c

-- `%` stands for any bytes, `_` for one byte, and each other byte for itself
abbrev pub sql_piece : ℕ → Piece
sql_piece c = if c == 0x25 then AnyBytes else (if c == 0x5F then OneByte else Byte c)

-- The whole text matches the pattern, each byte of which stands for a piece.
pub data Matches (piece_of : ℕ → Piece) : List ℕ → List ℕ → Type 0 where
  nothing : Matches piece_of [] []
  this_byte : {b c : ℕ} {text pattern : List ℕ} → piece_of c ≡ Byte b → Matches piece_of text pattern → Matches piece_of (b ∷ text) (c ∷ pattern)
  one_byte : {b c : ℕ} {text pattern : List ℕ} → piece_of c ≡ OneByte → Matches piece_of text pattern → Matches piece_of (b ∷ text) (c ∷ pattern)
  any_bytes : {c : ℕ} {all rest pattern : List ℕ} (before : List ℕ) → piece_of c ≡ AnyBytes → all ≡ before ++ rest → Matches piece_of rest pattern
      → Matches piece_of all (c ∷ pattern)

-- the text is made of two, which match these two patterns one after the other
pub record MatchesInTwo (piece_of : ℕ → Piece) (text first second : List ℕ) : Type 0 where
  pub front : List ℕ
  pub back : List ℕ
  pub split : text ≡ front ++ back
  pub matches_first : Matches piece_of front first
  pub matches_second : Matches piece_of back second
