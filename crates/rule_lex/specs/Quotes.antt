-- What stands next between the quotes of a text.
use Rattle.std.specs.Prelude.{◌≡◌, ℕ, ◌<◌, ◌≤◌, [], ◌∷◌, ◌++◌, length, take, slice_index}
use Rattle.rule_lex.specs.Bytes.{SourceText}
use Rattle.rule_lex.specs.Tokens.{SpellsQuoted}
use Rattle.rule_lex.specs.declared.quoted.Piece.{Piece}
use Rattle.rule_lex.specs.declared.quoted.Piece.TheVariants.{Closed, Byte, Bad}

-- Whatever is put behind it, the rest is not what stands before this quote, and so many bytes of it may begin that.
pub record IsStuck (quote : ℕ) (rest : SourceText) (n : ℕ) : Type 0 where
  pub within : n ≤ length rest
  pub more : SourceText
  pub meant : SourceText
  pub begins : SpellsQuoted (take n rest ++ more) meant
  pub never : (k : ℕ) (after inner value : SourceText) → n < k → k ≤ length rest → SpellsQuoted inner value → ¬ take k rest ++ after ≡ inner ++ quote ∷ []
  pub open_still : (after inner value : SourceText) → SpellsQuoted inner value → ¬ rest ≡ inner ++ quote ∷ after

-- what a piece says of the rest
abbrev pub IsQuotedPiece : ℕ → SourceText → Piece → Type 0
IsQuotedPiece quote rest Closed = (0 < length rest) × (slice_index rest 0 ≡ quote)
IsQuotedPiece quote rest (Byte b n) = (n ≤ length rest) × (0 < n) × SpellsQuoted (take n rest) (b ∷ [])
IsQuotedPiece quote rest (Bad n) = IsStuck quote rest n
