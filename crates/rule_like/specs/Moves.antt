-- How a search for a match goes on from two places.
use Rattle.std.specs.Prelude.{◌≡◌, ℕ, ◌<◌, ◌⊎◌, List, length, drop, slice_index}
use Rattle.rule_like.specs.Patterns.{Matches}
use Rattle.rule_like.specs.declared.piece.Piece.{Piece}
use Rattle.rule_like.specs.declared.piece.Piece.TheVariants.{AnyBytes, OneByte, Byte}
use Rattle.rule_like.specs.declared.search.Places.{Places}
use Rattle.rule_like.specs.declared.search.Move.{Move}
use Rattle.rule_like.specs.declared.search.Move.TheVariants.{Done, PastWildcard, PastByte, Stuck}

-- the piece is one that stands for this byte alone
abbrev pub TakesByte : Piece → ℕ → Type 0
TakesByte piece b = (piece ≡ OneByte) ⊎ (piece ≡ Byte b)

-- what a move says of the places that it is made from
abbrev pub MovesSo : (ℕ → Piece) → List ℕ → List ℕ → Places → Move → Type 0
MovesSo piece_of text pattern at Done = (at.text ≡ length text) × (at.pattern ≡ length pattern)
MovesSo piece_of text pattern at PastWildcard = (at.pattern < length pattern) × (piece_of (slice_index pattern at.pattern) ≡ AnyBytes)
MovesSo piece_of text pattern at PastByte =
    (at.text < length text) × (at.pattern < length pattern) × TakesByte (piece_of (slice_index pattern at.pattern)) (slice_index text at.text)
MovesSo piece_of text pattern at Stuck = ¬ Matches piece_of (drop at.text text) (drop at.pattern pattern)
