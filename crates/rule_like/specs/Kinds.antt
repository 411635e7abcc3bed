-- The two kinds of pattern.
use Rattle.std.specs.Prelude.{ℕ}
use Rattle.rule_like.specs.Patterns.{star_piece, sql_piece}
use Rattle.rule_like.specs.declared.piece.Piece.{Piece}
use Rattle.rule_like.specs.declared.piece.Wildcards.{Wildcards}
use Rattle.rule_like.specs.declared.piece.Wildcards.TheVariants.{Star, Sql}

-- what a byte stands for in patterns of this kind
abbrev pub piece_of : Wildcards → ℕ → Piece
piece_of Star = star_piece
piece_of Sql = sql_piece
