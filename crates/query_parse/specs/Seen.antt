-- The code's tokens as those of the grammar, and what its private functions answer.
use Rattle.std.specs.Prelude.{◌≡◌, ◌≢◌, ℕ, Bool, false, ◌||◌, ◌==◌, [], ◌∷◌}
use Rattle.grid_model.specs.Names.{Text}
use Rattle.grid_model.specs.QueryTokens.{Token as Meaning, Keyword as Word, Sign as Comparing, Placed, select_word, where_word, and_word}
use Rattle.grid_model.specs.QueryTokens.{like_word, not_word, keyword, column, literal, comma, sign, wrong, equal, not_equal, less, greater}
use Rattle.grid_model.specs.QueryTokens.{at_most, at_least, quote_follows}
use Rattle.query_parse.specs.declared.literals.Piece.{Piece}
use Rattle.query_parse.specs.declared.literals.Piece.TheVariants.{Closed, Byte, Open}
use Rattle.query_parse.specs.declared.token.Keyword.{Keyword}
use Rattle.query_parse.specs.declared.token.Keyword.TheVariants.{Select, Where, And, Like, Not}
use Rattle.query_parse.specs.declared.token.Kind.{Kind}
use Rattle.query_parse.specs.declared.token.Kind.TheVariants as kind
use Rattle.query_parse.specs.declared.token.Sign.{Sign}
use Rattle.query_parse.specs.declared.token.Sign.TheVariants.{Equal, NotEqual, Less, Greater, AtMost, AtLeast}
use Rattle.query_parse.specs.declared.token.Token.{Token}

abbrev pub keyword_meant : Keyword → Word
keyword_meant Select = select_word
keyword_meant Where = where_word
keyword_meant And = and_word
keyword_meant Like = like_word
keyword_meant Not = not_word

abbrev pub comparison_sign : Sign → Comparing
comparison_sign Equal = equal
comparison_sign NotEqual = not_equal
comparison_sign Less = less
comparison_sign Greater = greater
comparison_sign AtMost = at_most
comparison_sign AtLeast = at_least

-- what a token of the code is
abbrev pub meaning : Kind → Meaning
meaning (kind.Keyword k) = keyword (keyword_meant k)
meaning (kind.Column c) = column c
meaning (kind.Literal t) = literal t
meaning kind.Comma = comma
meaning (kind.Sign s) = sign (comparison_sign s)
meaning kind.Wrong = wrong

-- with its place
abbrev pub query_token_of : Token → Placed
query_token_of t = record { at = t.at; token = meaning t.kind }

-- the first byte of a comma or a sign
abbrev pub is_sign : ℕ → Bool
is_sign b = b == 0x2C || b == 0x3D || b == 0x3C || b == 0x3E

-- A byte of a literal, by those that stand for it.
pub data SpellsLiteralByte (rest : Text) (b : ℕ) (behind : Text) : Type 0 where
  itself : rest ≡ b ∷ behind → b ≢ 0x27 → SpellsLiteralByte rest b behind
  doubled : rest ≡ 0x27 ∷ 0x27 ∷ behind → b ≡ 0x27 → SpellsLiteralByte rest b behind

-- what a piece says of the rest of a literal
abbrev pub IsLiteralPiece : Text → Piece → Type 0
IsLiteralPiece rest (Closed behind) = (rest ≡ 0x27 ∷ behind.now) × (quote_follows behind.now ≡ false)
IsLiteralPiece rest (Byte b behind) = SpellsLiteralByte rest b behind.now
IsLiteralPiece rest Open = rest ≡ []
