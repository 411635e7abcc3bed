-- Worked examples of the words of a line.
use Rattle.std.proofs.Common.{◌≡◌, true, false, [], ◌∷◌, refl}
use Rattle.std.specs.Prelude.{codes}
use Rattle.grid_model.specs.Words.{is_bare, quoted_word, bare, quoted, nothing, plain, escaped, SpellsLine, line_end, space, word}

a_bare_word : is_bare (codes "/a\\b") ≡ true
a_bare_word = refl

no_bytes_are_not_bare : is_bare [] ≡ false
no_bytes_are_not_bare = refl

a_space_is_not_bare : is_bare (codes "a b") ≡ false
a_space_is_not_bare = refl

written_as_it_is : quoted_word (codes "rods") ≡ codes "rods"
written_as_it_is = refl

written_empty : quoted_word [] ≡ codes "\"\""
written_empty = refl

written_between_quotes : quoted_word (codes "a \"b\\") ≡ codes "\"a \\\"b\\\\\""
written_between_quotes = refl

-- ` 0  ""`
two_words : SpellsLine (codes " 0  \"\"") (codes "0" ∷ [] ∷ [])
two_words = space (word {s = codes "0"} {t = codes "  \"\""} refl (bare refl) refl (space (space (word {s = codes "\"\""} {t = []} refl (quoted nothing refl) tt line_end))))

-- `"a\""`
an_escape : SpellsLine (codes "\"a\\\"\"") (codes "a\"" ∷ [])
an_escape = word {s = codes "\"a\\\"\""} {t = []} refl (quoted (plain refl (escaped refl nothing)) refl) tt line_end
