use Rattle.std.proofs.Common.{◌≡◌, ◌∷◌, ◌++◌, take}
use Rattle.std.specs.List.{flat_map}
use Rattle.grid_model.specs.Words.{quote_byte}
use Rattle.req_words.proofs.quoting.push_quoted_word.Given as goal

abbrev pub invariant-loop-byte : goal.invariant-loop-byte
invariant-loop-byte l = l.text.items ≡ l.fn.text.items ++ (0x22 ∷ flat_map quote_byte (take l.byte-index l.word))
