-- Words behind spaces.
use Rattle.std.specs.Prelude.{◌∷◌}
use Rattle.grid_model.specs.Names.{Text}

-- a space and the word
abbrev pub after_space : Text → Text
after_space word = 0x20 ∷ word
