-- Which words promise a body.
use Rattle.std.specs.Prelude.{Bool, false, List, [], ◌∷◌}
use Rattle.std.specs.List.{list_any}
use Rattle.grid_model.specs.Names.{Text, same_text}
use Rattle.grid_model.specs.Inputs.{verbs_with_body}

-- a verb behind whose line a body comes
abbrev pub has_body : Text → Bool
has_body verb = list_any (λ name. same_text name verb) verbs_with_body

-- the second word is such a verb
abbrev pub promises : List Text → Bool
promises [] = false
promises (w ∷ []) = false
promises (w ∷ verb ∷ ws) = has_body verb
