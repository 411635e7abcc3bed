-- Parts that are added one after the other.
use Rattle.std.proofs.Common.{◌≡◌, List, [], ◌∷◌, ◌++◌, sym, ap, ◌∙◌, append_assoc}
use Rattle.std.proofs.lemmas.List.{append-nil}
use Rattle.grid_model.specs.Names.{Text}
use Rattle.grid_model.specs.Deltas.{Part, joined}

-- a part, and what is added later
pub adds : (part : Part) (later : List Part) (before after end : Text) → after ≡ before ++ part.bytes → end ≡ after ++ joined later → end ≡ before ++ joined (part ∷ later)
adds part later before after end is more = more ∙ ap (λ t. t ++ joined later) is ∙ append_assoc before part.bytes (joined later)

-- the last part
pub adds_last : (part : Part) (before after : Text) → after ≡ before ++ part.bytes → after ≡ before ++ joined (part ∷ [])
adds_last part before after is = is ∙ ap (λ t. before ++ t) (sym (append-nil part.bytes))
