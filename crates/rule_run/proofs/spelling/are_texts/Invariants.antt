use Rattle.std.proofs.Common.{[], ◌∷◌, IsTrue, take}
use Rattle.std.specs.List.{list_all}
use Rattle.grid_model.specs.Deltas.{all_fit, text as text_part}
use Rattle.grid_model.specs.Names.{Text}
use Rattle.rule_run.proofs.spelling.are_texts.Given as goal

-- those so far
abbrev pub invariant-loop-word : goal.invariant-loop-word
invariant-loop-word l = IsTrue (list_all (λ (t : Text). all_fit (text_part t ∷ [])) (take l.word-index l.words))
