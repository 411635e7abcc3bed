use Rattle.std.proofs.Common.{◌≡◌, List, [], ◌∷◌, ◌||◌, refl, ap, ◌∙◌}
use Rattle.std.specs.Borrow.{Bor}
use Rattle.grid_model.specs.Checks.{is_one_of}
use Rattle.grid_model.specs.Names.{Text, same_text}
use Rattle.rule_check.specs.Words.{has_word, words}
use Rattle.rule_check.proofs.tables.is_one_of.Goals as goal

of_words : (table : List (Bor Text)) (text : Text) → has_word table text ≡ is_one_of (words table) text
of_words [] text = refl
of_words (w ∷ table) text = ap (λ b. same_text text w.now || b) (of_words table text)

pub returns : goal.returns
returns c = c.has_word.ensures ∙ of_words c.args.table.now c.args.text.now
