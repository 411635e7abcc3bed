use Rattle.std.proofs.Common.{ap, ◌∙◌}
use Rattle.std.specs.List.{list_all}
use Rattle.grid_model.specs.Writable.{is_word}
use Rattle.plan_list.proofs.ShownWords.{two_words}
use Rattle.plan_list.proofs.rows.collection_row.Goals as goal

pub returns-clause-words : goal.returns-clause-words
returns-clause-words c = ap (list_all is_word) (c.from_vec.ensures ∙ c.in_ok-vec.ensures.items) ∙ two_words c.in_ok-kind.kind c.in_ok-path.path (ap is_word c.in_ok-kind.ensures) c.in_ok-path.ensures.word
