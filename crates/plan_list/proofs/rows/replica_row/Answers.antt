use Rattle.std.proofs.Common.{ap, ◌∙◌}
use Rattle.std.specs.List.{list_all}
use Rattle.grid_model.specs.Writable.{is_word}
use Rattle.plan_list.proofs.ShownWords.{seven_words}
use Rattle.plan_list.proofs.rows.replica_row.Goals as goal

pub returns-clause-words : goal.returns-clause-words
returns-clause-words c =
    ap (list_all is_word) (c.from_vec.ensures ∙ c.in_ok-vec.ensures.items)
    ∙ seven_words c.in_ok-kind.kind c.in_ok-path.path c.in_ok-number.number c.in_ok-leaf.leaf c.in_ok-size.size c.in_ok-status.status c.in_ok-digest.digest
    (ap is_word c.in_ok-kind.ensures) c.in_ok-path.ensures.word c.in_ok-number.ensures.word c.in_ok-leaf.ensures.word c.in_ok-size.ensures.word c.in_ok-status.ensures.word c.in_ok-digest.ensures.word
