use Rattle.std.proofs.Common.{◌≡◌, ap, [], ◌∷◌, ◌++◌, sym, ◌∙◌, map}
use Rattle.std.specs.Prelude.{codes, decimal}
use Rattle.std.specs.List.{flat_map}
use Rattle.std.proofs.lemmas.Result.{on_ok_weaker}
use Rattle.grid_model.specs.Printing.{spaced}
use Rattle.grid_model.specs.Replies.{bad_words, mark_words}
use Rattle.cmd_reply.specs.Spaced.{after_space}
use Rattle.cmd_reply.proofs.Spacing.{both, ran_parts}
use Rattle.cmd_reply.proofs.marks.push_mark.Goals as goal

pub returns-in_ok-push_counted-in-Ran : goal.returns-in_ok-push_counted-in-Ran
returns-in_ok-push_counted-in-Ran c =
    let old = c.args.text.now.items in
    let r = c.in-Ran in
    let ran = spaced (codes "ran" ∷ map decimal (r.word ∷ r.now ∷ [])) in
    let written = c.push_bad_replicas.new.text.items in
    let same = ap (λ bs. c.push_counted.new.text.items ++ flat_map after_space (flat_map bad_words bs)) c.as_slice.ensures in
    on_ok_weaker c.push_bad_replicas.result
    (λ (e : written ≡ c.push_counted.new.text.items ++ flat_map after_space (flat_map bad_words c.as_slice.result.now)).
    both old ran (flat_map after_space (flat_map bad_words r.bad)) c.push_counted.new.text.items written c.in_ok-push_counted-in-Ran.ensures (e ∙ same)
    ∙ ap (λ t. old ++ t) (sym (ran_parts r.word r.now r.bad) ∙ ap (λ m. spaced (mark_words m)) (sym r.is)))
    c.push_bad_replicas.ensures
