use Rattle.std.proofs.Common.{◌≡◌, ap, ◌++◌, sym, ◌∙◌, map}
use Rattle.std.specs.Prelude.{codes}
use Rattle.std.specs.List.{flat_map}
use Rattle.std.proofs.lemmas.Result.{on_ok_weaker}
use Rattle.grid_model.specs.Words.{quoted_word}
use Rattle.cmd_reply.specs.Spaced.{after_space}
use Rattle.cmd_reply.proofs.Spacing.{both, done_parts}
use Rattle.cmd_reply.proofs.ends.push_done.Goals as goal

pub returns : goal.returns
returns c =
    let old = c.args.text.now.items in
    let words = flat_map after_space (map quoted_word c.args.words.now) in
    let written = c.push_next_words.new.text.items in
    let same = ap (λ ws. c.extend_from_slice.new.self.items ++ flat_map after_space (map quoted_word ws)) c.as_slice.ensures in
    on_ok_weaker c.push_next_words.result
    (λ (e : written ≡ c.extend_from_slice.new.self.items ++ flat_map after_space (map quoted_word c.as_slice.result.now)).
    both old (codes "ok") words c.extend_from_slice.new.self.items written c.in_ok-extend_from_slice.ensures.items (e ∙ same) ∙ ap (λ t. old ++ t) (sym (done_parts c.args.words.now)))
    c.push_next_words.ensures
