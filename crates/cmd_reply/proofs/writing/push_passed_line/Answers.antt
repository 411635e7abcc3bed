use Rattle.std.proofs.Common.{ap, ◌++◌, ◌∷◌, [], sym, ◌∙◌, map}
use Rattle.std.specs.Prelude.{codes, decimal}
use Rattle.std.specs.List.{flat_map}
use Rattle.grid_model.specs.Words.{quoted_word}
use Rattle.cmd_reply.specs.Spaced.{after_space}
use Rattle.cmd_reply.proofs.Spacing.{both, passed_line_parts}
use Rattle.cmd_reply.proofs.writing.push_passed_line.Goals as goal

pub returns : goal.returns
returns c =
    let old = c.args.text.now.items in
    let p = c.args.recovery.now in
    let head = decimal c.args.number in
    let name = after_space (quoted_word p.call.name) in
    let args = flat_map after_space (map quoted_word p.call.args) in
    let failure = after_space (quoted_word p.failure) in
    let same = ap (λ ws. c.push_next_word.new.text.items ++ flat_map after_space (map quoted_word ws)) c.as_slice.ensures in
    let one = both old head (codes " passed") c.push_number.new.text.items c.extend_from_slice.new.self.items c.in_ok-push_number.ensures c.in_ok-extend_from_slice.ensures.items in
    let two = both old (head ++ codes " passed") name c.extend_from_slice.new.self.items c.push_next_word.new.text.items one c.in_ok-push_next_word.ensures in
    let three = both old (head ++ codes " passed" ++ name) args c.push_next_word.new.text.items c.push_next_words.new.text.items two (c.in_ok-push_next_words.ensures ∙ same) in
    let four = both old (head ++ codes " passed" ++ name ++ args) failure c.push_next_words.new.text.items c.push_next_word-2.new.text.items three c.in_ok-push_next_word-2.ensures in
    both old (head ++ codes " passed" ++ name ++ args ++ failure) (0x0A ∷ []) c.push_next_word-2.new.text.items c.push.new.self.items four c.in_ok-push.ensures.items
    ∙ ap (λ t. old ++ t) (sym (passed_line_parts c.args.number p))
