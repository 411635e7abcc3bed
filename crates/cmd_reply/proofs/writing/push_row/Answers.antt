use Rattle.std.proofs.Common.{ap, ◌++◌, ◌∷◌, [], sym, ◌∙◌, map}
use Rattle.std.specs.Prelude.{codes, decimal}
use Rattle.std.specs.List.{flat_map}
use Rattle.grid_model.specs.Words.{quoted_word}
use Rattle.cmd_reply.specs.Spaced.{after_space}
use Rattle.cmd_reply.proofs.Spacing.{both, row_line_parts}
use Rattle.cmd_reply.proofs.writing.push_row.Goals as goal

pub returns : goal.returns
returns c =
    let old = c.args.text.now.items in
    let head = decimal c.args.number in
    let words = flat_map after_space (map quoted_word c.args.row.now) in
    let named = both old head (codes " row") c.push_number.new.text.items c.extend_from_slice.new.self.items c.in_ok-push_number.ensures c.in_ok-extend_from_slice.ensures.items in
    let told = both old (head ++ codes " row") words c.extend_from_slice.new.self.items c.push_next_words.new.text.items named (c.in_ok-push_next_words.ensures ∙ ap (λ ws. c.extend_from_slice.new.self.items ++ flat_map after_space (map quoted_word ws)) c.as_slice.ensures) in
    both old (head ++ codes " row" ++ words) (0x0A ∷ []) c.push_next_words.new.text.items c.push.new.self.items told c.in_ok-push.ensures.items ∙ ap (λ t. old ++ t) (sym (row_line_parts c.args.number c.args.row.now))
