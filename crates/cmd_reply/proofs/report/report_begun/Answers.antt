use Rattle.std.proofs.Common.{◌∷◌, [], ◌++◌, ap, sym, ◌∙◌}
use Rattle.std.specs.List.{flat_map}
use Rattle.grid_model.specs.Names.{Text}
use Rattle.grid_model.specs.Replies.{mark_line}
use Rattle.cmd_reply.proofs.Reports.{stopped, stopped_line, report_parts}
use Rattle.cmd_reply.proofs.report.report_begun.Goals as goal

pub returns : goal.returns
returns c =
    let marks = flat_map (mark_line c.args.number) c.args.marks.now in
    let first = c.in_ok-push_counted.ensures ∙ ap (λ (t : Text). t ++ stopped c.args.run c.args.number) c.new-text.ensures.items in
    let counted = c.in_ok-push.ensures.items ∙ ap (λ (t : Text). t ++ 0x0A ∷ []) first in
    let told = c.in_ok-push_mark_lines.ensures ∙ ap (λ (t : Text). t ++ marks) counted in
    let stop = c.as_slice.ensures ∙ c.in_ok-stop.ensures in
    c.from_vec.ensures ∙ c.in_ok-extend_from_slice.ensures.items ∙ ap (λ (t : Text). t ++ c.as_slice.result.now) told
    ∙ ap (λ (t : Text). (stopped_line c.args.run c.args.number ++ marks) ++ t) stop
    ∙ sym (report_parts c.args.run c.args.number c.args.marks.now)
