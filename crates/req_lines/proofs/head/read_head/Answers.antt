use Rattle.std.proofs.Common.{Err, ap, ◌∙◌}
use Rattle.grid_model.specs.declared.refusal.Refusal.TheVariants as refusal
use Rattle.req_lines.proofs.HeadLemmas.{not_long, head_of, head_long, head_spoilt}
use Rattle.req_lines.proofs.head.read_head.Goals as goal

pub returns-in-Ok-kept_line : goal.returns-in-Ok-kept_line
returns-in-Ok-kept_line c =
    head_of c.args.line.now c.in-Ok.words _ _ _ _ (not_long _ (λ lt. let e = c.words.ensures.too_long.1 lt in cc (e, c.in-Ok.is))) c.in-Ok.ensures.words c.in-Ok.ensures.only c.in_ok-asked-in-Ok.ensures
    c.body_count.ensures.count c.body_count.ensures.none c.unwrap_or-count.ensures c.in-Ok-kept_line.ensures

pub returns-in-Err-TooLong : goal.returns-in-Err-TooLong
returns-in-Err-TooLong c =
    head_long c.args.line.now c.refused.result c.refused.ensures.asked c.refused.ensures.count c.refused.ensures.line (c.words.ensures.too_long.0 (cc (c.in-Err-TooLong.is, c.in-Err-TooLong.field-0-is)))

pub returns-in-Err-Syntax : goal.returns-in-Err-Syntax
returns-in-Err-Syntax c =
    head_spoilt c.args.line.now c.refused-in-Err-Syntax.result c.in-Err-Syntax.at (c.refused-in-Err-Syntax.ensures.asked ∙ ap (λ n. Err (refusal.Syntax n)) c.in-Err-Syntax.at-is) c.refused-in-Err-Syntax.ensures.count c.refused-in-Err-Syntax.ensures.line
    (not_long _ (λ lt. let e = c.words.ensures.too_long.1 lt in cc (e, c.in-Err-Syntax.is, c.in-Err-Syntax.field-0-is))) (c.in-Err-Syntax.ensures.syntax c.in-Err-Syntax.at c.in-Err-Syntax.field-0-is)
