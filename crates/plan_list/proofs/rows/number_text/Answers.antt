use Rattle.std.proofs.Common.{◌≡◌, rules, ap, ◌∙◌}
use Rattle.std.specs.Prelude.{decimal}
use Rattle.grid_model.specs.Writable.{is_word}
use Rattle.plan_list.proofs.ShownWords.{decimal_word}
use Rattle.plan_list.proofs.rows.number_text.Goals as goal

pub returns-clause-word : goal.returns-clause-word
returns-clause-word c =
    let text : c.in_ok-text.text ≡ decimal c.args.number = search rules in
    ap is_word text ∙ decimal_word c.args.number c.ranges.number.fits
