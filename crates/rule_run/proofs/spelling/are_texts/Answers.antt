use Rattle.std.proofs.Common.{[], ◌∷◌, Some, sym, ap, ◌∙◌}
use Rattle.std.proofs.lemmas.Option.{slice_get-get_or}
use Rattle.grid_model.specs.Deltas.{all_fit, text as text_part}
use Rattle.grid_model.specs.Names.{Text}
use Rattle.rule_run.proofs.Spelled.{one_more, text_fits}
use Rattle.rule_run.proofs.spelling.are_texts.Goals as goal

pub loop-word-preserved : goal.loop-word-preserved
loop-word-preserved c =
    let all = c.args.words.now in
    let at = slice_get-get_or all c.loop-word.word-index c.word-item.result c.loop-word-test.true ∙ ap Some (sym c.word-item.is) in
    one_more (λ (t : Text). all_fit (text_part t ∷ [])) all c.loop-word.word-index c.word-item.result at c.loop-word.invariant
    (text_fits c.is_text.result c.word-item.result c.is_text.ensures c.if-not-is_text.false)
