use Rattle.std.proofs.Common.{◌≡◌, [], ◌∷◌, ◌++◌, sym, ap, ◌∙◌, subst}
use Rattle.grid_model.specs.Words.{SpellsLine, quoted_word}
use Rattle.req_words.proofs.QuotedWords.{SpellsLine-quoted_word}
use Rattle.req_words.proofs.quoting.quote.Goals as goal

pub returns-clause-spells : goal.returns-clause-spells
returns-clause-spells c =
    let written : c.from_vec.result ≡ quoted_word c.args.word.now =
    c.from_vec.ensures ∙ c.in_ok-push_word.ensures ∙ ap (λ t. t ++ quoted_word c.as_slice.result.now) c.new-text.ensures.items ∙ ap quoted_word c.as_slice.ensures in
    subst (λ t. SpellsLine t (c.args.word.now ∷ [])) (sym written) (SpellsLine-quoted_word c.args.word.now c.requires)
