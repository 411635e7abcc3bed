use Rattle.std.proofs.Common.{sym, ap, ◌∙◌}
use Rattle.grid_model.specs.Parsed.{term_of}
use Rattle.rule_parse.specs.Readers.{with_nots}
use Rattle.rule_parse.proofs.Terms.{with_nots-more}
use Rattle.rule_parse.proofs.levels.with_nots.Goals as goal

pub loop-at-preserved : goal.loop-at-preserved
loop-at-preserved c =
    ap (with_nots c.pop.new.self.items) c.in_ok-term.ensures
    ∙ sym (with_nots-more c.pop.new.self.items c.in-Some.at (term_of c.loop-at.term))
    ∙ ap (λ l. with_nots l (term_of c.loop-at.term)) (sym c.in-Some.ensures.items)
    ∙ c.loop-at.invariant
