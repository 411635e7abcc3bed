use Rattle.std.proofs.Common.{◌≡◌, length, subst}
use Rattle.grid_model.specs.Places.{IsRefusedAt}
use Rattle.grid_model.specs.Words.{SpellsLine}
use Rattle.req_words.proofs.LineReading.{IsRefusedAt-step, IsRefusedAt-finish}
use Rattle.req_words.proofs.line.words.Goals as goal

pub returns-in-None-clause-syntax : goal.returns-in-None-clause-syntax
returns-in-None-clause-syntax c = λ at e.
    let place : c.loop-at.at ≡ at = cc in
    subst (IsRefusedAt SpellsLine c.args.line.now) place
    (IsRefusedAt-step c.args.line.now c.loop-at.at c.loop-at.words.items c.advance.new.words.items c.loop-at.place c.in_ok-next.field-0 c.loop-at-test.true c.loop-at.invariant c.in_ok-next.ensures c.in-None.is)

pub returns-else-branch-clause-syntax : goal.returns-else-branch-clause-syntax
returns-else-branch-clause-syntax c = λ at e.
    let place : length c.args.line.now ≡ at = cc in
    subst (IsRefusedAt SpellsLine c.args.line.now) place
    (IsRefusedAt-finish c.args.line.now c.loop-at.at c.loop-at.words.items c.finish.new.words.items c.loop-at.place c.in_ok-finish.field-0 c.loop-at-test.false c.loop-at.invariant c.in_ok-finish.ensures c.if-branch.false)
