use Rattle.std.proofs.Common.{ℕ, true, false, sym, subst}
use Rattle.req_lines.specs.Reading.{input, Passes}
use Rattle.req_lines.specs.declared.line_reader.Passed.TheVariants as passed
use Rattle.req_lines.proofs.HoldingLemmas.{hears_passed}
use Rattle.req_lines.proofs.requests.pass_body.Goals as goal

pub returns-in-Ok-Whole-clause-finds : goal.returns-in-Ok-Whole-clause-finds
returns-in-Ok-Whole-clause-finds g c line is =
    let old = input c.args.reader.now (g.S.Source.source c.args.source.now) in
    let new = input c.pass.new.self (g.S.Source.source c.pass.new.source) in
    let found = rw c.in-Ok-Whole.field-0-is at c.in-Ok-Whole.ensures.passes in
    hears_passed line c.args.head old new c.heard.result false found.0 c.new.result.items is c.requires.not_held found.1 (c.heard.ensures.asked found.0 found.1.ends.1) c.new.ensures.items c.heard.ensures.body c.heard.ensures.ends c.heard.ensures.keeps

pub returns-in-Ok-Short-clause-finds : goal.returns-in-Ok-Short-clause-finds
returns-in-Ok-Short-clause-finds g c line is =
    let old = input c.args.reader.now (g.S.Source.source c.args.source.now) in
    let new = input c.pass.new.self (g.S.Source.source c.pass.new.source) in
    let found = rw c.in-Ok-Short.field-0-is at c.in-Ok-Short.ensures.passes in
    let P : ℕ → Type 0 = λ n. Passes old c.args.head.count (passed.Short n) new found.0 in
    hears_passed line c.args.head old new c.heard-in-Ok-Short.result true found.0 c.new-in-Ok-Short.result.items is c.requires.not_held (subst P found.1.ends.3 found.1)
    (c.heard-in-Ok-Short.ensures.asked found.0 (sym found.1.ends.3)) c.new-in-Ok-Short.ensures.items c.heard-in-Ok-Short.ensures.body c.heard-in-Ok-Short.ensures.ends c.heard-in-Ok-Short.ensures.keeps
