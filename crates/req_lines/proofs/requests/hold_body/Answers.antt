use Rattle.std.proofs.Common.{ℕ, true, false, sym, subst}
use Rattle.req_lines.specs.Reading.{input, Passes}
use Rattle.req_lines.specs.declared.line_reader.Passed.TheVariants as passed
use Rattle.req_lines.proofs.HoldingLemmas.{hears_held}
use Rattle.req_lines.proofs.requests.hold_body.Goals as goal

pub returns-in-Ok-Whole-clause-finds : goal.returns-in-Ok-Whole-clause-finds
returns-in-Ok-Whole-clause-finds g c line is =
    let old = input c.args.reader.now (g.S.Source.source c.args.source.now) in
    let new = input c.read_body.new.self (g.S.Source.source c.read_body.new.source) in
    let body = c.read_body.new.body.items in
    let passes : Passes old c.args.head.count passed.Whole new body = rw c.in-Ok-Whole.field-0-is at c.in-Ok-Whole.ensures.reads in
    hears_held line c.args.head old new c.heard.result false body is c.requires.held passes (c.heard.ensures.asked body passes.ends.1) c.heard.ensures.body c.heard.ensures.ends c.heard.ensures.keeps

pub returns-in-Ok-Short-clause-finds : goal.returns-in-Ok-Short-clause-finds
returns-in-Ok-Short-clause-finds g c line is =
    let old = input c.args.reader.now (g.S.Source.source c.args.source.now) in
    let new = input c.read_body.new.self (g.S.Source.source c.read_body.new.source) in
    let body = c.read_body.new.body.items in
    let passes : Passes old c.args.head.count (passed.Short c.in-Ok-Short.have) new body = rw c.in-Ok-Short.field-0-is at c.in-Ok-Short.ensures.reads in
    let P : ℕ → Type 0 = λ n. Passes old c.args.head.count (passed.Short n) new body in
    hears_held line c.args.head old new c.heard-in-Ok-Short.result true body is c.requires.held (subst P passes.ends.3 passes) (c.heard-in-Ok-Short.ensures.asked body (sym passes.ends.3)) c.heard-in-Ok-Short.ensures.body
    c.heard-in-Ok-Short.ensures.ends c.heard-in-Ok-Short.ensures.keeps
