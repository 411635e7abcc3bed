use Rattle.std.proofs.Common.{ap, arith}
use Rattle.req_lines.proofs.LineLemmas.{passed_rest}
use Rattle.req_lines.proofs.line_reader.LineReader.pass_held.Goals as goal

pub returns-clause-unread : goal.returns-clause-unread
returns-clause-unread c =
    let r = c.self.inside in
    passed_rest r.start r.end c.min-passed.result c.args.count r.block.items c.args.self.now.unread (ap (λ v. v.unread) c.self.view_is) c.self.invariant.1 (omega (arith, c.self.invariant.0, c.self.invariant.2)) c.min-passed.ensures
