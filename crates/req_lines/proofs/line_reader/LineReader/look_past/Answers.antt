use Rattle.std.proofs.Common.{get_or, arith, ap, ◌∙◌}
use Rattle.req_lines.proofs.LineLemmas.{one_taken}
use Rattle.req_lines.proofs.line_reader.LineReader.look_past.Goals as goal

pub returns-clause-fills : goal.returns-clause-fills
returns-clause-fills g c = record {
  byte = get_or c.read.new.buf 0 0;
  took = λ tells. one_taken c.read.new.buf _ _ c.in_ok-read.field-0 (omega (arith, c.read.auto.buf)) c.in_ok-read.ensures.count c.if-branch-eq0.false (c.in_ok-read.ensures.takes tells).split;
  full = omega (arith, c.requires.most);
  taken = omega (arith, ap (λ r. r.taken) c.self.view_is, c.requires.most);
  all = ap (λ r. r.unread) c.self.view_is ∙ c.requires.empty;
}
