use Rattle.std.proofs.Common.{◌≡◌, ◌+◌, ◌-◌, ◌^◌, ◌≤◌, length}
use Rattle.req_lines.proofs.LineLemmas.{PartPassed}
use Rattle.req_lines.proofs.line_reader.LineReader.pass.Given as goal

abbrev pub invariant-parts : goal.invariant-parts
invariant-parts g l =
    let old = g.S.Source.source l.fn.source in
    let now = g.S.Source.source l.source in
    record {
      so_far : PartPassed l.fn.self l.self old now l.fn.count l.left;
      tells : now.tells ≡ old.tells;
      later : old.faults ≤ now.faults;
      at_once : l.fn.count ≤ length l.fn.self.unread → (l.source ≡ l.fn.source) × (l.left ≤ length l.self.unread);
    }

abbrev pub decreases-parts : goal.decreases-parts
decreases-parts g l = 2 ^ 48 + 1 - l.self.taken
