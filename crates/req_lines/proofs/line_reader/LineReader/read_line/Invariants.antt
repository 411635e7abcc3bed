use Rattle.std.proofs.Common.{◌≡◌, ◌+◌, ◌-◌, ◌^◌, ◌≤◌}
use Rattle.grid_model.specs.Lines.{IsLine}
use Rattle.req_lines.proofs.LineLemmas.{PartRead}
use Rattle.req_lines.proofs.line_reader.LineReader.read_line.Given as goal

abbrev pub invariant-parts : goal.invariant-parts
invariant-parts g l =
    let old = g.S.Source.source l.fn.source in
    let now = g.S.Source.source l.source in
    record {
      so_far : PartRead l.fn.self l.self old now l.line.items;
      tells : now.tells ≡ old.tells;
      later : old.faults ≤ now.faults;
      at_once : ¬ IsLine l.fn.self.unread → (l.source ≡ l.fn.source) × (l.self ≡ l.fn.self);
    }

abbrev pub decreases-parts : goal.decreases-parts
decreases-parts g l = 2 ^ 48 + 1 - l.self.taken
