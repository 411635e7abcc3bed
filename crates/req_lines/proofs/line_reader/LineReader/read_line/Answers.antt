use Rattle.std.proofs.Common.{arith, ap, subst, ◌∙◌, length-take, length}
use Rattle.grid_model.specs.Lines.{IsLine}
use Rattle.req_lines.proofs.LineLemmas.{more_read, line_read, end_read, past_read, part_read, stops_reading}
use Rattle.req_lines.proofs.line_reader.LineReader.read_line.Goals as goal

pub take_line-requires : goal.take_line-requires
take_line-requires g c = omega (arith, ap length c.parts.invariant.so_far.held, length-take 4097 c.parts.invariant.so_far.part)

pub returns-then-branch-clause-reads : goal.returns-then-branch-clause-reads
returns-then-branch-clause-reads g c =
    let found = rw c.if-branch.true at c.in_ok-take_line.ensures.found in
    line_read _ _ _ _ _ c.parts.invariant.so_far _ found.line _ found.is found.split found.added c.in_ok-take_line.ensures.taken

pub returns-in_err-fill-clause-failed : goal.returns-in_err-fill-clause-failed
returns-in_err-fill-clause-failed g c error =
    let found = rw c.if-branch.false at c.in_ok-take_line.ensures.found in
    part_read _ _ _ _ _ c.parts.invariant.so_far _ c.parts.invariant.tells found.is c.in_err-fill.ensures.failed.1

pub parts-preserved : goal.parts-preserved
parts-preserved g c =
    let found = rw c.if-branch.false at c.in_ok-take_line.ensures.found in
    let filled = rw c.in-More.is at c.in_ok-fill.ensures.fills in
    record {
      so_far = more_read _ _ _ _ _ c.parts.invariant.so_far c.take_line.new.self _ _ _ c.parts.invariant.tells found.is found.added c.in_ok-take_line.ensures.taken filled.1;
      tells = c.in_ok-fill.ensures.tells ∙ c.parts.invariant.tells;
      later = omega (arith, c.parts.invariant.later, c.in_ok-fill.ensures.cause.later);
      at_once = λ no. absurd (no (subst IsLine (ap (λ r. r.unread) (c.parts.invariant.at_once no).1) found.is));
    }

pub returns-in-End-clause-reads : goal.returns-in-End-clause-reads
returns-in-End-clause-reads g c =
    let found = rw c.if-branch.false at c.in_ok-take_line.ensures.found in
    let filled = rw c.in-End.is at c.in_ok-fill.ensures.fills in
    end_read _ _ _ _ _ c.parts.invariant.so_far _ _ _ _ c.parts.invariant.tells found.is found.added c.in_ok-take_line.ensures.taken found.all filled.0 filled.1

pub returns-in-Long-clause-reads : goal.returns-in-Long-clause-reads
returns-in-Long-clause-reads g c =
    let found = rw c.if-branch.false at c.in_ok-take_line.ensures.found in
    let filled = rw c.in-Long.is at c.in_ok-fill.ensures.fills in
    past_read _ _ _ _ _ c.parts.invariant.so_far c.take_line.new.self _ _ _ c.parts.invariant.tells found.is found.added c.in_ok-take_line.ensures.taken filled

pub returns-in_err-take_line-clause-stopped : goal.returns-in_err-take_line-clause-stopped
returns-in_err-take_line-clause-stopped g c failed = stops_reading _ _ _ _ _ c.parts.invariant.so_far
