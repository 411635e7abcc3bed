use Rattle.std.proofs.Common.{Err, arith, ap, refl, ◌∙◌}
use Rattle.req_lines.specs.Reading.{input}
use Rattle.req_lines.specs.Hearing.{Skips}
use Rattle.req_lines.proofs.AtOnceLemmas.{err_is}
use Rattle.req_lines.proofs.SkippingLemmas.{skips_none, skips_more, finds_behind, breaks_behind, stops_behind}
use Rattle.req_lines.proofs.requests.next_request.Goals as goal

pub lines-init : goal.lines-init
lines-init g c = record {
  most = c.requires.most;
  skips = skips_none (input c.args.reader.now (g.S.Source.source c.args.source.now)) c.requires.most;
  tells = refl;
  later = omega arith;
  at_once = λ asked left takes. (refl, takes);
}

pub lines-smaller : goal.lines-smaller
lines-smaller g c =
    let ahead = rw c.in-Ok-None.field-0-is at c.in-Ok-None.ensures.goes_ahead in
    let more = rw c.in-Ok-None.field-0-is at c.in-Ok-None.ensures.skips in
    omega (arith, ahead, more.over.most, c.lines.invariant.most)

pub lines-preserved : goal.lines-preserved
lines-preserved g c =
    let so_far = c.lines.invariant in
    let old = input c.args.reader.now (g.S.Source.source c.args.source.now) in
    let mid = input c.lines.reader (g.S.Source.source c.lines.source) in
    let new = input c.request_or_blank.new.reader (g.S.Source.source c.request_or_blank.new.source) in
    let more : Skips mid new = rw c.in-Ok-None.field-0-is at c.in-Ok-None.ensures.skips in
    record {
      most = more.over.most;
      skips = skips_more old mid so_far.tells so_far.skips new more;
      tells = c.request_or_blank.ensures.tells ∙ so_far.tells;
      later = omega (arith, so_far.later, c.request_or_blank.ensures.later);
      at_once = λ asked left takes. (
        c.request_or_blank.ensures.at_once asked left (so_far.at_once asked left takes).1 ∙ (so_far.at_once asked left takes).0,
        (rw c.in-Ok-None.field-0-is at (c.in-Ok-None.ensures.more_at_once asked left (so_far.at_once asked left takes).1)),
      );
    }

pub returns-in-Ok-Some-clause-finds : goal.returns-in-Ok-Some-clause-finds
returns-in-Ok-Some-clause-finds g c =
    let so_far = c.lines.invariant in
    finds_behind (input c.args.reader.now (g.S.Source.source c.args.source.now)) (input c.lines.reader (g.S.Source.source c.lines.source)) so_far.tells so_far.skips
    (input c.request_or_blank.new.reader (g.S.Source.source c.request_or_blank.new.source)) c.in-Ok-Some.next (rw c.in-Ok-Some.field-0-is at c.in-Ok-Some.ensures.finds)

pub returns-in-Err-clause-failed : goal.returns-in-Err-clause-failed
returns-in-Err-clause-failed g c failed =
    let so_far = c.lines.invariant in
    breaks_behind (input c.args.reader.now (g.S.Source.source c.args.source.now)) (input c.lines.reader (g.S.Source.source c.lines.source)) so_far.tells so_far.skips
    (g.S.Source.source c.request_or_blank.new.source) (c.in-Err.ensures.failed (ap Err (err_is failed)))

pub returns-in-Err-clause-stopped : goal.returns-in-Err-clause-stopped
returns-in-Err-clause-stopped g c failed =
    let so_far = c.lines.invariant in
    stops_behind (input c.args.reader.now (g.S.Source.source c.args.source.now)) (input c.lines.reader (g.S.Source.source c.lines.source)) so_far.tells so_far.skips
    (g.S.Source.source c.request_or_blank.new.source) (c.in-Err.ensures.stopped (ap Err (err_is failed)))
