use Rattle.std.proofs.Common.{◌≡◌, ℕ, true, false, List, Err, ap, sym, subst, ◌∙◌}
use Rattle.grid_model.specs.Lines.{is_request}
use Rattle.req_lines.specs.Reading.{input}
use Rattle.req_lines.specs.Heads.{FindsBehind, BreaksOffBehind, IsLast}
use Rattle.req_lines.proofs.FindingLemmas.{stops_line, stops_last, ahead_line, skips_line, finds_line, breaks_line, finds_last, goes_on_long, breaks_part}
use Rattle.req_lines.proofs.AtOnceLemmas.{not_line, blank_line, held_whole, err_is}
use Rattle.req_lines.proofs.requests.request_or_blank.Goals as goal

pub returns-then-not-is_request-clause-skips : goal.returns-then-not-is_request-clause-skips
returns-then-not-is_request-clause-skips g c =
    let none : is_request c.read_line.new.line.items ≡ false = ap is_request (sym c.deref.ensures.value) ∙ sym c.is_request.ensures ∙ c.if-not-is_request.true in
    skips_line (input c.args.reader.now (g.S.Source.source c.args.source.now)) (input c.read_line.new.self (g.S.Source.source c.read_line.new.source)) c.read_line.new.line.items
    (rw c.in-Ok-Line.field-0-is at c.in-Ok-Line.ensures.reads) none

pub returns-then-not-is_request-clause-goes_ahead : goal.returns-then-not-is_request-clause-goes_ahead
returns-then-not-is_request-clause-goes_ahead g c =
    ahead_line (input c.args.reader.now (g.S.Source.source c.args.source.now)) (input c.read_line.new.self (g.S.Source.source c.read_line.new.source)) c.read_line.new.line.items
    (rw c.in-Ok-Line.field-0-is at c.in-Ok-Line.ensures.reads)

pub returns-then-not-is_request-clause-at_once : goal.returns-then-not-is_request-clause-at_once
returns-then-not-is_request-clause-at_once g c asked left takes = (c.read_line.ensures.at_once (not_line _ left asked takes)).0

pub returns-then-not-is_request-clause-more_at_once : goal.returns-then-not-is_request-clause-more_at_once
returns-then-not-is_request-clause-more_at_once g c asked left takes =
    let none : is_request c.read_line.new.line.items ≡ false = ap is_request (sym c.deref.ensures.value) ∙ sym c.is_request.ensures ∙ c.if-not-is_request.true in
    blank_line (input c.args.reader.now (g.S.Source.source c.args.source.now)) (input c.read_line.new.self (g.S.Source.source c.read_line.new.source)) c.read_line.new.line.items asked left
    (rw c.in-Ok-Line.field-0-is at c.in-Ok-Line.ensures.reads) (c.read_line.ensures.at_once (not_line _ left asked takes)).1 takes none

pub returns-in-Ok-clause-finds : goal.returns-in-Ok-clause-finds
returns-in-Ok-clause-finds g c =
    let old = input c.args.reader.now (g.S.Source.source c.args.source.now) in
    let mid = input c.read_line.new.self (g.S.Source.source c.read_line.new.source) in
    let new = input c.behind_line.new.reader (g.S.Source.source c.behind_line.new.source) in
    let some : is_request c.read_line.new.line.items ≡ true = ap is_request (sym c.deref.ensures.value) ∙ sym c.is_request.ensures ∙ c.if-not-is_request.false in
    let P : List ℕ → Type 0 = λ line. FindsBehind line mid new c.in-Ok.next in
    finds_line old mid c.read_line.new.line.items (rw c.in-Ok-Line.field-0-is at c.in-Ok-Line.ensures.reads) some c.read_line.ensures.tells new (c.behind_line.ensures.tells ∙ c.read_line.ensures.tells) c.in-Ok.next
    (subst P c.deref-in-Ok-Line.ensures.value c.in-Ok.ensures.finds)

pub returns-in-Ok-clause-at_once : goal.returns-in-Ok-clause-at_once
returns-in-Ok-clause-at_once g c asked left takes =
    let some : is_request c.read_line.new.line.items ≡ true = ap is_request (sym c.deref.ensures.value) ∙ sym c.is_request.ensures ∙ c.if-not-is_request.false in
    let same = c.read_line.ensures.at_once (not_line _ left asked takes) in
    let whole = held_whole (input c.args.reader.now (g.S.Source.source c.args.source.now)) (input c.read_line.new.self (g.S.Source.source c.read_line.new.source)) c.read_line.new.line.items asked left
    (rw c.in-Ok-Line.field-0-is at c.in-Ok-Line.ensures.reads) same.1 takes some c.deref-in-Ok-Line.result.now c.deref-in-Ok-Line.ensures.value in
    c.behind_line.ensures.at_once whole.body whole.more whole.has whole.split ∙ same.0

pub returns-in-Err-behind_line-clause-failed : goal.returns-in-Err-behind_line-clause-failed
returns-in-Err-behind_line-clause-failed g c failed =
    let old = input c.args.reader.now (g.S.Source.source c.args.source.now) in
    let mid = input c.read_line.new.self (g.S.Source.source c.read_line.new.source) in
    let to = g.S.Source.source c.behind_line.new.source in
    let some : is_request c.read_line.new.line.items ≡ true = ap is_request (sym c.deref.ensures.value) ∙ sym c.is_request.ensures ∙ c.if-not-is_request.false in
    let P : List ℕ → Type 0 = λ line. BreaksOffBehind line mid to in
    breaks_line old mid c.read_line.new.line.items (rw c.in-Ok-Line.field-0-is at c.in-Ok-Line.ensures.reads) some c.read_line.ensures.tells to
    (subst P c.deref-in-Ok-Line.ensures.value (c.in-Err-behind_line.ensures.failed (ap Err (err_is failed))))

pub returns-in-Err-behind_line-clause-at_once : goal.returns-in-Err-behind_line-clause-at_once
returns-in-Err-behind_line-clause-at_once g c asked left takes =
    let some : is_request c.read_line.new.line.items ≡ true = ap is_request (sym c.deref.ensures.value) ∙ sym c.is_request.ensures ∙ c.if-not-is_request.false in
    let same = c.read_line.ensures.at_once (not_line _ left asked takes) in
    let whole = held_whole (input c.args.reader.now (g.S.Source.source c.args.source.now)) (input c.read_line.new.self (g.S.Source.source c.read_line.new.source)) c.read_line.new.line.items asked left
    (rw c.in-Ok-Line.field-0-is at c.in-Ok-Line.ensures.reads) same.1 takes some c.deref-in-Ok-Line.result.now c.deref-in-Ok-Line.ensures.value in
    c.behind_line.ensures.at_once whole.body whole.more whole.has whole.split ∙ same.0

pub returns-in-Ok-last_line-clause-finds : goal.returns-in-Ok-last_line-clause-finds
returns-in-Ok-last_line-clause-finds g c =
    let P : List ℕ → Type 0 = λ line. IsLast line c.in-Ok-last_line.next in
    finds_last (input c.args.reader.now (g.S.Source.source c.args.source.now)) (input c.read_line.new.self (g.S.Source.source c.read_line.new.source)) c.read_line.new.line.items
    (rw c.in-Ok-End.field-0-is at c.in-Ok-End.ensures.reads) c.read_line.ensures.tells c.in-Ok-last_line.next (subst P c.deref-in-Ok-End.ensures.value c.in-Ok-last_line.ensures)

pub returns-in-Ok-last_line-clause-at_once : goal.returns-in-Ok-last_line-clause-at_once
returns-in-Ok-last_line-clause-at_once g c asked left takes = (c.read_line.ensures.at_once (not_line _ left asked takes)).0

pub returns-in-Err-last_line-clause-at_once : goal.returns-in-Err-last_line-clause-at_once
returns-in-Err-last_line-clause-at_once g c asked left takes = (c.read_line.ensures.at_once (not_line _ left asked takes)).0

pub returns-in-Ok-Long-clause-finds : goal.returns-in-Ok-Long-clause-finds
returns-in-Ok-Long-clause-finds g c =
    goes_on_long (input c.args.reader.now (g.S.Source.source c.args.source.now)) (input c.read_line.new.self (g.S.Source.source c.read_line.new.source)) c.read_line.new.line.items
    (rw c.in-Ok-Long.field-0-is at c.in-Ok-Long.ensures.reads)

pub returns-in-Ok-Long-clause-at_once : goal.returns-in-Ok-Long-clause-at_once
returns-in-Ok-Long-clause-at_once g c asked left takes = (c.read_line.ensures.at_once (not_line _ left asked takes)).0

pub returns-in-Err-clause-failed : goal.returns-in-Err-clause-failed
returns-in-Err-clause-failed g c failed = breaks_part (input c.args.reader.now (g.S.Source.source c.args.source.now)) (g.S.Source.source c.read_line.new.source) (c.in-Err.ensures.failed (ap Err (err_is failed)))

pub returns-in-Err-clause-at_once : goal.returns-in-Err-clause-at_once
returns-in-Err-clause-at_once g c asked left takes = (c.read_line.ensures.at_once (not_line _ left asked takes)).0

pub returns-in-Err-behind_line-clause-stopped : goal.returns-in-Err-behind_line-clause-stopped
returns-in-Err-behind_line-clause-stopped g c failed =
    let some : is_request c.read_line.new.line.items ≡ true = ap is_request (sym c.deref.ensures.value) ∙ sym c.is_request.ensures ∙ c.if-not-is_request.false in
    stops_line (input c.args.reader.now (g.S.Source.source c.args.source.now)) (input c.read_line.new.self (g.S.Source.source c.read_line.new.source)) c.read_line.new.line.items
    (rw c.in-Ok-Line.field-0-is at c.in-Ok-Line.ensures.reads) some c.read_line.ensures.tells (g.S.Source.source c.behind_line.new.source) (c.in-Err-behind_line.ensures.stopped (ap Err (err_is failed)))

pub returns-in-Err-last_line-clause-stopped : goal.returns-in-Err-last_line-clause-stopped
returns-in-Err-last_line-clause-stopped g c failed =
    stops_last (input c.args.reader.now (g.S.Source.source c.args.source.now)) (input c.read_line.new.self (g.S.Source.source c.read_line.new.source)) c.read_line.new.line.items
    (rw c.in-Ok-End.field-0-is at c.in-Ok-End.ensures.reads)

pub returns-in-Err-clause-stopped : goal.returns-in-Err-clause-stopped
returns-in-Err-clause-stopped g c failed = c.in-Err.ensures.stopped (ap Err (err_is failed))
