use Rattle.std.proofs.Common.{◌≡◌, ◌<◌, ◌≤◌, Err, length, subst, sym, arith}
use Rattle.reply_fields.specs.Fronts.{IsRead, ReadsFrom}
use Rattle.reply_reader.specs.Lines.{IsReplyLine, IsReplyTo, phase_behind}
use Rattle.reply_reader.specs.Parts.{reply_so_far}
use Rattle.reply_reader.proofs.LineTexts.{start}
use Rattle.reply_reader.proofs.ReplyReading.{ReadLines, ReadLines-start, ReadLines-more, ReadLines-unread, ReadLines-end, line_forward}
use Rattle.reply_reader.proofs.reading.reply_to.Goals as goal

pub lines-init : goal.lines-init
lines-init c = ReadLines-start c.args.number c.args.text.now (reply_so_far c.new-parts.result) c.ranges.number.fits c.new-parts.ensures.marks c.new-parts.ensures.shown c.new-parts.ensures.passed c.new-parts.ensures.rows

pub next_line-requires : goal.next_line-requires
next_line-requires c = c.lines.invariant.leads.inside

pub returns-in-Err : goal.returns-in-Err
returns-in-Err c =
    ReadLines-unread c.args.number c.args.text.now (reply_so_far c.lines.parts) c.lines.phase c.lines.place c.in-Err.error c.lines.invariant
    (subst (λ t. ReadsFrom (IsReplyLine t c.lines.phase) c.args.text.now c.lines.place (Err c.in-Err.error)) c.requires c.in-Err.ensures)

pub returns-in-End : goal.returns-in-End
returns-in-End c =
    let read : IsRead (IsReplyLine (start c.args.number) c.lines.phase) c.args.text.now c.lines.place c.in-Ok.read.0 c.in-Ok.read.1 =
    subst (λ t. IsRead (IsReplyLine t c.lines.phase) c.args.text.now c.lines.place c.in-Ok.read.0 c.in-Ok.read.1) c.requires c.in-Ok.ensures in
    subst (λ r. IsRead (IsReplyTo c.args.number) c.args.text.now 0 r c.in-Ok.read.1) (sym c.into_reply.ensures)
    (ReadLines-end c.args.number c.args.text.now (reply_so_far c.lines.parts) c.lines.phase c.lines.place c.in-Ok.read.1 c.in-End.end c.lines.invariant
    (subst (λ l. IsRead (IsReplyLine (start c.args.number) c.lines.phase) c.args.text.now c.lines.place l c.in-Ok.read.1) c.in-End.is read))

pub lines-preserved : goal.lines-preserved
lines-preserved c =
    let read : IsRead (IsReplyLine (start c.args.number) c.lines.phase) c.args.text.now c.lines.place c.in-Ok.read.0 c.in-Ok.read.1 =
    subst (λ t. IsRead (IsReplyLine t c.lines.phase) c.args.text.now c.lines.place c.in-Ok.read.0 c.in-Ok.read.1) c.requires c.in-Ok.ensures in
    let behind : c.phase_behind-phase.result ≡ phase_behind c.in-Ok.read.0 = c.phase_behind-phase.ensures in
    subst (λ p. ReadLines c.args.number c.args.text.now (reply_so_far c.add.new.self) p c.in-Ok.read.1) (sym behind)
    (ReadLines-more c.args.number c.args.text.now (reply_so_far c.lines.parts) (reply_so_far c.add.new.self) c.lines.phase c.lines.place c.in-Ok.read.1 c.in-Ok.read.0 c.lines.invariant read
    c.in_default.not-End c.in_ok-add-in_default.ensures)

pub lines-smaller : goal.lines-smaller
lines-smaller c =
    let read : IsRead (IsReplyLine (start c.args.number) c.lines.phase) c.args.text.now c.lines.place c.in-Ok.read.0 c.in-Ok.read.1 =
    subst (λ t. IsRead (IsReplyLine t c.lines.phase) c.args.text.now c.lines.place c.in-Ok.read.0 c.in-Ok.read.1) c.requires c.in-Ok.ensures in
    let forward : c.lines.place < c.in-Ok.read.1 = line_forward c.args.number c.lines.phase c.args.text.now c.lines.place c.in-Ok.read.1 c.in-Ok.read.0 read in
    let within : c.in-Ok.read.1 ≤ length c.args.text.now = read.within in
    omega (arith, forward, within)
