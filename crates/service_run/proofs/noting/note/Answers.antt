use Rattle.std.proofs.Common.{Err, Ok, sym, subst}
use Rattle.std.specs.Prelude.{⊤, Result, IsErrOf}
use Rattle.grid_outside.specs.Device.{Between}
use Rattle.grid_outside.specs.Sink.{AddsPart}
use Rattle.grid_model.specs.Names.{Text}
use Rattle.grid_deed.proofs.Frames.{frame_as}
use Rattle.service_run.specs.declared.ending.Ending.{Ending}
use Rattle.service_run.specs.declared.ending.Ending.TheVariants as ending
use Rattle.service_run.proofs.NoteSteps.{as_disk, as_fault, not_sink, note_cut, note_done, note_failed, of_commit}
use Rattle.service_run.proofs.Passing.{passes_framed, passes_told}
use Rattle.service_run.proofs.noting.note.Goals as goal

pub ending_of-requires : goal.ending_of-requires
ending_of-requires g c =
    of_commit c.requires.held.0 c.requires.change.0 c.args.store.now (g.D.Disk.disk c.args.outside.now.main) (g.D.Disk.disk c.commit.new.outside.main) c.in-Err.error c.commit.new.store
    (c.in-Err.ensures.committed c.requires.held.0 c.requires.change.0 c.requires.held.1 c.requires.change.1).ends

-- ---- the commit failed

pub returns-in-Err-clause-noted : goal.returns-in-Err-clause-noted
returns-in-Err-clause-noted g c kept after held applied =
    let o = c.args.outside.now in
    note_failed kept after o.moments c.args.store.now (g.D.Disk.disk o.main) (g.K.Sink.sink c.args.sink.now) c.args.command.now.untold c.requires.ready.sink_last
    c.in-Err.error c.ending_of.result (g.D.Disk.disk c.commit.new.outside.main) c.commit.new.store c.ending_of.ensures (c.in-Err.ensures.committed kept after held applied)

pub returns-in-Err-clause-whole : goal.returns-in-Err-clause-whole
returns-in-Err-clause-whole g c kept held = c.in-Err.ensures.whole_staged kept c.requires.change.0 held c.requires.change.1 c.requires.change.2

pub returns-in-Err-clause-passes : goal.returns-in-Err-clause-passes
returns-in-Err-clause-passes g c =
    let o = c.args.outside.now in
    let x = c.ending_of.result in
    let r : Result ⊤ Ending = Err x in
    passes_framed g.D.Disk.disk g.P.Plugin.plugin g.K.Sink.sink (IsErrOf r ending.Disk) (IsErrOf r ending.Sink) o c.commit.new.outside o.ambient c.args.sink.now (not_sink c.in-Err.error x c.ending_of.ensures)
    (frame_as g.D.Disk.disk g.P.Plugin.plugin _ _ o c.commit.new.outside (as_disk c.in-Err.error x c.ending_of.ensures) (as_fault c.in-Err.error x c.ending_of.ensures) c.in-Err.ensures.frame)

pub returns-in-Err-clause-ambient : goal.returns-in-Err-clause-ambient
returns-in-Err-clause-ambient g c = c.in-Err.ensures.frame.ambient

-- ---- the sink failed

pub returns-in-Err-tell-clause-ambient : goal.returns-in-Err-tell-clause-ambient
returns-in-Err-tell-clause-ambient g c = c.in-Ok.ensures.frame.ambient

pub returns-in-Err-tell-clause-noted : goal.returns-in-Err-tell-clause-noted
returns-in-Err-tell-clause-noted g c kept after held applied =
    let o = c.args.outside.now in
    let m = c.commit.new.outside in
    let k = g.K.Sink.sink c.args.sink.now in
    let l = g.K.Sink.sink c.tell.new.sink in
    let B : Text → Type 0 = λ t. Between m.moments c.tell.new.moments (AddsPart t) k l in
    let frame = c.in-Ok.ensures.frame in
    note_cut kept after o.moments c.args.store.now (g.D.Disk.disk o.main) k c.args.command.now.untold c.requires.ready.sink_last
    (g.D.Disk.disk m.main) c.commit.new.store (c.in-Ok.ensures.committed kept after held applied) m.moments c.tell.new.moments frame.drawn (frame.main_last c.requires.ready.outside.main_last) frame.main.tells l (subst B c.as_slice.ensures c.in-Err-tell.ensures.told)

pub returns-in-Err-tell-clause-whole : goal.returns-in-Err-tell-clause-whole
returns-in-Err-tell-clause-whole g c kept held = c.in-Ok.ensures.whole_staged kept c.requires.change.0 held c.requires.change.1 c.requires.change.2

pub returns-in-Err-tell-clause-passes : goal.returns-in-Err-tell-clause-passes
returns-in-Err-tell-clause-passes g c =
    let o = c.args.outside.now in
    let m = c.commit.new.outside in
    let r : Result ⊤ Ending = Err ending.Sink in
    passes_told g.D.Disk.disk g.P.Plugin.plugin g.K.Sink.sink (IsErrOf r ending.Disk) (IsErrOf r ending.Sink) o m c.tell.new.moments c.args.sink.now c.tell.new.sink c.as_slice.result.now
    (frame_as g.D.Disk.disk g.P.Plugin.plugin _ _ o m (λ e. cc) (λ e. cc) c.in-Ok.ensures.frame) c.in-Err-tell.ensures.drawn_from c.in-Err-tell.ensures.told (λ e. c.in-Err-tell.ensures.cause)

-- ---- both were done

pub returns-clause-ambient : goal.returns-clause-ambient
returns-clause-ambient g c = c.in-Ok.ensures.frame.ambient

pub returns-clause-noted : goal.returns-clause-noted
returns-clause-noted g c kept after held applied =
    let o = c.args.outside.now in
    let m = c.commit.new.outside in
    let k = g.K.Sink.sink c.args.sink.now in
    let l = g.K.Sink.sink c.tell.new.sink in
    let B : Text → Type 0 = λ t. Between m.moments c.tell.new.moments (AddsPart t) k l in
    let frame = c.in-Ok.ensures.frame in
    note_done kept after o.moments c.args.store.now (g.D.Disk.disk o.main) k c.args.command.now.untold c.requires.ready.sink_last
    (g.D.Disk.disk m.main) c.commit.new.store (c.in-Ok.ensures.committed kept after held applied) m.moments c.tell.new.moments frame.drawn (frame.main_last c.requires.ready.outside.main_last) frame.main.tells l (subst B c.as_slice.ensures c.in-Ok-tell.ensures.told)
    (rw (sym c.as_slice.ensures) c.in-Ok-tell.ensures.all) c.in-Ok-tell.ensures.settled

pub returns-clause-whole : goal.returns-clause-whole
returns-clause-whole g c kept held = c.in-Ok.ensures.whole_staged kept c.requires.change.0 held c.requires.change.1 c.requires.change.2

pub returns-clause-passes : goal.returns-clause-passes
returns-clause-passes g c =
    let o = c.args.outside.now in
    let m = c.commit.new.outside in
    let r : Result ⊤ Ending = Ok tt in
    passes_told g.D.Disk.disk g.P.Plugin.plugin g.K.Sink.sink (IsErrOf r ending.Disk) (IsErrOf r ending.Sink) o m c.tell.new.moments c.args.sink.now c.tell.new.sink c.as_slice.result.now
    (frame_as g.D.Disk.disk g.P.Plugin.plugin _ _ o m (λ e. cc) (λ e. cc) c.in-Ok.ensures.frame) c.in-Ok-tell.ensures.drawn_from c.in-Ok-tell.ensures.told (λ e. absurd (cc))
