use Rattle.std.proofs.Common.{◌<◌, Err, Ok, sym, ap, ◌∙◌, subst, arith, vec_len, Option}
use Rattle.std.specs.Prelude.{All, Result, IsErrOf}
use Rattle.std.specs.Result.{is_ok}
use Rattle.grid_model.specs.declared.plans.NewFile.{NewFile}
use Rattle.grid_vault.specs.declared.fault.Fault.{Fault}
use Rattle.service_run.specs.declared.ending.Ending.{Ending}
use Rattle.service_run.specs.declared.ending.Ending.TheVariants as ending
use Rattle.deed_run.proofs.WriteSteps.{held_on, last_applied, write_cut, write_failed, write_staged, write_whole}
use Rattle.service_run.proofs.Passing.{passes_on}
use Rattle.deed_run.proofs.writing.write_noted.Goals as goal

pub note-requires-clause-change : goal.note-requires-clause-change
note-requires-clause-change g c = (c.requires.plan.mid, c.requires.plan.first, c.requires.plan.begins)

pub note-requires-clause-spelled : goal.note-requires-clause-spelled
note-requires-clause-spelled g c = c.requires.plan.spelled_first

pub write_files-fault-requires-clause-slots : goal.write_files-fault-requires-clause-slots
write_files-fault-requires-clause-slots g c = let S : _ → Type 0 = λ v. All (λ (f : NewFile). f.slot < vec_len v) c.args.plan.files in subst S (sym c.in-Ok.ensures.stores) c.requires.plan.slots

pub write_files-fault-requires-clause-ready : goal.write_files-fault-requires-clause-ready
write_files-fault-requires-clause-ready g c =
    let ready = c.requires.ready.outside in
    let frame = c.in-Ok.ensures.passes.frame in
    record { main_last = frame.main_last ready.main_last; stores_last = frame.stores_last ready.stores_last; room = omega (arith, c.in-Ok.ensures.drawn, ready.room) }

pub stage_written-requires-clause-held : goal.stage_written-requires-clause-held
stage_written-requires-clause-held g c =
    let p = c.requires.plan in
    let kept = c.requires.held.0 in (
      p.mid,
      held_on g.D.Disk.disk g.P.Plugin.plugin g.K.Sink.sink p c.args.command.now.untold kept c.args.outside.now c.note.new.outside c.write_files-fault.new.outside c.args.sink.now c.note.new.sink c.note.new.store
          (c.in-Ok.ensures.noted kept p.mid c.requires.held.1 p.first) c.write_files-fault.ensures.main,
    )

pub stage_written-requires-clause-apply : goal.stage_written-requires-clause-apply
stage_written-requires-clause-apply g c =
    let p = c.requires.plan in
    let kept = c.requires.held.0 in
    ap is_ok (last_applied g.D.Disk.disk g.P.Plugin.plugin g.K.Sink.sink p c.args.command.now.untold kept c.args.outside.now c.note.new.outside c.write_files-fault.new.outside c.args.sink.now c.note.new.sink c.note.new.store
    (c.in-Ok.ensures.noted kept p.mid c.requires.held.1 p.first) c.write_files-fault.ensures.main)

pub stage_written-requires-clause-spelled : goal.stage_written-requires-clause-spelled
stage_written-requires-clause-spelled g c = c.requires.plan.spelled_then

-- ---- it was not noted

pub returns-in-Err-clause-written : goal.returns-in-Err-clause-written
returns-in-Err-clause-written g c kept held p =
    write_failed g.D.Disk.disk g.P.Plugin.plugin g.K.Sink.sink p c.args.command.now.untold kept c.args.outside.now c.note.new.outside c.args.sink.now c.note.new.sink c.in-Err.ending c.note.new.store
    (c.in-Err.ensures.noted kept p.mid held p.first)

-- ---- memory ran out

pub returns-clause-ambient : goal.returns-clause-ambient
returns-clause-ambient g c = c.write_files-fault.ensures.frame.ambient ∙ c.in-Ok.ensures.ambient

pub returns-clause-written : goal.returns-clause-written
returns-clause-written g c kept held p =
    write_cut g.D.Disk.disk g.P.Plugin.plugin g.K.Sink.sink p c.args.command.now.untold kept c.args.outside.now c.note.new.outside c.write_files-fault.new.outside c.args.sink.now c.note.new.sink c.note.new.store
    (c.in-Ok.ensures.noted kept p.mid held p.first) c.write_files-fault.ensures.main c.stage_written.new.store

pub returns-clause-whole : goal.returns-clause-whole
returns-clause-whole g c kept held =
    let p = c.requires.plan in
    let noted = c.in-Ok.ensures.noted kept p.mid held p.first in
    let frame = c.in-Ok.ensures.passes.frame in
    let write = c.write_files-fault.ensures in
    write_whole g.D.Disk.disk g.P.Plugin.plugin g.K.Sink.sink p c.args.command.now.untold kept c.args.outside.now c.note.new.outside c.write_files-fault.new.outside c.args.sink.now c.note.new.sink c.note.new.store noted write.main
    (λ i. (c.in-Ok.ensures.stores i).items) frame.drawn (frame.main_last c.requires.ready.outside.main_last) frame.main.tells write.frame (write.whole p.mid c.note.new.store noted.ends.main.held p.named) (c.in-Ok.ensures.whole kept held)

pub returns-clause-passes : goal.returns-clause-passes
returns-clause-passes g c =
    let r : Result (Option Fault) Ending = Err ending.Memory in
    passes_on g.D.Disk.disk g.P.Plugin.plugin g.K.Sink.sink _ _ (IsErrOf r ending.Disk) (IsErrOf r ending.Sink) c.args.outside.now c.note.new.outside c.write_files-fault.new.outside c.args.sink.now c.note.new.sink
    (λ e. cc) (λ e. cc) (λ e. cc) c.in-Ok.ensures.passes c.write_files-fault.ensures.frame

-- ---- the files were written

pub returns-in-Ok-stage_written-clause-ambient : goal.returns-in-Ok-stage_written-clause-ambient
returns-in-Ok-stage_written-clause-ambient g c = c.write_files-fault.ensures.frame.ambient ∙ c.in-Ok.ensures.ambient

pub returns-in-Ok-stage_written-clause-written : goal.returns-in-Ok-stage_written-clause-written
returns-in-Ok-stage_written-clause-written g c kept held p =
    let noted = c.in-Ok.ensures.noted kept p.mid held p.first in
    let frame = c.in-Ok.ensures.passes.frame in
    let write = c.write_files-fault.ensures in
    let o = c.args.outside.now in
    let m = c.note.new.outside in
    let n = c.write_files-fault.new.outside in
    let sm = c.note.new.store in
    let text = c.args.command.now.untold in
    let disk = g.D.Disk.disk in
    let plugin = g.P.Plugin.plugin in
    let sink = g.K.Sink.sink in
    write_staged disk plugin sink p text kept o m n c.args.sink.now c.note.new.sink sm noted write.main
    (λ i. (c.in-Ok.ensures.stores i).items) frame.drawn (frame.main_last c.requires.ready.outside.main_last) frame.main.tells write.frame (write.whole p.mid sm noted.ends.main.held p.named)
    c.write_files-fault.result c.stage_written.new.store write.says
    (λ done. c.in-Ok-stage_written.ensures.done done p.mid p.end (held_on disk plugin sink p text kept o m n c.args.sink.now c.note.new.sink sm noted write.main) (last_applied disk plugin sink p text kept o m n c.args.sink.now c.note.new.sink sm noted write.main))
    c.in-Ok-stage_written.ensures.other (λ done. write.made done p.mid p.end p.ends)

pub returns-in-Ok-stage_written-clause-whole : goal.returns-in-Ok-stage_written-clause-whole
returns-in-Ok-stage_written-clause-whole g c kept held =
    let p = c.requires.plan in
    let noted = c.in-Ok.ensures.noted kept p.mid held p.first in
    let frame = c.in-Ok.ensures.passes.frame in
    let write = c.write_files-fault.ensures in
    write_whole g.D.Disk.disk g.P.Plugin.plugin g.K.Sink.sink p c.args.command.now.untold kept c.args.outside.now c.note.new.outside c.write_files-fault.new.outside c.args.sink.now c.note.new.sink c.note.new.store noted write.main
    (λ i. (c.in-Ok.ensures.stores i).items) frame.drawn (frame.main_last c.requires.ready.outside.main_last) frame.main.tells write.frame (write.whole p.mid c.note.new.store noted.ends.main.held p.named) (c.in-Ok.ensures.whole kept held)

pub returns-in-Ok-stage_written-clause-passes : goal.returns-in-Ok-stage_written-clause-passes
returns-in-Ok-stage_written-clause-passes g c =
    let r : Result (Option Fault) Ending = Ok c.write_files-fault.result in
    passes_on g.D.Disk.disk g.P.Plugin.plugin g.K.Sink.sink _ _ (IsErrOf r ending.Disk) (IsErrOf r ending.Sink) c.args.outside.now c.note.new.outside c.write_files-fault.new.outside c.args.sink.now c.note.new.sink
    (λ e. cc) (λ e. cc) (λ e. cc) c.in-Ok.ensures.passes c.write_files-fault.ensures.frame
