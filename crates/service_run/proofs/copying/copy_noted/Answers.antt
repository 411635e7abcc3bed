use Rattle.std.proofs.Common.{◌<◌, Err, Ok, sym, ap, ◌∙◌, subst, arith, vec_len}
use Rattle.std.specs.Prelude.{All, Result, IsErrOf}
use Rattle.std.specs.Result.{is_ok}
use Rattle.grid_model.specs.declared.plans.NewFile.{NewFile}
use Rattle.grid_deed.specs.declared.copying.Copied.{Copied}
use Rattle.service_run.specs.declared.ending.Ending.{Ending}
use Rattle.service_run.specs.declared.ending.Ending.TheVariants as ending
use Rattle.service_run.proofs.CopySteps.{copy_cut, copy_failed, copy_staged, copy_whole, held_on, last_applied}
use Rattle.service_run.proofs.Passing.{passes_on}
use Rattle.service_run.proofs.copying.copy_noted.Goals as goal

pub note-requires-clause-change : goal.note-requires-clause-change
note-requires-clause-change g c = (c.requires.plan.mid, c.requires.plan.first, c.requires.plan.begins)

pub note-requires-clause-spelled : goal.note-requires-clause-spelled
note-requires-clause-spelled g c = c.requires.plan.spelled_first

pub copy_file-requires-clause-source : goal.copy_file-requires-clause-source
copy_file-requires-clause-source g c = let S : _ → Type 0 = λ v. c.args.from.now.slot < vec_len v in subst S (sym c.in-Ok.ensures.stores) c.requires.source

pub copy_file-requires-clause-other : goal.copy_file-requires-clause-other
copy_file-requires-clause-other g c = c.requires.plan.other

pub copy_file-requires-clause-slots : goal.copy_file-requires-clause-slots
copy_file-requires-clause-slots g c = let S : _ → Type 0 = λ v. All (λ (f : NewFile). f.slot < vec_len v) c.args.plan.files in subst S (sym c.in-Ok.ensures.stores) c.requires.plan.slots

pub copy_file-requires-clause-apart : goal.copy_file-requires-clause-apart
copy_file-requires-clause-apart g c = c.requires.plan.apart

pub copy_file-requires-clause-ready : goal.copy_file-requires-clause-ready
copy_file-requires-clause-ready g c =
    let ready = c.requires.ready.outside in
    let frame = c.in-Ok.ensures.passes.frame in
    record { main_last = frame.main_last ready.main_last; stores_last = frame.stores_last ready.stores_last; room = omega (arith, c.in-Ok.ensures.drawn, ready.room) }

pub stage_copied-requires-clause-held : goal.stage_copied-requires-clause-held
stage_copied-requires-clause-held g c =
    let p = c.requires.plan in
    let kept = c.requires.held.0 in (
      p.mid,
      held_on g.D.Disk.disk g.P.Plugin.plugin g.K.Sink.sink p c.args.command.now.untold kept c.args.outside.now c.note.new.outside c.copy_file.new.outside c.args.sink.now c.note.new.sink c.note.new.store
          (c.in-Ok.ensures.noted kept p.mid c.requires.held.1 p.first) c.in-Ok-copy_file.ensures.main,
    )

pub stage_copied-requires-clause-apply : goal.stage_copied-requires-clause-apply
stage_copied-requires-clause-apply g c =
    let p = c.requires.plan in
    let kept = c.requires.held.0 in
    ap is_ok (last_applied g.D.Disk.disk g.P.Plugin.plugin g.K.Sink.sink p c.args.command.now.untold kept c.args.outside.now c.note.new.outside c.copy_file.new.outside c.args.sink.now c.note.new.sink c.note.new.store
    (c.in-Ok.ensures.noted kept p.mid c.requires.held.1 p.first) c.in-Ok-copy_file.ensures.main)

pub stage_copied-requires-clause-spelled : goal.stage_copied-requires-clause-spelled
stage_copied-requires-clause-spelled g c = c.requires.plan.spelled_then

-- ---- it was not noted

pub returns-in-Err-clause-copied : goal.returns-in-Err-clause-copied
returns-in-Err-clause-copied g c kept held p =
    copy_failed g.D.Disk.disk g.P.Plugin.plugin g.K.Sink.sink p c.args.command.now.untold kept c.args.outside.now c.note.new.outside c.args.sink.now c.note.new.sink c.in-Err.ending c.note.new.store
    (c.in-Err.ensures.noted kept p.mid held p.first)

-- ---- memory ran out

pub returns-in-Err-copy_file-clause-ambient : goal.returns-in-Err-copy_file-clause-ambient
returns-in-Err-copy_file-clause-ambient g c = c.in-Err-copy_file.ensures.frame.ambient ∙ c.in-Ok.ensures.ambient

pub returns-clause-ambient : goal.returns-clause-ambient
returns-clause-ambient g c = c.in-Ok-copy_file.ensures.frame.ambient ∙ c.in-Ok.ensures.ambient

pub returns-in-Err-copy_file-clause-copied : goal.returns-in-Err-copy_file-clause-copied
returns-in-Err-copy_file-clause-copied g c kept held p =
    copy_cut g.D.Disk.disk g.P.Plugin.plugin g.K.Sink.sink p c.args.command.now.untold kept c.args.outside.now c.note.new.outside c.copy_file.new.outside c.args.sink.now c.note.new.sink c.note.new.store
    (c.in-Ok.ensures.noted kept p.mid held p.first) c.in-Err-copy_file.ensures.main c.note.new.store

pub returns-in-Err-copy_file-clause-whole : goal.returns-in-Err-copy_file-clause-whole
returns-in-Err-copy_file-clause-whole g c kept held =
    let p = c.requires.plan in
    let noted = c.in-Ok.ensures.noted kept p.mid held p.first in
    let frame = c.in-Ok.ensures.passes.frame in
    let copy = c.in-Err-copy_file.ensures in
    copy_whole g.D.Disk.disk g.P.Plugin.plugin g.K.Sink.sink p c.args.command.now.untold kept c.args.outside.now c.note.new.outside c.copy_file.new.outside c.args.sink.now c.note.new.sink c.note.new.store noted copy.main
    (λ i. (c.in-Ok.ensures.stores i).items) frame.drawn (frame.main_last c.requires.ready.outside.main_last) frame.main.tells copy.frame (copy.whole p.mid c.note.new.store noted.ends.main.held p.named) (c.in-Ok.ensures.whole kept held)

pub returns-in-Err-copy_file-clause-passes : goal.returns-in-Err-copy_file-clause-passes
returns-in-Err-copy_file-clause-passes g c =
    let r : Result Copied Ending = Err ending.Memory in
    passes_on g.D.Disk.disk g.P.Plugin.plugin g.K.Sink.sink _ _ (IsErrOf r ending.Disk) (IsErrOf r ending.Sink) c.args.outside.now c.note.new.outside c.copy_file.new.outside c.args.sink.now c.note.new.sink
    (λ e. cc) (λ e. cc) (λ e. cc) c.in-Ok.ensures.passes c.in-Err-copy_file.ensures.frame

pub returns-clause-copied : goal.returns-clause-copied
returns-clause-copied g c kept held p =
    copy_cut g.D.Disk.disk g.P.Plugin.plugin g.K.Sink.sink p c.args.command.now.untold kept c.args.outside.now c.note.new.outside c.copy_file.new.outside c.args.sink.now c.note.new.sink c.note.new.store
    (c.in-Ok.ensures.noted kept p.mid held p.first) c.in-Ok-copy_file.ensures.main c.stage_copied.new.store

pub returns-clause-whole : goal.returns-clause-whole
returns-clause-whole g c kept held =
    let p = c.requires.plan in
    let noted = c.in-Ok.ensures.noted kept p.mid held p.first in
    let frame = c.in-Ok.ensures.passes.frame in
    let copy = c.in-Ok-copy_file.ensures in
    copy_whole g.D.Disk.disk g.P.Plugin.plugin g.K.Sink.sink p c.args.command.now.untold kept c.args.outside.now c.note.new.outside c.copy_file.new.outside c.args.sink.now c.note.new.sink c.note.new.store noted copy.main
    (λ i. (c.in-Ok.ensures.stores i).items) frame.drawn (frame.main_last c.requires.ready.outside.main_last) frame.main.tells copy.frame (copy.whole p.mid c.note.new.store noted.ends.main.held p.named) (c.in-Ok.ensures.whole kept held)

pub returns-clause-passes : goal.returns-clause-passes
returns-clause-passes g c =
    let r : Result Copied Ending = Err ending.Memory in
    passes_on g.D.Disk.disk g.P.Plugin.plugin g.K.Sink.sink _ _ (IsErrOf r ending.Disk) (IsErrOf r ending.Sink) c.args.outside.now c.note.new.outside c.copy_file.new.outside c.args.sink.now c.note.new.sink
    (λ e. cc) (λ e. cc) (λ e. cc) c.in-Ok.ensures.passes c.in-Ok-copy_file.ensures.frame

-- ---- the file was copied

pub returns-in-Ok-stage_copied-clause-ambient : goal.returns-in-Ok-stage_copied-clause-ambient
returns-in-Ok-stage_copied-clause-ambient g c = c.in-Ok-copy_file.ensures.frame.ambient ∙ c.in-Ok.ensures.ambient

pub returns-in-Ok-stage_copied-clause-copied : goal.returns-in-Ok-stage_copied-clause-copied
returns-in-Ok-stage_copied-clause-copied g c kept held p =
    let noted = c.in-Ok.ensures.noted kept p.mid held p.first in
    let frame = c.in-Ok.ensures.passes.frame in
    let copy = c.in-Ok-copy_file.ensures in
    let o = c.args.outside.now in
    let m = c.note.new.outside in
    let n = c.copy_file.new.outside in
    let sm = c.note.new.store in
    let text = c.args.command.now.untold in
    let disk = g.D.Disk.disk in
    let plugin = g.P.Plugin.plugin in
    let sink = g.K.Sink.sink in
    copy_staged disk plugin sink p text kept o m n c.args.sink.now c.note.new.sink sm noted copy.main
    (λ i. (c.in-Ok.ensures.stores i).items) frame.drawn (frame.main_last c.requires.ready.outside.main_last) frame.main.tells copy.frame (copy.whole p.mid sm noted.ends.main.held p.named)
    c.in-Ok-copy_file.copied c.stage_copied.new.store copy.says
    (λ done. c.in-Ok-stage_copied.ensures.done done p.mid p.end (held_on disk plugin sink p text kept o m n c.args.sink.now c.note.new.sink sm noted copy.main) (last_applied disk plugin sink p text kept o m n c.args.sink.now c.note.new.sink sm noted copy.main))
    c.in-Ok-stage_copied.ensures.other (λ done. copy.made (ap Ok done) p.mid p.end p.ends)

pub returns-in-Ok-stage_copied-clause-whole : goal.returns-in-Ok-stage_copied-clause-whole
returns-in-Ok-stage_copied-clause-whole g c kept held =
    let p = c.requires.plan in
    let noted = c.in-Ok.ensures.noted kept p.mid held p.first in
    let frame = c.in-Ok.ensures.passes.frame in
    let copy = c.in-Ok-copy_file.ensures in
    copy_whole g.D.Disk.disk g.P.Plugin.plugin g.K.Sink.sink p c.args.command.now.untold kept c.args.outside.now c.note.new.outside c.copy_file.new.outside c.args.sink.now c.note.new.sink c.note.new.store noted copy.main
    (λ i. (c.in-Ok.ensures.stores i).items) frame.drawn (frame.main_last c.requires.ready.outside.main_last) frame.main.tells copy.frame (copy.whole p.mid c.note.new.store noted.ends.main.held p.named) (c.in-Ok.ensures.whole kept held)

pub returns-in-Ok-stage_copied-clause-passes : goal.returns-in-Ok-stage_copied-clause-passes
returns-in-Ok-stage_copied-clause-passes g c =
    let r : Result Copied Ending = Ok c.in-Ok-copy_file.copied in
    passes_on g.D.Disk.disk g.P.Plugin.plugin g.K.Sink.sink _ _ (IsErrOf r ending.Disk) (IsErrOf r ending.Sink) c.args.outside.now c.note.new.outside c.copy_file.new.outside c.args.sink.now c.note.new.sink
    (λ e. cc) (λ e. cc) (λ e. cc) c.in-Ok.ensures.passes c.in-Ok-copy_file.ensures.frame
