use Rattle.std.proofs.Common.{Err, IsTrue, List, refl, sym, ◌∙◌, subst, arith}
use Rattle.std.specs.Prelude.{⊤, [], Result, IsErrOf}
use Rattle.std.specs.List.{list_all}
use Rattle.grid_model.specs.declared.calls.Call.{Call}
use Rattle.grid_model.specs.declared.deltas.Delta.{Delta}
use Rattle.grid_model.specs.declared.deltas.Delta.TheVariants as delta
use Rattle.grid_journal.specs.Journal.{can_be_kept}
use Rattle.file_laws.proofs.Turning.{turns_self}
use Rattle.run_laws.proofs.Draws.{gave-none}
use Rattle.service_run.specs.Commands.{noted_in}
use Rattle.service_run.specs.declared.ending.Ending.{Ending}
use Rattle.service_run.specs.declared.ending.Ending.TheVariants as ending
use Rattle.service_run.proofs.DeedSteps.{looks_same}
use Rattle.service_run.proofs.Passing.{passes_none}
use Rattle.service_run.proofs.StillSteps.{step_still}
use Rattle.deed_run.proofs.NoteCalls.{announced_as, applied_none, next_of, never_vaults, notes_call, notes_none}
use Rattle.deed_run.proofs.noting.note_call.Goals as goal

pub announce-requires-clause-held : goal.announce-requires-clause-held
announce-requires-clause-held g c = c.requires.held

pub announce-requires-clause-user : goal.announce-requires-clause-user
announce-requires-clause-user g c = c.requires.user

pub announce-requires-clause-spelled : goal.announce-requires-clause-spelled
announce-requires-clause-spelled g c =
    let S : List Call → Type 0 = λ u. IsTrue (can_be_kept (delta.Pending (noted_in c.args.command.now c.args.call.now u))) in
    subst S (sym (c.from_vec-undo.ensures ∙ c.new.ensures.items)) (c.requires.noted c.args.call.now c.requires.call)

-- ---- memory ran out before anything was called

pub returns-in-Err-clause-notes : goal.returns-in-Err-clause-notes
returns-in-Err-clause-notes g c source kept does held waits =
    let o = c.args.outside.now in
    let x = c.args.command.now in
    notes_none _ _ kept c.args.store.now x c.args.call.now x c.announce.new.store does
    (step_still g.D.Disk.disk g.A.Ambient.ambient g.P.Plugin.plugin source o o (g.K.Sink.sink c.args.sink.now) kept c.args.store.now x c.args.call.now [] x c.announce.new.store held
    c.requires.ready.outside.main_last c.requires.ready.sink_last refl refl (looks_same g.P.Plugin.plugin o.stores.items) (λ told. gave-none (g.A.Ambient.ambient o.ambient) told) does (Err ending.Memory) tt)

pub returns-in-Err-clause-passes : goal.returns-in-Err-clause-passes
returns-in-Err-clause-passes g c =
    let o = c.args.outside.now in
    let r : Result ⊤ Ending = Err ending.Memory in
    passes_none g.D.Disk.disk g.P.Plugin.plugin g.K.Sink.sink (IsErrOf r ending.Disk) (IsErrOf r ending.Sink) o o.ambient c.args.sink.now (λ e. cc) (λ e. cc)

pub returns-in-Err-clause-stores : goal.returns-in-Err-clause-stores
returns-in-Err-clause-stores g c = refl

pub returns-in-Err-clause-ambient : goal.returns-in-Err-clause-ambient
returns-in-Err-clause-ambient g c = refl

pub returns-in-Err-clause-vaults : goal.returns-in-Err-clause-vaults
returns-in-Err-clause-vaults g c place is = cc

pub returns-in-Err-clause-drawn : goal.returns-in-Err-clause-drawn
returns-in-Err-clause-drawn g c = omega arith

-- ---- what is asked of the commit

pub note-requires-clause-held : goal.note-requires-clause-held
note-requires-clause-held g c = (c.requires.held.0, (c.in-Ok.ensures c.requires.held.0 c.requires.held.1).held)

pub note-requires-clause-change : goal.note-requires-clause-change
note-requires-clause-change g c =
    let s1 = c.announce.new.store in
    (s1.cat, applied_none s1.cat c.from_vec-deltas.result (c.from_vec-deltas.ensures ∙ c.new-2.ensures.items), turns_self [] [] s1.cat)

pub note-requires-clause-spelled : goal.note-requires-clause-spelled
note-requires-clause-spelled g c =
    let S : List Delta → Type 0 = λ d. IsTrue (list_all can_be_kept d) in
    subst S (sym (c.from_vec-deltas.ensures ∙ c.new-2.ensures.items)) refl

pub note-requires-clause-ready : goal.note-requires-clause-ready
note-requires-clause-ready g c = c.requires.ready

-- ---- it was noted, or how far that came

pub returns-clause-notes : goal.returns-clause-notes
returns-clause-notes g c source kept does held waits =
    let rows = c.args.store.now in
    let x = c.args.command.now in
    let call = c.args.call.now in
    let s1 = c.announce.new.store in
    let s = c.in-Ok.ensures kept held in
    let announced = announced_as rows.cat s1.cat x call c.from_vec-undo.result (c.from_vec-undo.ensures ∙ c.new.ensures.items) s.cat in
    let applied = applied_none s1.cat c.from_vec-deltas.result (c.from_vec-deltas.ensures ∙ c.new-2.ensures.items) in
    let note = c.note.ensures in
    notes_call g.D.Disk.disk g.A.Ambient.ambient g.P.Plugin.plugin g.K.Sink.sink source c.args.outside.now c.note.new.outside c.args.sink.now c.note.new.sink kept rows x call c.requires.user does waits
    note.ambient c.note.new.command c.note.new.store s1 announced c.note.result (note.noted kept s1.cat s.held applied) note.command note.stores note.passes.frame.drawn (note.whole kept s.held)

pub returns-clause-next : goal.returns-clause-next
returns-clause-next g c =
    let rows = c.args.store.now in
    let x = c.args.command.now in
    let call = c.args.call.now in
    let s1 = c.announce.new.store in
    let kept = c.requires.held.0 in
    let s = c.in-Ok.ensures kept c.requires.held.1 in
    let announced = announced_as rows.cat s1.cat x call c.from_vec-undo.result (c.from_vec-undo.ensures ∙ c.new.ensures.items) s.cat in
    let applied = applied_none s1.cat c.from_vec-deltas.result (c.from_vec-deltas.ensures ∙ c.new-2.ensures.items) in
    next_of (g.D.Disk.disk c.args.outside.now.main) (g.D.Disk.disk c.note.new.outside.main) (g.K.Sink.sink c.args.sink.now) (g.K.Sink.sink c.note.new.sink) kept c.args.outside.now.moments rows s1 x call c.note.new.command c.note.new.store
    c.requires.user announced c.note.result (c.note.ensures.noted kept s1.cat s.held applied) c.note.ensures.command

pub returns-clause-passes : goal.returns-clause-passes
returns-clause-passes g c = c.note.ensures.passes

pub returns-clause-stores : goal.returns-clause-stores
returns-clause-stores g c = c.note.ensures.stores

pub returns-clause-ambient : goal.returns-clause-ambient
returns-clause-ambient g c = c.note.ensures.ambient

pub returns-clause-vaults : goal.returns-clause-vaults
returns-clause-vaults g c =
    let s1 = c.announce.new.store in
    let kept = c.requires.held.0 in
    let s = c.in-Ok.ensures kept c.requires.held.1 in
    let applied = applied_none s1.cat c.from_vec-deltas.result (c.from_vec-deltas.ensures ∙ c.new-2.ensures.items) in
    never_vaults (g.D.Disk.disk c.args.outside.now.main) (g.D.Disk.disk c.note.new.outside.main) (g.K.Sink.sink c.args.sink.now) (g.K.Sink.sink c.note.new.sink) kept s1.cat c.args.outside.now.moments c.args.command.now.untold
    c.note.result c.note.new.store (c.note.ensures.noted kept s1.cat s.held applied)

pub returns-clause-drawn : goal.returns-clause-drawn
returns-clause-drawn g c = c.note.ensures.drawn
