use Rattle.std.proofs.Common.{◌++◌, Err, Ok, refl, ap, ◌∙◌, subst}
use Rattle.std.specs.Prelude.{is_some}
use Rattle.grid_model.specs.Names.{Text}
use Rattle.grid_model.specs.Rows.{Cat}
use Rattle.grid_deed.proofs.Frames.{frame_none}
use Rattle.grid_deed.proofs.Keeping.{made_more}
use Rattle.service_run.specs.Noting.{IsNotedSo}
use Rattle.service_run.specs.declared.command.Command.{Command}
use Rattle.service_run.specs.declared.ending.Ending.TheVariants as ending
use Rattle.service_run.proofs.Passing.{passes_none, passes_told}
use Rattle.rule_run.specs.Finishing.{Finishes, end_deltas, ended, rest_text}
use Rattle.rule_run.proofs.Finished.{kept_all, said_all, said_cut, unfinished, whole_still}
use Rattle.rule_run.proofs.Leaving.{applied_end, turns_end}
use Rattle.rule_run.proofs.VaultNumbers.{vault_made}
use Rattle.rule_run.proofs.finishing.finish.Goals as goal

-- ---- there was no memory for the rest

pub returns-in-Err-clause-finishes : goal.returns-in-Err-clause-finishes
returns-in-Err-clause-finishes g c kept held =
    let o = c.args.outside.now in
    let x = c.args.command in
    unfinished kept o.moments x.number c.args.store.now x (x.untold ++ rest_text x.number x.passed c.args.rows c.args.end) (g.D.Disk.disk o.main)
    (g.K.Sink.sink c.args.sink.now) held c.requires.ready.outside.main_last c.requires.ready.sink_last c.args.store.now

pub returns-in-Err-clause-whole : goal.returns-in-Err-clause-whole
returns-in-Err-clause-whole g c kept held =
    let o = c.args.outside.now in
    let x = c.args.command in
    whole_still kept o.moments x.number c.args.store.now x x.untold (g.D.Disk.disk o.main) (g.K.Sink.sink c.args.sink.now) held
    c.requires.ready.outside.main_last c.requires.ready.sink_last g.P.Plugin.plugin o.stores.items

pub returns-in-Err-clause-passes : goal.returns-in-Err-clause-passes
returns-in-Err-clause-passes g c =
    passes_none g.D.Disk.disk g.P.Plugin.plugin g.K.Sink.sink _ _ c.args.outside.now c.args.outside.now.ambient c.args.sink.now (λ e. cc e) (λ e. cc e)

-- ---- the sink alone was called

pub returns-in-Ok-tell-clause-finishes : goal.returns-in-Ok-tell-clause-finishes
returns-in-Ok-tell-clause-finishes g c kept held =
    let o = c.args.outside.now in
    let x = c.args.command in
    let main = g.D.Disk.disk o.main in
    let k = g.K.Sink.sink c.args.sink.now in
    let l = g.K.Sink.sink c.tell.new.sink in
    let text = c.as_slice.result.now in
    let F : Text → Type 0 = λ t. Finishes main main k l kept o.moments x.number c.args.store.now x t (Ok tt) c.args.store.now in
    subst F (c.as_slice.ensures ∙ ap (λ (z : Command). z.untold) c.in-Ok.ensures)
    (said_all kept o.moments x.number c.args.store.now x text main k held c.requires.ready.outside.main_last c.requires.ready.sink_last
    (c.has_nothing-nothing.ensures.0 c.if-nothing.true) c.tell.new.moments c.tell.ensures.drawn_from l c.tell.ensures.told c.in-Ok-tell.ensures.all
    c.tell.ensures.settled)

pub returns-in-Ok-tell-clause-whole : goal.returns-in-Ok-tell-clause-whole
returns-in-Ok-tell-clause-whole g c kept held =
    let o = c.args.outside.now in
    let x = c.args.command in
    whole_still kept o.moments x.number c.args.store.now x x.untold (g.D.Disk.disk o.main) (g.K.Sink.sink c.args.sink.now) held
    c.requires.ready.outside.main_last c.requires.ready.sink_last g.P.Plugin.plugin o.stores.items

pub returns-in-Ok-tell-clause-passes : goal.returns-in-Ok-tell-clause-passes
returns-in-Ok-tell-clause-passes g c =
    let o = c.args.outside.now in
    passes_told g.D.Disk.disk g.P.Plugin.plugin g.K.Sink.sink _ _ o o c.tell.new.moments c.args.sink.now c.tell.new.sink c.as_slice.result.now
    (frame_none g.D.Disk.disk g.P.Plugin.plugin _ o (λ e. cc e)) c.tell.ensures.drawn_from c.tell.ensures.told (λ e. absurd (cc e))

pub returns-in-Err-tell-clause-finishes : goal.returns-in-Err-tell-clause-finishes
returns-in-Err-tell-clause-finishes g c kept held =
    let o = c.args.outside.now in
    let x = c.args.command in
    let main = g.D.Disk.disk o.main in
    let k = g.K.Sink.sink c.args.sink.now in
    let l = g.K.Sink.sink c.tell.new.sink in
    let text = c.as_slice.result.now in
    let F : Text → Type 0 = λ t. Finishes main main k l kept o.moments x.number c.args.store.now x t (Err ending.Sink) c.args.store.now in
    subst F (c.as_slice.ensures ∙ ap (λ (z : Command). z.untold) c.in-Ok.ensures)
    (said_cut kept o.moments x.number c.args.store.now x text main k held c.requires.ready.outside.main_last c.requires.ready.sink_last
    (c.has_nothing-nothing.ensures.0 c.if-nothing.true) c.tell.new.moments c.tell.ensures.drawn_from l c.tell.ensures.told)

pub returns-in-Err-tell-clause-whole : goal.returns-in-Err-tell-clause-whole
returns-in-Err-tell-clause-whole g c kept held =
    let o = c.args.outside.now in
    let x = c.args.command in
    whole_still kept o.moments x.number c.args.store.now x x.untold (g.D.Disk.disk o.main) (g.K.Sink.sink c.args.sink.now) held
    c.requires.ready.outside.main_last c.requires.ready.sink_last g.P.Plugin.plugin o.stores.items

pub returns-in-Err-tell-clause-passes : goal.returns-in-Err-tell-clause-passes
returns-in-Err-tell-clause-passes g c =
    let o = c.args.outside.now in
    passes_told g.D.Disk.disk g.P.Plugin.plugin g.K.Sink.sink _ _ o o c.tell.new.moments c.args.sink.now c.tell.new.sink c.as_slice.result.now
    (frame_none g.D.Disk.disk g.P.Plugin.plugin _ o (λ e. cc e)) c.tell.ensures.drawn_from c.tell.ensures.told (λ e. c.in-Err-tell.ensures.cause)

-- ---- there was no memory for the changes

pub returns-in-Err-last_deltas-clause-finishes : goal.returns-in-Err-last_deltas-clause-finishes
returns-in-Err-last_deltas-clause-finishes g c kept held =
    let o = c.args.outside.now in
    let x = c.args.command in
    unfinished kept o.moments x.number c.args.store.now x (x.untold ++ rest_text x.number x.passed c.args.rows c.args.end) (g.D.Disk.disk o.main)
    (g.K.Sink.sink c.args.sink.now) held c.requires.ready.outside.main_last c.requires.ready.sink_last c.args.store.now

pub returns-in-Err-last_deltas-clause-whole : goal.returns-in-Err-last_deltas-clause-whole
returns-in-Err-last_deltas-clause-whole g c kept held =
    let o = c.args.outside.now in
    let x = c.args.command in
    whole_still kept o.moments x.number c.args.store.now x x.untold (g.D.Disk.disk o.main) (g.K.Sink.sink c.args.sink.now) held
    c.requires.ready.outside.main_last c.requires.ready.sink_last g.P.Plugin.plugin o.stores.items

pub returns-in-Err-last_deltas-clause-passes : goal.returns-in-Err-last_deltas-clause-passes
returns-in-Err-last_deltas-clause-passes g c =
    passes_none g.D.Disk.disk g.P.Plugin.plugin g.K.Sink.sink _ _ c.args.outside.now c.args.outside.now.ambient c.args.sink.now (λ e. cc e) (λ e. cc e)

-- ---- one commit was tried

pub note-noted-requires-clause-held : goal.note-noted-requires-clause-held
note-noted-requires-clause-held g c = c.requires.held

pub note-noted-requires-clause-change : goal.note-noted-requires-clause-change
note-noted-requires-clause-change g c =
    let cat = c.args.store.now.cat in
    let held = c.requires.held.1 in
    let made = made_more c.requires.held.0 cat c.args.store.now.staged held.made held.staged in
    let n = c.args.command.number in
    let some = vault_made made.0 cat made.1 in
    let are = c.in-Ok-last_deltas.ensures.is ∙ ap (λ (t : Cat). end_deltas (is_some t.pending) (record t.numbers { last = n })) c.tables.ensures in
    (ended n cat, applied_end n cat some (is_some cat.pending) refl (record cat.numbers { last = n }) refl c.in-Ok-last_deltas.deltas are, turns_end n cat some)

pub note-noted-requires-clause-spelled : goal.note-noted-requires-clause-spelled
note-noted-requires-clause-spelled g c = c.in-Ok-last_deltas.ensures.spelled

pub note-noted-requires-clause-ready : goal.note-noted-requires-clause-ready
note-noted-requires-clause-ready g c = c.requires.ready

pub returns-clause-finishes : goal.returns-clause-finishes
returns-clause-finishes g c kept held =
    let o = c.args.outside.now in
    let n = c.note-noted.new.outside in
    let x = c.args.command in
    let cat = c.args.store.now.cat in
    let main = g.D.Disk.disk o.main in
    let after = g.D.Disk.disk n.main in
    let k = g.K.Sink.sink c.args.sink.now in
    let l = g.K.Sink.sink c.note-noted.new.sink in
    let made = made_more kept cat c.args.store.now.staged held.made held.staged in
    let some = vault_made made.0 cat made.1 in
    let are = c.in-Ok-last_deltas.ensures.is ∙ ap (λ (t : Cat). end_deltas (is_some t.pending) (record t.numbers { last = x.number })) c.tables.ensures in
    let applied = applied_end x.number cat some (is_some cat.pending) refl (record cat.numbers { last = x.number }) refl c.in-Ok-last_deltas.deltas are in
    let F : Text → Type 0 = λ t. IsNotedSo main after k l kept (ended x.number cat) o.moments t c.note-noted.result c.note-noted.new.store in
    kept_all main after k l kept o.moments x.number c.args.store.now x (x.untold ++ rest_text x.number x.passed c.args.rows c.args.end) c.note-noted.new.store
    c.note-noted.result
    (subst F (ap (λ (z : Command). z.untold) c.in-Ok.ensures) (c.note-noted.ensures.noted kept (ended x.number cat) held applied))

pub returns-clause-whole : goal.returns-clause-whole
returns-clause-whole g c = c.note-noted.ensures.whole

pub returns-clause-idle : goal.returns-clause-idle
returns-clause-idle g c nothing = absurd (let on = c.has_nothing-nothing.ensures.1 nothing in let off = c.if-nothing.false in cc (on, off))

pub returns-clause-passes : goal.returns-clause-passes
returns-clause-passes g c = c.note-noted.ensures.passes
