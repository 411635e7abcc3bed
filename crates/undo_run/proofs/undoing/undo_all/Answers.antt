use Rattle.std.proofs.Common.{◌-◌, ◌*◌, ◌++◌, ◌^◌, [], length, take, refl, ap, subst, arith}
use Rattle.grid_model.specs.RowGrids.{grid_of}
use Rattle.grid_journal.specs.Journal.{IsSpelledPending}
use Rattle.plan_service.proofs.AddedWords.{adds_words}
use Rattle.service_run.specs.declared.command.Command.{Command}
use Rattle.size_laws.specs.Within.{many}
use Rattle.size_laws.proofs.Moments.{takes_where}
use Rattle.call_laws.proofs.Joined.{passes_then}
use Rattle.call_laws.proofs.Keepable.{args_words, noted_kept, words_kept}
use Rattle.undo_run.specs.Undoing.{stopped_command}
use Rattle.undo_run.proofs.Loop.{amid_left, amid_start, keepable_after, keepable_start, last_fits, last_split, no_source, none_left, one_drawn, one_shorter}
use Rattle.undo_run.proofs.Loop.{passes_done, passes_err, ready_now, round_cut, round_done, undoes_all, user_now}
use Rattle.undo_run.proofs.Results.{undoes_amid}
use Rattle.undo_run.proofs.undoing.undo_all.Goals as goal

pub returns-then-as_slice-clause-undoes : goal.returns-then-as_slice-clause-undoes
returns-then-as_slice-clause-undoes g c source p rules has rules_are =
    let disk = g.D.Disk.disk in
    let rows = c.args.store.now in
    undoes_amid disk g.A.Ambient.ambient g.P.Plugin.plugin g.K.Sink.sink source (record { outside = c.args.outside.now; sink = c.args.sink.now }) rows.cat p
    rules rules_are (record { outside = c.args.outside.now; sink = c.args.sink.now }) c.args.undo c.args.command.now rows []
    (amid_start disk g.A.Ambient.ambient g.P.Plugin.plugin g.K.Sink.sink source (record { outside = c.args.outside.now; sink = c.args.sink.now }) rows p
    c.requires.stopped.0 c.args.command.now c.args.undo (2 ^ 120) has c.requires.stopped.1 c.requires.stopped.2
    c.requires.stopped.3 c.requires.held c.requires.ready)
    c.args.command.now rows

pub loop-call-init : goal.loop-call-init
loop-call-init g c =
    record {
      amid = λ source p has. (
        [],
        amid_start g.D.Disk.disk g.A.Ambient.ambient g.P.Plugin.plugin g.K.Sink.sink source (record { outside = c.args.outside.now; sink = c.args.sink.now })
            c.args.store.now p c.requires.stopped.0 c.args.command.now c.args.undo (2 ^ 120) has
            c.requires.stopped.1 c.requires.stopped.2 c.requires.stopped.3 c.requires.held c.requires.ready,
      );
      keepable = keepable_start c.args.store.now.cat.pending c.requires.stopped.0 c.args.command.now c.args.undo c.requires.stopped.1 c.requires.stopped.2
          c.requires.stopped.3
          c.pending_is_spelled.ensures;
      drawn = λ each most. omega arith;
      none = λ is. (is, refl, refl, refl, refl);
    }

pub undo_one-requires-clause-held : goal.undo_one-requires-clause-held
undo_one-requires-clause-held g c =
    let amid = (c.loop-call.invariant.amid no_source c.requires.stopped.0 c.requires.stopped.1).1.amid in
    (amid.holds.cat, amid.holds.held)

pub undo_one-requires-clause-user : goal.undo_one-requires-clause-user
undo_one-requires-clause-user g c =
    let amid = c.loop-call.invariant.amid no_source c.requires.stopped.0 c.requires.stopped.1 in
    user_now g.D.Disk.disk g.A.Ambient.ambient g.P.Plugin.plugin g.K.Sink.sink no_source (record { outside = c.args.outside.now; sink = c.args.sink.now })
    c.args.store.now.cat c.requires.stopped.0
    (record { outside = c.loop-call.outside; sink = c.loop-call.sink }) c.loop-call.left c.loop-call.command c.loop-call.store amid.0 amid.1

pub undo_one-requires-clause-words : goal.undo_one-requires-clause-words
undo_one-requires-clause-words g c =
    let left = c.loop-call.left in
    let split = last_split left c.as_slice-in-loop-call.result.now c.in-Some.call.now c.as_slice-in-loop-call.ensures c.in-Some.ensures.value in
    adds_words c.in-Some.call.now
    (args_words c.in-Some.call.now
    (last_fits c.loop-call.command left (take (length left - 1) left) c.in-Some.call.now split c.loop-call.invariant.keepable))

pub undo_one-requires-clause-spelled : goal.undo_one-requires-clause-spelled
undo_one-requires-clause-spelled g c =
    let p = c.requires.stopped.0 in
    let left = c.loop-call.left in
    let amid = c.loop-call.invariant.amid no_source p c.requires.stopped.1 in
    let split = last_split left c.as_slice-in-loop-call.result.now c.in-Some.call.now c.as_slice-in-loop-call.ensures c.in-Some.ensures.value in
    noted_kept (stopped_command p) c.loop-call.command ((stopped_command p).marks ++ amid.0) left c.in-Some.call.now
    (words_kept p (stopped_command p) (subst IsSpelledPending c.requires.stopped.1 c.pending_is_spelled.ensures) refl refl refl refl)
    amid.1.amid.command c.loop-call.invariant.keepable c.are_short.ensures
    (last_fits c.loop-call.command left (take (length left - 1) left) c.in-Some.call.now split c.loop-call.invariant.keepable)

pub undo_one-requires-clause-slots : goal.undo_one-requires-clause-slots
undo_one-requires-clause-slots g c =
    let amid = (c.loop-call.invariant.amid no_source c.requires.stopped.0 c.requires.stopped.1).1.amid in
    omega (arith, amid.beside.stores, c.requires.slots, amid.passes.frame.stores.count, c.args.outside.now.stores.ok.0, c.loop-call.outside.stores.ok.0)

pub undo_one-requires-clause-ready : goal.undo_one-requires-clause-ready
undo_one-requires-clause-ready g c =
    let amid = c.loop-call.invariant.amid no_source c.requires.stopped.0 c.requires.stopped.1 in
    let left = c.loop-call.left in
    let split = last_split left c.as_slice-in-loop-call.result.now c.in-Some.call.now c.as_slice-in-loop-call.ensures c.in-Some.ensures.value in
    let some = one_shorter left (take (length left - 1) left) c.in-Some.call.now split in
    ready_now g.D.Disk.disk g.A.Ambient.ambient g.P.Plugin.plugin g.K.Sink.sink no_source (record { outside = c.args.outside.now; sink = c.args.sink.now })
    c.args.store.now.cat c.requires.stopped.0
    (record { outside = c.loop-call.outside; sink = c.loop-call.sink }) left c.loop-call.command c.loop-call.store amid.0 amid.1 (2 ^ 120) (2 ^ 65)
    c.requires.ready
    (omega (arith, some, c.loop-call.invariant.drawn (2 ^ 65) many, c.requires.ready.outside.room, c.if-as_slice.false, ap length c.as_slice.ensures))

pub returns-in-Err-clause-undoes : goal.returns-in-Err-clause-undoes
returns-in-Err-clause-undoes g c source p rules has rules_are =
    let amid = c.loop-call.invariant.amid source p has in
    let left = c.loop-call.left in
    let split = last_split left c.as_slice-in-loop-call.result.now c.in-Some.call.now c.as_slice-in-loop-call.ensures c.in-Some.ensures.value in
    round_cut g.D.Disk.disk g.A.Ambient.ambient g.P.Plugin.plugin g.K.Sink.sink source (record { outside = c.args.outside.now; sink = c.args.sink.now })
    c.args.store.now.cat p (2 ^ 120) c.requires.ready
    (record { outside = c.loop-call.outside; sink = c.loop-call.sink }) (record { outside = c.undo_one.new.outside; sink = c.undo_one.new.sink })
    (take (length left - 1) left) c.in-Some.call.now
    c.loop-call.command c.loop-call.store amid.0 c.undo_one.new.command c.undo_one.new.store rules rules_are left split c.in-Err.error
    (passes_err g.D.Disk.disk g.P.Plugin.plugin g.K.Sink.sink c.in-Err.error (record { outside = c.loop-call.outside; sink = c.loop-call.sink })
    (record { outside = c.undo_one.new.outside; sink = c.undo_one.new.sink }) c.in-Err.ensures.passes) amid.1
    (c.in-Err.ensures.ends source amid.1.amid.holds.cat amid.1.amid.holds.held)

pub returns-in-Err-clause-passes : goal.returns-in-Err-clause-passes
returns-in-Err-clause-passes g c =
    let amid = (c.loop-call.invariant.amid no_source c.requires.stopped.0 c.requires.stopped.1).1.amid in
    passes_then g.D.Disk.disk g.P.Plugin.plugin g.K.Sink.sink _ _ (record { outside = c.args.outside.now; sink = c.args.sink.now })
    (record { outside = c.loop-call.outside; sink = c.loop-call.sink })
    (record { outside = c.undo_one.new.outside; sink = c.undo_one.new.sink }) amid.passes
    (passes_err g.D.Disk.disk g.P.Plugin.plugin g.K.Sink.sink c.in-Err.error (record { outside = c.loop-call.outside; sink = c.loop-call.sink })
    (record { outside = c.undo_one.new.outside; sink = c.undo_one.new.sink }) c.in-Err.ensures.passes)

pub loop-call-preserved : goal.loop-call-preserved
loop-call-preserved g c =
    let left = c.loop-call.left in
    let call = c.in-Some.call.now in
    let cs = take (length left - 1) left in
    let split = last_split left c.as_slice-in-loop-call.result.now call c.as_slice-in-loop-call.ensures c.in-Some.ensures.value in
    let some = one_shorter left cs call split in
    let first = (c.loop-call.invariant.amid no_source c.requires.stopped.0 c.requires.stopped.1).1.amid in
    let runs = (c.in-Ok.ensures.ends no_source first.holds.cat first.holds.held).0 in
    record {
      amid = λ source p has.
          let amid = c.loop-call.invariant.amid source p has in
          let next = round_done g.D.Disk.disk g.A.Ambient.ambient g.P.Plugin.plugin g.K.Sink.sink source
          (record { outside = c.args.outside.now; sink = c.args.sink.now }) c.args.store.now.cat p (2 ^ 120)
          c.requires.ready (record { outside = c.loop-call.outside; sink = c.loop-call.sink })
          (record { outside = c.undo_one.new.outside; sink = c.undo_one.new.sink }) cs call c.loop-call.command
          c.loop-call.store amid.0 c.undo_one.new.command c.undo_one.new.store left split _ _ (λ e. cc) c.in-Ok.ensures.passes amid.1
          (c.in-Ok.ensures.ends source amid.1.amid.holds.cat amid.1.amid.holds.held).0 in
          amid_left g.D.Disk.disk g.A.Ambient.ambient g.P.Plugin.plugin g.K.Sink.sink source
          (record { outside = c.args.outside.now; sink = c.args.sink.now }) c.args.store.now.cat p
          (record { outside = c.undo_one.new.outside; sink = c.undo_one.new.sink }) cs c.drop_last.new.calls c.undo_one.new.command c.undo_one.new.store
          c.drop_last.ensures next;
      keepable = keepable_after c.loop-call.command c.undo_one.new.command left cs c.drop_last.new.calls call split c.drop_last.ensures
          c.loop-call.invariant.keepable
          runs.left runs.ran runs.step.ends.marks runs.over runs.step.ends.marks_are runs.step.ends.spelled
          (ap (λ (x : Command). x.passed) runs.step.ends.rest) runs.shown;
      drawn = λ each most.
          one_drawn c.args.outside.now.moments c.loop-call.outside.moments c.undo_one.new.outside.moments (length c.args.undo * each) each
          (length left) (length cs) (length c.drop_last.new.calls) some (ap length c.drop_last.ensures) (c.loop-call.invariant.drawn each most)
          (c.in-Ok.ensures.drawn each (takes_where (grid_of c.args.store.now.cat) (grid_of c.loop-call.store.cat) each first.beside.within most));
      none = λ is. absurd (omega (arith, some, ap length (c.loop-call.invariant.none is).0));
    }

pub returns-clause-undoes : goal.returns-clause-undoes
returns-clause-undoes g c source p rules has rules_are =
    let amid = c.loop-call.invariant.amid source p has in
    undoes_all g.D.Disk.disk g.A.Ambient.ambient g.P.Plugin.plugin g.K.Sink.sink source (record { outside = c.args.outside.now; sink = c.args.sink.now })
    c.args.store.now.cat p
    (record { outside = c.loop-call.outside; sink = c.loop-call.sink }) c.loop-call.left c.loop-call.command c.loop-call.store amid.0 amid.1 rules rules_are
    (none_left c.loop-call.left c.as_slice-in-loop-call.result.now c.as_slice-in-loop-call.ensures c.in_default.ensures.item.3)

pub returns-clause-passes : goal.returns-clause-passes
returns-clause-passes g c =
    let amid = c.loop-call.invariant.amid no_source c.requires.stopped.0 c.requires.stopped.1 in
    passes_done g.D.Disk.disk g.A.Ambient.ambient g.P.Plugin.plugin g.K.Sink.sink no_source (record { outside = c.args.outside.now; sink = c.args.sink.now })
    c.args.store.now.cat c.requires.stopped.0
    (record { outside = c.loop-call.outside; sink = c.loop-call.sink }) c.loop-call.left c.loop-call.command c.loop-call.store amid.0 amid.1 _ _ (λ e. cc)
    (λ e. cc)

-- ---- how many moments they take

pub returns-then-as_slice-clause-drawn : goal.returns-then-as_slice-clause-drawn
returns-then-as_slice-clause-drawn g c each most = omega arith

pub returns-in-Err-clause-drawn : goal.returns-in-Err-clause-drawn
returns-in-Err-clause-drawn g c each most =
    let left = c.loop-call.left in
    let cs = take (length left - 1) left in
    let split = last_split left c.as_slice-in-loop-call.result.now c.in-Some.call.now c.as_slice-in-loop-call.ensures c.in-Some.ensures.value in
    let some = one_shorter left cs c.in-Some.call.now split in
    let first = (c.loop-call.invariant.amid no_source c.requires.stopped.0 c.requires.stopped.1).1.amid in
    let drawn = one_drawn c.args.outside.now.moments c.loop-call.outside.moments c.undo_one.new.outside.moments (length c.args.undo * each) each
    (length left) (length cs) (length cs) some refl (c.loop-call.invariant.drawn each most)
    (c.in-Err.ensures.drawn each (takes_where (grid_of c.args.store.now.cat) (grid_of c.loop-call.store.cat) each first.beside.within most)) in
    omega (arith, drawn)

pub returns-in-Err-clause-bounded : goal.returns-in-Err-clause-bounded
returns-in-Err-clause-bounded g c =
    omega (arith, returns-in-Err-clause-drawn g c (2 ^ 65) many, c.if-as_slice.false, ap length c.as_slice.ensures)

pub returns-clause-drawn : goal.returns-clause-drawn
returns-clause-drawn g c each most = omega (arith, c.loop-call.invariant.drawn each most)

pub returns-clause-bounded : goal.returns-clause-bounded
returns-clause-bounded g c = omega (arith, c.loop-call.invariant.drawn (2 ^ 65) many, c.if-as_slice.false, ap length c.as_slice.ensures)
