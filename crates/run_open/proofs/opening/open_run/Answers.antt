use Rattle.std.proofs.Common.{◌≡◌, ℕ, inl, inr, ◌++◌, Err, IsTrue, refl, sym, ap, ◌∙◌, subst, arith}
use Rattle.grid_outside.specs.Device.{Between}
use Rattle.grid_outside.specs.Sink.{AddsPart, SinkState}
use Rattle.grid_model.specs.Names.{Text}
use Rattle.grid_model.specs.Rows.{Cat}
use Rattle.grid_model.specs.declared.deltas.Numbers.{Numbers}
use Rattle.grid_journal.specs.declared.error.JournalError.TheVariants as journal
use Rattle.grid_deed.specs.Held.{IsHeld}
use Rattle.grid_deed.proofs.Keeping.{closes_at}
use Rattle.run_laws.specs.Around.{around}
use Rattle.call_laws.proofs.Joined.{passes_then}
use Rattle.run_open.specs.Beginning.{run_begun}
use Rattle.run_open.specs.Errors.{error_of}
use Rattle.run_open.specs.Preparing.{OpenStops}
use Rattle.run_open.specs.declared.error.OpenError.TheVariants as error
use Rattle.run_open.proofs.Begins.{opens-begun}
use Rattle.run_open.proofs.Fronts.{opens-still}
use Rattle.run_open.proofs.Passing.{order-after, passes-as, passes-main, passes-none, passes-told, rests-where}
use Rattle.run_open.proofs.Rooms.{room_of}
use Rattle.run_open.proofs.Tells.{opened-last, opens-last}
use Rattle.run_open.proofs.Ways.{commit_stops, disk_of, not_sink, stops_as}
use Rattle.run_open.proofs.opening.open_run.Goals as goal

-- ---- nothing was touched

pub returns-then-run-clause-opens : goal.returns-then-run-clause-opens
returns-then-run-clause-opens g c = λ source rules order begin rules_are.
    opens-still (around g.D.Disk.disk g.A.Ambient.ambient g.P.Plugin.plugin c.args.outside.now (g.K.Sink.sink c.args.sink.now) source) c.args.store.now.cat
    rules begin order rules_are

pub returns-then-run-clause-stops : goal.returns-then-run-clause-stops
returns-then-run-clause-stops g c = λ e is.
    stops_as c.args.store.now.cat (g.D.Disk.disk c.args.outside.now.main) (g.D.Disk.disk c.args.outside.now.main) (error.Runs c.numbers-run.result.run) e
    (ap (λ (n : Numbers). n.run) (c.numbers-run.ensures ∙ ap (λ (x : Cat). x.numbers) c.tables.ensures), c.if-run.true) is

pub returns-then-run-clause-passes : goal.returns-then-run-clause-passes
returns-then-run-clause-passes g c = passes-none g.D.Disk.disk g.P.Plugin.plugin g.K.Sink.sink _ _ c.args.outside.now c.args.sink.now (λ e. cc e) (λ e. cc e)

pub returns-then-run-clause-no_room : goal.returns-then-run-clause-no_room
returns-then-run-clause-no_room g c = λ none. ((_, inl refl), refl, refl)

pub returns-in-Some-clause-opens : goal.returns-in-Some-clause-opens
returns-in-Some-clause-opens g c = λ source rules order begin rules_are.
    opens-still (around g.D.Disk.disk g.A.Ambient.ambient g.P.Plugin.plugin c.args.outside.now (g.K.Sink.sink c.args.sink.now) source) c.args.store.now.cat
    rules begin order rules_are

pub returns-in-Some-clause-stops : goal.returns-in-Some-clause-stops
returns-in-Some-clause-stops g c = λ e is.
    let full = c.in-Some.ensures.some c.in-Some.at refl in
    stops_as c.args.store.now.cat (g.D.Disk.disk c.args.outside.now.main) (g.D.Disk.disk c.args.outside.now.main) (error.Log c.in-Some.at) e
    (omega (arith, full.0, full.1), λ told. closes_at c.args.store.now.cat c.args.store.now (g.D.Disk.disk c.args.outside.now.main).holds c.in-Some.at full.0 (c.requires.held.keeps told)) is

pub returns-in-Some-clause-passes : goal.returns-in-Some-clause-passes
returns-in-Some-clause-passes g c = passes-none g.D.Disk.disk g.P.Plugin.plugin g.K.Sink.sink _ _ c.args.outside.now c.args.sink.now (λ e. cc e) (λ e. cc e)

pub returns-in-Some-clause-no_room : goal.returns-in-Some-clause-no_room
returns-in-Some-clause-no_room g c = λ none. ((_, inr refl), refl, refl)

-- ---- what was pending is undone, or how far that came

pub prepare-requires-clause-ready : goal.prepare-requires-clause-ready
prepare-requires-clause-ready g c = record {
  outside = record { main_last = c.requires.ready.outside.main_last; stores_last = c.requires.ready.outside.stores_last; room = omega (arith, c.requires.ready.outside.room) };
  sink_last = c.requires.ready.sink_last;
}

pub returns-in-Err-clause-no_room : goal.returns-in-Err-clause-no_room
returns-in-Err-clause-no_room g c = λ none. absurd (none (room_of c.args.store.now (g.D.Disk.disk c.args.outside.now.main) (λ e. c.if-run.false (ap (λ (n : Numbers). n.run) (c.numbers-run.ensures ∙ ap (λ (x : Cat). x.numbers) c.tables.ensures) ∙ e)) (c.in-None.ensures.none refl) c.requires.held.keeps))

pub returns-in-Err-clause-silent : goal.returns-in-Err-clause-silent
returns-in-Err-clause-silent g c = λ none. (c.in-Err.ensures.none none).1

-- ---- the run is begun, or not

pub begin-requires-clause-held : goal.begin-requires-clause-held
begin-requires-clause-held g c = c.in-Ok.ensures.held

pub begin-requires-clause-run : goal.begin-requires-clause-run
begin-requires-clause-run g c = λ e. c.if-run.false (ap (λ (n : Numbers). n.run) (c.numbers-run.ensures ∙ ap (λ (x : Cat). x.numbers) c.tables.ensures) ∙ sym c.in-Ok.ensures.rows.0 ∙ e)

pub begin-requires-clause-main_last : goal.begin-requires-clause-main_last
begin-requires-clause-main_last g c = c.in-Ok.ensures.passes.frame.main_last c.requires.ready.outside.main_last

pub begin-requires-clause-room : goal.begin-requires-clause-room
begin-requires-clause-room g c = omega (arith, c.requires.ready.outside.room, c.in-Ok.ensures.drawn)

pub error_of-requires : goal.error_of-requires
error_of-requires g c = c.in-Err-begin.ensures.of_commit c.in-Err-begin.error refl

pub returns-in-Err-begin-clause-opens : goal.returns-in-Err-begin-clause-opens
returns-in-Err-begin-clause-opens g c = λ source rules order begin rules_are.
    let prepared = c.in-Ok.ensures.prepares source rules order begin rules_are in (
      opens-begun (around g.D.Disk.disk g.A.Ambient.ambient g.P.Plugin.plugin c.args.outside.now (g.K.Sink.sink c.args.sink.now) source) (around g.D.Disk.disk g.A.Ambient.ambient g.P.Plugin.plugin c.prepare.new.outside (g.K.Sink.sink c.prepare.new.sink) source) c.args.store.now.cat rules begin c.prepare.new.store c.in-Ok.rest prepared
          (order-after g.D.Disk.disk g.P.Plugin.plugin g.K.Sink.sink _ _ (record { outside = c.args.outside.now; sink = c.args.sink.now }) (record { outside = c.prepare.new.outside; sink = c.prepare.new.sink }) c.in-Ok.ensures.passes g.A.Ambient.ambient source order) (g.D.Disk.disk c.begin.new.main) (g.D.Disk.disk c.begin.new.spare) c.begin.new.moments c.begin.ensures.drawn_from c.begin.ensures.goes
          (rests-where g.D.Disk.disk c.prepare.new.outside.spare c.begin.new.spare c.begin.ensures.spare) (Err c.in-Err-begin.error) c.begin.new.store (c.in-Err-begin.ensures.committed prepared.kept prepared.held),
      prepared.rules_are,
    )

pub returns-in-Err-begin-clause-stops : goal.returns-in-Err-begin-clause-stops
returns-in-Err-begin-clause-stops g c = λ e is.
    let held = c.in-Ok.ensures.held in
    let stops = commit_stops c.args.store.now.cat held.0 (run_begun c.prepare.new.store.cat) c.prepare.new.store c.begin.new.store (g.D.Disk.disk c.args.outside.now.main) (g.D.Disk.disk c.prepare.new.outside.main) (g.D.Disk.disk c.begin.new.main) c.in-Err-begin.error
    c.in-Ok.ensures.passes.frame.main.tells (c.in-Err-begin.ensures.committed held.0 held.1).ends in
    stops_as c.args.store.now.cat (g.D.Disk.disk c.args.outside.now.main) (g.D.Disk.disk c.begin.new.main) c.error_of.result e
    (subst (OpenStops c.args.store.now.cat (g.D.Disk.disk c.args.outside.now.main) (g.D.Disk.disk c.begin.new.main)) (sym c.error_of.ensures) stops) is

pub returns-in-Err-begin-clause-passes : goal.returns-in-Err-begin-clause-passes
returns-in-Err-begin-clause-passes g c =
    passes_then g.D.Disk.disk g.P.Plugin.plugin g.K.Sink.sink _ _ (record { outside = c.args.outside.now; sink = c.args.sink.now }) (record { outside = c.prepare.new.outside; sink = c.prepare.new.sink }) (record { outside = (record c.prepare.new.outside { main = c.begin.new.main; spare = c.begin.new.spare; moments = c.begin.new.moments }); sink = c.prepare.new.sink })
    (passes-as g.D.Disk.disk g.P.Plugin.plugin g.K.Sink.sink _ _ (record { outside = c.args.outside.now; sink = c.args.sink.now }) (record { outside = c.prepare.new.outside; sink = c.prepare.new.sink }) c.in-Ok.ensures.passes ⊥ ⊥ (λ e. absurd (cc e)) (λ e. absurd e) (λ e. absurd e))
    (passes-main g.D.Disk.disk g.P.Plugin.plugin g.K.Sink.sink _ _ c.prepare.new.outside c.prepare.new.sink
    (λ e. (let is : c.error_of.result ≡ error.Sink = cc in not_sink c.in-Err-begin.error (sym c.error_of.ensures ∙ is)))
    c.begin.new.main c.begin.new.spare c.begin.new.moments c.begin.ensures.drawn_from c.begin.ensures.main_last c.begin.ensures.goes c.begin.ensures.spare
    (λ e. (let is : c.error_of.result ≡ error.Disk = cc in c.in-Err-begin.ensures.cause (ap Err (disk_of c.in-Err-begin.error (sym c.error_of.ensures ∙ is)))))
    (λ ok. c.in-Err-begin.ensures.in_room (λ d. (let is : c.in-Err-begin.error ≡ journal.DiskFault = cc in ok (ap Err (c.error_of.ensures ∙ ap error_of is))))))

pub returns-in-Err-begin-clause-no_room : goal.returns-in-Err-begin-clause-no_room
returns-in-Err-begin-clause-no_room g c = λ none. absurd (none (room_of c.args.store.now (g.D.Disk.disk c.args.outside.now.main) (λ e. c.if-run.false (ap (λ (n : Numbers). n.run) (c.numbers-run.ensures ∙ ap (λ (x : Cat). x.numbers) c.tables.ensures) ∙ e)) (c.in-None.ensures.none refl) c.requires.held.keeps))

pub returns-in-Err-begin-clause-silent : goal.returns-in-Err-begin-clause-silent
returns-in-Err-begin-clause-silent g c = λ none. (c.in-Ok.ensures.none none).1

-- ---- the rest is told, or a part of it

told_as : (from to : ℕ) (a b : Text) (old new : SinkState) → a ≡ b → Between from to (AddsPart a) old new → Between from to (AddsPart b) old new
told_as from to a b old new is told = subst (λ (t : Text). Between from to (AddsPart t) old new) is told

all_as : (a b : Text) (old new : SinkState) → a ≡ b → (IsTrue old.tells → new.holds ≡ old.holds ++ a) → IsTrue old.tells → new.holds ≡ old.holds ++ b
all_as a b old new is all tells = all tells ∙ ap (λ (t : Text). old.holds ++ t) is

pub tell-requires-clause-sink_last : goal.tell-requires-clause-sink_last
tell-requires-clause-sink_last g c = (let last = c.in-Ok.ensures.passes.sink_last c.requires.ready.sink_last in omega (arith, last, c.begin.ensures.drawn_from))

pub tell-requires-clause-room : goal.tell-requires-clause-room
tell-requires-clause-room g c = omega (arith, c.requires.ready.outside.room, c.in-Ok.ensures.drawn, c.begin.ensures.drawn)

pub returns-in-Ok-tell-clause-opens : goal.returns-in-Ok-tell-clause-opens
returns-in-Ok-tell-clause-opens g c = λ source rules order begin rules_are.
    let prepared = c.in-Ok.ensures.prepares source rules order begin rules_are in
    let told = subst IsTrue (sym c.in-Ok.ensures.passes.frame.main.tells) begin.main_tells in
    opened-last (around g.D.Disk.disk g.A.Ambient.ambient g.P.Plugin.plugin c.args.outside.now (g.K.Sink.sink c.args.sink.now) source) (around g.D.Disk.disk g.A.Ambient.ambient g.P.Plugin.plugin c.prepare.new.outside (g.K.Sink.sink c.prepare.new.sink) source) c.args.store.now.cat rules begin c.prepare.new.store c.in-Ok.rest prepared
    (order-after g.D.Disk.disk g.P.Plugin.plugin g.K.Sink.sink _ _ (record { outside = c.args.outside.now; sink = c.args.sink.now }) (record { outside = c.prepare.new.outside; sink = c.prepare.new.sink }) c.in-Ok.ensures.passes g.A.Ambient.ambient source order) (g.D.Disk.disk c.begin.new.main) (g.D.Disk.disk c.begin.new.spare) c.begin.new.moments c.begin.ensures.drawn_from c.begin.ensures.main_last c.begin.ensures.goes
    (rests-where g.D.Disk.disk c.prepare.new.outside.spare c.begin.new.spare c.begin.ensures.spare) c.begin.new.store (c.in-Ok-begin.ensures.committed prepared.kept prepared.held)
    (g.K.Sink.sink c.tell.new.sink) c.tell.new.moments c.tell.ensures.drawn_from
    (told_as c.begin.new.moments c.tell.new.moments c.as_slice.result.now c.in-Ok.rest (g.K.Sink.sink c.prepare.new.sink) (g.K.Sink.sink c.tell.new.sink) c.as_slice.ensures c.tell.ensures.told)
    (all_as c.as_slice.result.now c.in-Ok.rest (g.K.Sink.sink c.prepare.new.sink) (g.K.Sink.sink c.tell.new.sink) c.as_slice.ensures c.in-Ok-tell.ensures.all) c.tell.ensures.settled (c.in-Ok-begin.ensures.one told)

pub returns-in-Ok-tell-clause-holds : goal.returns-in-Ok-tell-clause-holds
returns-in-Ok-tell-clause-holds g c =
    let held = c.in-Ok.ensures.held in
    let kept = (c.in-Ok-begin.ensures.committed held.0 held.1).ends in
    let H : Cat → Type 0 = λ x. IsHeld x (g.D.Disk.disk c.begin.new.main) c.begin.new.store in
    record {
      held = subst H (sym kept.cat) kept.held;
      staged = kept.staged;
      pending = ap (λ (x : Cat). x.pending) kept.cat;
      rules = ap (λ (x : Cat). x.rules) kept.cat ∙ c.in-Ok.ensures.rows.1;
      stores = ap (λ (x : Cat). x.stores) kept.cat ∙ c.in-Ok.ensures.rows.2;
    }

pub returns-in-Ok-tell-clause-passes : goal.returns-in-Ok-tell-clause-passes
returns-in-Ok-tell-clause-passes g c =
    passes_then g.D.Disk.disk g.P.Plugin.plugin g.K.Sink.sink _ _ (record { outside = c.args.outside.now; sink = c.args.sink.now }) (record { outside = (record c.prepare.new.outside { main = c.begin.new.main; spare = c.begin.new.spare; moments = c.begin.new.moments }); sink = c.prepare.new.sink }) (record { outside = record c.prepare.new.outside { main = c.begin.new.main; spare = c.begin.new.spare; moments = c.tell.new.moments }; sink = c.tell.new.sink })
    (passes_then g.D.Disk.disk g.P.Plugin.plugin g.K.Sink.sink ⊥ ⊥ (record { outside = c.args.outside.now; sink = c.args.sink.now }) (record { outside = c.prepare.new.outside; sink = c.prepare.new.sink }) (record { outside = (record c.prepare.new.outside { main = c.begin.new.main; spare = c.begin.new.spare; moments = c.begin.new.moments }); sink = c.prepare.new.sink })
    (passes-as g.D.Disk.disk g.P.Plugin.plugin g.K.Sink.sink _ _ (record { outside = c.args.outside.now; sink = c.args.sink.now }) (record { outside = c.prepare.new.outside; sink = c.prepare.new.sink }) c.in-Ok.ensures.passes ⊥ ⊥ (λ e. absurd (cc e)) (λ e. absurd e) (λ e. absurd e))
    (passes-main g.D.Disk.disk g.P.Plugin.plugin g.K.Sink.sink ⊥ ⊥ c.prepare.new.outside c.prepare.new.sink (λ e. e) c.begin.new.main c.begin.new.spare c.begin.new.moments c.begin.ensures.drawn_from c.begin.ensures.main_last c.begin.ensures.goes c.begin.ensures.spare
    (λ e. absurd e) (λ ok. c.in-Ok-begin.ensures.in_room (λ e. cc e))))
    (passes-told g.D.Disk.disk g.P.Plugin.plugin g.K.Sink.sink _ _ (record c.prepare.new.outside { main = c.begin.new.main; spare = c.begin.new.spare; moments = c.begin.new.moments }) c.prepare.new.sink (λ e. cc e) c.tell.new.moments c.tell.new.sink c.as_slice.result.now c.tell.ensures.drawn_from c.begin.ensures.main_last c.tell.ensures.told (λ e. absurd (cc e)))

pub returns-in-Ok-tell-clause-no_room : goal.returns-in-Ok-tell-clause-no_room
returns-in-Ok-tell-clause-no_room g c = λ none. absurd (none (room_of c.args.store.now (g.D.Disk.disk c.args.outside.now.main) (λ e. c.if-run.false (ap (λ (n : Numbers). n.run) (c.numbers-run.ensures ∙ ap (λ (x : Cat). x.numbers) c.tables.ensures) ∙ e)) (c.in-None.ensures.none refl) c.requires.held.keeps))

pub returns-in-Ok-tell-clause-silent : goal.returns-in-Ok-tell-clause-silent
returns-in-Ok-tell-clause-silent g c = λ none. (let was = c.in-Ok.ensures.none none in c.tell.ensures.none (c.as_slice.ensures ∙ was.0) ∙ was.1)

pub returns-clause-opens : goal.returns-clause-opens
returns-clause-opens g c = λ source rules order begin rules_are.
    let prepared = c.in-Ok.ensures.prepares source rules order begin rules_are in (
      opens-last (around g.D.Disk.disk g.A.Ambient.ambient g.P.Plugin.plugin c.args.outside.now (g.K.Sink.sink c.args.sink.now) source) (around g.D.Disk.disk g.A.Ambient.ambient g.P.Plugin.plugin c.prepare.new.outside (g.K.Sink.sink c.prepare.new.sink) source) c.args.store.now.cat rules begin c.prepare.new.store c.in-Ok.rest prepared
          (order-after g.D.Disk.disk g.P.Plugin.plugin g.K.Sink.sink _ _ (record { outside = c.args.outside.now; sink = c.args.sink.now }) (record { outside = c.prepare.new.outside; sink = c.prepare.new.sink }) c.in-Ok.ensures.passes g.A.Ambient.ambient source order) (g.D.Disk.disk c.begin.new.main) (g.D.Disk.disk c.begin.new.spare) c.begin.new.moments c.begin.ensures.drawn_from c.begin.ensures.main_last c.begin.ensures.goes
          (rests-where g.D.Disk.disk c.prepare.new.outside.spare c.begin.new.spare c.begin.ensures.spare) c.begin.new.store (c.in-Ok-begin.ensures.committed prepared.kept prepared.held)
          (g.K.Sink.sink c.tell.new.sink) c.tell.new.moments c.tell.ensures.drawn_from
          (told_as c.begin.new.moments c.tell.new.moments c.as_slice.result.now c.in-Ok.rest (g.K.Sink.sink c.prepare.new.sink) (g.K.Sink.sink c.tell.new.sink) c.as_slice.ensures c.tell.ensures.told),
      prepared.rules_are,
    )

pub returns-clause-stops : goal.returns-clause-stops
returns-clause-stops g c = λ e is. stops_as c.args.store.now.cat (g.D.Disk.disk c.args.outside.now.main) (g.D.Disk.disk c.begin.new.main) error.Sink e tt is

pub returns-clause-passes : goal.returns-clause-passes
returns-clause-passes g c =
    passes_then g.D.Disk.disk g.P.Plugin.plugin g.K.Sink.sink _ _ (record { outside = c.args.outside.now; sink = c.args.sink.now }) (record { outside = (record c.prepare.new.outside { main = c.begin.new.main; spare = c.begin.new.spare; moments = c.begin.new.moments }); sink = c.prepare.new.sink }) (record { outside = record c.prepare.new.outside { main = c.begin.new.main; spare = c.begin.new.spare; moments = c.tell.new.moments }; sink = c.tell.new.sink })
    (passes_then g.D.Disk.disk g.P.Plugin.plugin g.K.Sink.sink ⊥ ⊥ (record { outside = c.args.outside.now; sink = c.args.sink.now }) (record { outside = c.prepare.new.outside; sink = c.prepare.new.sink }) (record { outside = (record c.prepare.new.outside { main = c.begin.new.main; spare = c.begin.new.spare; moments = c.begin.new.moments }); sink = c.prepare.new.sink })
    (passes-as g.D.Disk.disk g.P.Plugin.plugin g.K.Sink.sink _ _ (record { outside = c.args.outside.now; sink = c.args.sink.now }) (record { outside = c.prepare.new.outside; sink = c.prepare.new.sink }) c.in-Ok.ensures.passes ⊥ ⊥ (λ e. absurd (cc e)) (λ e. absurd e) (λ e. absurd e))
    (passes-main g.D.Disk.disk g.P.Plugin.plugin g.K.Sink.sink ⊥ ⊥ c.prepare.new.outside c.prepare.new.sink (λ e. e) c.begin.new.main c.begin.new.spare c.begin.new.moments c.begin.ensures.drawn_from c.begin.ensures.main_last c.begin.ensures.goes c.begin.ensures.spare
    (λ e. absurd e) (λ ok. c.in-Ok-begin.ensures.in_room (λ e. cc e))))
    (passes-told g.D.Disk.disk g.P.Plugin.plugin g.K.Sink.sink _ _ (record c.prepare.new.outside { main = c.begin.new.main; spare = c.begin.new.spare; moments = c.begin.new.moments }) c.prepare.new.sink (λ e. cc e) c.tell.new.moments c.tell.new.sink c.as_slice.result.now c.tell.ensures.drawn_from c.begin.ensures.main_last c.tell.ensures.told (λ e. c.in-Err-tell.ensures.cause))

pub returns-clause-no_room : goal.returns-clause-no_room
returns-clause-no_room g c = λ none. absurd (none (room_of c.args.store.now (g.D.Disk.disk c.args.outside.now.main) (λ e. c.if-run.false (ap (λ (n : Numbers). n.run) (c.numbers-run.ensures ∙ ap (λ (x : Cat). x.numbers) c.tables.ensures) ∙ e)) (c.in-None.ensures.none refl) c.requires.held.keeps))

pub returns-clause-silent : goal.returns-clause-silent
returns-clause-silent g c = λ none. (let was = c.in-Ok.ensures.none none in c.tell.ensures.none (c.as_slice.ensures ∙ was.0) ∙ was.1)
