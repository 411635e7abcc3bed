use Rattle.std.proofs.Common.{◌≡◌, ◌≤◌, ℕ, ◌+◌, ◌^◌, [], ◌++◌, length, Option, Some, Ok, Err, IsTrue, refl, sym, ap, ◌∙◌, subst, arith, List, ◌*◌}
use Rattle.grid_outside.specs.Device.{Between}
use Rattle.grid_outside.specs.Sink.{AddsPart, SinkState}
use Rattle.grid_model.specs.Names.{Text}
use Rattle.grid_model.specs.Rows.{Cat}
use Rattle.grid_model.specs.declared.deltas.Pending.{Pending}
use Rattle.grid_headline.specs.Ends.{HasRecovery}
use Rattle.grid_headline.specs.Served.{joined_texts, report_front}
use Rattle.run_laws.specs.Around.{around}
use Rattle.service_run.specs.declared.ending.Ending.TheVariants as ending
use Rattle.call_laws.proofs.Joined.{passes_then, went_of}
use Rattle.grid_journal.specs.Journal.{Journal}
use Rattle.run_open.specs.Errors.{error_by}
use Rattle.run_open.specs.Preparing.{OpenStops}
use Rattle.run_open.specs.declared.error.OpenError.TheVariants as error
use Rattle.run_open.proofs.Fronts.{front_of, gives_same, keeps_same, opens-front, some-undone}
use Rattle.run_open.proofs.Passing.{passes-as, passes-told, ready-after}
use Rattle.run_open.proofs.Undones.{opens-at, prepared-at, stops_so}
use Rattle.run_open.proofs.Ways.{disk_by, no_source, sink_by, stops_as}
use Rattle.run_open.proofs.preparing.undo_stopped.Goals as goal
use Rattle.grid_headline.specs.Moments.{IsWithinLimits, undo_count}
use Rattle.grid_model.specs.Bounds.{most_steps}
use Rattle.size_laws.specs.Within.{few}
use Rattle.grid_model.specs.declared.calls.Call.{Call}

-- the text that is told first
front_is : (c : Cat) (p : Pending) → c.pending ≡ Some p → joined_texts (report_front (Some p) []) ≡ front_of c
front_is c p pending = ap (λ (o : Option Pending). joined_texts (report_front o [])) (sym pending)

-- what was told is the front of the report
told_as : (from to : ℕ) (a b : Text) (old new : SinkState) → a ≡ b → Between from to (AddsPart a) old new → Between from to (AddsPart b) old new
told_as from to a b old new is told = subst (λ (t : Text). Between from to (AddsPart t) old new) is told

all_as : (a b : Text) (old new : SinkState) → a ≡ b → (IsTrue old.tells → new.holds ≡ old.holds ++ a) → IsTrue old.tells → new.holds ≡ old.holds ++ b
all_as a b old new is all tells = all tells ∙ ap (λ (t : Text). old.holds ++ t) is

pub tell-requires-clause-room : goal.tell-requires-clause-room
tell-requires-clause-room g c = omega (arith, c.requires.ready.outside.room)

pub returns-in-Err-clause-prepares : goal.returns-in-Err-clause-prepares
returns-in-Err-clause-prepares g c = λ source rules order begin rules_are.
    let cat = c.args.store.now.cat in
    let u = some-undone cat rules rules_are in
    let is = c.as_slice.ensures ∙ c.requires.stopped.4 ∙ front_is cat c.requires.stopped.0 c.requires.stopped.1 in (
      opens-front (around g.D.Disk.disk g.A.Ambient.ambient g.P.Plugin.plugin c.args.outside.now (g.K.Sink.sink c.args.sink.now) source) cat begin order (g.K.Sink.sink c.tell.new.sink) c.tell.new.moments c.tell.ensures.drawn_from
          (told_as c.args.outside.now.moments c.tell.new.moments c.as_slice.result.now (front_of cat) (g.K.Sink.sink c.args.sink.now)
          (g.K.Sink.sink c.tell.new.sink) is c.tell.ensures.told) u.0 cat (keeps_same cat)
          (gives_same cat (length u.0.report)) u.1,
      u.2,
    )

pub returns-in-Err-clause-stops : goal.returns-in-Err-clause-stops
returns-in-Err-clause-stops g c = λ e is. stops_as c.args.store.now.cat (g.D.Disk.disk c.args.outside.now.main) (g.D.Disk.disk c.args.outside.now.main) error.Sink e tt is

pub returns-in-Err-clause-passes : goal.returns-in-Err-clause-passes
returns-in-Err-clause-passes g c =
    passes-told g.D.Disk.disk g.P.Plugin.plugin g.K.Sink.sink _ _ c.args.outside.now c.args.sink.now (λ e. cc e) c.tell.new.moments c.tell.new.sink c.as_slice.result.now c.tell.ensures.drawn_from c.requires.ready.outside.main_last c.tell.ensures.told
    (λ e. c.in-Err.ensures.cause)

pub undo_all-requires-clause-stopped : goal.undo_all-requires-clause-stopped
undo_all-requires-clause-stopped g c = (c.requires.stopped.0, c.requires.stopped.1, c.requires.stopped.2, c.requires.stopped.3)

pub undo_all-requires-clause-ready : goal.undo_all-requires-clause-ready
undo_all-requires-clause-ready g c =
    ready-after g.D.Disk.disk g.P.Plugin.plugin g.K.Sink.sink ⊥ ⊥ (record { outside = c.args.outside.now; sink = c.args.sink.now }) (record { outside = record c.args.outside.now { moments = c.tell.new.moments }; sink = c.tell.new.sink })
    (passes-told g.D.Disk.disk g.P.Plugin.plugin g.K.Sink.sink ⊥ ⊥ c.args.outside.now c.args.sink.now (λ e. e) c.tell.new.moments c.tell.new.sink c.as_slice.result.now c.tell.ensures.drawn_from c.requires.ready.outside.main_last c.tell.ensures.told (λ e. absurd e))
    (2 ^ 120 + 1) (2 ^ 120) c.requires.ready (omega (arith, c.tell.ensures.drawn))

pub returns-in-Err-undo_all-clause-prepares : goal.returns-in-Err-undo_all-clause-prepares
returns-in-Err-undo_all-clause-prepares g c = λ source rules order begin rules_are.
    let cat = c.args.store.now.cat in
    let is = c.as_slice.ensures ∙ c.requires.stopped.4 ∙ front_is cat c.requires.stopped.0 c.requires.stopped.1 in
    opens-at (around g.D.Disk.disk g.A.Ambient.ambient g.P.Plugin.plugin c.args.outside.now (g.K.Sink.sink c.args.sink.now) source) cat c.requires.stopped.0 c.requires.stopped.1 begin order (g.K.Sink.sink c.tell.new.sink) c.tell.new.moments c.tell.ensures.drawn_from
    (told_as c.args.outside.now.moments c.tell.new.moments c.as_slice.result.now (front_of cat) (g.K.Sink.sink c.args.sink.now) (g.K.Sink.sink c.tell.new.sink) is c.tell.ensures.told)
    (all_as c.as_slice.result.now (front_of cat) (g.K.Sink.sink c.args.sink.now) (g.K.Sink.sink c.tell.new.sink) is c.in-Ok.ensures.all) c.tell.ensures.settled
    (around g.D.Disk.disk g.A.Ambient.ambient g.P.Plugin.plugin c.undo_all.new.outside (g.K.Sink.sink c.undo_all.new.sink) source)
    (went_of g.D.Disk.disk g.P.Plugin.plugin g.K.Sink.sink _ _ g.A.Ambient.ambient source (record { outside = record c.args.outside.now { moments = c.tell.new.moments }; sink = c.tell.new.sink }) (record { outside = c.undo_all.new.outside; sink = c.undo_all.new.sink }) c.undo_all.ensures.passes)
    rules c.undo_all.new.command c.undo_all.new.store (Err c.in-Err-undo_all.ending)
    (c.in-Err-undo_all.ensures.undoes source c.requires.stopped.0 rules c.requires.stopped.1 rules_are)

pub returns-in-Err-undo_all-clause-stops : goal.returns-in-Err-undo_all-clause-stops
returns-in-Err-undo_all-clause-stops g c = λ e is.
    let cat = c.args.store.now.cat in
    let p = c.requires.stopped.0 in
    let source = no_source in
    let some : HasRecovery (Some p) = λ none. (let ok = (c.in-Err-undo_all.ensures.none (c.requires.stopped.3 ∙ none)).0 in cc ok) in
    let stops = stops_so (around g.D.Disk.disk g.A.Ambient.ambient g.P.Plugin.plugin (record c.args.outside.now { moments = c.tell.new.moments }) (g.K.Sink.sink c.tell.new.sink) source)
    (around g.D.Disk.disk g.A.Ambient.ambient g.P.Plugin.plugin c.undo_all.new.outside (g.K.Sink.sink c.undo_all.new.sink) source) cat p c.in-Err-undo_all.ending
    (subst HasRecovery (sym c.requires.stopped.1) some) (c.in-Err-undo_all.ensures.undoes source p c.requires.rules.0 c.requires.stopped.1 c.requires.rules.1).ends in
    stops_as cat (g.D.Disk.disk c.args.outside.now.main) (g.D.Disk.disk c.undo_all.new.outside.main) c.error_by.result e
    (subst (OpenStops cat (g.D.Disk.disk c.args.outside.now.main) (g.D.Disk.disk c.undo_all.new.outside.main)) (sym c.error_by.ensures) stops) is

pub returns-in-Err-undo_all-clause-passes : goal.returns-in-Err-undo_all-clause-passes
returns-in-Err-undo_all-clause-passes g c =
    passes_then g.D.Disk.disk g.P.Plugin.plugin g.K.Sink.sink _ _ (record { outside = c.args.outside.now; sink = c.args.sink.now }) (record { outside = record c.args.outside.now { moments = c.tell.new.moments }; sink = c.tell.new.sink }) (record { outside = c.undo_all.new.outside; sink = c.undo_all.new.sink })
    (passes-told g.D.Disk.disk g.P.Plugin.plugin g.K.Sink.sink ⊥ ⊥ c.args.outside.now c.args.sink.now (λ e. e) c.tell.new.moments c.tell.new.sink c.as_slice.result.now c.tell.ensures.drawn_from c.requires.ready.outside.main_last c.tell.ensures.told (λ e. absurd e))
    (passes-as g.D.Disk.disk g.P.Plugin.plugin g.K.Sink.sink _ _ (record { outside = record c.args.outside.now { moments = c.tell.new.moments }; sink = c.tell.new.sink }) (record { outside = c.undo_all.new.outside; sink = c.undo_all.new.sink }) c.in-Err-undo_all.ensures.passes _ _
    (λ e. (let is : c.in-Err-undo_all.ending ≡ ending.Disk = cc in ap Err (c.error_by.ensures ∙ ap error_by is)))
    (λ e. (let is : c.error_by.result ≡ error.Disk = cc in ap Err (disk_by c.in-Err-undo_all.ending (sym c.error_by.ensures ∙ is))))
    (λ e. (let is : c.error_by.result ≡ error.Sink = cc in ap Err (sink_by c.in-Err-undo_all.ending (sym c.error_by.ensures ∙ is)))))

pub returns-in-Ok-rest_of-clause-prepares : goal.returns-in-Ok-rest_of-clause-prepares
returns-in-Ok-rest_of-clause-prepares g c = λ source rules order begin rules_are.
    let cat = c.args.store.now.cat in
    let is = c.as_slice.ensures ∙ c.requires.stopped.4 ∙ front_is cat c.requires.stopped.0 c.requires.stopped.1 in
    let passes = c.undo_all.ensures.passes in
    let mid_last : (g.D.Disk.disk c.args.outside.now.main).last ≤ c.tell.new.moments = omega (arith, c.requires.ready.outside.main_last, c.tell.ensures.drawn_from) in
    prepared-at (around g.D.Disk.disk g.A.Ambient.ambient g.P.Plugin.plugin c.args.outside.now (g.K.Sink.sink c.args.sink.now) source) cat c.requires.stopped.0 c.requires.stopped.1 begin order (g.K.Sink.sink c.tell.new.sink) c.tell.new.moments c.tell.ensures.drawn_from
    (told_as c.args.outside.now.moments c.tell.new.moments c.as_slice.result.now (front_of cat) (g.K.Sink.sink c.args.sink.now) (g.K.Sink.sink c.tell.new.sink) is c.tell.ensures.told)
    (all_as c.as_slice.result.now (front_of cat) (g.K.Sink.sink c.args.sink.now) (g.K.Sink.sink c.tell.new.sink) is c.in-Ok.ensures.all) c.tell.ensures.settled
    (around g.D.Disk.disk g.A.Ambient.ambient g.P.Plugin.plugin c.undo_all.new.outside (g.K.Sink.sink c.undo_all.new.sink) source)
    (went_of g.D.Disk.disk g.P.Plugin.plugin g.K.Sink.sink _ _ g.A.Ambient.ambient source (record { outside = record c.args.outside.now { moments = c.tell.new.moments }; sink = c.tell.new.sink }) (record { outside = c.undo_all.new.outside; sink = c.undo_all.new.sink }) passes)
    rules c.undo_all.new.command c.undo_all.new.store (passes.frame.main_last mid_last) (passes.sink_last c.tell.ensures.told.last)
    (c.in-Ok-undo_all.ensures.undoes source c.requires.stopped.0 rules c.requires.stopped.1 rules_are)
    (λ none. ap (λ (j : Journal). j.cat) ((c.in-Ok-undo_all.ensures.none (c.requires.stopped.3 ∙ none)).1)) c.in-Ok-rest_of.rest c.in-Ok-rest_of.ensures

pub returns-in-Ok-rest_of-clause-held : goal.returns-in-Ok-rest_of-clause-held
returns-in-Ok-rest_of-clause-held g c =
    let ends = (c.in-Ok-undo_all.ensures.undoes no_source c.requires.stopped.0 c.requires.rules.0 c.requires.stopped.1 c.requires.rules.1).ends in
    (ends.0, ends.1.held)

pub returns-in-Ok-rest_of-clause-rows : goal.returns-in-Ok-rest_of-clause-rows
returns-in-Ok-rest_of-clause-rows g c =
    let d = (c.in-Ok-undo_all.ensures.undoes no_source c.requires.stopped.0 c.requires.rules.0 c.requires.stopped.1 c.requires.rules.1).ends.1 in
    (d.run, d.rules, d.stores)

pub returns-in-Ok-rest_of-clause-passes : goal.returns-in-Ok-rest_of-clause-passes
returns-in-Ok-rest_of-clause-passes g c =
    passes_then g.D.Disk.disk g.P.Plugin.plugin g.K.Sink.sink _ _ (record { outside = c.args.outside.now; sink = c.args.sink.now }) (record { outside = record c.args.outside.now { moments = c.tell.new.moments }; sink = c.tell.new.sink }) (record { outside = c.undo_all.new.outside; sink = c.undo_all.new.sink })
    (passes-told g.D.Disk.disk g.P.Plugin.plugin g.K.Sink.sink ⊥ ⊥ c.args.outside.now c.args.sink.now (λ e. e) c.tell.new.moments c.tell.new.sink c.as_slice.result.now c.tell.ensures.drawn_from c.requires.ready.outside.main_last c.tell.ensures.told (λ e. absurd e))
    (passes-as g.D.Disk.disk g.P.Plugin.plugin g.K.Sink.sink _ _ (record { outside = record c.args.outside.now { moments = c.tell.new.moments }; sink = c.tell.new.sink }) (record { outside = c.undo_all.new.outside; sink = c.undo_all.new.sink }) c.in-Ok-undo_all.ensures.passes _ _ (λ e. absurd (cc e)) (λ e. absurd (cc e)) (λ e. absurd (cc e)))

pub returns-in-Err-rest_of-clause-prepares : goal.returns-in-Err-rest_of-clause-prepares
returns-in-Err-rest_of-clause-prepares g c = λ source rules order begin rules_are.
    let cat = c.args.store.now.cat in
    let is = c.as_slice.ensures ∙ c.requires.stopped.4 ∙ front_is cat c.requires.stopped.0 c.requires.stopped.1 in
    opens-at (around g.D.Disk.disk g.A.Ambient.ambient g.P.Plugin.plugin c.args.outside.now (g.K.Sink.sink c.args.sink.now) source) cat c.requires.stopped.0 c.requires.stopped.1 begin order (g.K.Sink.sink c.tell.new.sink) c.tell.new.moments c.tell.ensures.drawn_from
    (told_as c.args.outside.now.moments c.tell.new.moments c.as_slice.result.now (front_of cat) (g.K.Sink.sink c.args.sink.now) (g.K.Sink.sink c.tell.new.sink) is c.tell.ensures.told)
    (all_as c.as_slice.result.now (front_of cat) (g.K.Sink.sink c.args.sink.now) (g.K.Sink.sink c.tell.new.sink) is c.in-Ok.ensures.all) c.tell.ensures.settled
    (around g.D.Disk.disk g.A.Ambient.ambient g.P.Plugin.plugin c.undo_all.new.outside (g.K.Sink.sink c.undo_all.new.sink) source)
    (went_of g.D.Disk.disk g.P.Plugin.plugin g.K.Sink.sink _ _ g.A.Ambient.ambient source (record { outside = record c.args.outside.now { moments = c.tell.new.moments }; sink = c.tell.new.sink }) (record { outside = c.undo_all.new.outside; sink = c.undo_all.new.sink }) c.undo_all.ensures.passes)
    rules c.undo_all.new.command c.undo_all.new.store (Ok tt)
    (c.in-Ok-undo_all.ensures.undoes source c.requires.stopped.0 rules c.requires.stopped.1 rules_are)

pub returns-in-Err-rest_of-clause-stops : goal.returns-in-Err-rest_of-clause-stops
returns-in-Err-rest_of-clause-stops g c = λ e is. stops_as c.args.store.now.cat (g.D.Disk.disk c.args.outside.now.main) (g.D.Disk.disk c.undo_all.new.outside.main) error.Memory e tt is

pub returns-in-Err-rest_of-clause-passes : goal.returns-in-Err-rest_of-clause-passes
returns-in-Err-rest_of-clause-passes g c =
    passes_then g.D.Disk.disk g.P.Plugin.plugin g.K.Sink.sink _ _ (record { outside = c.args.outside.now; sink = c.args.sink.now }) (record { outside = record c.args.outside.now { moments = c.tell.new.moments }; sink = c.tell.new.sink }) (record { outside = c.undo_all.new.outside; sink = c.undo_all.new.sink })
    (passes-told g.D.Disk.disk g.P.Plugin.plugin g.K.Sink.sink ⊥ ⊥ c.args.outside.now c.args.sink.now (λ e. e) c.tell.new.moments c.tell.new.sink c.as_slice.result.now c.tell.ensures.drawn_from c.requires.ready.outside.main_last c.tell.ensures.told (λ e. absurd e))
    (passes-as g.D.Disk.disk g.P.Plugin.plugin g.K.Sink.sink _ _ (record { outside = record c.args.outside.now { moments = c.tell.new.moments }; sink = c.tell.new.sink }) (record { outside = c.undo_all.new.outside; sink = c.undo_all.new.sink }) c.in-Ok-undo_all.ensures.passes _ _ (λ e. absurd (cc e)) (λ e. absurd (cc e)) (λ e. absurd (cc e)))

pub same-undo : goal.same-undo
same-undo g c = refl

-- ---- few moments

few_left : (c : Cat) (p : Pending) (undo : List Call) → c.pending ≡ Some p → undo ≡ p.undo → IsWithinLimits c → length undo ≤ most_steps
few_left c p undo is same within = omega (arith, ap undo_count is, ap length same, within.undo)

pub returns-in-Err-undo_all-clause-few : goal.returns-in-Err-undo_all-clause-few
returns-in-Err-undo_all-clause-few g c within =
    let s = c.requires.stopped in
    omega (arith, c.tell.ensures.drawn, c.undo_all.ensures.drawn (2 ^ 20) (few within.grid), few_left c.args.store.now.cat s.0 c.args.undo s.1 s.3 within)

pub returns-in-Ok-rest_of-clause-few : goal.returns-in-Ok-rest_of-clause-few
returns-in-Ok-rest_of-clause-few g c within =
    let s = c.requires.stopped in
    omega (arith, c.tell.ensures.drawn, c.undo_all.ensures.drawn (2 ^ 20) (few within.grid), few_left c.args.store.now.cat s.0 c.args.undo s.1 s.3 within)

pub returns-in-Err-rest_of-clause-few : goal.returns-in-Err-rest_of-clause-few
returns-in-Err-rest_of-clause-few g c within =
    let s = c.requires.stopped in
    omega (arith, c.tell.ensures.drawn, c.undo_all.ensures.drawn (2 ^ 20) (few within.grid), few_left c.args.store.now.cat s.0 c.args.undo s.1 s.3 within)
