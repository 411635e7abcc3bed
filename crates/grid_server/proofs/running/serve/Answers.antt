use Rattle.std.proofs.Common.{List, ℕ, arith, inl, ◌≡◌, IsTrue, Err, subst, sym, ap, ◌∙◌, refl}
use Rattle.grid_model.specs.Rows.{Cat}
use Rattle.grid_outside.specs.declared.outside.Wear.TheVariants.{Log}
use Rattle.grid_model.specs.declared.grid.Side.TheVariants.{Main}
use Rattle.grid_journal.specs.Journal.{ClosesAt}
use Rattle.grid_headline.specs.Ends.{HasRunOut}
use Rattle.run_open.specs.Preparing.{HasRoom}
use Rattle.grid_server.specs.declared.status.Status.TheVariants as status
use Rattle.grid_server.proofs.OpensLemmas.{serves_looked_memory, serves_looked_fault, serves_held, not_disk}
use Rattle.grid_server.proofs.RestLemmas.{looked_rests, rests_on, rests_same}
use Rattle.grid_server.proofs.RunLemmas.{one_cat, no_both, refuses_there, refused_at, rests_more, other_stores}
use Rattle.grid_server.proofs.ViewLemmas.{passes_main, passes_sink, passes_then}
use Rattle.grid_server.proofs.running.serve.Goals as goal

pub serve_over-requires-clause-made : goal.serve_over-requires-clause-made
serve_over-requires-clause-made g c = c.in-Ok.ensures.made

pub unreachable-requires : goal.unreachable-requires
unreachable-requires g c = (c.in-Err-NotEmpty.ensures.no_other _ Log _).0 (ap Err c.in-Err-NotEmpty.field-0-is)

pub unreachable-requires-in-Err-Worn : goal.unreachable-requires-in-Err-Worn
unreachable-requires-in-Err-Worn g c = (c.in-Err-Worn.ensures.no_other Main _ _).1 (ap Err c.in-Err-Worn.field-0-is)

pub returns-in-Ok-clause-stores : goal.returns-in-Ok-clause-stores
returns-in-Ok-clause-stores g c = λ found told stood other.
    let main_old = g.D.Disk.disk c.args.outside.now.main in
    let spare = (g.D.Disk.disk c.args.outside.now.spare).holds in
    let held = c.in-Ok.ensures.stands told spare in
    let same : c.in-Ok.store.cat ≡ found = one_cat main_old.holds spare c.in-Ok.store.cat found held stood in
    let refused = c.serve_over.ensures.stores (λ e. other (sym (ap (λ (c : Cat). c.stores) same) ∙ e)) in (
      other_stores main_old.holds spare c.in-Ok.store.cat found _ (g.K.Sink.sink c.args.sink.now) (g.K.Sink.sink c.serve_over.new.sink) c.serve_over.result held stood refused.0,
      rests_on g.D.Disk.disk main_old c.open.new.main c.serve_over.new.outside.main refused.1 (looked_rests main_old (g.D.Disk.disk c.open.new.main) c.open.ensures.looks c.open.ensures.later),
      refused.2,
      refused.3,
    )

pub returns-in-Ok-clause-refuses : goal.returns-in-Ok-clause-refuses
returns-in-Ok-clause-refuses g c = λ side place told stood.
    let spare = (g.D.Disk.disk c.args.outside.now.spare).holds in
    absurd (no_both (g.D.Disk.disk c.args.outside.now.main).holds spare c.in-Ok.store.cat side place (c.in-Ok.ensures.stands told spare) stood)

pub returns-in-Err-NotACatalogue-clause-stores : goal.returns-in-Err-NotACatalogue-clause-stores
returns-in-Err-NotACatalogue-clause-stores g c = λ found told stood.
    let spare = (g.D.Disk.disk c.args.outside.now.spare).holds in
    absurd (no_both (g.D.Disk.disk c.args.outside.now.main).holds spare found c.in-Err-NotACatalogue.side c.in-Err-NotACatalogue.at stood (c.in-Err-NotACatalogue.ensures.not_a_catalogue c.in-Err-NotACatalogue.side c.in-Err-NotACatalogue.at (ap Err c.in-Err-NotACatalogue.field-0-is) told spare))

pub returns-in-Err-NotACatalogue-clause-refuses : goal.returns-in-Err-NotACatalogue-clause-refuses
returns-in-Err-NotACatalogue-clause-refuses g c = λ side place told stood.
    let main_old = g.D.Disk.disk c.args.outside.now.main in
    let spare = (g.D.Disk.disk c.args.outside.now.spare).holds in (
      refuses_there main_old.holds spare side c.in-Err-NotACatalogue.side place c.in-Err-NotACatalogue.at (g.K.Sink.sink c.args.sink.now) (g.K.Sink.sink c.refuse.new.sink) c.refuse.result
          (c.in-Err-NotACatalogue.ensures.not_a_catalogue c.in-Err-NotACatalogue.side c.in-Err-NotACatalogue.at (ap Err c.in-Err-NotACatalogue.field-0-is) told spare) stood c.refuse.ensures.refuses,
      looked_rests main_old (g.D.Disk.disk c.open.new.main) c.open.ensures.looks c.open.ensures.later,
      refl,
      refl,
    )

pub returns-in-Err-NotACatalogue-clause-not_a_catalogue : goal.returns-in-Err-NotACatalogue-clause-not_a_catalogue
returns-in-Err-NotACatalogue-clause-not_a_catalogue g c = λ side place is told.
    refused_at (g.D.Disk.disk c.args.outside.now.main).holds (g.D.Disk.disk c.args.outside.now.spare).holds side c.in-Err-NotACatalogue.side place c.in-Err-NotACatalogue.at c.refuse.result
    (c.in-Err-NotACatalogue.ensures.not_a_catalogue c.in-Err-NotACatalogue.side c.in-Err-NotACatalogue.at (ap Err c.in-Err-NotACatalogue.field-0-is) told (g.D.Disk.disk c.args.outside.now.spare).holds) c.refuse.ensures.ends is

pub returns-in-Ok-clause-stores_only : goal.returns-in-Ok-clause-stores_only
returns-in-Ok-clause-stores_only g c = λ had given is.
    let only = c.serve_over.ensures.stores_only had given is in
    let main_old = g.D.Disk.disk c.args.outside.now.main in
    let spare = (g.D.Disk.disk c.args.outside.now.spare).holds in (
      only.0,
      only.1,
      λ found told stood. only.2 ∙ ap (λ (c : Cat). c.stores) (one_cat main_old.holds spare c.in-Ok.store.cat found (c.in-Ok.ensures.stands told spare) stood),
    )

pub returns-in-Ok-clause-worn : goal.returns-in-Ok-clause-worn
returns-in-Ok-clause-worn g c = λ found told stood stores none.
    let main_old = g.D.Disk.disk c.args.outside.now.main in
    let main_new = g.D.Disk.disk c.open.new.main in
    let spare = (g.D.Disk.disk c.args.outside.now.spare).holds in
    let same : c.in-Ok.store.cat ≡ found = one_cat main_old.holds spare c.in-Ok.store.cat found (c.in-Ok.ensures.stands told spare) stood in
    let P : Cat → Type 0 = λ x. ¬ HasRoom x main_old in
    let none_held : ¬ HasRoom c.in-Ok.store.cat main_old = subst P (sym same) none in
    let worn =
    c.serve_over.ensures.worn (ap (λ (x : Cat). x.stores) same ∙ stores)
    (λ room. none_held (room.0, λ told place closes. room.1 (subst IsTrue (sym c.open.ensures.looks.tells) told) place (let C : List ℕ → Type 0 = λ m. ClosesAt m place in subst C (sym (c.open.ensures.looks.holds told)) closes))) in
    (worn.0, rests_more main_old main_new (g.D.Disk.disk c.serve_over.new.outside.main) (looked_rests main_old main_new c.open.ensures.looks c.open.ensures.later) worn.1, worn.2, worn.3, worn.4)

pub returns-in-Err-NotACatalogue-clause-worn : goal.returns-in-Err-NotACatalogue-clause-worn
returns-in-Err-NotACatalogue-clause-worn g c = λ found told stood.
    let spare = (g.D.Disk.disk c.args.outside.now.spare).holds in
    absurd (no_both (g.D.Disk.disk c.args.outside.now.main).holds spare found c.in-Err-NotACatalogue.side c.in-Err-NotACatalogue.at stood (c.in-Err-NotACatalogue.ensures.not_a_catalogue c.in-Err-NotACatalogue.side c.in-Err-NotACatalogue.at (ap Err c.in-Err-NotACatalogue.field-0-is) told spare))

pub returns-in-Err-DiskFault-clause-worn : goal.returns-in-Err-DiskFault-clause-worn
returns-in-Err-DiskFault-clause-worn g c = λ found told stood stores none.
    (tt, looked_rests (g.D.Disk.disk c.args.outside.now.main) (g.D.Disk.disk c.open.new.main) c.open.ensures.looks c.open.ensures.later, refl, refl, refl)

pub returns-in-Err-Memory-clause-worn : goal.returns-in-Err-Memory-clause-worn
returns-in-Err-Memory-clause-worn g c = λ found told stood stores none.
    (tt, looked_rests (g.D.Disk.disk c.args.outside.now.main) (g.D.Disk.disk c.open.new.main) c.open.ensures.looks c.open.ensures.later, refl, refl, refl)

pub returns-in-Ok-clause-worn_only : goal.returns-in-Ok-clause-worn_only
returns-in-Ok-clause-worn_only g c = λ found what place is told stood.
    let main_old = g.D.Disk.disk c.args.outside.now.main in
    let spare = (g.D.Disk.disk c.args.outside.now.spare).holds in
    let same : c.in-Ok.store.cat ≡ found = one_cat main_old.holds spare c.in-Ok.store.cat found (c.in-Ok.ensures.stands told spare) stood in
    let R : Cat → Type 0 = λ x. HasRunOut x (g.D.Disk.disk c.serve_over.new.outside.main).holds (g.D.Disk.disk c.serve_over.new.outside.spare).holds place what in
    subst R same (c.serve_over.ensures.worn_only what place is (subst IsTrue (sym c.open.ensures.looks.tells) told))

pub returns-in-Ok-clause-serve : goal.returns-in-Ok-clause-serve
returns-in-Ok-clause-serve g c = λ found end begin its.
    let main_old = g.D.Disk.disk c.args.outside.now.main in
    let spare = (g.D.Disk.disk c.args.outside.now.spare).holds in
    let same : c.in-Ok.store.cat ≡ found = one_cat main_old.holds spare c.in-Ok.store.cat found (c.in-Ok.ensures.stands begin.main_tells spare) begin.stands in
    serves_held (record { disk = g.D.Disk.disk; source = g.S.Source.source; sink = g.K.Sink.sink; ambient = g.A.Ambient.ambient; plugin = g.P.Plugin.plugin }) (record { outside = c.args.outside.now; source = c.args.source.now; sink = c.args.sink.now }) (record { outside = c.serve_over.new.outside; source = c.serve_over.new.source; sink = c.serve_over.new.sink }) c.in-Ok.store.cat found end same begin
    (λ held. c.serve_over.ensures.serve c.args.outside.now.main c.args.outside.now.spare end held
    (record { main_last = c.requires.ready.outside.main_last; spare_last = c.requires.spare_last; sink_last = c.requires.ready.sink_last; stores_last = c.requires.ready.outside.stores_last })
    (looked_rests main_old (g.D.Disk.disk c.open.new.main) c.open.ensures.looks c.open.ensures.later)
    (rests_on g.D.Disk.disk (g.D.Disk.disk c.args.outside.now.spare) c.args.outside.now.spare c.open.new.spare c.open.ensures.spare (rests_same (g.D.Disk.disk c.args.outside.now.spare))) its)

pub returns-in-Ok-clause-passes : goal.returns-in-Ok-clause-passes
returns-in-Ok-clause-passes g c =
    let main_old = g.D.Disk.disk c.args.outside.now.main in
    let rests = looked_rests main_old (g.D.Disk.disk c.open.new.main) c.open.ensures.looks c.open.ensures.later in
    passes_then (record { disk = g.D.Disk.disk; source = g.S.Source.source; sink = g.K.Sink.sink; ambient = g.A.Ambient.ambient; plugin = g.P.Plugin.plugin }) ⊥ ⊥ (c.serve_over.result ≡ status.DiskFault) (c.serve_over.result ≡ status.SinkFault) (record { outside = c.args.outside.now; source = c.args.source.now; sink = c.args.sink.now })
    (record { outside = record c.args.outside.now { main = c.open.new.main; spare = c.open.new.spare }; source = c.args.source.now; sink = c.args.sink.now })
    (record { outside = c.serve_over.new.outside; source = c.serve_over.new.source; sink = c.serve_over.new.sink }) (λ x. x)
    (passes_main (record { disk = g.D.Disk.disk; source = g.S.Source.source; sink = g.K.Sink.sink; ambient = g.A.Ambient.ambient; plugin = g.P.Plugin.plugin }) ⊥ ⊥ (record { outside = c.args.outside.now; source = c.args.source.now; sink = c.args.sink.now }) c.open.new.main c.open.new.spare c.args.outside.now.moments (omega arith) (omega (arith, rests.last, c.requires.ready.outside.main_last))
    (record { faults = rests.faults; tells = rests.tells; earlier = λ t image le left. rests.left t image left }) c.open.ensures.spare (λ f. absurd f) (λ ok told. inl (rests.holds told)) (λ x. x))
    c.serve_over.ensures.passes

pub returns-in-Err-NotACatalogue-clause-passes : goal.returns-in-Err-NotACatalogue-clause-passes
returns-in-Err-NotACatalogue-clause-passes g c =
    let main_old = g.D.Disk.disk c.args.outside.now.main in
    let rests = looked_rests main_old (g.D.Disk.disk c.open.new.main) c.open.ensures.looks c.open.ensures.later in
    passes_then (record { disk = g.D.Disk.disk; source = g.S.Source.source; sink = g.K.Sink.sink; ambient = g.A.Ambient.ambient; plugin = g.P.Plugin.plugin }) ⊥ ⊥ (c.refuse.result ≡ status.DiskFault) (c.refuse.result ≡ status.SinkFault) (record { outside = c.args.outside.now; source = c.args.source.now; sink = c.args.sink.now })
    (record { outside = record c.args.outside.now { main = c.open.new.main; spare = c.open.new.spare }; source = c.args.source.now; sink = c.args.sink.now })
    (record { outside = record c.args.outside.now { main = c.open.new.main; spare = c.open.new.spare; moments = c.refuse.new.moments }; source = c.args.source.now; sink = c.refuse.new.sink }) (λ x. x)
    (passes_main (record { disk = g.D.Disk.disk; source = g.S.Source.source; sink = g.K.Sink.sink; ambient = g.A.Ambient.ambient; plugin = g.P.Plugin.plugin }) ⊥ ⊥ (record { outside = c.args.outside.now; source = c.args.source.now; sink = c.args.sink.now }) c.open.new.main c.open.new.spare c.args.outside.now.moments (omega arith) (omega (arith, rests.last, c.requires.ready.outside.main_last))
    (record { faults = rests.faults; tells = rests.tells; earlier = λ t image le left. rests.left t image left }) c.open.ensures.spare (λ f. absurd f) (λ ok told. inl (rests.holds told)) (λ x. x))
    (passes_sink (record { disk = g.D.Disk.disk; source = g.S.Source.source; sink = g.K.Sink.sink; ambient = g.A.Ambient.ambient; plugin = g.P.Plugin.plugin }) (c.refuse.result ≡ status.DiskFault) (c.refuse.result ≡ status.SinkFault)
    (record { outside = record c.args.outside.now { main = c.open.new.main; spare = c.open.new.spare }; source = c.args.source.now; sink = c.args.sink.now }) c.refuse.new.sink c.refuse.new.moments c.refuse.ensures.went
    (not_disk _ _ c.refuse.result c.refuse.ensures.ends) c.refuse.ensures.fault (omega (arith, rests.last, c.requires.ready.outside.main_last)))

pub returns-in-Err-DiskFault-clause-passes : goal.returns-in-Err-DiskFault-clause-passes
returns-in-Err-DiskFault-clause-passes g c =
    let main_old = g.D.Disk.disk c.args.outside.now.main in
    let rests = looked_rests main_old (g.D.Disk.disk c.open.new.main) c.open.ensures.looks c.open.ensures.later in
    passes_main (record { disk = g.D.Disk.disk; source = g.S.Source.source; sink = g.K.Sink.sink; ambient = g.A.Ambient.ambient; plugin = g.P.Plugin.plugin }) _ _ (record { outside = c.args.outside.now; source = c.args.source.now; sink = c.args.sink.now }) c.open.new.main c.open.new.spare c.args.outside.now.moments (omega arith) (omega (arith, rests.last, c.requires.ready.outside.main_last))
    (record { faults = rests.faults; tells = rests.tells; earlier = λ t image le left. rests.left t image left }) c.open.ensures.spare (λ f. c.in-Err-DiskFault.ensures.cause (ap Err c.in-Err-DiskFault.field-0-is)) (λ ok told. inl (rests.holds told)) (λ e. cc e)

pub returns-in-Err-Memory-clause-passes : goal.returns-in-Err-Memory-clause-passes
returns-in-Err-Memory-clause-passes g c =
    let main_old = g.D.Disk.disk c.args.outside.now.main in
    let rests = looked_rests main_old (g.D.Disk.disk c.open.new.main) c.open.ensures.looks c.open.ensures.later in
    passes_main (record { disk = g.D.Disk.disk; source = g.S.Source.source; sink = g.K.Sink.sink; ambient = g.A.Ambient.ambient; plugin = g.P.Plugin.plugin }) _ _ (record { outside = c.args.outside.now; source = c.args.source.now; sink = c.args.sink.now }) c.open.new.main c.open.new.spare c.args.outside.now.moments (omega arith) (omega (arith, rests.last, c.requires.ready.outside.main_last))
    (record { faults = rests.faults; tells = rests.tells; earlier = λ t image le left. rests.left t image left }) c.open.ensures.spare (λ e. cc e) (λ ok told. inl (rests.holds told)) (λ e. cc e)

pub returns-in-Err-NotACatalogue-clause-worn_only : goal.returns-in-Err-NotACatalogue-clause-worn_only
returns-in-Err-NotACatalogue-clause-worn_only g c = λ found what place is told stood. absurd (no_both (g.D.Disk.disk c.args.outside.now.main).holds (g.D.Disk.disk c.args.outside.now.spare).holds found c.in-Err-NotACatalogue.side c.in-Err-NotACatalogue.at stood (c.in-Err-NotACatalogue.ensures.not_a_catalogue c.in-Err-NotACatalogue.side c.in-Err-NotACatalogue.at (ap Err c.in-Err-NotACatalogue.field-0-is) told (g.D.Disk.disk c.args.outside.now.spare).holds))

pub returns-in-Err-NotACatalogue-clause-serve : goal.returns-in-Err-NotACatalogue-clause-serve
returns-in-Err-NotACatalogue-clause-serve g c = λ found end begin its. absurd (no_both (g.D.Disk.disk c.args.outside.now.main).holds (g.D.Disk.disk c.args.outside.now.spare).holds found c.in-Err-NotACatalogue.side c.in-Err-NotACatalogue.at begin.stands (c.in-Err-NotACatalogue.ensures.not_a_catalogue c.in-Err-NotACatalogue.side c.in-Err-NotACatalogue.at (ap Err c.in-Err-NotACatalogue.field-0-is) begin.main_tells (g.D.Disk.disk c.args.outside.now.spare).holds))

pub returns-in-Err-DiskFault-clause-serve : goal.returns-in-Err-DiskFault-clause-serve
returns-in-Err-DiskFault-clause-serve g c = λ found end begin its.
    let main_old = g.D.Disk.disk c.args.outside.now.main in
    serves_looked_fault (record { disk = g.D.Disk.disk; source = g.S.Source.source; sink = g.K.Sink.sink; ambient = g.A.Ambient.ambient; plugin = g.P.Plugin.plugin }) (record { outside = c.args.outside.now; source = c.args.source.now; sink = c.args.sink.now }) found c.open.new.main c.open.new.spare begin
    (record { main_last = c.requires.ready.outside.main_last; spare_last = c.requires.spare_last; sink_last = c.requires.ready.sink_last; stores_last = c.requires.ready.outside.stores_last })
    (looked_rests main_old (g.D.Disk.disk c.open.new.main) c.open.ensures.looks c.open.ensures.later) c.open.ensures.spare end its (c.in-Err-DiskFault.ensures.cause (ap Err c.in-Err-DiskFault.field-0-is))

pub returns-in-Err-Memory-clause-serve : goal.returns-in-Err-Memory-clause-serve
returns-in-Err-Memory-clause-serve g c = λ found end begin its.
    let main_old = g.D.Disk.disk c.args.outside.now.main in
    serves_looked_memory (record { disk = g.D.Disk.disk; source = g.S.Source.source; sink = g.K.Sink.sink; ambient = g.A.Ambient.ambient; plugin = g.P.Plugin.plugin }) (record { outside = c.args.outside.now; source = c.args.source.now; sink = c.args.sink.now }) found c.open.new.main c.open.new.spare begin
    (record { main_last = c.requires.ready.outside.main_last; spare_last = c.requires.spare_last; sink_last = c.requires.ready.sink_last; stores_last = c.requires.ready.outside.stores_last })
    (looked_rests main_old (g.D.Disk.disk c.open.new.main) c.open.ensures.looks c.open.ensures.later) c.open.ensures.spare end its
