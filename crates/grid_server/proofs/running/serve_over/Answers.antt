use Rattle.std.proofs.Common.{◌≡◌, IsTrue, inl, inr, Err, refl, sym, ap, ◌∙◌, subst, arith}
use Rattle.std.specs.Prelude.{vec_len}
use Rattle.grid_model.specs.Applying.{apply_all}
use Rattle.grid_model.specs.Rows.{Cat}
use Rattle.chain_core.specs.Seen.{rules_of}
use Rattle.grid_server.specs.RunEnds.{run_end_of}
use Rattle.grid_server.specs.Running.{EndsServing, IsNotBegun}
use Rattle.run_open.specs.declared.error.OpenError.TheVariants as error
use Rattle.grid_server.specs.declared.status.Status.TheVariants as status
use Rattle.grid_server.proofs.BaseLemmas.{nobody_there}
use Rattle.grid_server.proofs.OpensLemmas.{first, open_out, opens_now, order_now, begin_now, run_out, serves_not, serves_still, stores_named}
use Rattle.grid_server.proofs.RestLemmas.{rests_where}
use Rattle.grid_server.proofs.RunLemmas.{stores_so, took_none}
use Rattle.grid_server.proofs.UnopenedLemmas.{ends_unopened, unopened_disk, unopened_is_disk, unopened_not_begun, unopened_not_long, unopened_not_refused, unopened_not_source, unopened_not_stores, unopened_sink}
use Rattle.grid_server.proofs.ViewLemmas.{passes_as, passes_then}
use Rattle.grid_server.proofs.running.serve_over.Goals as goal

pub returns-then-kept-given-clause-stores : goal.returns-then-kept-given-clause-stores
returns-then-kept-given-clause-stores g c = λ other.
    let kept : c.stores-kept.result ≡ c.args.store.cat.stores = c.stores-kept.ensures ∙ ap (λ (c : Cat). c.stores) c.tables-rows.ensures in
    let given : c.len-given.result ≡ vec_len c.args.outside.now.stores = c.len-given.ensures in (
      stores_so c.args.store.cat.stores (vec_len c.args.outside.now.stores) c.stores-kept.result c.len-given.result (g.K.Sink.sink c.args.sink.now) (g.K.Sink.sink c.refuse_stores.new.sink) c.refuse_stores.result kept given c.refuse_stores.ensures.refuses,
      refl,
      refl,
      refl,
    )

pub returns-then-kept-given-clause-stores_only : goal.returns-then-kept-given-clause-stores_only
returns-then-kept-given-clause-stores_only g c = λ had given is.
    stores_named c.stores-kept.result c.len-given.result had given (vec_len c.args.outside.now.stores) c.args.store.cat.stores c.refuse_stores.result c.refuse_stores.ensures.ends is
    (c.stores-kept.ensures ∙ ap (λ (c : Cat). c.stores) c.tables-rows.ensures) c.len-given.ensures c.if-kept-given.true

pub open_run-requires-clause-held : goal.open_run-requires-clause-held
open_run-requires-clause-held g c = record { sound = c.requires.sound; staged = ap (apply_all c.args.store.cat) c.requires.staged; keeps = c.requires.keeps; made = c.requires.made }

pub open_run-requires-clause-rules : goal.open_run-requires-clause-rules
open_run-requires-clause-rules g c = (rules_of c.in-Ok.rules, sym (ap (λ (x : Cat). x.rules) c.tables-rows.ensures) ∙ c.in-Ok.ensures.has)

pub sweep_and_serve-requires-clause-fits : goal.sweep_and_serve-requires-clause-fits
sweep_and_serve-requires-clause-fits g c =
    let holds = c.in-Ok-open_run.ensures.holds in
    record {
      held = holds.held;
      staged = holds.staged;
      pending = holds.pending;
      rules = holds.rules ∙ sym (ap (λ (x : Cat). x.rules) c.tables-rows.ensures) ∙ c.in-Ok.ensures.has;
      checked = c.in-Ok.ensures.checked;
      users = nobody_there c.open_run.new.store.cat c.in-Ok-new.sessions c.in-Ok-new.ensures;
    }

pub returns-in-Ok-open_run-clause-serve : goal.returns-in-Ok-open_run-clause-serve
returns-in-Ok-open_run-clause-serve g c = λ main spare end begin order looked spare_looked its.
    let cat = c.args.store.cat in
    let rules = rules_of c.in-Ok.rules in
    let has = sym (ap (λ (x : Cat). x.rules) c.tables-rows.ensures) ∙ c.in-Ok.ensures.has in
    let opened = c.in-Ok-open_run.ensures.opens (g.S.Source.source c.args.source.now) rules (order_now (record { disk = g.D.Disk.disk; source = g.S.Source.source; sink = g.K.Sink.sink; ambient = g.A.Ambient.ambient; plugin = g.P.Plugin.plugin })
    (record { outside = c.args.outside.now; source = c.args.source.now; sink = c.args.sink.now }) main spare cat begin order looked spare_looked)
    (begin_now (record { disk = g.D.Disk.disk; source = g.S.Source.source; sink = g.K.Sink.sink; ambient = g.A.Ambient.ambient; plugin = g.P.Plugin.plugin })
    (record { outside = c.args.outside.now; source = c.args.source.now; sink = c.args.sink.now }) main spare cat begin order looked spare_looked) has in
    c.sweep_and_serve.ensures.serves (first (record { disk = g.D.Disk.disk; source = g.S.Source.source; sink = g.K.Sink.sink; ambient = g.A.Ambient.ambient; plugin = g.P.Plugin.plugin })
    (record { outside = c.args.outside.now; source = c.args.source.now; sink = c.args.sink.now }) main spare) cat end
    (opens_now (record { disk = g.D.Disk.disk; source = g.S.Source.source; sink = g.K.Sink.sink; ambient = g.A.Ambient.ambient; plugin = g.P.Plugin.plugin })
    (record { outside = c.args.outside.now; source = c.args.source.now; sink = c.args.sink.now }) main spare cat begin order looked spare_looked
    (record { outside = c.open_run.new.outside; source = c.args.source.now; sink = c.open_run.new.sink }) c.open_run.new.store.cat rules opened.0
    (λ within. omega (arith, c.in-Ok-open_run.ensures.few within)) opened.1) its

pub returns-in-Ok-open_run-clause-worn : goal.returns-in-Ok-open_run-clause-worn
returns-in-Ok-open_run-clause-worn g c = λ stores none. elim ((c.in-Ok-open_run.ensures.no_room none).0.1) [ inl e ↦ absurd (cc e) | inr e ↦ absurd (cc e) ]

pub returns-in-Ok-open_run-clause-worn_only : goal.returns-in-Ok-open_run-clause-worn_only
returns-in-Ok-open_run-clause-worn_only g c = λ what place is told.
    run_out c.args.store.cat (g.D.Disk.disk c.sweep_and_serve.new.outside.main).holds (g.D.Disk.disk c.sweep_and_serve.new.outside.spare).holds what place
    (c.sweep_and_serve.ensures.worn_only what place is (subst IsTrue (sym c.in-Ok-open_run.ensures.passes.frame.main.tells) told))

pub returns-in-Ok-open_run-clause-passes : goal.returns-in-Ok-open_run-clause-passes
returns-in-Ok-open_run-clause-passes g c =
    passes_then (record { disk = g.D.Disk.disk; source = g.S.Source.source; sink = g.K.Sink.sink; ambient = g.A.Ambient.ambient; plugin = g.P.Plugin.plugin }) _ _ (c.sweep_and_serve.result ≡ status.DiskFault) (c.sweep_and_serve.result ≡ status.SinkFault)
    (record { outside = c.args.outside.now; source = c.args.source.now; sink = c.args.sink.now })
    (record { outside = c.open_run.new.outside; source = c.args.source.now; sink = c.open_run.new.sink })
    (record { outside = c.sweep_and_serve.new.outside; source = c.sweep_and_serve.new.source; sink = c.sweep_and_serve.new.sink }) (λ e. cc e)
    c.in-Ok-open_run.ensures.passes c.sweep_and_serve.ensures.passes

pub returns-in-Err-clause-serve : goal.returns-in-Err-clause-serve
returns-in-Err-clause-serve g c = λ main spare end begin order looked spare_looked its.
    let cat = c.args.store.cat in
    let has = sym (ap (λ (x : Cat). x.rules) c.tables-rows.ensures) ∙ c.in-Ok.ensures.has in
    let opens = c.in-Err.ensures.opens (g.S.Source.source c.args.source.now) (rules_of c.in-Ok.rules)
    (order_now (record { disk = g.D.Disk.disk; source = g.S.Source.source; sink = g.K.Sink.sink; ambient = g.A.Ambient.ambient; plugin = g.P.Plugin.plugin })
    (record { outside = c.args.outside.now; source = c.args.source.now; sink = c.args.sink.now }) main spare cat begin order looked spare_looked) (begin_now (record { disk = g.D.Disk.disk; source = g.S.Source.source; sink = g.K.Sink.sink; ambient = g.A.Ambient.ambient; plugin = g.P.Plugin.plugin })
    (record { outside = c.args.outside.now; source = c.args.source.now; sink = c.args.sink.now }) main spare cat begin order looked spare_looked) has in
    serves_not (record { disk = g.D.Disk.disk; source = g.S.Source.source; sink = g.K.Sink.sink; ambient = g.A.Ambient.ambient; plugin = g.P.Plugin.plugin })
    (record { outside = c.args.outside.now; source = c.args.source.now; sink = c.args.sink.now }) main spare cat begin order looked spare_looked
    (record { outside = c.open_run.new.outside; source = c.args.source.now; sink = c.open_run.new.sink }) c.in-Err.error end opens.0
    (λ within. omega (arith, c.in-Err.ensures.few within))
    (ap run_end_of (sym c.unopened.ensures) ∙ its) (c.in-Err.ensures.stops c.in-Err.error refl) (λ d. c.in-Err.ensures.passes.frame.cause (ap Err d))
    (λ d. c.in-Err.ensures.passes.sink_cause (ap Err d))

pub returns-in-Err-clause-worn : goal.returns-in-Err-clause-worn
returns-in-Err-clause-worn g c = λ stores none.
    let same = c.in-Err.ensures.no_room none in (
      subst IsNotBegun (sym c.unopened.ensures) (unopened_not_begun c.in-Err.error),
      rests_where g.D.Disk.disk c.args.outside.now.main c.open_run.new.outside.main (ap (λ o. o.main) same.1),
      refl,
      same.2,
      ap (λ o. o.stores) same.1,
    )

pub returns-in-Err-clause-worn_only : goal.returns-in-Err-clause-worn_only
returns-in-Err-clause-worn_only g c = λ what place is told.
    open_out c.args.store.cat (g.D.Disk.disk c.args.outside.now.main) (g.D.Disk.disk c.open_run.new.outside.main) (g.D.Disk.disk c.open_run.new.outside.spare).holds c.in-Err.error what place
    (sym c.unopened.ensures ∙ is) told (c.in-Err.ensures.stops c.in-Err.error refl)

pub returns-in-Err-clause-stores_only : goal.returns-in-Err-clause-stores_only
returns-in-Err-clause-stores_only g c = λ had given is. absurd (unopened_not_stores c.in-Err.error had given (sym c.unopened.ensures ∙ is))

pub returns-in-Err-clause-not_a_catalogue : goal.returns-in-Err-clause-not_a_catalogue
returns-in-Err-clause-not_a_catalogue g c = λ side place is. unopened_not_refused c.in-Err.error side place (sym c.unopened.ensures ∙ is)

pub returns-in-Err-clause-took : goal.returns-in-Err-clause-took
returns-in-Err-clause-took g c = λ told. took_none (g.S.Source.source c.args.source.now)

pub returns-in-Err-clause-long_only : goal.returns-in-Err-clause-long_only
returns-in-Err-clause-long_only g c = λ taken is. absurd (unopened_not_long c.in-Err.error taken (sym c.unopened.ensures ∙ is))

pub returns-in-Err-clause-passes : goal.returns-in-Err-clause-passes
returns-in-Err-clause-passes g c =
    passes_as (record { disk = g.D.Disk.disk; source = g.S.Source.source; sink = g.K.Sink.sink; ambient = g.A.Ambient.ambient; plugin = g.P.Plugin.plugin }) _ _ (c.unopened.result ≡ status.DiskFault) (c.unopened.result ≡ status.SinkFault)
    (record { outside = c.args.outside.now; source = c.args.source.now; sink = c.args.sink.now })
    (record { outside = c.open_run.new.outside; source = c.args.source.now; sink = c.open_run.new.sink })
    (λ d. c.unopened.ensures ∙ unopened_is_disk c.in-Err.error d)
    (λ d. ap Err (unopened_disk c.in-Err.error (sym c.unopened.ensures ∙ d))) (λ d. ap Err (unopened_sink c.in-Err.error (sym c.unopened.ensures ∙ d)))
    c.in-Err.ensures.passes

pub returns-in-Err-clause-source : goal.returns-in-Err-clause-source
returns-in-Err-clause-source g c = λ is. absurd (unopened_not_source c.in-Err.error (sym c.unopened.ensures ∙ is))

pub returns-in-Err-clause-ends : goal.returns-in-Err-clause-ends
returns-in-Err-clause-ends g c = subst EndsServing (sym c.unopened.ensures) (ends_unopened c.in-Err.error)

pub returns-in_default-clause-serve : goal.returns-in_default-clause-serve
returns-in_default-clause-serve g c = λ main spare end begin order looked spare_looked its.
    serves_still (record { disk = g.D.Disk.disk; source = g.S.Source.source; sink = g.K.Sink.sink; ambient = g.A.Ambient.ambient; plugin = g.P.Plugin.plugin })
    (record { outside = c.args.outside.now; source = c.args.source.now; sink = c.args.sink.now }) main spare c.args.store.cat begin order looked spare_looked end its

pub returns-in_default-new-clause-serve : goal.returns-in_default-new-clause-serve
returns-in_default-new-clause-serve g c = λ main spare end begin order looked spare_looked its.
    serves_still (record { disk = g.D.Disk.disk; source = g.S.Source.source; sink = g.K.Sink.sink; ambient = g.A.Ambient.ambient; plugin = g.P.Plugin.plugin })
    (record { outside = c.args.outside.now; source = c.args.source.now; sink = c.args.sink.now }) main spare c.args.store.cat begin order looked spare_looked end its
