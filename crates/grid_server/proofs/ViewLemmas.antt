-- Calls of all devices, one after another, as worlds see them.
use Rattle.std.proofs.Common.{◌≡◌, ℕ, ◌≤◌, refl, sym, ap, subst, arith}
use Rattle.grid_outside.specs.Fault.{Rose}
use Rattle.grid_deed.specs.Frame.{Goes, AddsInRoom}
use Rattle.grid_deed.proofs.Frames.{frame_none, frame_then, frame_as, frame_main, room_same, goes_nowhere, goes_more}
use Rattle.run_laws.specs.declared.around.Around.{Around}
use Rattle.run_laws.specs.Went.{Went, AreInOrder}
use Rattle.run_laws.specs.Passes.{CallsPass}
use Rattle.grid_server.specs.Serving.{SinkWent}
use Rattle.grid_server.specs.Views.{Views, WasRead, world_of, PassesOn}
use Rattle.grid_server.proofs.RestLemmas.{rests_where}

pub read_same : {S : Type 0} (source : S → _) (s : S) → WasRead (source s) (source s)
read_same source s = record { faults = omega arith; tells = refl }

module _ {D S K A P : Type 0} (v : Views D S K A P) where
  -- nothing but the source was called
  pub passes_none : (disk_failed sink_failed : Type 0) (a b : Around D S K A P) → (¬ disk_failed) → (¬ sink_failed) → b.outside ≡ a.outside → b.sink ≡ a.sink → PassesOn v disk_failed sink_failed a b
  passes_none disk_failed sink_failed a b not_disk not_sink same_outside same_sink =
      let self : CallsPass v.disk v.plugin v.sink disk_failed sink_failed (record { outside = a.outside; sink = a.sink }) (record { outside = a.outside; sink = a.sink }) = record {
        frame = frame_none v.disk v.plugin disk_failed a.outside not_disk;
        sink_last = λ last. last;
        goes = goes_nowhere a.outside.moments (v.sink a.sink);
        sink_cause = λ f. absurd (not_sink f);
      } in
      let O : _ → Type 0 = λ o. CallsPass v.disk v.plugin v.sink disk_failed sink_failed (record { outside = a.outside; sink = a.sink }) (record { outside = o; sink = a.sink }) in
      let K : _ → Type 0 = λ k. CallsPass v.disk v.plugin v.sink disk_failed sink_failed (record { outside = a.outside; sink = a.sink }) (record { outside = b.outside; sink = k }) in
      subst K (sym same_sink) (subst O (sym same_outside) self)

  -- the disks were called
  pub passes_main : (disk_failed sink_failed : Type 0) (a : Around D S K A P) (main spare : D) (moments : ℕ) → a.outside.moments ≤ moments → (v.disk main).last ≤ moments → Goes a.outside.moments (v.disk a.outside.main) (v.disk main) → spare ≡ a.outside.spare
      → (disk_failed → Rose (v.disk a.outside.main).faults (v.disk main).faults) → ((¬ disk_failed) → AddsInRoom (v.disk a.outside.main) (v.disk main)) → (¬ sink_failed)
      → PassesOn v disk_failed sink_failed a (record a { outside = record a.outside { main = main; spare = spare; moments = moments } })
  passes_main disk_failed sink_failed a main spare moments drawn last goes same cause room not_sink = record {
    frame = frame_main v.disk v.plugin disk_failed a.outside main spare moments drawn last goes same cause room;
    sink_last = λ was. omega (arith, was, drawn);
    goes = goes_nowhere a.outside.moments (v.sink a.sink);
    sink_cause = λ f. absurd (not_sink f);
  }

  -- a sink was called
  pub passes_sink : (disk_failed sink_failed : Type 0) (a : Around D S K A P) (sink : K) (moments : ℕ) → SinkWent a.outside.moments moments (v.sink a.sink) (v.sink sink) → (¬ disk_failed) → (sink_failed → Rose (v.sink a.sink).faults (v.sink sink).faults)
      → (v.disk a.outside.main).last ≤ a.outside.moments → PassesOn v disk_failed sink_failed a (record a { outside = record a.outside { moments = moments }; sink = sink })
  passes_sink disk_failed sink_failed a sink moments went not_disk cause last = record {
    frame = frame_main v.disk v.plugin disk_failed a.outside a.outside.main a.outside.spare moments went.drawn_from (omega (arith, last, went.drawn_from)) (goes_nowhere a.outside.moments (v.disk a.outside.main)) refl (λ f. absurd (not_disk f)) (λ ok. room_same v.disk a.outside.main a.outside.main refl);
    sink_last = went.last;
    goes = went.goes;
    sink_cause = cause;
  }

  -- with other words for the failures
  pub passes_as : (disk_failed sink_failed disk_other sink_other : Type 0) (a b : Around D S K A P) → (disk_failed → disk_other) → (disk_other → disk_failed) → (sink_other → sink_failed)
      → PassesOn v disk_failed sink_failed a b → PassesOn v disk_other sink_other a b
  passes_as disk_failed sink_failed disk_other sink_other a b there back sink_back p = record {
    frame = frame_as v.disk v.plugin disk_failed disk_other (record a.outside { ambient = b.outside.ambient }) b.outside there back p.frame;
    sink_last = p.sink_last;
    goes = p.goes;
    sink_cause = λ f. p.sink_cause (sink_back f);
  }

  -- one after another, where the first did not fail
  pub passes_then : (disk_first sink_first disk_failed sink_failed : Type 0) (a b c : Around D S K A P) → (¬ disk_first) → PassesOn v disk_first sink_first a b → PassesOn v disk_failed sink_failed b c
      → PassesOn v disk_failed sink_failed a c
  passes_then disk_first sink_first disk_failed sink_failed a b c not one two = record {
    frame = frame_then v.disk v.plugin disk_first disk_failed (record a.outside { ambient = c.outside.ambient }) (record b.outside { ambient = c.outside.ambient }) c.outside not (record {
      drawn = one.frame.drawn;
      main_last = one.frame.main_last;
      stores_last = one.frame.stores_last;
      main = one.frame.main;
      stores = one.frame.stores;
      spare = one.frame.spare;
      ambient = refl;
      cause = one.frame.cause;
      in_room = one.frame.in_room;
    }) two.frame;
    sink_last = λ last. two.sink_last (one.sink_last last);
    goes = goes_more a.outside.moments b.outside.moments (v.sink a.sink) (v.sink b.sink) (v.sink c.sink) one.frame.drawn one.goes two.goes;
    sink_cause = λ f. omega (arith, two.sink_cause f, one.goes.faults);
  }

  module _ (disk_failed sink_failed : Type 0) (a b : Around D S K A P) (p : PassesOn v disk_failed sink_failed a b) where
    pub went_of : Went (world_of v a) (world_of v b)
    went_of = record {
      drawn = p.frame.drawn;
      main = p.frame.main;
      sink = p.goes;
      spare = rests_where v.disk a.outside.spare b.outside.spare p.frame.spare;
      count = p.frame.stores.count;
      stores = λ slot before after was is. record { goes = p.frame.stores.later slot before after was is };
    }

    pub order_of : AreInOrder (world_of v a) → AreInOrder (world_of v b)
    order_of order = record {
      main_last = p.frame.main_last order.main_last;
      spare_last = omega (arith, order.spare_last, p.frame.drawn, ap (λ (d : D). (v.disk d).last) p.frame.spare);
      sink_last = p.sink_last order.sink_last;
      stores_last = p.frame.stores_last order.stores_last;
    }
