-- What calls of all devices leave, as the next ones find it.
use Rattle.std.proofs.Common.{◌≡◌, ℕ, ◌+◌, ◌≤◌, refl, sym, ap, subst, arith}
use Rattle.grid_outside.specs.Ambient.{AmbientState}
use Rattle.grid_outside.specs.Device.{Between}
use Rattle.grid_outside.specs.Disk.{DiskState}
use Rattle.grid_outside.specs.Fault.{Rose}
use Rattle.grid_outside.specs.Files.{StoreState}
use Rattle.grid_outside.specs.Sink.{AddsPart, SinkState}
use Rattle.grid_outside.specs.Source.{SourceState}
use Rattle.grid_outside.specs.declared.outside.Outside.{Outside}
use Rattle.grid_model.specs.Names.{Text}
use Rattle.grid_deed.specs.Frame.{AddsInRoom, Goes}
use Rattle.grid_deed.proofs.Frames.{frame_as, frame_main, frame_none, goes_between, goes_nowhere, room_same}
use Rattle.run_laws.specs.Around.{around}
use Rattle.run_laws.specs.Passes.{AreReady, CallsPass, Seen}
use Rattle.run_laws.specs.Went.{AreInOrder, Rests}

module _ {D A P K : Type 0} (disk : D → DiskState) (plugin : P → StoreState) (sink : K → SinkState) (failed sink_failed : Type 0) (a b : Seen D A P K) (passes : CallsPass disk plugin sink failed sink_failed a b) where
  -- so many moments may still be drawn
  pub ready-after : (more less : ℕ) → AreReady disk plugin sink more a → b.outside.moments + less ≤ a.outside.moments + more → AreReady disk plugin sink less b
  ready-after more less ready within = record {
    outside = record {
      main_last = passes.frame.main_last ready.outside.main_last;
      stores_last = passes.frame.stores_last ready.outside.stores_last;
      room = omega (arith, ready.outside.room, within);
    };
    sink_last = passes.sink_last ready.sink_last;
  }

  pub order-after : (ambient : A → AmbientState) (source : SourceState) → AreInOrder (around disk ambient plugin a.outside (sink a.sink) source)
      → AreInOrder (around disk ambient plugin b.outside (sink b.sink) source)
  order-after ambient source order = record {
    main_last = passes.frame.main_last order.main_last;
    spare_last = omega (arith, order.spare_last, passes.frame.drawn, ap (λ (d : D). (disk d).last) passes.frame.spare);
    sink_last = passes.sink_last order.sink_last;
    stores_last = passes.frame.stores_last order.stores_last;
  }

  -- with other words for the failures
  pub passes-as : (other sink_other : Type 0) → (failed → other) → (other → failed) → (sink_other → sink_failed) → CallsPass disk plugin sink other sink_other a b
  passes-as other sink_other there back sink_back = record {
    frame = frame_as disk plugin failed other (record a.outside { ambient = b.outside.ambient }) b.outside there back passes.frame;
    sink_last = passes.sink_last;
    goes = passes.goes;
    sink_cause = λ f. passes.sink_cause (sink_back f);
  }

-- a disk that was not called
pub rests-where : {D : Type 0} (disk : D → DiskState) (a b : D) → b ≡ a → Rests (disk a) (disk b)
rests-where {D} disk a b same =
    let R : D → Type 0 = λ d. Rests (disk a) (disk d) in
    subst R (sym same) (record { faults = omega arith; tells = refl; last = refl; holds = λ told. refl; left = λ t image left. left })

-- ---- single calls

module _ {D A P K : Type 0} (disk : D → DiskState) (plugin : P → StoreState) (sink : K → SinkState) (failed sink_failed : Type 0) (o : Outside D A P) (k : K) where
  -- nothing was called
  pub passes-none : (¬ failed) → (¬ sink_failed) → CallsPass disk plugin sink failed sink_failed (record { outside = o; sink = k }) (record { outside = o; sink = k })
  passes-none unfailed unsunk = record {
    frame = frame_none disk plugin failed o unfailed;
    sink_last = λ last. last;
    goes = goes_nowhere o.moments (sink k);
    sink_cause = λ f. absurd (unsunk f);
  }

  -- the sink was called
  pub passes-told : (¬ failed) → (to : ℕ) (l : K) (text : Text) → o.moments ≤ to → (disk o.main).last ≤ o.moments → Between o.moments to (AddsPart text) (sink k) (sink l)
      → (sink_failed → Rose (sink k).faults (sink l).faults)
      → CallsPass disk plugin sink failed sink_failed (record { outside = o; sink = k }) (record { outside = record o { moments = to }; sink = l })
  passes-told unfailed to l text drawn last told cause = record {
    frame = frame_main disk plugin failed o o.main o.spare to drawn (omega (arith, last, drawn)) (goes_nowhere o.moments (disk o.main)) refl (λ f. absurd (unfailed f)) (λ ok. room_same disk o.main o.main refl);
    sink_last = λ was. told.last;
    goes = goes_between o.moments to (AddsPart text) (sink k) (sink l) told;
    sink_cause = cause;
  }

  -- main was called
  pub passes-main : (¬ sink_failed) → (main spare : D) (to : ℕ) → o.moments ≤ to → (disk main).last ≤ to → Goes o.moments (disk o.main) (disk main) → spare ≡ o.spare
      → (failed → Rose (disk o.main).faults (disk main).faults) → ((¬ failed) → AddsInRoom (disk o.main) (disk main))
      → CallsPass disk plugin sink failed sink_failed (record { outside = o; sink = k }) (record { outside = record o { main = main; spare = spare; moments = to }; sink = k })
  passes-main unsunk main spare to drawn last goes same cause room = record {
    frame = frame_main disk plugin failed o main spare to drawn last goes same cause room;
    sink_last = λ was. omega (arith, was, drawn);
    goes = goes_nowhere o.moments (sink k);
    sink_cause = λ f. absurd (unsunk f);
  }
