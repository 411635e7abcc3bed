-- Calls of all devices, one after another.
use Rattle.std.proofs.Common.{◌≡◌, refl, sym, subst, arith}
use Rattle.grid_outside.specs.Ambient.{AmbientState}
use Rattle.grid_outside.specs.Disk.{DiskState}
use Rattle.grid_outside.specs.Files.{StoreState}
use Rattle.grid_outside.specs.Sink.{SinkState}
use Rattle.grid_outside.specs.Source.{SourceState}
use Rattle.grid_deed.specs.Frame.{Frame}
use Rattle.grid_deed.proofs.Frames.{frame_as, frame_then, goes_more}
use Rattle.run_laws.specs.Around.{around}
use Rattle.run_laws.specs.Passes.{CallsPass, Seen}
use Rattle.run_laws.specs.Went.{Rests, Went}

-- a disk that was not called
rests_where : {D : Type 0} (disk : D → DiskState) (a b : D) → b ≡ a → Rests (disk a) (disk b)
rests_where {D} disk a b same =
    let R : D → Type 0 = λ d. Rests (disk a) (disk d) in
    subst R (sym same) (record { faults = omega arith; tells = refl; last = refl; holds = λ told. refl; left = λ t image left. left })

-- calls that did not fail, with other words for a failure
pub passes_well : {D A P K : Type 0} (disk : D → DiskState) (plugin : P → StoreState) (sink : K → SinkState) (failed sink_failed other other_sink : Type 0)
    (a b : Seen D A P K) → (¬ failed)
    → (¬ other) → (¬ other_sink) → CallsPass disk plugin sink failed sink_failed a b → CallsPass disk plugin sink other other_sink a b
passes_well disk plugin sink failed sink_failed other other_sink a b well other_well sunk one = record {
  frame = frame_as disk plugin failed other (record a.outside { ambient = b.outside.ambient }) b.outside (λ f. absurd (well f)) (λ f. absurd (other_well f))
      one.frame;
  sink_last = one.sink_last;
  goes = one.goes;
  sink_cause = λ f. absurd (sunk f);
}

-- with other words for the same failures
pub passes_as : {D A P K : Type 0} (disk : D → DiskState) (plugin : P → StoreState) (sink : K → SinkState) (failed sink_failed other other_sink : Type 0)
    (a b : Seen D A P K) → (failed → other) → (other → failed) → (other_sink → sink_failed) → CallsPass disk plugin sink failed sink_failed a b
    → CallsPass disk plugin sink other other_sink a b
passes_as disk plugin sink failed sink_failed other other_sink a b there back sink_back one = record {
  frame = frame_as disk plugin failed other (record a.outside { ambient = b.outside.ambient }) b.outside there back one.frame;
  sink_last = one.sink_last;
  goes = one.goes;
  sink_cause = λ f. one.sink_cause (sink_back f);
}

module _ {D A P K : Type 0} (disk : D → DiskState) (plugin : P → StoreState) (sink : K → SinkState) (failed sink_failed : Type 0) where
  -- the first of them did not fail
  pub passes_then : (a b c : Seen D A P K) → CallsPass disk plugin sink ⊥ ⊥ a b → CallsPass disk plugin sink failed sink_failed b c
      → CallsPass disk plugin sink failed sink_failed a c
  passes_then a b c one two =
      let second : Frame disk plugin failed (record b.outside { ambient = c.outside.ambient }) c.outside = two.frame in
      record {
        frame = frame_then disk plugin ⊥ failed (record a.outside { ambient = c.outside.ambient }) (record b.outside { ambient = c.outside.ambient })
            c.outside (λ e. e)
            (frame_asked a b one c.outside.ambient) second;
        sink_last = λ last. two.sink_last (one.sink_last last);
        goes = goes_more a.outside.moments b.outside.moments (sink a.sink) (sink b.sink) (sink c.sink) one.frame.drawn one.goes two.goes;
        sink_cause = λ f. omega (arith, two.sink_cause f, one.goes.faults);
      }
    where
      -- the ambient may have been asked
      frame_asked : (a b : Seen D A P K) → CallsPass disk plugin sink ⊥ ⊥ a b → (x : A)
          → Frame disk plugin ⊥ (record a.outside { ambient = x }) (record b.outside { ambient = x })
      frame_asked a b one x = record {
        drawn = one.frame.drawn;
        main_last = one.frame.main_last;
        stores_last = one.frame.stores_last;
        main = one.frame.main;
        stores = one.frame.stores;
        spare = one.frame.spare;
        ambient = refl;
        cause = one.frame.cause;
        in_room = one.frame.in_room;
      }

  -- all that runs see of them
  pub went_of : (ambient : A → AmbientState) (source : SourceState) (a b : Seen D A P K) → CallsPass disk plugin sink failed sink_failed a b
      → Went (around disk ambient plugin a.outside (sink a.sink) source) (around disk ambient plugin b.outside (sink b.sink) source)
  went_of ambient source a b passes = record {
    drawn = passes.frame.drawn;
    main = passes.frame.main;
    sink = passes.goes;
    spare = rests_where disk a.outside.spare b.outside.spare passes.frame.spare;
    count = passes.frame.stores.count;
    stores = λ slot before after was is. record { goes = passes.frame.stores.later slot before after was is };
  }
