-- Calls of all devices, one after another.
use Rattle.std.proofs.Common.{ℕ, ◌≤◌, sym, subst, arith}
use Rattle.grid_outside.specs.Device.{Between}
use Rattle.grid_outside.specs.Disk.{DiskState}
use Rattle.grid_outside.specs.Fault.{Rose}
use Rattle.grid_outside.specs.Files.{StoreState}
use Rattle.grid_outside.specs.Sink.{SinkState, AddsPart}
use Rattle.grid_outside.specs.declared.outside.Outside.{Outside}
use Rattle.grid_model.specs.Names.{Text}
use Rattle.grid_deed.specs.Frame.{Frame}
use Rattle.grid_deed.proofs.Frames.{frame_as, frame_none, frame_then, goes_between, goes_nowhere}
use Rattle.run_laws.specs.Passes.{CallsPass}

module _ {D A P K : Type 0} (disk : D → DiskState) (plugin : P → StoreState) (sink : K → SinkState) where
  -- the sink was not called
  pub passes_framed : (failed sink_failed : Type 0) (o n : Outside D A P) (a : A) (k : K) → (¬ sink_failed) → Frame disk plugin failed (record o { ambient = a }) n
      → CallsPass disk plugin sink failed sink_failed (record { outside = o; sink = k }) (record { outside = n; sink = k })
  passes_framed failed sink_failed o n a k unsunk frame =
      let F : A → Type 0 = λ x. Frame disk plugin failed (record o { ambient = x }) n in
      record {
        frame = subst F (sym frame.ambient) frame;
        sink_last = λ last. omega (arith, last, frame.drawn);
        goes = goes_nowhere o.moments (sink k);
        sink_cause = λ f. absurd (unsunk f);
      }

  -- nothing was called, but the ambient
  pub passes_none : (failed sink_failed : Type 0) (o : Outside D A P) (a : A) (k : K) → (¬ failed) → (¬ sink_failed)
      → CallsPass disk plugin sink failed sink_failed (record { outside = o; sink = k }) (record { outside = record o { ambient = a }; sink = k })
  passes_none failed sink_failed o a k unfailed unsunk =
      passes_framed failed sink_failed o (record o { ambient = a }) a k unsunk (frame_none disk plugin failed (record o { ambient = a }) unfailed)

  -- the sink was called last
  pub passes_told : (failed sink_failed : Type 0) (o m : Outside D A P) (to : ℕ) (k l : K) (text : Text) → Frame disk plugin failed o m → m.moments ≤ to → Between m.moments to (AddsPart text) (sink k) (sink l) → (sink_failed → Rose (sink k).faults (sink l).faults)
      → CallsPass disk plugin sink failed sink_failed (record { outside = o; sink = k }) (record { outside = record m { moments = to }; sink = l })
  passes_told failed sink_failed o m to k l text frame later told cause =
      let n : Outside D A P = record m { moments = to } in
      let goes = goes_between m.moments to (AddsPart text) (sink k) (sink l) told in
      let F : A → Type 0 = λ x. Frame disk plugin failed (record o { ambient = x }) n in
      record {
        frame = subst F (sym frame.ambient) (record {
          drawn = omega (arith, frame.drawn, later);
          main_last = λ last. omega (arith, frame.main_last last, later);
          stores_last = λ last slot store at. omega (arith, frame.stores_last last slot store at, later);
          main = frame.main;
          stores = frame.stores;
          spare = frame.spare;
          ambient = frame.ambient;
          cause = frame.cause;
          in_room = frame.in_room;
        });
        sink_last = λ last. told.last;
        goes = record { faults = goes.faults; tells = goes.tells; earlier = λ t image le left. goes.earlier t image (omega (arith, le, frame.drawn)) left };
        sink_cause = cause;
      }

  -- stores were called behind that, and nothing failed
  pub passes_on : (first first_sink failed sink_failed : Type 0) (o m n : Outside D A P) (k l : K) → (¬ first) → (¬ failed) → (¬ sink_failed)
      → CallsPass disk plugin sink first first_sink (record { outside = o; sink = k }) (record { outside = m; sink = l }) → Frame disk plugin ⊥ m n
      → CallsPass disk plugin sink failed sink_failed (record { outside = o; sink = k }) (record { outside = n; sink = l })
  passes_on first first_sink failed sink_failed o m n k l well unfailed unsunk one two =
      let F : A → Type 0 = λ x. Frame disk plugin failed (record o { ambient = x }) n in
      record {
        frame = subst F (sym two.ambient) (frame_as disk plugin ⊥ failed (record o { ambient = m.ambient }) n (λ e. absurd e) unfailed (frame_then disk plugin first ⊥ (record o { ambient = m.ambient }) m n well one.frame two));
        sink_last = λ last. omega (arith, one.sink_last last, two.drawn);
        goes = one.goes;
        sink_cause = λ f. absurd (unsunk f);
      }

  -- the same, with other words for the failures, where the ambient was asked before
  pub passes_as : (first first_sink failed sink_failed : Type 0) (o n : Outside D A P) (a : A) (k l : K) → (first → failed) → (failed → first) → (sink_failed → first_sink)
      → CallsPass disk plugin sink first first_sink (record { outside = record o { ambient = a }; sink = k }) (record { outside = n; sink = l })
      → CallsPass disk plugin sink failed sink_failed (record { outside = o; sink = k }) (record { outside = n; sink = l })
  passes_as first first_sink failed sink_failed o n a k l there back sink_back one = record {
    frame = frame_as disk plugin first failed (record o { ambient = n.ambient }) n there back one.frame;
    sink_last = one.sink_last;
    goes = one.goes;
    sink_cause = λ f. one.sink_cause (sink_back f);
  }
