-- What calls pass of all devices, by how they ended.
use Rattle.std.proofs.Common.{◌≡◌, Option, Some, Err, IsErrOf, sym, ap, ◌∙◌}
use Rattle.grid_outside.specs.Disk.{DiskState}
use Rattle.grid_outside.specs.Files.{StoreState}
use Rattle.grid_outside.specs.Sink.{SinkState}
use Rattle.grid_deed.proofs.Frames.{frame_as, frame_none, goes_nowhere}
use Rattle.run_laws.specs.Passes.{CallsPass, Seen}
use Rattle.service_run.specs.declared.ending.Ending.{Ending}
use Rattle.service_run.specs.declared.ending.Ending.TheVariants as ending

pub same_Err : {T : Type 0} (e a : Ending) → IsErrOf {T = T} (Err e) a → e ≡ a
same_Err e a is = cc

same_Some : (e a : Ending) → Some e ≡ Some a → e ≡ a
same_Some e a is = cc

module _ {D A P K : Type 0} (disk : D → DiskState) (plugin : P → StoreState) (sink : K → SinkState) where
  -- nothing was called
  pub passes_none : (failed sink_failed : Type 0) → (¬ failed) → (¬ sink_failed) → (at : Seen D A P K) → CallsPass disk plugin sink failed sink_failed at at
  passes_none failed sink_failed well sunk at = record {
    frame = frame_none disk plugin failed at.outside well;
    sink_last = λ last. last;
    goes = goes_nowhere at.outside.moments (sink at.sink);
    sink_cause = λ f. absurd (sunk f);
  }

  -- with other words for a failure
  pub passes_as : (failed sink_failed other other_sink : Type 0) (a b : Seen D A P K) → (failed → other) → (other → failed) → (other_sink → sink_failed)
      → CallsPass disk plugin sink failed sink_failed a b → CallsPass disk plugin sink other other_sink a b
  passes_as failed sink_failed other other_sink a b there back sunk one = record {
    frame = frame_as disk plugin failed other (record a.outside { ambient = b.outside.ambient }) b.outside there back one.frame;
    sink_last = one.sink_last;
    goes = one.goes;
    sink_cause = λ f. one.sink_cause (sunk f);
  }

  -- by the stop that was answered
  pub passes_stopped : {T : Type 0} (stop : Option Ending) (e : Ending) (a b : Seen D A P K) → stop ≡ Some e
      → CallsPass disk plugin sink (stop ≡ Some ending.Disk) (stop ≡ Some ending.Sink) a b
      → CallsPass disk plugin sink (IsErrOf {T = T} (Err e) ending.Disk) (IsErrOf {T = T} (Err e) ending.Sink) a b
  passes_stopped stop e a b is =
      passes_as (stop ≡ Some ending.Disk) (stop ≡ Some ending.Sink) _ _ a b (λ f. ap Err (same_Some e ending.Disk (sym is ∙ f)))
      (λ f. is ∙ ap Some (same_Err e ending.Disk f)) (λ f. is ∙ ap Some (same_Err e ending.Sink f))
