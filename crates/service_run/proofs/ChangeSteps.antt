-- How a call ends that changes rows alone, or fails whatever marks come.
use Rattle.std.proofs.Common.{◌≡◌, inl, ◌≤◌, List, [], Result, Ok, Err, IsTrue, refl, sym, subst}
use Rattle.std.specs.Prelude.{⊤}
use Rattle.std.proofs.lemmas.List.{append-nil}
use Rattle.grid_outside.specs.Ambient.{AmbientState}
use Rattle.grid_outside.specs.Device.{EachPair}
use Rattle.grid_outside.specs.Disk.{DiskState}
use Rattle.grid_outside.specs.Files.{StoreState}
use Rattle.grid_outside.specs.Sink.{SinkState}
use Rattle.grid_outside.specs.Source.{SourceState}
use Rattle.grid_outside.specs.declared.outside.Outside.{Outside}
use Rattle.chain_run.specs.Places.{course_at}
use Rattle.grid_model.specs.Rows.{Cat}
use Rattle.grid_model.specs.RowGrids.{grid_of}
use Rattle.grid_model.specs.Applying.{is_user}
use Rattle.grid_model.specs.Meanings.{Meaning, gives}
use Rattle.grid_model.specs.Doing.{Course, Did, did_fail}
use Rattle.grid_model.specs.declared.calls.Call.{Call}
use Rattle.grid_model.specs.declared.deltas.Delta.{Delta}
use Rattle.grid_model.specs.declared.refusal.Failure.{Failure}
use Rattle.grid_journal.specs.Journal.{Journal}
use Rattle.grid_deed.specs.Held.{IsHeld, IsStaged}
use Rattle.grid_deed.proofs.Frames.{stores_same}
use Rattle.grid_deed.proofs.Wholes.{whole_turned_none}
use Rattle.grid_headline.specs.Worlds.{World}
use Rattle.run_laws.specs.Around.{around}
use Rattle.run_laws.proofs.Draws.{gave-none}
use Rattle.run_laws.proofs.OneMark.{caused_none}
use Rattle.size_laws.specs.Within.{IsWithin}
use Rattle.service_run.specs.declared.command.Command.{Command}
use Rattle.service_run.specs.declared.ending.Ending.{Ending}
use Rattle.service_run.specs.declared.ending.Ending.TheVariants as ending
use Rattle.service_run.specs.Changes.{LeadOn, MakesGridOf}
use Rattle.service_run.specs.Commands.{place_by}
use Rattle.service_run.specs.Steps.{IsStep, StaysAway, StepEnds}
use Rattle.service_run.proofs.SeenFiles.{looks_same}
use Rattle.service_run.proofs.StillSteps.{beside_led, beside_same, stays_away, step_still}

module _ {D A P : Type 0} (disk : D → DiskState) (ambient : A → AmbientState) (plugin : P → StoreState) (source : SourceState) (o : Outside D A P) (sink : SinkState) (kept : Cat) (rows : Journal) (x : Command) (call : Call) (undo : List Call)
    (held : IsHeld kept (disk o.main) rows) (main_last : (disk o.main).last ≤ o.moments) (sink_last : sink.last ≤ o.moments) (does : Course → Meaning Did) where
  abbrev at : World P
  at = around disk ambient plugin o sink source

  ends_so : (after : Journal) (result : Result (Result ⊤ Failure) Ending) → StepEnds at at kept rows x call undo x after does result → IsStep at at kept rows x call undo x after does result
  ends_so after result = step_still disk ambient plugin source o o sink kept rows x call undo x after held main_last sink_last refl refl (looks_same plugin o.stores.items) (gave-none (ambient o.ambient)) does result

  stays : (after : Journal) → IsHeld kept (disk o.main) after → after.cat.pending ≡ rows.cat.pending → after.cat.numbers ≡ rows.cat.numbers → StaysAway at at kept rows x call undo x after []
  stays after held_after pending numbers =
      stays_away disk ambient plugin source o o sink kept rows x call undo x after held main_last sink_last refl refl (looks_same plugin o.stores.items) [] held_after pending numbers (sym (append-nil x.untold))

  later : EachPair (λ k before after. (plugin before).faults ≤ (plugin after).faults) o.stores.items o.stores.items
  later k before after was is = ((stores_same plugin o.moments o.stores.items).later k before after was is).faults

  -- it came to no end
  pub changes_cut : (after : Journal) → IsStep at at kept rows x call undo x after does (Err ending.Memory)
  changes_cut after = ends_so after (Err ending.Memory) tt

  -- changes of rows were staged
  pub changes_made : (user : IsTrue (is_user rows.cat x.user)) (end : Cat) (deltas : List Delta) → LeadOn rows.cat deltas end → MakesGridOf rows.cat end does
      → (IsWithin (grid_of rows.cat) → IsWithin (grid_of end)) → (after : Journal) → IsStaged kept end (disk o.main) after
      → IsStep at at kept rows x call undo x after does (Ok (Ok tt))
  changes_made user end deltas led makes within after staged =
      let E : Cat → Type 0 = λ c. LeadOn rows.cat deltas c × MakesGridOf rows.cat c does × (IsWithin (grid_of rows.cat) → IsWithin (grid_of c)) in
      let now = subst E (sym staged.cat) (led, makes, within) in
      let beside = beside_led rows.cat after.cat deltas now.0 now.2 in
      ends_so after (Ok (Ok tt)) (record {
        did = record { user = beside.names x.user user; marks = []; taken = sym (append-nil x.marks); did = λ more begun stopped. (stopped, now.1 (course_at (place_by rows.cat x) more begun stopped) refl) };
        beside = beside;
        marks = [];
        marks_are = sym (append-nil x.marks);
        rest = refl;
        spelled = refl;
        is_kept = inl (stays after staged.held now.0.pending now.0.numbers);
        told_of = tt;
        caused = caused_none at at refl later [] (λ slot. refl);
        gave = gave-none (ambient o.ambient);
        whole = λ by_kept by_memory told settled t late. whole_turned_none plugin t rows.cat after.cat o.stores.items now.0.turns (by_memory t late);
      })

  -- it failed whatever marks come
  fails : (f : Failure) → ((s : Course) → s.grid ≡ grid_of rows.cat → does s ≡ gives (did_fail s f)) → IsStep at at kept rows x call undo x rows does (Ok (Err f))
  fails f fails_so = ends_so rows (Ok (Err f)) (record {
    did = record { user = refl; marks = []; taken = sym (append-nil x.marks); did = λ more begun stopped. (stopped, fails_so (course_at (place_by rows.cat x) more begun stopped) refl) };
    beside = beside_same rows.cat;
    marks = [];
    marks_are = sym (append-nil x.marks);
    rest = refl;
    spelled = refl;
    is_kept = inl (stays rows held refl refl);
    told_of = tt;
    caused = caused_none at at refl later [] (λ slot. refl);
    gave = gave-none (ambient o.ambient);
    whole = λ by_kept by_memory told settled. by_memory;
  })

  -- the same failure, as it is read
  pub fails_as : (f shown : Failure) → shown ≡ f → ((s : Course) → s.grid ≡ grid_of rows.cat → does s ≡ gives (did_fail s f)) → IsStep at at kept rows x call undo x rows does (Ok (Err shown))
  fails_as f shown same fails_so = let S : Failure → Type 0 = λ e. IsStep at at kept rows x call undo x rows does (Ok (Err e)) in subst S (sym same) (fails f fails_so)
