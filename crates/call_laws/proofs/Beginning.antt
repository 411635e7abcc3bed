-- Before any call is made.
use Rattle.std.proofs.Common.{◌≡◌, ℕ, ◌<◌, List, [], ◌++◌, IsTrue, refl, sym, ap, ◌∙◌, subst, arith}
use Rattle.std.proofs.lemmas.List.{append-nil}
use Rattle.grid_outside.specs.Ambient.{AmbientState}
use Rattle.grid_outside.specs.Device.{IsSettled}
use Rattle.grid_outside.specs.Disk.{DiskState}
use Rattle.grid_outside.specs.Files.{StoreState}
use Rattle.grid_outside.specs.Sink.{SinkState}
use Rattle.grid_outside.specs.Source.{SourceState}
use Rattle.grid_model.specs.Names.{Text}
use Rattle.grid_model.specs.Rows.{Cat}
use Rattle.grid_model.specs.declared.marks.Mark.{Mark}
use Rattle.grid_journal.specs.Journal.{Journal}
use Rattle.grid_journal.specs.Stands.{StandsFor}
use Rattle.grid_deed.specs.Held.{IsHeld}
use Rattle.grid_deed.specs.Safe.{AreWhole}
use Rattle.grid_deed.proofs.Frames.{frame_none, goes_nowhere}
use Rattle.grid_deed.proofs.Keeping.{held_stands}
use Rattle.grid_deed.proofs.Wholes.{one_cat, whole_of}
use Rattle.run_laws.specs.Passes.{AreReady, Seen}
use Rattle.run_laws.proofs.Draws.{gave-none}
use Rattle.service_run.specs.Commands.{KeepsBeside}
use Rattle.service_run.specs.Steps.{lines_of}
use Rattle.service_run.proofs.StillSteps.{beside_same}
use Rattle.call_laws.specs.Amid.{IsAmid, IsSafe, IsSetting, Setting}
use Rattle.call_laws.proofs.Told.{adds_all}

module _ {D A P K : Type 0} (disk : D → DiskState) (ambient : A → AmbientState) (plugin : P → StoreState) (sink : K → SinkState) (source : SourceState)
    {F : Type 0} (s : Setting F) (from : Seen D A P K) (is : IsSetting s) (on_main : s.OnMain s.found []) (rows : Journal)
    (held : IsHeld s.found (disk from.outside.main) rows) (same : rows.cat ≡ s.found) (more : ℕ) (ready : AreReady disk plugin sink more from)
    (none_told : s.text_of [] ≡ []) (plain : (marks : List Mark) → s.text_of marks ≡ lines_of s.start.number marks) where
  -- the sink has what it had, and the text of no marks
  none_shown : (shown : Text) → shown ≡ (sink from.sink).holds → shown ≡ (sink from.sink).holds ++ s.text_of []
  none_shown shown still = still ∙ sym (append-nil (sink from.sink).holds) ∙ ap (λ (t : Text). (sink from.sink).holds ++ t) (sym none_told)

  main_is : IsSettled (disk from.outside.main) → (t : ℕ) (main : Text) → from.outside.moments < t → (disk from.outside.main).left t main
      → main ≡ (disk from.outside.main).holds
  main_is settled t main late left = settled t main (omega (arith, late, ready.outside.main_last)) left

  cat_is : IsTrue (disk from.outside.main).tells → IsSettled (disk from.outside.main) → (t : ℕ) (main : Text) (c : Cat) → from.outside.moments < t
      → (disk from.outside.main).left t main → StandsFor main c → c ≡ s.found
  cat_is told settled t main c late left stands =
      let S : Text → Type 0 = λ m. StandsFor m c in
      one_cat (disk from.outside.main).holds s.found c (held_stands s.found (disk from.outside.main) rows held told)
      (subst S (main_is settled t main late left) stands)

  -- nothing was called
  safe_begun : IsSafe disk ambient plugin sink source s from from []
  safe_begun = record {
    main = λ told settled t main c late left stands.
        subst s.OnWay (sym (cat_is told settled t main c late left stands)) (is.on_way s.found [] on_main);
    whole = λ were told settled t main c late left stands.
        whole_of plugin t s.found c from.outside.stores.items (cat_is told settled t main c late left stands) (were t late);
    images = λ f first told sink_told settled sink_settled t main shown late left sink_left.
        let S : Text → Type 0 = λ m. StandsFor m s.found in
        is.one_image f [] first s.found on_main (sink from.sink).holds main shown
        (subst S (sym (main_is settled t main late left)) (held_stands s.found (disk from.outside.main) rows held told))
        (adds_all (s.text_of []) (sink from.sink).holds shown
        (none_shown shown (sink_settled t shown (omega (arith, late, ready.sink_last)) sink_left)));
  }

  command_begun : s.start ≡ record s.start { marks = s.start.marks ++ [] }
  command_begun = ap (λ (ms : List Mark). record s.start { marks = ms }) (sym (append-nil s.start.marks))

  pub amid_begun : IsAmid disk ambient plugin sink source s from from s.start rows []
  amid_begun = record {
    command = command_begun;
    beside = subst (λ (c : Cat). KeepsBeside s.found c 0) (sym same) (beside_same s.found);
    holds = record {
      told = [];
      fresh = [];
      taken_are = refl;
      untold_is = is.untold;
      cat = s.found;
      on_main = on_main;
      held = held;
      numbers = ap (λ (c : Cat). c.numbers) same;
      plain = λ marks. plain marks ∙ ap (λ (t : Text). t ++ lines_of s.start.number marks) (sym none_told);
      shown = λ told. none_shown (sink from.sink).holds refl;
      settled = λ told settled. settled;
      sink_settled = λ told settled. settled;
    };
    marks = record {
      told_of = λ told. tt;
      caused = record { counted = λ slot small. omega arith; there = λ slot some. absurd (omega (arith, some)) };
      gave = λ told. gave-none (ambient from.outside.ambient) told;
    };
    whole_now = λ were told settled t late. subst (λ (c : Cat). AreWhole plugin t c from.outside.stores.items) (sym same) (were t late);
    safe = safe_begun;
    passes = record {
      frame = frame_none disk plugin ⊥ from.outside (λ e. e);
      sink_last = λ last. last;
      goes = goes_nowhere from.outside.moments (sink from.sink);
      sink_cause = λ e. absurd e;
    };
  }
