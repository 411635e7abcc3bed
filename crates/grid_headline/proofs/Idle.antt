-- A run that did nothing, for want of memory, is one of those that are meant: its clauses hold together.
use Rattle.std.proofs.Common.{arith, append-nil, ◌≡◌, ℕ, List, [], None, refl, sym, ◌∙◌, ap, subst, inl}
use Rattle.std.specs.Prelude.{◌<◌, Ok}
use Rattle.grid_outside.specs.Device.{IsSettled}
use Rattle.grid_model.specs.Names.{Text}
use Rattle.grid_model.specs.Rows.{Cat}
use Rattle.grid_model.specs.RowGrids.{grid_of}
use Rattle.grid_model.specs.RuleText.{Rule}
use Rattle.grid_model.specs.Inputs.{none_taken}
use Rattle.grid_model.specs.Beginning.{begins}
use Rattle.grid_model.specs.Runs as runs
use Rattle.grid_journal.specs.Stands.{Stands}
use Rattle.grid_headline.specs.Worlds.{World, IsInOrder, DevicesImage, LeavesImage, LeavesDisks}
use Rattle.grid_headline.specs.Reads.{HasRules}
use Rattle.grid_headline.specs.Served.{NoneSweeps, Run, all as all_sure}
use Rattle.grid_headline.specs.Stops.{OneImage}
use Rattle.grid_headline.specs.Files.{IsKnown, AreSettled, DisksAreSettled, KeepsReplicas, WereWhole, AllStayWhole, AllAreWhole, ReplicasStayNamed}
use Rattle.grid_headline.specs.Silence.{IsBetween, IsLeft, NoneIsSilent, AddsBeforeRun}
use Rattle.grid_headline.specs.Draws.{no_words, none_left}
use Rattle.grid_headline.specs.Draws as draws
use Rattle.grid_headline.specs.Ends.{HasRecovery, no_memory}
use Rattle.grid_headline.specs.Headline.{BeginsOn, Shows, Serves}
use Rattle.grid_headline.proofs.PutStops.{the_catalogue}

module _ {B : Type 0} (old : World B) (c : Cat) (rules : List Rule) where
  -- nothing is pending
  abbrev pub found : Cat
  found = record c { pending = None }

  abbrev pub nothing : HasRules found rules → Run (IsKnown old found) found old.source.left
  nothing has = record {
    report = [];
    opened = record { grid = grid_of found; passed = []; left = [] };
    opened_is = refl;
    opened_all = refl;
    rules = rules;
    rules_are = has;
    begun = [];
    first = inl (old.source.left, none_taken);
    end_last = tt;
    done = [];
    end = begins (grid_of found) rules;
    after = runs.none;
    pieces = [];
    sure = [];
    are_sure = all_sure tt refl;
    no_stop = tt;
  }

  module _ (begin : BeginsOn old found) (order : IsInOrder old) (has : HasRules found rules) where
    -- what a stop leaves of the disks stands for what was found
    stays : (t : ℕ) (main spare : Text) → DisksAreSettled old → old.moments < t → LeavesDisks old t main spare → Stands main spare (Ok found)
    stays t main spare settled later left =
        let e : main ≡ old.main.holds = settled.of_main t main (omega (arith, order.main_last, later)) left.of_main in
        let k : spare ≡ old.spare.holds = settled.of_spare t spare (omega (arith, order.spare_last, later)) left.of_spare in
        subst (λ m. Stands m spare (Ok found)) (sym e) (subst (λ s. Stands old.main.holds s (Ok found)) (sym k) begin.stands)

    one_image : AreSettled old → (t : ℕ) (i : DevicesImage) → old.moments < t → LeavesImage old t i → OneImage (nothing has) old.sink.holds i
    one_image settled t i later left = record {
      cat = found;
      stands = stays t i.main i.spare settled.disks later left.disks;
      part = [];
      more = [];
      sink = settled.of_sink t i.sink (omega (arith, order.sink_last, later)) left.of_sink ∙ sym (append-nil old.sink.holds);
      split = refl;
      on_the_way = inl (record { number = refl; rules = refl; same = refl; named = λ slot name one. one; shown = omega arith });
      told = record { of_request = λ e. absurd (omega (arith, e)); of_report = tt };
      numbers = record { rises = omega arith; names = λ slot name row less h. (row, h) };
      stores = refl;
    }

    -- and so no image is of a run that was begun
    is_found : AreSettled old → (d : Cat) → IsLeft (nothing has) old old d → d ≡ found
    is_found settled d of = the_catalogue of.i.main of.i.spare found d (stays of.moment of.i.main of.i.spare settled.disks of.in_run of.leaves.disks) of.stands

    never : AreSettled old → (n : ℕ) (i : DevicesImage) (d : Cat) → IsBetween (nothing has) old old n i d → ⊥
    never settled n i d b =
        let e : d ≡ found = the_catalogue i.main i.spare found d (stays b.moment i.main i.spare settled.disks b.in_run b.leaves.disks) b.stands in
        let k : d.numbers.run ≡ found.numbers.run = ap (λ (x : Cat). x.numbers.run) e in
        absurd (omega (arith, k, b.number))

    none_silent : AreSettled old → NoneIsSilent (nothing has) old old
    none_silent settled = record {
      one_catalogue = λ n i j c d some loud b k. absurd (never settled n i c b);
      within = λ n i c d p b of number pending at. absurd (never settled n i c b);
      later = λ n i j c d m is b k. absurd (never settled n i c b);
      before_run = λ d of number. let P : Cat → Type 0 = λ x. AddsBeforeRun (nothing has) old old x None x.pending in
          subst P (sym (is_found settled d of)) (record { rows = omega arith; numbers = omega arith });
      opened = λ i d b. absurd (never settled 0 i d b);
    }

    stay_whole : DisksAreSettled old → WereWhole old old.moments found → AllStayWhole old old.moments
    stay_whole settled whole t main spare d later left s =
        subst (AllAreWhole old t) (sym (the_catalogue main spare found d (stays t main spare settled later left) s)) (whole t later)

    stay_named : NoneSweeps old.source.left → ¬ HasRecovery None → IsSettled old.main → ReplicasStayNamed old old.moments found
    stay_named none free settled t main d later left s =
        let e : main ≡ old.main.holds = settled t main (omega (arith, order.main_last, later)) left in
        let stood = subst (λ m. Stands m old.spare.holds (Ok found)) (sym e) begin.stands in
        subst (KeepsReplicas found) (sym (the_catalogue main old.spare.holds found d stood (s old.spare.holds))) (λ slot name row names is. is)

    shows : Shows old old (nothing has)
    shows = record {
      part = [];
      more = [];
      sink = sym (append-nil old.sink.holds);
      split = refl;
      report_first = λ less. absurd (omega (arith, less));
      all_but_one = omega arith;
      drawn = λ tells. record {
        told = tells;
        times = [];
        times_are = sym (append-nil old.ambient.times);
        times_told = draws.none;
        words = [];
        words_are = sym (append-nil old.ambient.words);
        of_requests = no_words;
        have = none_left;
        words_told = draws.none;
      };
    }

    pub idle : Serves old old found no_memory
    idle = record {
      run = nothing has;
      shown = λ tells. shows;
      says = tt;
      unharmed = tt;
      images = λ tells settled t i later left. one_image settled t i later left;
      whole = stay_whole;
      named = stay_named;
      silent = λ tells settled. none_silent settled;
      numbers = λ tells settled n i j d e m x session order b k is did means makes some was. absurd (never settled n i d b);
      takes_few = λ within. omega arith;
      orphans = λ e. absurd (cc e);
      caused = record { counted = λ slot less. omega arith; there = λ slot less. absurd (omega (arith, less)) };
      completes = λ tells failed all settled whole fits. record { good_end = tt; clean = tt; by_rows = tt };
    }
