-- The commit that begins a run, behind what was prepared.
use Rattle.std.proofs.Common.{◌≡◌, ◌⊎◌, inl, inr, ℕ, ◌+◌, ◌<◌, ◌≤◌, List, [], Result, IsTrue, refl, sym, ap, subst, arith}
use Rattle.std.specs.Prelude.{⊤}
use Rattle.std.proofs.lemmas.Bool.{cases_lt}
use Rattle.grid_outside.specs.Device.{IsSettled}
use Rattle.grid_outside.specs.Disk.{DiskState}
use Rattle.grid_outside.proofs.Spans.{same_place}
use Rattle.grid_model.specs.Names.{Text}
use Rattle.grid_model.specs.Rows.{Cat}
use Rattle.grid_model.specs.RuleText.{Rule}
use Rattle.grid_journal.specs.Journal.{Journal}
use Rattle.grid_journal.specs.Stands.{StandsEither, StandsFor}
use Rattle.grid_journal.specs.declared.error.JournalError.{JournalError}
use Rattle.grid_deed.specs.Frame.{Goes}
use Rattle.grid_deed.specs.Held.{IsCommitted}
use Rattle.grid_deed.proofs.Frames.{goes_nowhere}
use Rattle.grid_deed.proofs.Keeping.{either_of, held_stands}
use Rattle.grid_headline.specs.Ends.{HasRecovery}
use Rattle.grid_headline.specs.Files.{AllAreWhole, AllStayWhole, DisksAreSettled, KeepsReplicas, ReplicasStayNamed, WereWhole}
use Rattle.grid_headline.specs.Headline.{BeginsOn}
use Rattle.grid_headline.specs.Worlds.{World}
use Rattle.grid_headline.proofs.PutStops.{the_catalogue}
use Rattle.run_laws.specs.Opening.{IsBegunWith, OneOfOpening, Opens, begun, not_begun}
use Rattle.run_laws.specs.Undone.{report_begun, whole_report}
use Rattle.run_laws.specs.Went.{AreInOrder, Rests, StoreGoes, Went}
use Rattle.run_laws.proofs.Beginning.{run_begun as begun_as, begun-with, files_begun, rows_begun}
use Rattle.run_laws.proofs.Causes.{caused-on}
use Rattle.run_laws.proofs.Goings.{went-then, whole-then}
use Rattle.run_open.specs.Beginning.{run_begun}
use Rattle.run_open.specs.Preparing.{Prepared}
use Rattle.run_open.proofs.Fronts.{begun-part}
use Rattle.run_open.proofs.Parts.{adds-as}

module _ {B : Type 0} (old mid : World B) (found : Cat) (rules : List Rule) (begin : BeginsOn old found) (rows : Journal) (rest : Text)
    (prepared : Prepared old mid found rules rows rest)
    (mid_order : AreInOrder mid) (main spare : DiskState) (m : ℕ) (drawn : mid.moments ≤ m) (goes : Goes mid.moments mid.main main) (spare_rests : Rests mid.spare spare)
    (r : Result ⊤ JournalError) (after : Journal) (committed : IsCommitted prepared.kept (run_begun rows.cat) mid.moments rows mid.main main r after) where
  abbrev pub new : World B
  new = record mid { main = main; spare = spare; moments = m }

  abbrev kept : Cat
  kept = prepared.kept

  abbrev its : Cat
  its = run_begun rows.cat

  abbrev before : Opens old mid found
  before = prepared.opens

  mid_tells : IsTrue mid.main.tells
  mid_tells = subst IsTrue (sym before.went.main.tells) begin.main_tells

  kept_stands : StandsFor mid.main.holds kept
  kept_stands = held_stands kept mid.main rows prepared.held mid_tells

  pub went-begun : Went mid new
  went-begun = record {
    drawn = drawn;
    main = goes;
    sink = goes_nowhere mid.moments mid.sink;
    spare = spare_rests;
    count = refl;
    stores = λ slot was now is_was is_now. (let one : now ≡ was = same_place mid.stores slot was now is_was is_now in
        let G : B → Type 0 = λ b. StoreGoes mid new slot was b in
        subst G (sym one) (record { goes = goes_nowhere mid.moments (mid.plugin was) }));
  }

  -- it is the catalogue of the run
  pub is-begun : IsBegunWith found before.undone its
  is-begun =
      let I : ℕ → Type 0 = λ n. IsBegunWith found before.undone (begun_as rows.cat n) in
      subst I (ap (λ n. n + 1) (sym prepared.run))
      (begun-with found before.undone rows.cat prepared.rules prepared.stores prepared.grid prepared.keeps prepared.few prepared.named prepared.replicas)

  -- what a stop leaves of main from there on
  either : IsSettled old.main → (t : ℕ) (image : Text) → mid.moments < t → main.left t image → StandsEither kept its image
  either settled t image late left = either_of kept its r image (committed.leaves mid_tells (prepared.settled settled) t image late left)

  module _ (settled : DisksAreSettled old) (whole : WereWhole old old.moments found) where
    whole-kept : (t : ℕ) (its_spare : Text) → mid.moments < t → mid.spare.left t its_spare → AllAreWhole mid t kept
    whole-kept t its_spare late left =
        before.whole settled whole t mid.main.holds its_spare kept (omega (arith, late, before.went.drawn))
        (record { of_main = mid.main.now mid_tells t (omega (arith, mid_order.main_last, late)); of_spare = left }) (kept_stands its_spare)

    whole-later : AllStayWhole new mid.moments
    whole-later t image its_spare c late left stands = by (either settled.of_main t image late left.of_main)
      where
        by : StandsEither kept its image → AllAreWhole new t c
        by (inl is) =
            let was = whole-kept t its_spare late (spare_rests.left t its_spare left.of_spare) in
            let now : AllAreWhole new t kept = record {
              rows = was.rows;
              call = was.call;
              files = λ slot files of. was.files slot files (record { store = of.store; is = of.is; tells = of.tells; of_store = of.of_store });
            } in
            subst (AllAreWhole new t) (sym (the_catalogue image its_spare kept c (is its_spare) stands)) now
        by (inr is) =
            let was = prepared.whole_now settled whole t late in
            let n = rows.cat.numbers.run + 1 in
            let now : AllAreWhole new t its = record {
              rows = rows_begun rows.cat n was.rows;
              call = tt;
              files = λ slot files of. files_begun rows.cat n slot files (was.files slot of.store files of.is of.tells of.of_store);
            } in
            subst (AllAreWhole new t) (sym (the_catalogue image its_spare its c (is its_spare) stands)) now

    pub whole-begun : AllStayWhole new old.moments
    whole-begun = whole-then old mid new before.went went-begun (before.whole settled whole) whole-later

  pub named-begun : ¬ HasRecovery found.pending → IsSettled old.main → ReplicasStayNamed new old.moments found
  named-begun free settled t image c late left stands = by_time (cases_lt mid.moments t)
    where
      by : (mid.moments < t) → StandsEither kept its image → KeepsReplicas found c
      by later (inl is) =
          let u = before.named free settled t mid.main.holds kept (omega (arith, later, before.went.drawn)) (mid.main.now mid_tells t (omega (arith, mid_order.main_last, later))) kept_stands in
          subst (KeepsReplicas found) (sym (the_catalogue image [] kept c (is []) (stands []))) u
      by later (inr is) = subst (KeepsReplicas found) (sym (the_catalogue image [] its c (is []) (stands []))) (λ slot name row names one. is-begun.named slot name one)

      by_time : (mid.moments < t) ⊎ (t ≤ mid.moments) → KeepsReplicas found c
      by_time (inl later) = by later (either settled t image later left)
      by_time (inr early) = before.named free settled t image c late (goes.earlier t image early left) stands

  -- behind the commit, and before the rest is told
  module _ (tells : IsTrue old.sink.tells) (settled : IsSettled old.main) (of_sink : IsSettled old.sink) where
    pub image-begun : (t : ℕ) (image shown : Text) → mid.moments < t → main.left t image → shown ≡ mid.sink.holds
        → OneOfOpening found before.undone its old.sink.holds image shown
    image-begun t image shown late left same = by (either settled t image late left)
      where
        by : StandsEither kept its image → OneOfOpening found before.undone its old.sink.holds image shown
        by (inl is) =
            let u = prepared.unbegun tells settled of_sink in
            let report = report_begun found before.undone in
            not_begun kept is (adds-as report report old.sink.holds mid.sink.holds shown refl same u.0) u.1
        by (inr is) =
            let u = prepared.unbegun tells settled of_sink in
            let report = whole_report found before.undone in
            begun is-begun is
            (adds-as report report old.sink.holds mid.sink.holds shown refl same (begun-part found before.undone old.sink.holds mid.sink.holds u.0))

    pub images-begun : (t : ℕ) (image shown : Text) → old.moments < t → main.left t image → mid.sink.left t shown
        → OneOfOpening found before.undone its old.sink.holds image shown
    images-begun t image shown late left sink_left = by (cases_lt mid.moments t)
      where
        by : (mid.moments < t) ⊎ (t ≤ mid.moments) → OneOfOpening found before.undone its old.sink.holds image shown
        by (inl later) = image-begun t image shown later left (prepared.sink_settled tells of_sink t shown (omega (arith, mid_order.sink_last, later)) sink_left)
        by (inr early) =
            let I : Cat → Type 0 = λ c. OneOfOpening found before.undone c old.sink.holds image shown in
            subst I prepared.begins_is (before.images tells settled of_sink t image shown late (goes.earlier t image early left) sink_left)

  -- whether it was done or not
  abbrev pub opens-begun : Opens old new found
  opens-begun = record {
    undone = before.undone;
    taken = before.taken;
    first = before.first;
    told_of = before.told_of;
    went = went-then old mid new before.went went-begun;
    caused = caused-on old mid new before.undone.report went-begun before.caused;
    gave = before.gave;
    begins = its;
    keeps = is-begun.of_run.keeps;
    few = is-begun.few;
    shown = before.shown;
    whole = whole-begun;
    named = named-begun;
    images = images-begun;
  }
