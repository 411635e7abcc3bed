-- The rest of a report, behind the commit that begins the run.
use Rattle.std.proofs.Common.{◌≡◌, ◌⊎◌, inl, inr, ℕ, ◌<◌, ◌≤◌, List, ◌++◌, Ok, IsTrue, refl, sym, ap, ◌∙◌, subst, arith}
use Rattle.std.proofs.lemmas.Bool.{cases_lt}
use Rattle.grid_outside.specs.Device.{Between, IsSettled}
use Rattle.grid_outside.specs.Disk.{DiskState}
use Rattle.grid_outside.specs.Sink.{AddsPart, SinkState}
use Rattle.grid_outside.proofs.Spans.{same_place, since_settled}
use Rattle.grid_model.specs.Names.{Text}
use Rattle.grid_model.specs.Rows.{Cat}
use Rattle.grid_model.specs.RuleText.{Rule}
use Rattle.grid_model.specs.declared.marks.Mark.{Mark}
use Rattle.grid_journal.specs.Journal.{Journal}
use Rattle.grid_journal.specs.Stands.{StandsFor}
use Rattle.grid_deed.specs.Frame.{Goes}
use Rattle.grid_deed.specs.Held.{IsCommitted}
use Rattle.grid_deed.proofs.Frames.{goes_between, goes_nowhere}
use Rattle.grid_deed.proofs.Keeping.{held_stands}
use Rattle.grid_headline.specs.Ends.{HasOneMore}
use Rattle.grid_headline.specs.Files.{AllStayWhole, DisksAreSettled, WereWhole}
use Rattle.grid_headline.specs.Headline.{BeginsOn}
use Rattle.grid_headline.specs.Stops.{AreFirst}
use Rattle.grid_headline.specs.Worlds.{World}
use Rattle.run_laws.specs.Opening.{IsBegunWith, OneOfOpening, Opened, Opens, begun}
use Rattle.run_laws.specs.Undone.{recoveries_told, whole_report}
use Rattle.run_laws.specs.Went.{AreInOrder, Rests, StoreGoes, Went}
use Rattle.run_laws.proofs.Causes.{caused-on}
use Rattle.run_laws.proofs.Goings.{went-then}
use Rattle.run_laws.proofs.Recoveries.{recoveries-first}
use Rattle.run_open.specs.Beginning.{run_begun}
use Rattle.run_open.specs.Preparing.{Prepared}
use Rattle.run_open.proofs.Begins as begins
use Rattle.run_open.proofs.Fronts.{begun-part}
use Rattle.run_open.proofs.Parts.{adds-rest}

module _ {B : Type 0} (old mid : World B) (found : Cat) (rules : List Rule) (begin : BeginsOn old found) (rows : Journal) (rest : Text)
    (prepared : Prepared old mid found rules rows rest)
    (mid_order : AreInOrder mid) (main spare : DiskState) (m : ℕ) (drawn : mid.moments ≤ m) (main_last : main.last ≤ m) (goes : Goes mid.moments mid.main main) (spare_rests : Rests mid.spare spare)
    (after : Journal) (committed : IsCommitted prepared.kept (run_begun rows.cat) mid.moments rows mid.main main (Ok tt) after)
    (sink : SinkState) (n : ℕ) (later : m ≤ n) (told : Between m n (AddsPart rest) mid.sink sink) where
  abbrev now : World B
  now = begins.new old mid found rules begin rows rest prepared mid_order main spare m drawn goes spare_rests (Ok tt) after committed

  abbrev pub last : World B
  last = record mid { main = main; spare = spare; moments = n; sink = sink }

  abbrev one : Opens old now found
  one = begins.opens-begun old mid found rules begin rows rest prepared mid_order main spare m drawn goes spare_rests (Ok tt) after committed

  mid_tells : IsTrue mid.main.tells
  mid_tells = subst IsTrue (sym prepared.opens.went.main.tells) begin.main_tells

  pub sink_tells : IsTrue old.sink.tells → IsTrue mid.sink.tells
  sink_tells tells = subst IsTrue (sym prepared.opens.went.sink.tells) tells

  -- of the whole report
  pub part-of : (tells : IsTrue old.sink.tells) (before : AddsPart (whole_report found one.undone) old.sink.holds mid.sink.holds) (shown : Text) → AddsPart rest mid.sink.holds shown
      → AddsPart (whole_report found one.undone) old.sink.holds shown
  part-of tells before shown part = adds-rest (whole_report found one.undone) rest old.sink.holds mid.sink.holds shown before (prepared.text tells) part

  pub went-last : Went now last
  went-last = record {
    drawn = later;
    main = goes_nowhere m main;
    sink = goes_between m n (AddsPart rest) mid.sink sink told;
    spare = record { faults = omega arith; tells = refl; last = refl; holds = λ tells. refl; left = λ t image left. left };
    count = refl;
    stores = λ slot was here is_was is_here. (let same : here ≡ was = same_place mid.stores slot was here is_was is_here in
        let G : B → Type 0 = λ b. StoreGoes now last slot was b in
        subst G (sym same) (record { goes = goes_nowhere m (mid.plugin was) }));
  }

  pub whole-last : DisksAreSettled old → WereWhole old old.moments found → AllStayWhole last old.moments
  whole-last settled whole t image its_spare c late left stands =
      let was = one.whole settled whole t image its_spare c late (record { of_main = left.of_main; of_spare = left.of_spare }) stands in
      record {
        rows = was.rows;
        call = was.call;
        files = λ slot files of. was.files slot files (record { store = of.store; is = of.is; tells = of.tells; of_store = of.of_store });
      }

  stands-begun : StandsFor main.holds (run_begun rows.cat)
  stands-begun = held_stands (run_begun rows.cat) main after committed.ends.held (subst IsTrue (sym goes.tells) mid_tells)

  begun-with : IsBegunWith found one.undone (run_begun rows.cat)
  begun-with = begins.is-begun old mid found rules begin rows rest prepared mid_order main spare m drawn goes spare_rests (Ok tt) after committed

  pub images-last : IsTrue old.sink.tells → IsSettled old.main → IsSettled old.sink → (t : ℕ) (image shown : Text) → old.moments < t → main.left t image → sink.left t shown
      → OneOfOpening found one.undone (run_begun rows.cat) old.sink.holds image shown
  images-last tells settled of_sink t image shown late left sink_left = by (cases_lt m t)
    where
      by : (m < t) ⊎ (t ≤ m) → OneOfOpening found one.undone (run_begun rows.cat) old.sink.holds image shown
      by (inr early) = one.images tells settled of_sink t image shown late left ((told.earlier t shown early).0 sink_left)
      by (inl past) =
          let same : image ≡ main.holds = committed.ends.settled mid_tells t image (omega (arith, main_last, past)) left in
          let S : Text → Type 0 = λ x. StandsFor x (run_begun rows.cat) in
          let u = prepared.unbegun tells settled of_sink in
          let part = since_settled m n (AddsPart rest) mid.sink sink (sink_tells tells) (prepared.sink_settled tells of_sink) (omega (arith, mid_order.sink_last, drawn)) told t shown past sink_left in
          begun begun-with (subst S (sym same) stands-begun)
          (part-of tells (begun-part found one.undone old.sink.holds mid.sink.holds u.0) shown part)

  -- all marks were taken
  pub all-taken : (count : ℕ) → AreFirst (recoveries_told found one.undone count) one.taken
  all-taken count = subst (λ (l : List Mark). AreFirst (recoveries_told found one.undone count) l) (sym prepared.all) (recoveries-first found one.undone count)

  -- a part of the rest is told, or all
  abbrev pub opens-last : Opens old last found
  opens-last = record {
    undone = one.undone;
    taken = one.taken;
    first = one.first;
    told_of = one.told_of;
    went = went-then old now last one.went went-last;
    caused = caused-on old now last one.undone.report went-last one.caused;
    gave = one.gave;
    begins = run_begun rows.cat;
    keeps = one.keeps;
    few = one.few;
    shown = λ tells. (let part = part-of tells (one.shown tells).part sink.holds (told.holds (sink_tells tells)) in
        record { part = part; told = all-taken part.count });
    whole = whole-last;
    named = λ free settled t image c late left stands. one.named free settled t image c late left stands;
    images = images-last;
  }

  -- the whole report is
  pub opened-last : (IsTrue mid.sink.tells → sink.holds ≡ mid.sink.holds ++ rest) → (IsTrue mid.sink.tells → IsSettled mid.sink → IsSettled sink) → HasOneMore mid.main.holds main.holds
      → (opened : Opened old last found after.cat) × (opened.opens.undone.rules ≡ rules)
  opened-last whole_rest settles more =
      let O : Cat → Type 0 = λ c. (opened : Opened old last found c) × (opened.opens.undone.rules ≡ rules) in
      subst O (sym committed.ends.cat) (
        record {
          opens = opens-last;
          all = prepared.all;
          begins_is = refl;
          text = λ tells. whole_rest (sink_tells tells) ∙ prepared.text tells;
          begun = begun-with;
          stands = stands-begun;
          settled = λ settled. committed.ends.settled mid_tells;
          sink_settled = λ tells settled. settles (sink_tells tells) (prepared.sink_settled tells settled);
          one = λ none. subst (λ (x : Text). HasOneMore x main.holds) (prepared.none none).1 more;
          orphans = λ none. ap (λ (c : Cat). c.orphans) (prepared.none none).0;
        },
        prepared.rules_are,
      )
