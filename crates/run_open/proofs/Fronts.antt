-- Nothing was done but that the first lines of a report were told, up to the added `Stop`, or some of them.
use Rattle.std.proofs.Common.{◌≡◌, ℕ, ◌+◌, ◌<◌, ◌≤◌, List, [], ◌∷◌, ◌++◌, length, Option, Some, None, Ok, IsTrue, refl, sym, ap, ◌∙◌, subst, length-append, arith}
use Rattle.grid_outside.specs.Device.{Between, IsSettled}
use Rattle.grid_outside.specs.Sink.{AddsPart, SinkState}
use Rattle.grid_outside.proofs.Spans.{same_place, since_settled, stays}
use Rattle.grid_model.specs.Names.{Text}
use Rattle.grid_model.specs.Reopening.{reopened_by}
use Rattle.grid_model.specs.RowGrids.{grid_of, user_name}
use Rattle.grid_model.specs.Whole.{Names, by_replica}
use Rattle.grid_journal.specs.Journal.{Journal}
use Rattle.grid_deed.specs.Held.{IsHeld}
use Rattle.grid_deed.specs.Safe.{AreWhole}
use Rattle.grid_headline.specs.Numbers.{KeepsNumbers}
use Rattle.chain_run.specs.Places.{Place}
use Rattle.call_laws.specs.Amid.{AreRan}
use Rattle.call_laws.proofs.Ran.{ran_caused, ran_told}
use Rattle.call_laws.proofs.Told.{adds_more}
use Rattle.undo_run.proofs.Completing.{completes}
use Rattle.run_open.specs.Beginning.{run_begun}
use Rattle.run_open.specs.Preparing.{OpensOver, Prepared}
use Rattle.grid_model.specs.Rows.{Cat}
use Rattle.grid_model.specs.RuleText.{Rule}
use Rattle.grid_model.specs.declared.deltas.Pending.{Pending}
use Rattle.grid_model.specs.declared.marks.Mark.{Mark}
use Rattle.grid_model.specs.declared.marks.Mark.TheVariants.{Stop}
use Rattle.grid_journal.specs.Stands.{Stands, stands as made_of, StandsFor}
use Rattle.grid_deed.proofs.Frames.{goes_between, goes_nowhere}
use Rattle.grid_headline.specs.Files.{AllAreWhole, AllStayWhole, DisksAreSettled, IsKnown, ReplicasStayNamed, WereWhole, KeepsNamed, KeepsReplicas}
use Rattle.grid_headline.specs.Ends.{HasRecovery}
use Rattle.grid_headline.specs.Headline.{BeginsOn}
use Rattle.grid_headline.specs.Reads.{HasRules}
use Rattle.grid_headline.specs.Served.{joined_texts, report_back, report_front, report_told}
use Rattle.grid_headline.specs.Stops.{IsSame, KeepsReport}
use Rattle.grid_headline.specs.Worlds.{World}
use Rattle.grid_headline.proofs.PutStops.{the_catalogue}
use Rattle.count_laws.specs.GivenNumbers.{GivesFew}
use Rattle.count_laws.proofs.GivenNumbers.{gives_alike, gives_more, gives_none}
use Rattle.run_laws.specs.Handled.{GivesBeforeRun, IsUnbegun}
use Rattle.run_laws.specs.Opening.{OneOfOpening, Opens, not_begun}
use Rattle.run_laws.specs.Undone.{Undone, report_begun, whole_report}
use Rattle.run_laws.specs.Went.{AreInOrder, StoreGoes, Went}
use Rattle.run_laws.proofs.Beginning.{keeps_begun}
use Rattle.run_laws.proofs.Draws.{gave-none}
use Rattle.run_laws.proofs.Goings.{faults-rise}
use Rattle.run_open.proofs.Parts.{adds-as, adds-none}
use Rattle.run_open.proofs.ToldMarks.{front-split, none-told, recovery_lines, told-before}

-- what disks stand for does not hang on spare
pub any_spare : {main spare : Text} {c : Cat} → Stands main spare (Ok c) → StandsFor main c
any_spare (made_of records c head log replays zone) spare = made_of records c head log replays zone

-- ---- what was pending is so still

same_pending : (found : Cat) (report : List Mark) (o : Option Pending) → IsSame found report found o o
same_pending found report None = refl
same_pending found report (Some p) = record {
  of_run = refl;
  number = refl;
  line = refl;
  user = refl;
  d = [];
  kept = refl;
  same = λ w. refl;
  of_report = record { rest = Stop ∷ report; are = refl };
}

keeps_report : (found : Cat) (report : List Mark) (o : Option Pending) (count : ℕ) → count ≤ length (joined_texts (report_front o []))
    → KeepsReport found report found (report_told o report count) o
keeps_report found report None count within = tt
keeps_report found report (Some p) count within = λ e. told-before p report count within

-- no number was given yet
pub keeps_same : (c : Cat) → KeepsNumbers c c
keeps_same c = record { rises = omega arith; names = λ slot name row low its. (row, its) }

pub gives_same : (c : Cat) (marks : ℕ) → GivesFew c c marks
gives_same c marks = gives_more marks (omega arith) (gives_none c)

gives_before_run : (found : Cat) (o : Option Pending) → GivesBeforeRun found found o o
gives_before_run found None = gives_none found
gives_before_run found (Some p) = λ d is. gives_same found (length d)

-- and none is with which a run is begun
pub keeps_start : (c : Cat) → KeepsNumbers c (run_begun c)
keeps_start c = keeps_begun c (c.numbers.run + 1)

pub gives_start : (c : Cat) → GivesFew c (run_begun c) 0
gives_start c = gives_alike c (run_begun c) refl refl

-- the first lines
abbrev pub front_of : Cat → Text
front_of found = joined_texts (report_front found.pending [])

module _ (found : Cat) (u : Undone found) where
  pub front-length : length (front_of found) ≤ length (report_begun found u)
  front-length = omega (arith, ap length (front-split found.pending u.report), length-append (front_of found) (recovery_lines found.pending u.report))

  pub unbegun_found : (count : ℕ) → count ≤ length (front_of found) → IsUnbegun found u found count
  unbegun_found count within = record {
    before = record {
      number = refl;
      rules = refl;
      same = same_pending found u.report found.pending;
      named = λ slot name one. one;
      shown = omega (arith, within, front-length);
    };
    told = keeps_report found u.report found.pending count within;
    keeps = keeps_same found;
    few = gives_before_run found found.pending;
    stores = refl;
  }

  -- a part of them is a part of all
  abbrev pub front-part : (before after : Text) → AddsPart (front_of found) before after → AddsPart (report_begun found u) before after
  front-part before after a =
      let lines = recovery_lines found.pending u.report in
      adds-as (front_of found ++ lines) (report_begun found u) before after after (sym (front-split found.pending u.report)) refl
      (adds_more (front_of found) lines before after a)

  abbrev pub begun-part : (before after : Text) → AddsPart (report_begun found u) before after → AddsPart (whole_report found u) before after
  begun-part before after a = adds_more (report_begun found u) (report_back found.pending u.opened.passed) before after a

-- ---- the world

module _ {B : Type 0} (old : World B) (found : Cat) (begin : BeginsOn old found) (order : AreInOrder old) where
  found-stands : StandsFor old.main.holds found
  found-stands = any_spare begin.stands

  module _ (sink : SinkState) (m : ℕ) (drawn : old.moments ≤ m) (told : Between old.moments m (AddsPart (front_of found)) old.sink sink) where
    abbrev pub told_world : World B
    told_world = record old { sink = sink; moments = m }

    pub went-told : Went old told_world
    went-told = record {
      drawn = drawn;
      main = goes_nowhere old.moments old.main;
      sink = goes_between old.moments m (AddsPart (front_of found)) old.sink sink told;
      spare = record { faults = omega arith; tells = refl; last = refl; holds = λ tells. refl; left = λ t image left. left };
      count = refl;
      stores = λ slot before after was is. (let one : after ≡ before = same_place old.stores slot before after was is in
          let G : B → Type 0 = λ b. StoreGoes old told_world slot before b in
          subst G (sym one) (record { goes = goes_nowhere old.moments (old.plugin before) }));
    }

    -- what a stop leaves of main stands for what was found
    pub stands-found : IsSettled old.main → (t : ℕ) (main : Text) → old.moments < t → old.main.left t main → StandsFor main found
    stands-found settled t main late left =
        let same : main ≡ old.main.holds = settled t main (omega (arith, order.main_last, late)) left in
        subst (λ (x : Text). StandsFor x found) (sym same) found-stands

    pub whole-told : DisksAreSettled old → WereWhole old old.moments found → AllStayWhole told_world old.moments
    whole-told settled whole t main spare c late left stands =
        let is : c ≡ found = the_catalogue main spare found c (stands-found settled.of_main t main late left.of_main spare) stands in
        let was = whole t late in
        let now : AllAreWhole told_world t found = record {
          rows = was.rows;
          call = was.call;
          files = λ slot files its. was.files slot files (record { store = its.store; is = its.is; tells = its.tells; of_store = its.of_store });
        } in
        subst (AllAreWhole told_world t) (sym is) now

    pub named-told : ¬ HasRecovery found.pending → IsSettled old.main → ReplicasStayNamed told_world old.moments found
    named-told free settled t main c late left stands =
        let is : c ≡ found = the_catalogue main [] found c (stands-found settled t main late left []) (stands []) in
        subst (KeepsReplicas found) (sym is) (λ slot name row names one. one)

    -- with whatever catalogue the run is to be begun
    module _ (u : Undone found) (start : Cat) where
      pub images-told : IsTrue old.sink.tells → IsSettled old.main → IsSettled old.sink → (t : ℕ) (main shown : Text) → old.moments < t → old.main.left t main → sink.left t shown
          → OneOfOpening found u start old.sink.holds main shown
      images-told tells settled sink_settled t main shown late main_left sink_left =
          let part = since_settled old.moments m (AddsPart (front_of found)) old.sink sink tells sink_settled order.sink_last told t shown late sink_left in
          not_begun found (stands-found settled t main late main_left) (front-part found u old.sink.holds shown part) (unbegun_found found u part.count part.within)

      -- no recovery was run
      abbrev pub opens-front : KeepsNumbers found start → GivesFew found start (length u.report) → AreRan u.report → Opens old told_world found
      opens-front keeps few clean = record {
        undone = u;
        taken = [];
        first = record { rest = u.report; are = refl };
        told_of = ran_told (IsKnown old found) (length old.stores) u.report clean;
        went = went-told;
        caused = ran_caused old told_world u.report (faults-rise old told_world went-told) clean;
        gave = gave-none old.ambient;
        begins = start;
        keeps = keeps;
        few = few;
        shown = λ tells. (let part = told.holds tells in record {
          part = begun-part found u old.sink.holds sink.holds (front-part found u old.sink.holds sink.holds part);
          told = none-told found.pending u.report part.count part.within;
        });
        whole = whole-told;
        named = named-told;
        images = images-told;
      }

-- ---- whatever comes

-- what recoveries would leave that all run, over a catalogue with these rules
pub some-undone : (found : Cat) (rules : List Rule) → HasRules found rules → (u : Undone found) × AreRan u.report × (u.rules ≡ rules)
some-undone found rules rules_are = by found.pending refl
  where
    by : (o : Option Pending) → found.pending ≡ o → (u : Undone found) × AreRan u.report × (u.rules ≡ rules)
    by None e = (
      record {
        rules = rules;
        rules_are = rules_are;
        report = [];
        opened = record { grid = grid_of found; passed = []; left = [] };
        opened_is = ap (λ (q : Option Pending). reopened_by found q []) e;
        opened_all = refl;
      },
      tt,
      refl,
    )
    by (Some p) e =
        let at : Place = record { user = user_name found p.user; grid = grid_of found; taken = p.marks ++ Stop ∷ []; passed = p.passed } in
        let c = completes (user_name found p.user) p.undo at in (
          record {
            rules = rules;
            rules_are = rules_are;
            report = c.marks;
            opened = c.opened;
            opened_is = ap (λ (q : Option Pending). reopened_by found q c.marks) e ∙ c.opened_is;
            opened_all = c.opened_all;
          },
          c.clean,
          refl,
        )

-- nothing was called
pub opens-still : {B : Type 0} (old : World B) (found : Cat) (rules : List Rule) → BeginsOn old found → AreInOrder old → HasRules found rules
    → OpensOver old old found rules
opens-still old found rules begin order rules_are =
    let u = some-undone found rules rules_are in
    let none = stays old.moments old.moments (AddsPart (front_of found)) old.sink order.sink_last (omega arith) (adds-none (front_of found)) in
    (opens-front old found begin order old.sink old.moments (omega arith) none u.0 found (keeps_same found) (gives_same found (length u.0.report)) u.1, u.2)

-- where nothing is pending all is prepared
pub prepared-none : {B : Type 0} (old : World B) (c : Cat) (rules : List Rule) → c.pending ≡ None → BeginsOn old c → HasRules c rules → AreInOrder old
    → (rows : Journal) → rows.cat ≡ c → IsHeld c old.main rows → Prepared old old c rules rows []
prepared-none {B = B} old c rules none begin rules_are order rows = subst P same base begin rules_are
  where
    found : Cat
    found = record c { pending = None }

    same : found ≡ c
    same i = record c { pending = sym none i }

    P : Cat → Type 0
    P f = BeginsOn old f → HasRules f rules → rows.cat ≡ f → IsHeld f old.main rows → Prepared old old f rules rows []

    u : HasRules found rules → Undone found
    u its = record {
      rules = rules;
      rules_are = its;
      report = [];
      opened = record { grid = grid_of found; passed = []; left = [] };
      opened_is = refl;
      opened_all = refl;
    }

    base : P found
    base begin its is held = record {
      opens = opens-front old found begin order old.sink old.moments (omega arith)
          (stays old.moments old.moments (AddsPart (front_of found)) old.sink order.sink_last (omega arith) (adds-none (front_of found))) (u its)
          (run_begun found) (keeps_start found) (gives_start found) tt;
      rules_are = refl;
      all = refl;
      begins_is = ap run_begun (sym is);
      kept = found;
      held = held;
      unbegun = λ tells settled of_sink. (adds-none (report_begun found (u its)) old.sink.holds, unbegun_found found (u its) 0 (omega arith));
      grid = ap grid_of is;
      run = ap (λ (x : Cat). x.numbers.run) is;
      rules = ap (λ (x : Cat). x.rules) is;
      stores = ap (λ (x : Cat). x.stores) is;
      keeps = subst (KeepsNumbers found) (sym is) (keeps_same found);
      few = subst (λ (x : Cat). GivesFew found x 0) (sym is) (gives_none found);
      named = subst (KeepsNamed found) (sym is) (λ slot name one. one);
      replicas = λ free slot name r names. (let N : Cat → Type 0 = λ x. Names x slot name (by_replica r) in subst N (sym is) names);
      whole_now = λ settled whole t late. (let was = whole t late in
          let W : Cat → Type 0 = λ x. AreWhole old.plugin t x old.stores in
          subst W (sym is) (record { rows = was.rows; files = λ slot store image at tells left. was.files slot image (record { store = store; is = at; tells = tells; of_store = left }) }));
      settled = λ settled. settled;
      sink_settled = λ tells settled. settled;
      text = λ tells. refl;
      none = λ none. (is, refl);
    }
