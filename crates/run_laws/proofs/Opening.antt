-- A run is opened, and nothing was asked yet.
use Rattle.std.proofs.Common.{◌≡◌, ℕ, ◌-◌, ◌<◌, List, [], ◌++◌, length, take, drop, IsTrue, refl, sym, ◌∙◌, subst, take-append-drop, arith}
use Rattle.std.specs.List.{AllByRecursion}
use Rattle.std.proofs.lemmas.List.{append-nil, length-take-le}
use Rattle.grid_model.specs.Names.{Text}
use Rattle.grid_model.specs.Rows.{Cat}
use Rattle.grid_model.specs.Beginning.{begins}
use Rattle.grid_model.specs.Runs as runs
use Rattle.grid_model.specs.declared.marks.Mark.{Mark}
use Rattle.grid_headline.specs.Worlds.{World}
use Rattle.grid_headline.specs.Causes.{AreCaused}
use Rattle.grid_headline.specs.Files.{AreSettled, IsKnown}
use Rattle.grid_headline.specs.Served.{all}
use Rattle.grid_headline.specs.Stops.{AreFirst}
use Rattle.run_laws.specs.Handled.{none_handled, reached_by, IsAt, exact, OneOfRun, in_run, ShowsMost}
use Rattle.run_laws.specs.Handled as handled
use Rattle.run_laws.specs.Opening.{OneOfOpening, not_begun, begun, Opens}
use Rattle.run_laws.specs.Sofar.{Ran}
use Rattle.run_laws.specs.Steps.{IsToldOf}
use Rattle.run_laws.specs.Undone.{Undone, recoveries_told, whole_report}
use Rattle.run_laws.specs.Moments.{OpensInFew}

module _ {B : Type 0} (old now : World B) (found : Cat) (opens : Opens old now found) (in_few : OpensInFew old now found) where
  abbrev u : Undone found
  u = opens.undone

  abbrev report : Text
  report = whole_report found u

  pub part_of : (count : ℕ) → report ++ [] ≡ take count report ++ drop count report
  part_of count = append-nil report ∙ sym (take-append-drop count report)

  -- no request is done where none was asked
  none-reached : (count : ℕ) → opens.begins.numbers.last ≡ 0
      → reached_by found u (none_handled opens.begins) opens.begins (length (take count report) - length report) ≡ 0
  none-reached count last = omega (arith, last)

  pub images-none : IsTrue old.sink.tells → AreSettled old → (t : ℕ) (main sink : Text) → old.moments < t → now.main.left t main → now.sink.left t sink
      → OneOfRun found u (none_handled opens.begins) old.sink.holds main sink
  images-none tells settled t main sink late main_left sink_left =
      by (opens.images tells settled.disks.of_main settled.of_sink t main sink late main_left sink_left)
    where
      by : OneOfOpening found u opens.begins old.sink.holds main sink → OneOfRun found u (none_handled opens.begins) old.sink.holds main sink
      by (not_begun c stands part is) = handled.not_begun c stands part is
      by (begun is stands adds) = in_run opens.begins (take adds.count report) (drop adds.count report) stands adds.is (part_of adds.count) (record {
        of_run = is.of_run;
        within = omega (arith, is.last);
        near = omega (arith, is.last);
        rules = is.rules;
        grid = is.grid;
        at = subst (λ n. IsAt found u (none_handled opens.begins) n opens.begins) (sym (none-reached adds.count is.last)) (exact refl);
        had_numbers = λ n some x m d is_x is_m. absurd (cc is_m);
        untold = λ less. refl;
      })

  abbrev shown-none : IsTrue old.sink.tells → ShowsMost report (none_handled opens.begins) old.sink.holds now.sink.holds
  shown-none tells =
      let adds = (opens.shown tells).part in
      record {
        part = take adds.count report;
        more = drop adds.count report;
        is = adds.is;
        split = part_of adds.count;
        report_first = λ some. absurd (omega (arith, some));
        all_but_one = omega arith;
      }

  pub told-none : (tells : IsTrue old.sink.tells) → AreFirst (recoveries_told found u (length (take (opens.shown tells).part.count report)) ++ []) opens.taken
  told-none tells =
      let s = opens.shown tells in
      let so_many = length-take-le s.part.count report s.part.within in
      subst (λ (x : List Mark). AreFirst x opens.taken) (sym (append-nil (recoveries_told found u (length (take s.part.count report)))))
      (subst (λ k. AreFirst (recoveries_told found u k) opens.taken) (sym so_many) s.told)

  -- nothing was asked yet, and maybe not all was undone, or the run is not begun
  abbrev pub ran-none : Ran old now found (begins u.opened.grid u.rules) []
  ran-none = record {
    undone = u;
    handled = none_handled opens.begins;
    asked_are = refl;
    after = runs.none;
    are_sure = all tt refl;
    told_of = subst (AllByRecursion (IsToldOf (IsKnown old found) (length old.stores))) (sym (append-nil u.report)) opens.told_of;
    by_rows = tt;
    few_before = (opens.keeps, opens.few);
    all_few = tt;
    moments = λ limits. omega (arith, in_few limits);
    went = opens.went;
    shown = shown-none;
    caused = subst (AreCaused old now) (sym (append-nil u.report)) opens.caused;
    drawn = opens.taken;
    gave = opens.gave;
    told_drawn = told-none;
    whole = opens.whole;
    named = λ none. opens.named;
    images = images-none;
  }
