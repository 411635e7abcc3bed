-- The requests that were handled, where nothing is seen of what came behind them, or the source alone was read.
use Rattle.std.proofs.Common.{◌≡◌, ◌⊎◌, inl, inr, ℕ, ◌<◌, ◌≤◌, List, [], ◌++◌, ◌-◌, length, take, slice_get, Option, None, IsTrue, sym, ap, ◌∙◌, subst, append_assoc, length-append, arith, ◌+◌, ◌*◌}
use Rattle.std.specs.Prelude.{max}
use Rattle.std.proofs.lemmas.Bool.{cases_lt}
use Rattle.std.proofs.lemmas.List.{append-nil}
use Rattle.std.proofs.lemmas.Option.{slice_get_past}
use Rattle.grid_outside.specs.Source.{SourceState}
use Rattle.grid_model.specs.Names.{Text}
use Rattle.grid_model.specs.Rows.{Cat}
use Rattle.grid_model.specs.Inputs.{Asked}
use Rattle.grid_model.specs.Sessions.{State}
use Rattle.grid_model.specs.Runs.{Marked}
use Rattle.grid_model.specs.declared.marks.Mark.{Mark}
use Rattle.grid_headline.specs.Worlds.{World}
use Rattle.grid_headline.specs.Files.{AreSettled}
use Rattle.grid_headline.specs.Reads.{HasRules}
use Rattle.grid_headline.specs.Served.{NoneSweeps, joined_texts, whole_in, marks_of}
use Rattle.grid_headline.specs.Stops.{AreFirst}
use Rattle.grid_headline.specs.Headline.{BeginsOn}
use Rattle.run_laws.specs.Handled.{Handled, LastHadNumbers, replies_of, marks_told, marks_within, reached_by, state_behind, IsAt, exact, IsBehindSome, OneOfRun}
use Rattle.run_laws.specs.Handled.{in_run, ShowsMost}
use Rattle.run_laws.specs.Steps.{Gave, IsQuiet}
use Rattle.run_laws.specs.Sofar.{Ran, Sofar, KeepsWhole, KeepsNames}
use Rattle.run_laws.specs.Undone.{Undone, whole_report}
use Rattle.run_laws.specs.Went.{Went, AreInOrder}
use Rattle.run_laws.proofs.Texts.{whole-all}
use Rattle.run_laws.proofs.Goings.{went-then}
use Rattle.run_laws.proofs.Causes.{caused-on}
use Rattle.run_laws.proofs.Draws.{gave-then, shown-first}
use Rattle.run_laws.proofs.Recoveries.{told-behind}
use Rattle.run_laws.proofs.Images.{shows-all, shows-whole}
use Rattle.run_laws.proofs.More.{begun-many, replies-many, state-now, whole-so, named-so, within-so}
use Rattle.grid_headline.specs.Moments.{IsWithinLimits, most_moments}
use Rattle.size_laws.specs.Within.{IsWithin}
use Rattle.grid_model.specs.Grid.{Grid}
use Rattle.run_laws.specs.Moments.{GoesOnInFew}

module _ {B : Type 0} (old mid new : World B) (found c : Cat) (at : State) (asked : List Asked) (begin : BeginsOn old found) (order : AreInOrder mid)
    (so : Sofar old mid found c at asked) (then : Went mid new)
    (in_few : GoesOnInFew mid new c) (stay : KeepsWhole mid new c) (names : NoneSweeps old.source.left → KeepsNames mid new c) (quiet : IsQuiet mid new c) where
  abbrev h : Handled
  h = so.ran.handled

  abbrev u : Undone found
  u = so.ran.undone

  abbrev bytes : ℕ
  bytes = length (joined_texts (replies_of h))

  abbrev report : Text
  report = whole_report found u

  pub sink-mid : IsTrue old.sink.tells → IsTrue mid.sink.tells
  sink-mid tells = subst IsTrue (sym so.ran.went.sink.tells) tells

  -- the catalogue, with all replies shown
  all_shown : IsBehindSome found u h c bytes
  all_shown =
      let w : whole_in (replies_of h) bytes ≡ length (replies_of h) = whole-all (replies_of h) in
      let many = replies-many old mid found at asked so.ran in
      let many_begun = begun-many old mid found at asked so.ran in
      let r : reached_by found u h c bytes ≡ length (replies_of h) = ap (λ k. max k c.numbers.last) w ∙ omega (arith, so.last, many) in
      let s : state_behind found u h (reached_by found u h c bytes) ≡ at = ap (state_behind found u h) r ∙ state-now old mid found at asked so.ran in
      record {
        of_run = so.of_run;
        within = omega (arith, r, many, many_begun);
        near = omega (arith, w, so.last, many);
        rules = subst (λ (x : State). HasRules c x.rules) (sym s) so.rules;
        grid = so.grid ∙ ap (λ (x : State). x.grid) (sym s);
        at = subst (λ n. IsAt found u h n c) (sym (r ∙ many)) (exact so.is_last);
        had_numbers = subst (LastHadNumbers h) (sym (r ∙ many)) so.had_numbers;
        untold = λ less.
            let past : slice_get h.begun (whole_in (replies_of h) bytes) ≡ None = slice_get_past h.begun (whole_in (replies_of h) bytes) (omega (arith, w, many, many_begun)) in
            ap (λ (o : Option Marked). marks_within o (slice_get h.pieces (whole_in (replies_of h) bytes)) (bytes - length (joined_texts (take (whole_in (replies_of h) bytes) (replies_of h))))) past;
      }

  pub images-quiet : IsTrue old.sink.tells → AreSettled old → (t : ℕ) (main sink : Text) → old.moments < t → new.main.left t main → new.sink.left t sink
      → OneOfRun found u h old.sink.holds main sink
  images-quiet tells settled t main sink late main_left sink_left = by (cases_lt mid.moments t)
    where
      by : (mid.moments < t) ⊎ (t ≤ mid.moments) → OneOfRun found u h old.sink.holds main sink
      by (inl later) =
          let q = quiet.images (subst IsTrue (sym so.ran.went.main.tells) begin.main_tells) (sink-mid tells) (so.main_settled settled.disks.of_main)
          (so.sink_settled tells settled.of_sink) t main sink later main_left sink_left in
          let behind : bytes ≡ length (report ++ joined_texts (replies_of h)) - length report = omega (arith, length-append report (joined_texts (replies_of h))) in
          in_run c (report ++ joined_texts (replies_of h)) [] q.0 (q.1 ∙ so.text tells ∙ append_assoc old.sink.holds report (joined_texts (replies_of h)))
          (ap (λ (x : Text). report ++ x) so.all_sure ∙ sym (append-nil (report ++ joined_texts (replies_of h)))) (subst (IsBehindSome found u h c) behind all_shown)
      by (inr early) = so.ran.images tells settled t main sink late (then.main.earlier t main early main_left) (then.sink.earlier t sink early sink_left)

  pub shown_all : IsTrue old.sink.tells → ShowsMost report h old.sink.holds new.sink.holds
  shown_all tells = shows-all report h old.sink.holds new.sink.holds (begun-many old mid found at asked so.ran ∙ sym (replies-many old mid found at asked so.ran))
      so.all_sure (quiet.sink (sink-mid tells) ∙ so.text tells)

  -- all marks that are told were come to
  pub told-drawn : (tells : IsTrue old.sink.tells) → AreFirst (marks_told found u h (length (shown_all tells).part)) so.ran.drawn
  unfolding shown_all
  told-drawn tells =
      let part = (shown_all tells).part in
      subst (AreFirst (marks_told found u h (length part))) (sym so.all_drawn)
      (told-behind found u h (length part) (marks_of h.begun) (shows-whole report h old.sink.holds new.sink.holds (begun-many old mid found at asked so.ran ∙ sym (replies-many old mid found at asked so.ran))
      so.all_sure (quiet.sink (sink-mid tells) ∙ so.text tells)) (shown-first h (length part - length report)))

  -- few moments were taken for it
  pub moments-quiet : IsWithinLimits found → new.moments ≤ old.moments + (length h.begun + 2) * most_moments
  moments-quiet limits =
      let here = within-so old mid found c at asked so limits.grid in
      let W : Grid → Type 0 = λ g. IsWithin g in
      let took = in_few (subst W (sym so.grid) here) in
      omega (arith, so.moments limits, took)

  -- nothing is seen of what came behind
  abbrev pub ran-quiet : Ran old new found at asked
  ran-quiet = record {
    undone = u;
    handled = h;
    asked_are = so.ran.asked_are;
    after = so.ran.after;
    are_sure = so.ran.are_sure;
    told_of = so.ran.told_of;
    by_rows = so.ran.by_rows;
    few_before = so.ran.few_before;
    all_few = so.ran.all_few;
    moments = moments-quiet;
    went = went-then old mid new so.ran.went then;
    shown = shown_all;
    caused = caused-on old mid new (u.report ++ marks_of h.begun) then so.ran.caused;
    drawn = so.ran.drawn;
    gave = λ tells. (let P : List Mark → Type 0 = λ ms. Gave ms old.ambient new.ambient in
        subst P (append-nil so.ran.drawn) (gave-then so.ran.drawn [] old.ambient mid.ambient new.ambient so.ran.gave quiet.gave tells));
    told_drawn = told-drawn;
    whole = whole-so old mid found c at asked so begin order new then stay;
    named = named-so old mid found c at asked so begin order new then names;
    images = images-quiet;
  }

-- ---- the source alone was read

module _ {B : Type 0} (old now : World B) (source : SourceState) where
  abbrev pub read_on : World B
  read_on = record now { source = source }

  went_on : Went old now → Went old read_on
  went_on went = record { drawn = went.drawn; main = went.main; sink = went.sink; spare = went.spare; count = went.count; stores = λ slot before after was is. record { goes = (went.stores slot before after was is).goes } }

  pub ran-read : (found : Cat) (at : State) (asked : List Asked) → Ran old now found at asked → Ran old read_on found at asked
  ran-read found at asked ran = record {
    undone = ran.undone;
    handled = ran.handled;
    asked_are = ran.asked_are;
    after = ran.after;
    are_sure = ran.are_sure;
    told_of = ran.told_of;
    by_rows = ran.by_rows;
    few_before = ran.few_before;
    all_few = ran.all_few;
    moments = ran.moments;
    went = went_on ran.went;
    shown = ran.shown;
    caused = record { counted = ran.caused.counted; there = ran.caused.there };
    drawn = ran.drawn;
    gave = ran.gave;
    told_drawn = ran.told_drawn;
    whole = λ settled whole t main spare c late left stands.
        let was = ran.whole settled whole t main spare c late (record { of_main = left.of_main; of_spare = left.of_spare }) stands in
        record { rows = was.rows; call = was.call; files = λ slot files its. was.files slot files (record { store = its.store; is = its.is; tells = its.tells; of_store = its.of_store }) };
    named = ran.named;
    images = ran.images;
  }

  pub sofar-read : (found c : Cat) (at : State) (asked : List Asked) → Sofar old now found c at asked → Sofar old read_on found c at asked
  unfolding ran-read
  sofar-read found c at asked so = record {
    ran = ran-read found at asked so.ran;
    none_end = so.none_end;
    all_drawn = so.all_drawn;
    moments = so.moments;
    pieces_are = so.pieces_are;
    all_sure = so.all_sure;
    text = so.text;
    of_run = so.of_run;
    last = so.last;
    is_last = so.is_last;
    had_numbers = so.had_numbers;
    grid = so.grid;
    rules = so.rules;
    still = so.still;
    few = so.few;
    stands = so.stands;
    main_settled = so.main_settled;
    sink_settled = so.sink_settled;
  }
