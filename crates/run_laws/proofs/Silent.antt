-- The sweep behind the opening of a run, before anything is asked: nothing of it is seen.
use Rattle.std.proofs.Common.{◌≡◌, ◌⊎◌, inl, inr, ℕ, zero, suc, ◌-◌, ◌<◌, ◌≤◌, List, [], ◌++◌, length, IsTrue, refl, sym, ◌∙◌, subst, arith, ◌+◌}
use Rattle.std.proofs.lemmas.Bool.{cases_lt}
use Rattle.std.proofs.lemmas.List.{append-nil}
use Rattle.std.proofs.lemmas.Option.{same_Some}
use Rattle.grid_outside.specs.Device.{IsSettled}
use Rattle.grid_model.specs.Names.{Text}
use Rattle.grid_model.specs.Rows.{Cat}
use Rattle.grid_model.specs.Beginning.{begins}
use Rattle.grid_model.specs.Runs as runs
use Rattle.grid_model.specs.declared.marks.Mark.{Mark}
use Rattle.grid_headline.specs.Worlds.{World}
use Rattle.grid_headline.specs.Files.{AreSettled, DisksAreSettled, KeepsReplicas, WereWhole, AllStayWhole, ReplicasStayNamed}
use Rattle.grid_headline.specs.Served.{NoneSweeps, all as all_sure}
use Rattle.grid_headline.specs.Ends.{HasOneMore, HasRecovery}
use Rattle.grid_headline.specs.Stops.{AreFirst}
use Rattle.grid_headline.specs.Headline.{BeginsOn}
use Rattle.count_laws.specs.GivenNumbers.{GivesFew, GivesNone}
use Rattle.count_laws.proofs.GivenNumbers.{gives_before, none_few, none_self, none_then}
use Rattle.run_laws.specs.Handled.{none_handled, reached_by, IsAt, exact, opening, amid_sweep, IsBehindSome, OneOfRun, not_begun, in_run, in_deed_of_run}
use Rattle.run_laws.specs.Opening.{IsBegunWith, Opened}
use Rattle.run_laws.specs.Silent.{Sweeps, IsSwept}
use Rattle.run_laws.specs.Sofar.{Ran, Sofar}
use Rattle.run_laws.specs.Steps.{Gave, IsLike}
use Rattle.run_laws.specs.Undone.{Undone, recoveries_told, whole_report}
use Rattle.run_laws.specs.Went.{Went}
use Rattle.run_laws.proofs.Goings.{disks-settled, whole-now, whole-then, went-then}
use Rattle.run_laws.proofs.Causes.{caused-on}
use Rattle.run_laws.proofs.Draws.{gave-then}
use Rattle.grid_journal.specs.Stands.{StandsFor}
use Rattle.run_laws.proofs.Images.{keeps-then, like-of, like_self}
use Rattle.run_laws.proofs.Orphans.{few-before}
use Rattle.run_laws.proofs.Opening.{ran-none}
use Rattle.run_laws.proofs.Recoveries.{left-alone, recoveries-first}
use Rattle.grid_headline.specs.Moments.{IsWithinLimits, most_moments}
use Rattle.run_laws.specs.Moments.{OpensInFew, SweepsInFew}

-- a catalogue of which nothing is seen to be other is behind no request
behind_none : (found : Cat) (u : Undone found) (begun left e : Cat) (count : ℕ) → IsBegunWith found u begun → IsLike begun e → GivesNone begun e → GivesNone e left
    → IsBehindSome found u (none_handled left) e count
behind_none found u begun left e count is like since until =
    let none : reached_by found u (none_handled left) e count ≡ 0 = omega (arith, like.last, is.last) in
    record {
      of_run = like-of found begun e is.of_run like;
      within = omega (arith, like.last, is.last);
      near = omega (arith, like.last, is.last);
      rules = like.rules ∙ is.rules;
      grid = like.grid ∙ is.grid;
      at = subst (λ n. IsAt found u (none_handled left) n e) (sym none) (opening refl (gives_before is.few (none_few begun e since)) until);
      had_numbers = λ n some. absurd (omega (arith, none, some));
      untold = λ less. refl;
    }

-- what was left before the sweep is amid it
amid_sweep_too : (found : Cat) (u : Undone found) (begun left : Cat) → GivesFew found begun (length u.report) → GivesNone begun left
    → (old_sink main sink : Text) → OneOfRun found u (none_handled begun) old_sink main sink → OneOfRun found u (none_handled left) old_sink main sink
amid_sweep_too found u begun left few gives old_sink main sink (not_begun c stands adds is) = not_begun c stands adds is
amid_sweep_too found u begun left few gives old_sink main sink (in_run c part more stands is split b) =
    in_run c part more stands is split (record {
      of_run = b.of_run;
      within = b.within;
      near = b.near;
      rules = b.rules;
      grid = b.grid;
      at = at_left (reached_by found u (none_handled begun) c (length part - length (whole_report found u))) b.at;
      had_numbers = λ n some x m d is_x is_m. absurd (cc is_m);
      untold = b.untold;
    })
  where
    at_left : (n : ℕ) → IsAt found u (none_handled begun) n c → IsAt found u (none_handled left) n c
    at_left zero (exact is_first) =
        let P : Cat → Type 0 = λ x. GivesFew found x (length u.report) × GivesNone x left in
        let so = subst P (same_Some begun c is_first) (few, gives) in
        opening refl so.0 so.1
    at_left (suc n) (exact is_first) = absurd (cc is_first)
    at_left n (opening none its since) = opening none its (none_then c begun left since gives)
    at_left n (amid_sweep e f m is_e is_f is_m asks since until) = absurd (cc is_f)
amid_sweep_too found u begun left few gives old_sink main sink (in_deed_of_run c p n part more stands is split a) =
    absurd (cc a.waits_behind.is_next)

module _ {B : Type 0} (old mid new : World B) (found begun left : Cat) (begin : BeginsOn old found) (opened : Opened old mid found begun)
    (in_few : OpensInFew old mid found) (swept : Sweeps mid new begun left) (swept_few : SweepsInFew mid new) where
  abbrev first : Went old mid
  first = opened.opens.went

  abbrev u : Undone found
  u = opened.opens.undone

  abbrev before : Ran old mid found (begins u.opened.grid u.rules) []
  before = ran-none old mid found opened.opens in_few

  main_tells : IsTrue mid.main.tells
  main_tells = subst IsTrue (sym first.main.tells) begin.main_tells

  pub stay-whole : DisksAreSettled old → WereWhole old old.moments found → AllStayWhole new old.moments
  stay-whole settled whole =
      let so_far = before.whole settled whole in
      whole-then old mid new first swept.went so_far
      (swept.whole (disks-settled old mid first begin.spare_tells opened.settled settled)
      (whole-now old mid first begin.main_tells begin.spare_tells swept.order begun old.moments first.drawn opened.stands so_far))

  pub stay-named : NoneSweeps old.source.left → ¬ HasRecovery found.pending → IsSettled old.main → ReplicasStayNamed new old.moments found
  stay-named none free settled t main d late left stands = by (cases_lt mid.moments t)
    where
      by : (mid.moments < t) ⊎ (t ≤ mid.moments) → KeepsReplicas found d
      by (inl later) = λ slot name row names is. swept.named main_tells (opened.settled settled) t main d later left stands slot name row
          (opened.begun.replicas free slot name row names) (opened.begun.named slot name is)
      by (inr early) = before.named none free settled t main d late (swept.went.main.earlier t main early left) stands

  module _ (tells : IsTrue old.sink.tells) where
    sink_tells : IsTrue mid.sink.tells
    sink_tells = subst IsTrue (sym first.sink.tells) tells

    pub sink-is : new.sink.holds ≡ old.sink.holds ++ whole_report found u
    sink-is = swept.sink sink_tells ∙ opened.text tells

    pub images-swept : AreSettled old → (t : ℕ) (main sink : Text) → old.moments < t → new.main.left t main → new.sink.left t sink
        → OneOfRun found u (none_handled left) old.sink.holds main sink
    images-swept settled t main sink late main_left sink_left = by (cases_lt mid.moments t)
      where
        count : ℕ
        count = length (whole_report found u) - length (whole_report found u)

        image : (c : Cat) → StandsFor main c → sink ≡ mid.sink.holds → IsBehindSome found u (none_handled left) c count
            → OneOfRun found u (none_handled left) old.sink.holds main sink
        image c stands same behind = in_run c (whole_report found u) [] stands (same ∙ opened.text tells) refl behind

        by : (mid.moments < t) ⊎ (t ≤ mid.moments) → OneOfRun found u (none_handled left) old.sink.holds main sink
        by (inl later) =
            let main_settled = opened.settled settled.disks.of_main in
            let sink_settled = opened.sink_settled tells settled.of_sink in
            let q = swept.images main_tells sink_tells main_settled sink_settled t main sink later main_left sink_left in
            elim q.0 [
              | inl before ↦ image begun before q.1 (behind_none found u begun left begun count opened.begun (like_self begun) (none_self begun) swept.gives)
              | inr behind ↦ image left behind q.1 (behind_none found u begun left left count opened.begun swept.like swept.gives (none_self left))
            ]
        by (inr early) =
            let few : GivesFew found opened.opens.begins (length u.report) = opened.opens.few in
            let gives : GivesNone opened.opens.begins left = (let P : Cat → Type 0 = λ x. GivesNone x left in subst P (sym opened.begins_is) swept.gives) in
            amid_sweep_too found u opened.opens.begins left few gives old.sink.holds main sink
            (before.images tells settled t main sink late (swept.went.main.earlier t main early main_left) (swept.went.sink.earlier t sink early sink_left))

  -- all marks that are told were come to
  pub told-swept : AreFirst (recoveries_told found u (length (whole_report found u)) ++ []) opened.opens.taken
  told-swept =
      let told = recoveries_told found u (length (whole_report found u)) in
      subst (λ (x : List Mark). AreFirst x opened.opens.taken) (sym (append-nil told))
      (subst (λ (x : List Mark). AreFirst told x) (sym opened.all) (recoveries-first found u (length (whole_report found u))))

  -- few moments were taken for both
  pub moments-swept : IsWithinLimits found → new.moments ≤ old.moments + most_moments
  moments-swept limits = omega (arith, in_few limits, swept_few)

  -- nothing was asked yet, and maybe not all was swept
  abbrev pub ran-swept : Ran old new found (begins u.opened.grid u.rules) []
  ran-swept = record {
    undone = u;
    handled = none_handled left;
    asked_are = refl;
    after = runs.none;
    are_sure = all_sure tt refl;
    told_of = before.told_of;
    by_rows = tt;
    few_before = (
      keeps-then found begun left opened.begun.of_run.keeps swept.gives.keeps,
      gives_before opened.begun.few (none_few begun left swept.gives),
    );
    all_few = tt;
    moments = λ limits. omega (arith, moments-swept limits);
    went = went-then old mid new first swept.went;
    shown = λ tells. record {
      part = whole_report found u;
      more = [];
      is = sink-is tells;
      split = refl;
      report_first = λ some. absurd (omega (arith, some));
      all_but_one = omega arith;
    };
    caused = caused-on old mid new (u.report ++ []) swept.went before.caused;
    drawn = opened.opens.taken;
    gave = λ tells. (let P : List Mark → Type 0 = λ ms. Gave ms old.ambient new.ambient in
        subst P (append-nil opened.opens.taken) (gave-then opened.opens.taken [] old.ambient mid.ambient new.ambient before.gave swept.gave tells));
    told_drawn = λ tells. told-swept;
    whole = stay-whole;
    named = stay-named;
    images = images-swept;
  }

  -- all was swept
  pub sofar-swept : IsSwept mid new begun left → Sofar old new found left (begins u.opened.grid u.rules) []
  sofar-swept done = record {
    ran = ran-swept;
    none_end = tt;
    all_drawn = opened.all ∙ sym (append-nil u.report);
    moments = λ limits. omega (arith, moments-swept limits);
    pieces_are = tt;
    all_sure = refl;
    text = λ tells. sink-is tells ∙ sym (append-nil (old.sink.holds ++ whole_report found u));
    of_run = like-of found begun left opened.begun.of_run swept.like;
    last = omega (arith, swept.like.last, opened.begun.last);
    is_last = refl;
    had_numbers = λ n some. absurd (omega (arith, some));
    grid = swept.like.grid ∙ opened.begun.grid;
    rules = swept.like.rules ∙ opened.begun.rules;
    still = λ no_rules none clear all. (
      subst (HasOneMore old.main.holds) (sym (done.still (opened.orphans none ∙ clear) main_tells)) (opened.one none),
      swept.like.grid ∙ opened.begun.grid ∙ left-alone found u none,
      no_rules,
    );
    few = λ ends. few-before old mid new left first done.few;
    stands = done.stands main_tells;
    main_settled = λ settled. done.main_settled main_tells (opened.settled settled);
    sink_settled = λ tells settled. done.sink_settled (sink_tells tells) (opened.sink_settled tells settled);
  }
