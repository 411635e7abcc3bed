-- One more request, behind those that were handled.
use Rattle.std.proofs.Common.{◌≡◌, ◌⊎◌, inl, inr, ℕ, ◌+◌, ◌<◌, ◌≤◌, List, [], ◌∷◌, ◌++◌, None, Some, suc, length, slice_get, IsTrue, refl, sym, ap, ◌∙◌, subst, append_assoc, length-append, arith, ◌*◌}
use Rattle.std.specs.List.{AllByRecursion}
use Rattle.std.proofs.lemmas.Bool.{cases_lt}
use Rattle.std.proofs.lemmas.Option.{slice_get_within}
use Rattle.grid_outside.specs.Device.{IsSettled}
use Rattle.grid_model.specs.Names.{Text}
use Rattle.grid_model.specs.Rows.{Cat}
use Rattle.grid_model.specs.RowGrids.{grid_of}
use Rattle.grid_model.specs.Inputs.{Asked}
use Rattle.grid_model.specs.Sessions.{State}
use Rattle.grid_model.specs.Runs.{Request, Marked}
use Rattle.grid_model.specs.Beginning.{begins}
use Rattle.grid_model.specs.ReplyTexts.{reply_text}
use Rattle.grid_model.specs.declared.marks.Mark.{Mark}
use Rattle.grid_model.specs.Replies.{rest_lines}
use Rattle.grid_journal.specs.Stands.{StandsFor}
use Rattle.grid_headline.specs.Worlds.{World}
use Rattle.grid_headline.specs.Reads.{HasRules, MeansRequest, EndsInput}
use Rattle.grid_headline.specs.Served.{AllPieces, AreSure, IsSure, NoneSweeps, but_last, joined_texts, marks_of}
use Rattle.grid_headline.specs.Files.{IsKnown, AreSettled, DisksAreSettled, KeepsReplicas, WereWhole, AllStayWhole, ReplicasStayNamed}
use Rattle.grid_headline.specs.Causes.{AreCaused}
use Rattle.grid_headline.specs.Ends.{AllStill, HasOneMore, HasFewOrphans, HasRecovery, EndsSwept}
use Rattle.grid_headline.specs.Stops.{AreFirst}
use Rattle.grid_headline.specs.Headline.{BeginsOn}
use Rattle.grid_headline.proofs.OneMeaning.{quits-alone}
use Rattle.grid_headline.proofs.PutStops.{the_catalogue}
use Rattle.run_laws.specs.Handled.{GaveFew, Handled, LastHadNumbers, cats_of, with_one, replies_of, marks_told, IsOfRun, state_behind, OneOfRun, ShowsMost}
use Rattle.run_laws.specs.Steps.{HadNumbersFor, IsToldOf, ComesAfter, kept, unseen, swept, NotesLine, RequestStep, IsHandledWhole}
use Rattle.run_laws.specs.Silent.{LeavesFew}
use Rattle.run_laws.specs.Sofar.{Ran, Sofar, KeepsWhole, KeepsNames}
use Rattle.run_laws.specs.Undone.{Undone, whole_report}
use Rattle.run_laws.specs.Went.{Went, AreInOrder}
use Rattle.run_laws.proofs.Texts.{joined-push}
use Rattle.run_laws.proofs.Lists.{all-append, all-map, marks-push, asked-push, asked-length, after-length, after-push, by_rows-push, state-all, many-replies}
use Rattle.run_laws.proofs.Lists.{pieces-push, replies-push, still-split, few-length, few-push, get-front, get-last}
use Rattle.run_laws.proofs.Known.{pieces-less, told-less}
use Rattle.run_laws.proofs.Goings.{disks-settled, whole-now, known-now, went-then, whole-then}
use Rattle.run_laws.proofs.Causes.{caused-then}
use Rattle.run_laws.proofs.Draws.{gave-then}
use Rattle.run_laws.proofs.BuiltOrders.{is_no_call, removes_nothing}
use Rattle.run_laws.proofs.Recoveries.{told-behind}
use Rattle.run_laws.proofs.Images.{IsOneMore, behind-of, had-now, like-of, image-more, image-one, shows-one, shown-taken, reply_has}
use Rattle.run_laws.proofs.Sureness.{sure-front, sure-have, sure-less, sure-many, sure-pieces, sure-whole}
use Rattle.run_laws.proofs.Orphans.{LastOne, swept_last, quit_last, few-before, few-swept, last-one, quit-leaves, few-behind}
use Rattle.grid_headline.specs.Moments.{IsWithinLimits, most_moments}
use Rattle.size_laws.specs.Within.{IsWithin}
use Rattle.grid_model.specs.Grid.{Grid}
use Rattle.run_laws.proofs.Moments.{after-within, undone-within}
use Rattle.run_laws.specs.Moments.{GoesOnInFew}

-- ---- what was handled so far

module _ {B : Type 0} (old now : World B) (found : Cat) (at : State) (asked : List Asked) (ran : Ran old now found at asked) where
  -- as many were begun as were asked, were done and have replies
  pub begun-many : length ran.handled.begun ≡ length asked
  begun-many = sym (asked-length ran.handled.begun) ∙ ap length ran.asked_are

  pub done-many : length ran.handled.done ≡ length asked
  done-many = after-length ran.after ∙ begun-many

  pub texts-many : length ran.handled.pieces ≡ length ran.handled.done
  texts-many = sure-pieces (IsKnown old found) ran.handled.done ran.handled.pieces ran.handled.sure ran.are_sure

  pub replies-many : length (replies_of ran.handled) ≡ length asked
  replies-many = many-replies 1 ran.handled.done ran.handled.pieces texts-many ∙ done-many

  -- the state is that behind all of them
  pub state-now : state_behind found ran.undone ran.handled (length (replies_of ran.handled)) ≡ at
  state-now = ap (state_behind found ran.undone ran.handled) (replies-many ∙ sym done-many) ∙ state-all ran.after

module _ {B : Type 0} (old mid : World B) (found c : Cat) (at : State) (asked : List Asked) (so : Sofar old mid found c at asked) where
  module _ (begin : BeginsOn old found) (order : AreInOrder mid) where
    -- the files that were known are known now
    pub known-so : (slot : ℕ) → IsKnown old found slot → IsKnown mid c slot
    known-so = known-now old mid so.ran.went begin.main_tells begin.spare_tells order found c so.main_settled so.stands so.ran.whole

    -- all stays whole, where it does from here on
    pub whole-so : (new : World B) → Went mid new → KeepsWhole mid new c → DisksAreSettled old → WereWhole old old.moments found → AllStayWhole new old.moments
    whole-so new then stay settled whole =
        let so_far = so.ran.whole settled whole in
        whole-then old mid new so.ran.went then so_far
        (stay (disks-settled old mid so.ran.went begin.spare_tells so.main_settled settled)
        (whole-now old mid so.ran.went begin.main_tells begin.spare_tells order c old.moments so.ran.went.drawn so.stands so_far))

    -- what replicas named stays named, where all does from here on
    pub named-so : (new : World B) → Went mid new → (NoneSweeps old.source.left → KeepsNames mid new c) → NoneSweeps old.source.left
        → ¬ HasRecovery found.pending → IsSettled old.main → ReplicasStayNamed new old.moments found
    named-so new then stay none free settled t main d late left stands = by (cases_lt mid.moments t)
      where
        mid_tells : IsTrue mid.main.tells
        mid_tells = subst IsTrue (sym so.ran.went.main.tells) begin.main_tells

        u : ℕ
        u = mid.moments + 1

        now : KeepsReplicas found c
        now = so.ran.named none free settled u mid.main.holds c (omega (arith, so.ran.went.drawn)) (mid.main.now mid_tells u (omega (arith, order.main_last))) so.stands

        by : (mid.moments < t) ⊎ (t ≤ mid.moments) → KeepsReplicas found d
        by (inl later) = λ slot name row names is. stay none mid_tells (so.main_settled settled) t main d later left stands slot name (now slot name row names is)
        by (inr early) = so.ran.named none free settled t main d late (then.main.earlier t main early left) stands

module _ {B : Type 0} (old mid : World B) (found c : Cat) (at : State) (asked : List Asked) (so : Sofar old mid found c at asked) where
  -- the state is within the limits
  pub within-so : IsWithin (grid_of found) → IsWithin at.grid
  within-so within = after-within so.ran.after (undone-within found so.ran.undone within)

-- ---- one more

module _ {B : Type 0} (old mid new : World B) (found c : Cat) (at : State) (asked : List Asked) (begin : BeginsOn old found) (order : AreInOrder mid)
    (so : Sofar old mid found c at asked) (then : Went mid new)
    (in_few : GoesOnInFew mid new c) (stay : KeepsWhole mid new c) (names : NoneSweeps old.source.left → KeepsNames mid new c) (a : Asked) (noted : NotesLine a.line mid new)
    (request : Request) (means : MeansRequest at a request) (step : RequestStep mid new at c (length asked + 1) request) where
  abbrev h : Handled
  h = so.ran.handled

  abbrev u : Undone found
  u = so.ran.undone

  abbrev m : Marked
  m = record { asked = a; marks = step.marks }

  abbrev more : Handled
  more = with_one h m step.d step.texts step.next

  -- its text, by the texts of its marks
  abbrev its_text : Text
  its_text = reply_text (length asked + 1) step.d.reply step.texts.pieces

  abbrev known : ℕ → Type 0
  known = IsKnown old found

  texts_are : replies_of more ≡ replies_of h ++ its_text ∷ []
  texts_are = replies-push known 1 (length asked + 1) h.done h.pieces step.d step.texts.pieces (omega (arith, done-many old mid found at asked so.ran)) so.pieces_are

  cats_many : length h.behind ≡ length asked
  cats_many = few-length h.first h.begun h.behind so.ran.all_few ∙ begun-many old mid found at asked so.ran

  pub one-more : IsOneMore h m step.d step.texts step.next its_text
  one-more =
      let replies = replies-many old mid found at asked so.ran in
      let front = sure-front (IsKnown mid c) (length asked + 1) step.d step.texts.pieces step.texts.sure step.are_sure in
      record {
        texts_are = texts_are;
        begun_length = begun-many old mid found at asked so.ran ∙ sym replies;
        done_length = done-many old mid found at asked so.ran ∙ sym replies;
        pieces_length = texts-many old mid found at asked so.ran ∙ done-many old mid found at asked so.ran ∙ sym replies;
        cats_length = cats_many ∙ sym replies;
        has_bytes = reply_has (length asked + 1) step.d.reply step.texts.pieces;
        pieces_have = sure-have (IsKnown mid c) (length asked + 1) step.d step.texts.pieces step.texts.sure step.are_sure;
        rest = rest_lines (length asked + 1) step.d.reply;
        pieces_first = refl;
        unsure = front.0;
        sure_first = front.1;
        all_sure = so.all_sure;
      }

  -- the marks of recoveries, of the requests before it, and its own
  pub marks_more : u.report ++ marks_of more.begun ≡ (u.report ++ marks_of h.begun) ++ step.marks
  marks_more = ap (λ (x : List Mark). u.report ++ x) (marks-push h.begun m) ∙ sym (append_assoc u.report (marks_of h.begun) step.marks)

  pub told-more : AllByRecursion (IsToldOf known (length old.stores)) (u.report ++ marks_of more.begun)
  told-more =
      let P : List Mark → Type 0 = λ ms. AllByRecursion (IsToldOf known (length old.stores)) ms in
      let N : ℕ → Type 0 = λ k. AllByRecursion (IsToldOf known k) step.marks in
      subst P (sym marks_more)
      (all-append (IsToldOf known (length old.stores)) (u.report ++ marks_of h.begun) step.marks so.ran.told_of
      (subst N so.ran.went.count (all-map (IsToldOf (IsKnown mid c) (length mid.stores)) (IsToldOf known (length mid.stores))
      (told-less (IsKnown mid c) known (known-so old mid found c at asked so begin order) (length mid.stores)) step.marks (step.told_of (subst IsTrue (sym so.ran.went.main.tells) begin.main_tells)))))

  module _ (tells : IsTrue old.sink.tells) where
    pub sink-mid : IsTrue mid.sink.tells
    sink-mid = subst IsTrue (sym so.ran.went.sink.tells) tells

    -- what a stop leaves
    pub images-more : AreSettled old → (t : ℕ) (main sink : Text) → old.moments < t → new.main.left t main → new.sink.left t sink
        → OneOfRun found u more old.sink.holds main sink
    images-more settled t main sink late main_left sink_left = by (cases_lt mid.moments t)
      where
        mid_tells : IsTrue mid.main.tells
        mid_tells = subst IsTrue (sym so.ran.went.main.tells) begin.main_tells

        by : (mid.moments < t) ⊎ (t ≤ mid.moments) → OneOfRun found u more old.sink.holds main sink
        by (inl later) =
            image-one found u c h m step.d step.texts step.next (length asked + 1) one-more at request means (state-now old mid found at asked so.ran) so.rules so.of_run
            (ap (slice_get (cats_of h)) (replies-many old mid found at asked so.ran) ∙ so.is_last)
            (omega (arith, so.last, replies-many old mid found at asked so.ran)) so.grid step.marks_are (omega (arith, replies-many old mid found at asked so.ran))
            (subst (LastHadNumbers h) (sym (replies-many old mid found at asked so.ran)) so.had_numbers)
            old.sink.holds mid.sink.holds main sink (so.text tells) (λ e stands. noted mid_tells (so.main_settled settled.disks.of_main) t main e later main_left stands)
            (step.images mid_tells sink-mid (so.main_settled settled.disks.of_main) (so.sink_settled tells settled.of_sink) t main sink later main_left sink_left)
        by (inr early) =
            image-more found u h m step.d step.texts step.next its_text one-more old.sink.holds main sink
            (so.ran.images tells settled t main sink late (then.main.earlier t main early main_left) (then.sink.earlier t sink early sink_left))

  -- where all of its text is sure, each of its marks has a text
  pub many_pieces : length its_text ≤ length step.texts.sure → length step.texts.pieces ≡ length m.marks
  many_pieces reaches =
      sure-many (IsKnown mid c) (length asked + 1) step.d step.texts.pieces step.texts.sure step.are_sure reaches ∙ ap length step.marks_are

  abbrev shown-part : IsTrue old.sink.tells → ShowsMost (whole_report found u) more old.sink.holds new.sink.holds
  shown-part tells = shows-one found u h m step.d step.texts step.next its_text one-more old.sink.holds mid.sink.holds new.sink.holds (so.text tells)
      (step.shown (sink-mid tells)).part

  -- the marks that are told are the first of those that were come to
  pub told-drawn : (tells : IsTrue old.sink.tells) → AreFirst (marks_told found u more (length (shown-part tells).part)) (so.ran.drawn ++ step.taken)
  told-drawn tells =
      let s = step.shown (sink-mid tells) in
      let part = (shown-part tells).part in
      let first = shown-taken found u h m step.d step.texts step.next its_text one-more old.sink.holds mid.sink.holds new.sink.holds
      (so.text tells) s.part step.taken step.first many_pieces s.few in
      let all : u.report ++ (marks_of h.begun ++ step.taken) ≡ so.ran.drawn ++ step.taken =
      sym (append_assoc u.report (marks_of h.begun) step.taken) ∙ ap (λ (x : List Mark). x ++ step.taken) (sym so.all_drawn) in
      subst (AreFirst (marks_told found u more (length part))) all
      (told-behind found u more (length part) (marks_of h.begun ++ step.taken)
      ((shown-part tells).report_first (omega (arith, length-append h.begun (m ∷ [])))) first)

  -- all is sure of those before it, and of it what is sure of it
  pub sure-more : AreSure known more.done more.pieces more.sure
  sure-more =
      let number : length asked + 1 ≡ length h.done + 1 = omega (arith, done-many old mid found at asked so.ran) in
      but_last h.done step.d h.pieces step.texts.pieces step.texts.sure refl refl so.pieces_are
      (subst (λ k. IsSure known k step.d step.texts.pieces step.texts.sure) number
      (sure-less (IsKnown mid c) known (known-so old mid found c at asked so begin order) (length asked + 1) step.d step.texts.pieces step.texts.sure step.are_sure))
      (ap (λ (s : Text). s ++ step.texts.sure) so.all_sure)

  -- few numbers were given for it
  pub gave-few : GaveFew c m step.next
  gave-few = record { keeps = step.keeps; few = step.few }

  -- few moments were taken for it
  pub moments-more : IsWithinLimits found → new.moments ≤ old.moments + (length more.begun + 1) * most_moments
  moments-more limits =
      let W : Grid → Type 0 = λ g. IsWithin g in
      let took = in_few (subst W (sym so.grid) (within-so old mid found c at asked so limits.grid)) in
      omega (arith, so.moments limits, took, length-append h.begun (m ∷ []))

  -- it was begun, and maybe not handled whole
  abbrev pub ran-more : Ran old new found step.d.state (asked ++ a ∷ [])
  ran-more = record {
    undone = u;
    handled = more;
    asked_are = asked-push h.begun m ∙ ap (λ (l : List Asked). l ++ a ∷ []) so.ran.asked_are;
    after = after-push m step.d request so.ran.after means step.does_so step.all;
    are_sure = sure-more;
    told_of = told-more;
    by_rows = by_rows-push m step.d so.ran.after so.ran.by_rows step.by_rows;
    few_before = so.ran.few_before;
    all_few = few-push h.first c step.next h.begun h.behind m so.ran.all_few
        (ap (slice_get (cats_of h)) (begun-many old mid found at asked so.ran) ∙ so.is_last) gave-few;
    moments = λ limits. omega (arith, moments-more limits);
    went = went-then old mid new so.ran.went then;
    shown = shown-part;
    caused = subst (AreCaused old new) (sym marks_more) (caused-then old mid new (u.report ++ marks_of h.begun) step.marks so.ran.went.count so.ran.caused step.caused);
    drawn = so.ran.drawn ++ step.taken;
    gave = gave-then so.ran.drawn step.taken old.ambient mid.ambient new.ambient so.ran.gave step.gave;
    told_drawn = told-drawn;
    whole = whole-so old mid found c at asked so begin order new then stay;
    named = named-so old mid found c at asked so begin order new then names;
    images = images-more;
  }

  module _ (after : Cat) (end : State) (whole : IsHandledWhole mid new at c (length asked + 1) request step after end) where
    -- each mark has its text, and all is sure
    pub pieces-more : AllPieces known 1 more.done more.pieces
    pieces-more =
        pieces-push known 1 (length asked + 1) h.done h.pieces step.d step.texts.pieces (omega (arith, done-many old mid found at asked so.ran)) so.pieces_are
        (pieces-less (IsKnown mid c) known (known-so old mid found c at asked so begin order) (length asked + 1) 0 step.d.sent step.d.reply.marks step.texts.pieces
        whole.pieces_are)

    all-sure : more.sure ≡ joined_texts (replies_of more)
    all-sure =
        ap (λ (s : Text). s ++ step.texts.sure) so.all_sure
        ∙ ap (λ (s : Text). joined_texts (replies_of h) ++ s)
        (sure-whole (IsKnown mid c) (length asked + 1) step.d step.texts.pieces step.texts.sure whole.pieces_are step.are_sure)
        ∙ sym (ap joined_texts texts_are ∙ joined-push (replies_of h) its_text)

    -- all replies are shown
    pub text-more : IsTrue old.sink.tells → new.sink.holds ≡ (old.sink.holds ++ whole_report found u) ++ joined_texts (replies_of more)
    text-more tells =
        whole.text (sink-mid tells) ∙ ap (λ (s : Text). s ++ its_text) (so.text tells)
        ∙ append_assoc (old.sink.holds ++ whole_report found u) (joined_texts (replies_of h)) its_text
        ∙ ap (λ (s : Text). (old.sink.holds ++ whole_report found u) ++ s) (sym (ap joined_texts texts_are ∙ joined-push (replies_of h) its_text))

    pub of-run-more : IsOfRun found after
    of-run-more = by whole.follows
      where
        by : ComesAfter c (length asked + 1) request step.d after → IsOfRun found after
        by (kept behind had) = behind-of found c (length asked + 1) step.d after so.of_run behind
        by (unseen is no_marks grid rules) = let P : Cat → Type 0 = λ x. IsOfRun found x in subst P (sym is) so.of_run
        by (swept asks like gives no_marks grid rules) = like-of found c after so.of_run like

    last_more : after.numbers.last ≤ length (asked ++ a ∷ [])
    last_more = by whole.follows
      where
        by : ComesAfter c (length asked + 1) request step.d after → after.numbers.last ≤ length (asked ++ a ∷ [])
        by (kept behind had) = omega (arith, behind.last, length-append asked (a ∷ []))
        by (unseen is no_marks grid rules) = omega (arith, ap (λ (x : Cat). x.numbers.last) is, so.last, length-append asked (a ∷ []))
        by (swept asks like gives no_marks grid rules) = omega (arith, like.last, so.last, length-append asked (a ∷ []))

    -- it has the rules that the request left
    pub rules-more : HasRules after step.d.state.rules
    rules-more = by whole.follows
      where
        by : ComesAfter c (length asked + 1) request step.d after → HasRules after step.d.state.rules
        by (kept behind had) = behind.rules
        by (unseen is no_marks grid rules) = ap (λ (x : Cat). x.rules) is ∙ rules
        by (swept asks like gives no_marks grid rules) = like.rules ∙ rules

    -- what makes files was done by it only where there was a number for them
    had-more : LastHadNumbers more (suc (length asked))
    had-more = by whole.follows
      where
        is_last : slice_get (cats_of more) (length asked) ≡ Some c
        is_last = get-front (cats_of h) (step.next ∷ []) (length asked) (slice_get_within (cats_of h) (length asked) c so.is_last) ∙ so.is_last

        so_if : HadNumbersFor c request step.d → LastHadNumbers more (suc (length asked))
        so_if had = had-now h m step.d step.texts step.next (length asked) (begun-many old mid found at asked so.ran) (done-many old mid found at asked so.ran)
            is_last at request means step.marks_are had

        by : ComesAfter c (length asked + 1) request step.d after → LastHadNumbers more (suc (length asked))
        by (kept behind had) = so_if had
        by (unseen is no_marks grid rules) = so_if (λ session order asks makes some was. absurd (some no_marks))
        by (swept asks like gives no_marks grid rules) = so_if (λ session order asks makes some was. absurd (some no_marks))

    pub stands-more : StandsFor new.main.holds after
    stands-more = whole.stands (subst IsTrue (sym so.ran.went.main.tells) begin.main_tells)

    -- where there were no rules, no orphan was found, all left the grid and the rules as they were and told no mark, main has the run's record more
    pub still-more : u.rules ≡ [] → found.pending ≡ None → found.orphans ≡ [] → AllStill (grid_of found) more.begun more.done
        → HasOneMore old.main.holds new.main.holds × (grid_of after ≡ grid_of found) × (step.d.state.rules ≡ [])
    still-more no_rules none clear all =
        let two = still-split (grid_of found) h.begun h.done m step.d all in
        let so_far = so.still no_rules none clear two.0 in
        let main : new.main.holds ≡ mid.main.holds =
        whole.still (removes_nothing means two.1.3) (is_no_call means two.1.4, so_far.2) two.1.0 (two.1.1 ∙ sym so_far.1) two.1.2
        (subst IsTrue (sym so.ran.went.main.tells) begin.main_tells) in (
          subst (HasOneMore old.main.holds) (sym main) so_far.0,
          whole.grid ∙ ap (λ (s : State). s.grid) (sym whole.state) ∙ two.1.1,
          two.1.2,
        )

    -- where it ends the input, it leaves what was
    catalogue-left : LeavesFew mid new request step.d after → EndsInput a → after ≡ c
    catalogue-left few ends =
        let one = quits-alone at a request ends means in
        let main : new.main.holds ≡ mid.main.holds = quit-leaves mid new one.0 request step.d after one.1 few (subst IsTrue (sym so.ran.went.main.tells) begin.main_tells) in
        the_catalogue mid.main.holds [] c after (so.stands []) (subst (λ (t : Text). StandsFor t after) main stands-more [])

    -- behind a sweep, few orphans are left
    pub few-more : LeavesFew mid new request step.d after → EndsSwept (state_behind found u more) more.begun more.done (length more.begun) → HasFewOrphans old new after
    few-more few ends =
        by (last-one (begins u.opened.grid u.rules) h.begun h.done m step.d many (length-append h.begun (m ∷ [])) ends)
      where
        many : length h.done ≡ length h.begun
        many = done-many old mid found at asked so.ran ∙ sym (begun-many old mid found at asked so.ran)

        by : LastOne (begins u.opened.grid u.rules) h.begun h.done m step.d many → HasFewOrphans old new after
        by (swept_last session be asks ok) = few-before old mid new after so.ran.went (few-swept mid new be at a session request step.d after asks means few ok)
        by (quit_last quits before) =
            subst (HasFewOrphans old new) (sym (catalogue-left few quits)) (few-behind old mid new c then (so.few before))

    -- it was handled whole, and the run goes on
    sofar_did : LeavesFew mid new request step.d after → ¬ EndsInput a → Sofar old new found after step.d.state (asked ++ a ∷ [])
    sofar_did few goes_on = record {
      ran = ran-more;
      none_end = all-append (λ (x : Asked). ¬ EndsInput x) asked (a ∷ []) so.none_end (goes_on, tt);
      all_drawn = ap (λ (d : List Mark). d ++ step.taken) so.all_drawn ∙ ap (λ (d : List Mark). (u.report ++ marks_of h.begun) ++ d) whole.all_taken ∙ sym marks_more;
      moments = moments-more;
      pieces_are = pieces-more;
      all_sure = all-sure;
      text = text-more;
      of_run = of-run-more;
      last = last_more;
      is_last =
          let size : length (asked ++ a ∷ []) ≡ suc (length h.behind) = length-append asked (a ∷ []) ∙ omega (arith, cats_many) in
          ap (slice_get (cats_of more)) size ∙ get-last h.behind step.next ∙ ap Some whole.is_next;
      had_numbers = subst (LastHadNumbers more) (sym (length-append asked (a ∷ []) ∙ omega arith)) had-more;
      grid = whole.grid ∙ ap (λ (s : State). s.grid) (sym whole.state);
      rules = rules-more;
      still = still-more;
      few = few-more few;
      stands = stands-more;
      main_settled = λ settled. whole.main_settled (subst IsTrue (sym so.ran.went.main.tells) begin.main_tells) (so.main_settled settled);
      sink_settled = λ tells settled. whole.sink_settled (sink-mid tells) (so.sink_settled tells settled);
    }

    pub sofar-more : LeavesFew mid new request step.d after → ¬ EndsInput a → Sofar old new found after end (asked ++ a ∷ [])
    sofar-more few goes_on = subst (λ (s : State). Sofar old new found after s (asked ++ a ∷ [])) whole.state (sofar_did few goes_on)
