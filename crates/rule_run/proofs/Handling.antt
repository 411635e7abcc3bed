-- A request whose calls were made, once its last commit and the rest of its reply were tried, or where it was cut short.
use Rattle.std.proofs.Common.{◌≡◌, ◌⊎◌, inl, inr, ℕ, ◌+◌, ◌<◌, ◌≤◌, List, [], ◌++◌, length, Option, None, Some, Result, Ok, Err, IsTrue}
use Rattle.std.proofs.Common.{◌∷◌, take, drop, refl, sym, ap, ◌∙◌, subst, append_assoc, take-append-drop, arith}
use Rattle.std.specs.Prelude.{⊤}
use Rattle.std.specs.List.{AllByRecursion}
use Rattle.std.proofs.lemmas.Bool.{cases_lt}
use Rattle.std.proofs.lemmas.List.{append-nil, length-map, length-take-le}
use Rattle.grid_outside.specs.Ambient.{AmbientState}
use Rattle.grid_outside.specs.Device.{IsSettled}
use Rattle.grid_outside.specs.Disk.{DiskState}
use Rattle.grid_outside.specs.Files.{StoreState}
use Rattle.grid_outside.specs.Sink.{AddsPart, SinkState}
use Rattle.grid_outside.specs.Source.{SourceState}
use Rattle.grid_outside.specs.declared.outside.Wear.TheVariants as wear
use Rattle.grid_model.specs.Grid.{Grid}
use Rattle.grid_model.specs.Names.{Text}
use Rattle.grid_model.specs.Rows.{Cat}
use Rattle.grid_model.specs.RowGrids.{grid_of}
use Rattle.grid_model.specs.Applying.{apply_all}
use Rattle.grid_model.specs.Meanings.{gives}
use Rattle.grid_model.specs.DataLines.{data_lines}
use Rattle.grid_model.specs.Replies.{mark_line, rest_lines}
use Rattle.grid_model.specs.ReplyTexts.{ArePieces, SendsBytes, reply_text}
use Rattle.grid_model.specs.Completing.{AreClean, EndsByRows}
use Rattle.grid_model.specs.Sessions.{State}
use Rattle.grid_model.specs.Working.{Done, Sent}
use Rattle.grid_model.specs.Runs.{Request, does}
use Rattle.grid_model.specs.declared.marks.Mark.{Mark}
use Rattle.grid_model.specs.declared.replies.End.{End}
use Rattle.grid_model.specs.declared.replies.Reply.{Reply}
use Rattle.grid_journal.specs.Journal.{Journal}
use Rattle.grid_journal.specs.Stands.{StandsFor}
use Rattle.grid_deed.specs.Held.{IsHeld}
use Rattle.grid_deed.specs.Safe.{AreWhole, KeepBothWhole, KeepWhole}
use Rattle.grid_deed.proofs.Keeping.{held_stands}
use Rattle.grid_deed.proofs.Wholes.{one_cat, whole_before}
use Rattle.grid_headline.specs.Causes.{AreCaused}
use Rattle.grid_headline.specs.Files.{IsKnown}
use Rattle.grid_headline.specs.Numbers.{KeepsNumbers}
use Rattle.grid_headline.specs.Reads.{HasRules}
use Rattle.grid_headline.specs.Served.{IsSure, cut, joined_texts, whole}
use Rattle.grid_headline.specs.Stops.{AreFirst}
use Rattle.grid_headline.specs.Worlds.{World}
use Rattle.count_laws.specs.GivenNumbers.{GivesFew}
use Rattle.count_laws.proofs.GivenNumbers.{gives_before, gives_more, gives_none}
use Rattle.run_laws.specs.Passes.{CallsPass, Seen}
use Rattle.run_laws.specs.Steps.{CallsNoRules, ComesAfter, Gave, HadNumbersFor, IsHandledWhole, IsLeftBehind, IsToldOf, OneOf, RequestStep, ShowsFew, SureTexts}
use Rattle.run_laws.specs.Steps.{kept, kept_so, unseen as nothing_seen}
use Rattle.run_laws.proofs.Causes.{caused-on}
use Rattle.run_laws.proofs.Known.{told-less}
use Rattle.run_laws.proofs.Lists.{all-map}
use Rattle.run_laws.proofs.Texts.{whole-most}
use Rattle.run_laws.proofs.Users.{KeepsUsers, users_then}
use Rattle.service_run.specs.Noting.{IsOutOfRoom, OneOfNote, noted, unnoted}
use Rattle.service_run.specs.Steps.{IsKnownBy, lines_of}
use Rattle.service_run.specs.declared.command.Command.{Command}
use Rattle.service_run.specs.declared.ending.Ending.{Ending}
use Rattle.service_run.specs.declared.ending.Ending.TheVariants as ending
use Rattle.service_run.proofs.StillSteps.{beside_same}
use Rattle.call_laws.specs.Amid.{AreRan, HoldsSo, IsAmid, IsCutShort, Setting, WereAllWhole, world}
use Rattle.call_laws.proofs.Joined.{went_of}
use Rattle.call_laws.proofs.Ran.{caused_on, told_on}
use Rattle.call_laws.proofs.Rows.{first_all, named_then}
use Rattle.call_laws.proofs.Told.{adds_all, adds_behind}
use Rattle.rule_run.specs.Asked.{EndOf, IsAsked, IsFrontOfReply, IsOnMain, IsOnWay, asked_setting, mark_lines, not_noted, noted as noted_there, text_with}
use Rattle.rule_run.specs.Executing.{ExecuteEnds, Executes, HasRunOut, IsRested}
use Rattle.rule_run.specs.Finishing.{FinishEnds, Finishes, HasNothing, IsDone, IsLeft, ended, reply_of, rest_text}
use Rattle.rule_run.proofs.Leaving.{gives_ended, grid_ended, keeps_ended, keeps_then, named_ended, users_ended}
use Rattle.rule_run.proofs.Replies.{joined_lines, lines_first, part_of_sure}
use Rattle.rule_run.proofs.SentReplies.{pieces_before, pieces_many, pieces_plain, pieces_sent, sent_front, sent_pieces, sent_text}
use Rattle.rule_run.proofs.Settings.{on_way, one_image}

-- What the request does with all of these marks: with clean marks it ends by the rows.
pub record DoesAll (at : State) (request : Request) (marks : List Mark) : Type 0 where
  pub d : Done
  pub does_so : does at request marks ≡ gives d
  pub all : d.left ≡ []
  pub marks_are : d.reply.marks ≡ marks
  pub by_rows : AreClean marks → EndsByRows d.reply.end

-- The same with the texts of its marks, of which those of the first ones are told so.
pub record IsWholeEnd (n : ℕ) (text_of : List Mark → Text) (at : State) (request : Request) (known : ℕ → Type 0) (marks : List Mark) : Type 0 where
  pub d : Done
  pub does_so : does at request marks ≡ gives d
  pub all : d.left ≡ []
  pub marks_are : d.reply.marks ≡ marks
  pub by_rows : AreClean marks → EndsByRows d.reply.end
  pub pieces : List Text
  pub pieces_are : ArePieces known n d.sent 0 d.reply.marks pieces
  pub text_is : joined_texts pieces ≡ text_of marks
  pub fronts : (told : List Mark) → AreFirst told marks
      → IsFrontOfReply n d (record { pieces = pieces; sure = reply_text n d.reply pieces }) told (text_of told)

-- The same of a request that was cut short behind the first of these marks, with what is sure of its reply: of that the text of any first marks
-- up to some is a front.
pub record IsCutEnd (n : ℕ) (text_of : List Mark → Text) (at : State) (request : Request) (known : ℕ → Type 0) (taken marks : List Mark) : Type 0 where
  pub d : Done
  pub does_so : does at request marks ≡ gives d
  pub all : d.left ≡ []
  pub marks_are : d.reply.marks ≡ marks
  pub by_rows : AreClean marks → EndsByRows d.reply.end
  pub texts : SureTexts
  pub are_sure : IsSure known n d texts.pieces texts.sure
  pub reach : List Mark
  pub reach_first : AreFirst reach marks
  pub taken_first : AreFirst taken reach
  pub fronts : (told : List Mark) → AreFirst told reach → IsFrontOfReply n d texts told (text_of told)

-- where the request calls no rules, took no mark and left the grid as it was, main is as it was
abbrev pub StaysSo : State → Request → Cat → List Mark → Done → DiskState → DiskState → Type 0
StaysSo at request before taken d old new =
    CallsNoRules at request → taken ≡ [] → d.state.grid ≡ grid_of before → IsTrue old.tells → new.holds ≡ old.holds

-- ---- what it comes to

module _ {n : ℕ} {text_of : List Mark → Text} {at : State} {request : Request} {known : ℕ → Type 0} where
  -- the texts of all marks, and all of the reply
  abbrev pub texts_of_all : {marks : List Mark} → IsWholeEnd n text_of at request known marks → SureTexts
  texts_of_all w = record { pieces = w.pieces; sure = reply_text n w.d.reply w.pieces }

  abbrev pub end_of_all : Cat → {marks : List Mark} → IsWholeEnd n text_of at request known marks → EndOf n text_of at request
  end_of_all next {marks} w = record {
    marks = marks;
    d = w.d;
    does_so = w.does_so;
    all = w.all;
    marks_are = w.marks_are;
    texts = texts_of_all w;
    reach = marks;
    reach_first = first_all marks;
    fronts = w.fronts;
    next = next;
  }

  abbrev pub end_of_cut : Cat → {taken marks : List Mark} → IsCutEnd n text_of at request known taken marks → EndOf n text_of at request
  end_of_cut next {marks = marks} w = record {
    marks = marks;
    d = w.d;
    does_so = w.does_so;
    all = w.all;
    marks_are = w.marks_are;
    texts = w.texts;
    reach = w.reach;
    reach_first = w.reach_first;
    fronts = w.fronts;
    next = next;
  }

  -- all of it is sure
  abbrev pub cut_of_whole : (taken marks : List Mark) → IsWholeEnd n text_of at request known marks → AreFirst taken marks
      → IsCutEnd n text_of at request known taken marks
  cut_of_whole taken marks w first = record {
    d = w.d;
    does_so = w.does_so;
    all = w.all;
    marks_are = w.marks_are;
    by_rows = w.by_rows;
    texts = texts_of_all w;
    are_sure = whole w.pieces_are refl;
    reach = marks;
    reach_first = first_all marks;
    taken_first = first;
    fronts = w.fronts;
  }

module _ (n : ℕ) (at : State) (request : Request) (known : ℕ → Type 0) where
  -- ---- by lines alone

  pub plain_pieces : (marks : List Mark) (w : DoesAll at request marks) → w.d.sent ≡ None → ArePieces known n w.d.sent 0 w.d.reply.marks (mark_lines n marks)
  plain_pieces marks w none =
      let F : Option Sent → Type 0 = λ o. ArePieces known n o 0 w.d.reply.marks (mark_lines n marks) in
      let G : List Mark → Type 0 = λ ms. ArePieces known n None 0 ms (mark_lines n marks) in
      subst F (sym none) (subst G (sym w.marks_are) (pieces_plain known n 0 marks))

  -- It sends nothing: the texts are the lines of its marks.
  abbrev pub plain_end : (marks : List Mark) (w : DoesAll at request marks) → w.d.sent ≡ None → IsWholeEnd n (lines_of n) at request known marks
  plain_end marks w none = record {
    d = w.d;
    does_so = w.does_so;
    all = w.all;
    marks_are = w.marks_are;
    by_rows = w.by_rows;
    pieces = mark_lines n marks;
    pieces_are = plain_pieces marks w none;
    text_is = joined_lines n marks;
    fronts = λ told first.
        lines_first n w.d (record { pieces = mark_lines n marks; sure = reply_text n w.d.reply (mark_lines n marks) }) told marks (rest_lines n w.d.reply)
        first refl refl;
  }

  abbrev pub plain_cut : (taken marks : List Mark) (w : DoesAll at request marks) → w.d.sent ≡ None → AreFirst taken marks
      → IsCutEnd n (lines_of n) at request known taken marks
  plain_cut taken marks w none first = cut_of_whole taken marks (plain_end marks w none) first

  pub sure_before : (marks : List Mark) (w : DoesAll at request marks) (s : Sent) → w.d.sent ≡ Some s → s.before < length marks
      → IsSure known n w.d (mark_lines n (take s.before marks)) (joined_texts (mark_lines n (take s.before marks)))
  sure_before marks w s sent less =
      let lines : List Text = mark_lines n (take s.before marks) in
      let many : length lines ≡ s.before = length-map (take s.before marks) (mark_line n) ∙ length-take-le s.before marks (omega (arith, less)) in
      let F : Option Sent → Type 0 = λ o. ArePieces known n o 0 (take (length lines) w.d.reply.marks) lines in
      let G : List Mark → Type 0 = λ ms. ArePieces known n (Some s) 0 ms lines in
      let same : take (length lines) w.d.reply.marks ≡ take s.before marks = ap (λ (k : ℕ). take k w.d.reply.marks) many ∙ ap (take s.before) w.marks_are in
      let within : 0 + length (take s.before marks) ≤ s.before = omega (arith, length-take-le s.before marks (omega (arith, less))) in
      cut (omega (arith, many, less, ap (λ (ms : List Mark). length ms) w.marks_are))
      (subst F (sym sent) (subst G (sym same) (pieces_before known n s 0 (take s.before marks) within))) refl

  -- It was cut short in front of the mark that sends bytes: no more is sure of its reply than the lines of the marks before that one.
  abbrev pub cut_before_data : (taken marks : List Mark) (w : DoesAll at request marks) (s : Sent) → w.d.sent ≡ Some s
      → AreFirst taken (take s.before marks) → s.before < length marks → IsCutEnd n (lines_of n) at request known taken marks
  cut_before_data taken marks w s sent first less = record {
    d = w.d;
    does_so = w.does_so;
    all = w.all;
    marks_are = w.marks_are;
    by_rows = w.by_rows;
    texts = record { pieces = mark_lines n (take s.before marks); sure = joined_texts (mark_lines n (take s.before marks)) };
    are_sure = sure_before marks w s sent less;
    reach = take s.before marks;
    reach_first = record { rest = drop s.before marks; are = sym (take-append-drop s.before marks) };
    taken_first = first;
    fronts = λ told its.
        let lines : List Text = mark_lines n (take s.before marks) in
        lines_first n w.d (record { pieces = lines; sure = joined_texts lines }) told (take s.before marks) [] its refl (sym (append-nil (joined_texts lines)));
  }

  -- ---- with bytes that are sent

  module _ (front : List Mark) (m : Mark) (back : List Mark) (bytes : Text) (w : DoesAll at request (front ++ m ∷ back)) (s : Sent)
      (sent : w.d.sent ≡ Some s) (many : length front ≡ s.before) (sends : SendsBytes known s m bytes) where
    pub sent_pieces_are : ArePieces known n w.d.sent 0 w.d.reply.marks (sent_pieces n front m back bytes)
    sent_pieces_are =
        let F : Option Sent → Type 0 = λ o. ArePieces known n o 0 w.d.reply.marks (sent_pieces n front m back bytes) in
        let G : List Mark → Type 0 = λ ms. ArePieces known n (Some s) 0 ms (sent_pieces n front m back bytes) in
        subst F (sym sent) (subst G (sym w.marks_are) (pieces_sent known n s m back bytes sends 0 front (omega (arith, many))))

    -- The bytes are sent in front of this mark.
    abbrev pub sent_end : IsWholeEnd n (text_with n s.before (data_lines n bytes)) at request known (front ++ m ∷ back)
    sent_end = record {
      d = w.d;
      does_so = w.does_so;
      all = w.all;
      marks_are = w.marks_are;
      by_rows = w.by_rows;
      pieces = sent_pieces n front m back bytes;
      pieces_are = sent_pieces_are;
      text_is = sent_text n s.before front m back bytes many;
      fronts = λ told first.
          let pieces : List Text = sent_pieces n front m back bytes in
          sent_front n w.d (record { pieces = pieces; sure = reply_text n w.d.reply pieces }) front m back bytes s.before many refl refl told first;
    }

    abbrev pub sent_cut : (taken : List Mark) → AreFirst taken (front ++ m ∷ back)
        → IsCutEnd n (text_with n s.before (data_lines n bytes)) at request known taken (front ++ m ∷ back)
    sent_cut taken first = cut_of_whole taken (front ++ m ∷ back) sent_end first

-- files that are known to be whole are so by the catalogue
pub known_by : {B : Type 0} (w : World B) (c : Cat) (slot : ℕ) → IsKnown w c slot → IsKnownBy w c slot
known_by w c slot known = record {
  settled = known.settled.of_main;
  whole = λ t late. (let was = known.whole t late in record {
    rows = was.rows;
    files = λ slot store image is tells left. was.files slot image (record { store = store; is = is; tells = tells; of_store = left });
  });
  there = known.there;
}

module _ {D A P K : Type 0} (disk : D → DiskState) (ambient : A → AmbientState) (plugin : P → StoreState) (sink : K → SinkState) (source : SourceState)
    (at : State) (request : Request) (before : Cat) (x : Command) (asked : IsAsked at request before x) (text_of : List Mark → Text)
    (from : Seen D A P K) where
  abbrev n : ℕ
  n = x.number

  abbrev at_old : World P
  at_old = world disk ambient plugin sink source from

  abbrev stores : ℕ
  stores = length from.outside.stores.items

  pub told_by : (marks : List Mark) → AllByRecursion (IsToldOf (IsKnownBy at_old before) stores) marks
      → AllByRecursion (IsToldOf (IsKnown at_old before) stores) marks
  told_by marks all =
      all-map (IsToldOf (IsKnownBy at_old before) stores) (IsToldOf (IsKnown at_old before) stores)
      (told-less (IsKnownBy at_old before) (IsKnown at_old before) (known_by at_old before) stores) marks all

  -- ---- cut short

  module _ (new : Seen D A P K) (taken : List Mark)
      (short : IsCutShort disk ambient plugin sink source (asked_setting at request before x text_of) from new taken) where
    abbrev at_cut : World P
    at_cut = world disk ambient plugin sink source new

    module _ (rest : List Mark) (told_of : IsTrue at_old.main.tells → AllByRecursion (IsToldOf (IsKnownBy at_old before) stores) (taken ++ rest))
        (caused : AreCaused at_old at_cut (taken ++ rest)) (w : IsCutEnd n text_of at request (IsKnown at_old before) taken (taken ++ rest)) where
      shown_cut : IsTrue at_old.sink.tells → ShowsFew w.texts.pieces w.texts.sure (length taken) at_old.sink.holds at_cut.sink.holds
      shown_cut told =
          let part = short.shown told in
          let front : IsFrontOfReply n w.d w.texts taken (text_of taken) = w.fronts taken w.taken_first in
          record {
            part = part_of_sure n w.d w.texts taken (text_of taken) front at_old.sink.holds at_cut.sink.holds part;
            few = front.few part.count part.within;
          }

      pub cut_step : RequestStep at_old at_cut at before n request
      cut_step = record {
        marks = taken ++ rest;
        d = w.d;
        does_so = w.does_so;
        all = w.all;
        marks_are = w.marks_are;
        taken = taken;
        first = record { rest = rest; are = refl };
        told_of = λ told. told_by (taken ++ rest) (told_of told);
        by_rows = w.by_rows;
        texts = w.texts;
        are_sure = w.are_sure;
        shown = shown_cut;
        caused = caused;
        gave = short.marks.gave;
        next = before;
        keeps = (beside_same before).keeps;
        few = gives_more (length (taken ++ rest)) (omega arith) (gives_none before);
        images = short.safe.images (end_of_cut before w) w.taken_first;
      }

      -- What a command leaves that was cut short behind these marks: with the others, of which the same is true, it would have come to an end.
      pub cut_executes_with : (e : Ending) → HasRunOut disk ambient plugin sink source at request before x from new e → (after : Journal)
          → Executes disk ambient plugin sink source at request before x from new (Err e) after
      cut_executes_with e out after = record {
        step = cut_step;
        ends = out;
        way = short.safe.main;
        whole = λ told settled were. short.safe.whole were told settled;
      }

    -- The same where each of the others says that a deed ran.
    pub cut_executes : length new.outside.stores.items ≡ stores → (rest : List Mark) → AreRan rest
        → IsCutEnd n text_of at request (IsKnown at_old before) taken (taken ++ rest)
        → (e : Ending) → HasRunOut disk ambient plugin sink source at request before x from new e → (after : Journal)
        → Executes disk ambient plugin sink source at request before x from new (Err e) after
    cut_executes count rest ran w e out after =
        let s : Setting (EndOf x.number text_of at request) = asked_setting at request before x text_of in
        cut_executes_with rest (told_on disk ambient plugin sink source s from new taken rest short.marks ran)
        (caused_on disk ambient plugin sink source s from new taken rest short.marks ran count) w e out after

  -- ---- ended

  module _ (mid : Seen D A P K) (y : Command) (rows : Journal) (taken : List Mark)
      (amid : IsAmid disk ambient plugin sink source (asked_setting at request before x text_of) from mid y rows taken)
      (main_last : (disk mid.outside.main).last ≤ mid.outside.moments)
      (shown_rows : List (List Text)) (e : End) (w : IsWholeEnd n text_of at request (IsKnown at_old before) taken)
      (reply_is : w.d.reply ≡ reply_of taken y.passed shown_rows e)
      (state_is : w.d.state ≡ record at { grid = grid_of rows.cat }) (had : HadNumbersFor before request w.d) (new : Seen D A P K) (result : Result ⊤ Ending)
      (after : Journal) where
    abbrev at_mid : World P
    at_mid = world disk ambient plugin sink source mid

    abbrev at_new : World P
    at_new = world disk ambient plugin sink source new

    abbrev holds : HoldsSo disk ambient plugin sink source (asked_setting at request before x text_of) from mid y.untold rows taken
    holds = amid.holds

    abbrev rest : Text
    rest = rest_text n y.passed shown_rows e

    abbrev text : Text
    text = y.untold ++ rest

    abbrev texts : SureTexts
    texts = texts_of_all w

    main_told : IsTrue at_old.main.tells → IsTrue at_mid.main.tells
    main_told told = subst IsTrue (sym amid.passes.frame.main.tells) told

    sink_told : IsTrue at_old.sink.tells → IsTrue at_mid.sink.tells
    sink_told told = subst IsTrue (sym amid.passes.goes.tells) told

    -- what main had was whole
    whole_kept : WereAllWhole at_old before → IsTrue at_old.main.tells → IsSettled at_old.main → (t : ℕ) → mid.outside.moments < t
        → AreWhole plugin t holds.cat mid.outside.stores.items
    whole_kept were told settled t late =
        amid.safe.whole were told settled t at_mid.main.holds holds.cat (omega (arith, late, amid.passes.frame.drawn))
        (at_mid.main.now (main_told told) t (omega (arith, late, main_last)))
        (held_stands holds.cat at_mid.main rows holds.held (main_told told))

    -- ---- what was left

    -- the rules that there were are those behind it
    rules_before : HasRules before w.d.state.rules
    rules_before = subst (HasRules before) (sym (ap (λ (s : State). s.rules) state_is)) asked.rules

    left_behind : IsLeftBehind before n w.d (ended n rows.cat)
    left_behind = record {
      grid = grid_ended n rows.cat ∙ sym (ap (λ (s : State). s.grid) state_is);
      run = amid.beside.run;
      last = refl;
      rules = amid.beside.rules ∙ rules_before;
      stores = amid.beside.stores;
      pending = sym asked.none;
      keeps = keeps_then before rows.cat (ended n rows.cat) amid.beside.keeps (keeps_ended n rows.cat);
    }

    marks_are : y.marks ≡ taken
    marks_are = ap (λ (z : Command). z.marks) amid.command ∙ ap (λ (z : Command). z.marks ++ taken) asked.begun

    -- where nothing was to be kept main has what it had, and no mark was taken
    rows_kept : rows.staged ≡ [] → rows.cat ≡ holds.cat
    rows_kept none =
        let both : Ok holds.cat ≡ Ok rows.cat = sym (ap (apply_all holds.cat) none) ∙ holds.held.staged in
        let same : holds.cat ≡ rows.cat = cc both in
        sym same

    kept_before : (c : Cat) (told : List Mark) → IsOnMain at request before x c told → c.pending ≡ None → c ≡ before
    kept_before c told (not_noted same none) free = same
    kept_before c told (noted_there p amid few is line marks call named waits) free = absurd (let both : Some p ≡ None = sym is ∙ free in cc both)

    module _ (nothing : HasNothing rows y) where
      pub rows_before : rows.cat ≡ before
      rows_before =
          let same = rows_kept nothing.staged in
          same ∙ kept_before holds.cat holds.told holds.on_main (sym (ap (λ (c : Cat). c.pending) same) ∙ nothing.pending)

      pub none_taken : taken ≡ []
      none_taken = sym marks_are ∙ nothing.marks

    module _ (finishes : Finishes at_mid.main at_new.main at_mid.sink at_new.sink holds.cat mid.outside.moments n rows y text result after) where
      abbrev left : Cat
      left = finishes.left

      comes_by : IsLeft n rows y left → ComesAfter before n request w.d left
      comes_by (inl is) = subst (ComesAfter before n request w.d) (sym is) (kept left_behind had)
      comes_by (inr (nothing, is)) =
          nothing_seen (is ∙ rows_before nothing) (w.marks_are ∙ none_taken nothing)
          (ap (λ (s : State). s.grid) state_is ∙ ap grid_of (rows_before nothing)) rules_before

      comes : ComesAfter before n request w.d left
      comes = comes_by finishes.is_left

      -- few numbers were given for it
      pub keeps_by : IsLeft n rows y left → KeepsNumbers before left
      keeps_by (inl is) =
          subst (KeepsNumbers before) (sym is) (keeps_then before rows.cat (ended n rows.cat) amid.beside.keeps (keeps_ended n rows.cat))
      keeps_by (inr (nothing, is)) = subst (KeepsNumbers before) (sym is) amid.beside.keeps

      pub gave_few : IsLeft n rows y left → GivesFew before left (length taken)
      gave_few (inl is) = subst (λ (c : Cat). GivesFew before c (length taken)) (sym is) (gives_before amid.beside.few (gives_ended n rows.cat))
      gave_few (inr (nothing, is)) = subst (λ (c : Cat). GivesFew before c (length taken)) (sym is) amid.beside.few

      grid_by : IsLeft n rows y left → grid_of left ≡ grid_of rows.cat
      grid_by (inl is) = ap grid_of is ∙ grid_ended n rows.cat
      grid_by (inr (nothing, is)) = ap grid_of is

      way_by : IsLeft n rows y left → IsOnWay before x.line left
      way_by (inl is) =
          let its : IsOnWay before x.line (ended n rows.cat) = record {
            call = tt;
            line_is = tt;
            named = named_then before rows.cat (ended n rows.cat) amid.beside.named (named_ended n rows.cat);
          } in
          subst (IsOnWay before x.line) (sym is) its
      way_by (inr (nothing, is)) =
          subst (IsOnWay before x.line) (sym (is ∙ rows_kept nothing.staged)) (on_way at request before x asked holds.cat holds.told holds.on_main)

      users_rows : KeepsUsers before rows.cat
      users_rows = record { there = amid.beside.users; names = amid.beside.names }

      users_by : IsLeft n rows y left → KeepsUsers before left
      users_by (inl is) = subst (KeepsUsers before) (sym is) (users_then before rows.cat (ended n rows.cat) users_rows (users_ended n rows.cat))
      users_by (inr (nothing, is)) = subst (KeepsUsers before) (sym is) users_rows

      pending_by : IsLeft n rows y left → left.pending ≡ None
      pending_by (inl is) = ap (λ (c : Cat). c.pending) is
      pending_by (inr (nothing, is)) = ap (λ (c : Cat). c.pending) is ∙ nothing.pending

      rules_by : IsLeft n rows y left → left.rules ≡ before.rules
      rules_by (inl is) = ap (λ (c : Cat). c.rules) is ∙ amid.beside.rules
      rules_by (inr (nothing, is)) = ap (λ (c : Cat). c.rules) is ∙ amid.beside.rules

      stores_by : IsLeft n rows y left → left.stores ≡ before.stores
      stores_by (inl is) = ap (λ (c : Cat). c.stores) is ∙ amid.beside.stores
      stores_by (inr (nothing, is)) = ap (λ (c : Cat). c.stores) is ∙ amid.beside.stores

      -- ---- what was told

      text_all : text_of holds.told ++ text ≡ texts.sure
      text_all =
          ap (λ (u : Text). text_of holds.told ++ (u ++ rest)) holds.untold_is
          ∙ sym (append_assoc (text_of holds.told) (lines_of n holds.fresh) rest)
          ∙ ap (λ (t : Text). t ++ rest) (sym (ap text_of holds.taken_are ∙ holds.plain holds.fresh))
          ∙ ap (λ (t : Text). t ++ rest) (sym w.text_is)
          ∙ ap (λ (r : Reply). reply_text n r w.pieces) (sym reply_is)

      part_all : IsTrue at_old.sink.tells → (shown : Text) → AddsPart text at_mid.sink.holds shown → AddsPart texts.sure at_old.sink.holds shown
      part_all told shown part =
          subst (λ (t : Text). AddsPart t at_old.sink.holds shown) text_all
          (adds_behind (text_of holds.told) text at_old.sink.holds at_mid.sink.holds shown (holds.shown told) part)

      pub shown_all : IsTrue at_old.sink.tells → ShowsFew w.pieces texts.sure (length taken) at_old.sink.holds at_new.sink.holds
      shown_all told =
          let part = part_all told at_new.sink.holds (finishes.leaves.shown (sink_told told)) in
          let many = pieces_many (IsKnown at_old before) n 0 w.d.sent w.d.reply.marks w.pieces w.pieces_are in
          record { part = part; few = omega (arith, whole-most w.pieces part.count, many, ap (λ (ms : List Mark). length ms) w.marks_are) }

      -- ---- what a stop leaves

      first_told : AreFirst holds.told taken
      first_told = record { rest = holds.fresh; are = holds.taken_are }

      image_now : IsTrue at_old.sink.tells → (main shown : Text) → OneOfNote holds.cat left text at_mid.sink.holds main shown
          → OneOf at before left n request w.d texts at_old.sink.holds main shown
      image_now told main shown (unnoted stands still) =
          one_image at request before x asked text_of (end_of_all left w) holds.told first_told holds.cat holds.on_main at_old.sink.holds main shown stands
          (adds_all (text_of holds.told) at_old.sink.holds shown (still ∙ holds.shown told))
      image_now told main shown (noted stands part) = kept_so comes stands (part_all told shown part)

      way_now : (main : Text) (c : Cat) → StandsFor main holds.cat ⊎ StandsFor main left → StandsFor main c → IsOnWay before x.line c
      way_now main c (inl was) stands =
          subst (IsOnWay before x.line) (sym (one_cat main holds.cat c was stands)) (on_way at request before x asked holds.cat holds.told holds.on_main)
      way_now main c (inr now) stands = subst (IsOnWay before x.line) (sym (one_cat main left c now stands)) (way_by finishes.is_left)

      module _ (failed sink_failed : Type 0) (passes : CallsPass disk plugin sink failed sink_failed mid new)
          (same : new.outside.ambient ≡ mid.outside.ambient)
          (keeps : KeepBothWhole plugin mid.outside.moments holds.cat rows.cat at_mid.main at_new.main mid.outside.stores.items new.outside.stores.items) where
        pub gave_all : IsTrue (ambient new.outside.ambient).tells → Gave taken (ambient from.outside.ambient) (ambient new.outside.ambient)
        gave_all =
            let G : A → Type 0 = λ a. IsTrue (ambient a).tells → Gave taken (ambient from.outside.ambient) (ambient a) in
            subst G (sym same) amid.marks.gave

        pub images_all : IsTrue at_old.main.tells → IsTrue at_old.sink.tells → IsSettled at_old.main → IsSettled at_old.sink → (t : ℕ) (main shown : Text)
            → from.outside.moments < t → at_new.main.left t main → at_new.sink.left t shown
            → OneOf at before left n request w.d texts at_old.sink.holds main shown
        images_all told s_told settled s_settled t main shown late l s_left = elim (cases_lt mid.outside.moments t) [
          | inl now ↦ image_now s_told main shown
              (finishes.leaves.images (main_told told) (sink_told s_told) (holds.settled told settled) (holds.sink_settled s_told s_settled) t main shown now l
              s_left)
          | inr early ↦ amid.safe.images (end_of_all left w) (first_all taken) told s_told settled s_settled t main shown late
              (passes.frame.main.earlier t main early l) (passes.goes.earlier t shown early s_left)
        ]

        abbrev pub done_step : RequestStep at_old at_new at before n request
        done_step = record {
          marks = taken;
          d = w.d;
          does_so = w.does_so;
          all = w.all;
          marks_are = w.marks_are;
          taken = taken;
          first = first_all taken;
          told_of = λ told. told_by taken (amid.marks.told_of told);
          by_rows = w.by_rows;
          texts = texts;
          are_sure = whole w.pieces_are refl;
          shown = shown_all;
          caused = caused-on at_old at_mid at_new taken (went_of disk plugin sink failed sink_failed ambient source mid new passes) amid.marks.caused;
          gave = gave_all;
          next = left;
          keeps = keeps_by finishes.is_left;
          few = gave_few finishes.is_left;
          images = images_all;
        }

        way_all : IsTrue at_old.main.tells → IsSettled at_old.main → (t : ℕ) (main : Text) (c : Cat) → from.outside.moments < t → at_new.main.left t main
            → StandsFor main c → IsOnWay before x.line c
        way_all told settled t main c late l stands = elim (cases_lt mid.outside.moments t) [
          | inl now ↦ way_now main c (finishes.leaves.main (main_told told) (holds.settled told settled) t main now l) stands
          | inr early ↦ amid.safe.main told settled t main c late (passes.frame.main.earlier t main early l) stands
        ]

        whole_all : KeepWhole plugin from.outside.moments before at_old.main at_new.main from.outside.stores.items new.outside.stores.items
        whole_all told settled were t main c late l stands = elim (cases_lt mid.outside.moments t) [
          | inl now ↦ keeps (amid.whole_now were told settled) (main_told told) (holds.settled told settled) (whole_kept were told settled) t main c
              now l stands
          | inr early ↦ whole_before plugin t mid.outside.moments c mid.outside.stores.items new.outside.stores.items early passes.frame.stores
              (amid.safe.whole were told settled t main c late (passes.frame.main.earlier t main early l) stands)
        ]

        -- ---- how it ended

        module _ (still : StaysSo at request before taken w.d at_old.main at_new.main)
            (done : IsDone at_mid.main at_new.main at_mid.sink at_new.sink left text after) where
          abbrev IsWhole : Cat → Type 0
          IsWhole c = IsHandledWhole at_old at_new at before n request done_step c (record at { grid = grid_of c })

          whole_left : IsWhole left
          whole_left = record {
            state = state_is ∙ ap (λ (g : Grid). record at { grid = g }) (sym (grid_by finishes.is_left));
            grid = refl;
            all_taken = refl;
            is_next = refl;
            pieces_are = w.pieces_are;
            follows = comes;
            stands = λ told. held_stands left at_new.main after done.held (subst IsTrue (sym passes.frame.main.tells) (main_told told));
            text = λ told.
                done.sink (sink_told told)
                ∙ ap (λ (h : Text). h ++ text) (holds.shown told)
                ∙ append_assoc at_old.sink.holds (text_of holds.told) text
                ∙ ap (λ (t : Text). at_old.sink.holds ++ t) text_all;
            still = λ no_sweep none_called none grid no_rules. still none_called none grid;
            main_settled = λ told settled. done.settled (main_told told) (holds.settled told settled);
            sink_settled = λ told settled. done.sink_settled (sink_told told) (holds.sink_settled told settled);
          }

          pub handled_whole : IsWhole after.cat
          handled_whole = subst IsWhole (sym done.cat) whole_left

          pub rested : IsRested before at_new.main after
          rested = record {
            held = subst (λ (c : Cat). IsHeld c at_new.main after) (sym done.cat) done.held;
            staged = done.staged;
            pending = ap (λ (c : Cat). c.pending) done.cat ∙ pending_by finishes.is_left;
            rules = ap (λ (c : Cat). c.rules) done.cat ∙ rules_by finishes.is_left;
            stores = ap (λ (c : Cat). c.stores) done.cat ∙ stores_by finishes.is_left;
            users = subst (KeepsUsers before) (sym done.cat) (users_by finishes.is_left);
          }

        out_of : (e : Ending) → IsOutOfRoom at_mid.main at_new.main at_mid.sink at_new.sink e
            → HasRunOut disk ambient plugin sink source at request before x from new e
        out_of ending.Disk out = tt
        out_of ending.Sink out = tt
        out_of ending.Memory out = tt
        out_of (ending.Worn wear.Runs place) out = let no = out.0 in absurd (cc no)
        out_of (ending.Worn wear.Vaults place) out = let no = out.0 in absurd (cc no)
        out_of (ending.Worn wear.Log place) out = (out.1, λ told. out.2 (main_told told))

        ends_so : StaysSo at request before taken w.d at_old.main at_new.main → (r : Result ⊤ Ending)
            → FinishEnds at_mid.main at_new.main at_mid.sink at_new.sink left text r after
            → ExecuteEnds disk ambient plugin sink source at request before x from new done_step r after
        ends_so still (Ok done) ends = (handled_whole still ends, rested still ends)
        ends_so still (Err e) ends = out_of e ends

        -- What a command leaves whose calls took all of its marks, once the last commit and the rest of its reply, with these rows, were tried.
        pub executes : StaysSo at request before taken w.d at_old.main at_new.main
            → Executes disk ambient plugin sink source at request before x from new result after
        executes still = record { step = done_step; ends = ends_so still result finishes.ends; way = way_all; whole = whole_all }
