-- A file that is sent for a request, behind the marks that its calls took: the data lines tell no mark, and its mark is still to be told.
use Rattle.std.proofs.Common.{◌≡◌, ◌⊎◌, inl, inr, ℕ, ◌<◌, ◌≤◌, List, [], ◌∷◌, ◌++◌, length, Result, Ok, IsTrue, refl, sym, ap, ◌∙◌, subst}
use Rattle.std.proofs.Common.{append_assoc, length-append, arith}
use Rattle.std.specs.Prelude.{⊤}
use Rattle.std.specs.List.{AllByRecursion}
use Rattle.std.proofs.lemmas.Bool.{cases_lt}
use Rattle.std.proofs.lemmas.List.{append-nil, nil_from_length}
use Rattle.grid_outside.specs.Ambient.{AmbientState}
use Rattle.grid_outside.specs.Device.{IsSettled}
use Rattle.grid_outside.specs.Disk.{DiskState}
use Rattle.grid_outside.specs.Files.{StoreState}
use Rattle.grid_outside.specs.Sink.{AddsPart, SinkState}
use Rattle.grid_outside.specs.Source.{SourceState}
use Rattle.grid_model.specs.DataLines.{data_lines}
use Rattle.grid_model.specs.Names.{Text}
use Rattle.grid_model.specs.Replies.{mark_line}
use Rattle.grid_model.specs.ReplyTexts.{SendsBytes}
use Rattle.grid_model.specs.Rows.{Cat}
use Rattle.grid_model.specs.Runs.{Request}
use Rattle.grid_model.specs.Sessions.{State}
use Rattle.grid_model.specs.Working.{Done, Sent}
use Rattle.grid_model.specs.declared.marks.Mark.{Mark}
use Rattle.grid_model.specs.declared.marks.Mark.TheVariants.{Bad, Fault, Ran, Stop}
use Rattle.grid_model.specs.declared.plans.OldFile.{OldFile}
use Rattle.grid_model.specs.declared.refusal.Failure.{Failure}
use Rattle.grid_journal.specs.Journal.{Journal, Keeps}
use Rattle.grid_journal.specs.Stands.{StandsFor}
use Rattle.grid_deed.specs.Held.{IsHeld}
use Rattle.grid_deed.proofs.Keeping.{held_stands}
use Rattle.grid_headline.specs.Causes.{AreCaused}
use Rattle.grid_headline.specs.Files.{IsKnown}
use Rattle.grid_headline.specs.Stops.{AreFirst}
use Rattle.grid_headline.specs.Worlds.{World}
use Rattle.run_laws.specs.Passes.{CallsPass, Seen}
use Rattle.run_laws.specs.Steps.{Gave, IsToldOf, OneOf, SureTexts}
use Rattle.run_laws.proofs.Causes.{caused-on, caused-then}
use Rattle.run_laws.proofs.Draws.{gave-then}
use Rattle.run_laws.proofs.Goings.{tells-after}
use Rattle.run_laws.proofs.Known.{told-less}
use Rattle.run_laws.proofs.Lists.{all-append}
use Rattle.service_run.specs.SentFiles.{IsSentSo, SendsFile}
use Rattle.service_run.specs.Steps.{IsKnownBy, IsStill, lines_of}
use Rattle.service_run.specs.declared.command.Command.{Command}
use Rattle.service_run.specs.declared.ending.Ending.{Ending}
use Rattle.service_run.proofs.StillSteps.{beside_more, beside_same}
use Rattle.call_laws.specs.Amid.{AreRan, HoldsSo, IsAmid, IsCutShort, IsSafe, world}
use Rattle.call_laws.proofs.Joined.{passes_then, went_of}
use Rattle.call_laws.proofs.Ran.{ran_caused, ran_told}
use Rattle.call_laws.proofs.Rows.{beside_marks, first_all, first_front, first_then}
use Rattle.call_laws.proofs.Told.{adds_behind}
use Rattle.rule_run.specs.Asked.{EndOf, IsAsked, IsFrontOfReply, IsOnMain, asked_setting, text_with}
use Rattle.rule_run.proofs.Handling.{known_by}
use Rattle.rule_run.proofs.Replies.{line_bytes}
use Rattle.rule_run.proofs.SentReplies.{text_before, text_behind, text_more}
use Rattle.rule_run.proofs.Settings.{one_image}

-- ---- what is known of fewer files

sends_less : (p q : ℕ → Type 0) → ((slot : ℕ) → q slot → p slot) → (s : Sent) (m : Mark) (bytes : Text) → SendsBytes p s m bytes → SendsBytes q s m bytes
sends_less p q less s (Ran word now bad) bytes sends = sends
sends_less p q less s (Fault slot parts) bytes sends = (sends.0, λ known. sends.1 (less slot known))
sends_less p q less s (Bad slot len found parts) bytes sends = ((λ known. sends.0 (less slot known)), sends.1, sends.2)
sends_less p q less s Stop bytes sends = sends

-- ---- lines

lines_none : (n : ℕ) (marks : List Mark) → lines_of n marks ≡ [] → marks ≡ []
lines_none n [] none = refl
lines_none n (m ∷ marks) none = absurd (omega (arith, ap (λ (t : Text). length t) none, length-append (mark_line n m) (lines_of n marks), line_bytes n m))

-- less of a text that tells the same marks
front_less : (n : ℕ) (d : Done) (texts : SureTexts) (told : List Mark) (a b : Text) → IsFrontOfReply n d texts told (a ++ b) → IsFrontOfReply n d texts told a
front_less n d texts told a b front = record {
  rest = b ++ front.rest;
  sure_is = front.sure_is ∙ append_assoc a b front.rest;
  few = λ count le. front.few count (omega (arith, le, length-append a b));
  cut = λ count le. front.cut count (omega (arith, le, length-append a b));
  untold = λ none count le. front.untold none count (omega (arith, le, length-append a b));
}

-- those that are the first of some marks, and no fewer, are all of them
all_first : (told taken : List Mark) → AreFirst told taken → length taken ≤ length told → told ≡ taken
all_first told taken first many =
    let lengths : length taken ≡ length (told ++ first.rest) = ap (λ (ms : List Mark). length ms) first.are in
    let none : first.rest ≡ [] = nil_from_length first.rest (omega (arith, many, lengths, length-append told first.rest)) in
    sym (first.are ∙ ap (λ (ms : List Mark). told ++ ms) none ∙ append-nil told)

-- what lines tell, and data behind them
text_all : (n : ℕ) (data_sent : Text) (taken : List Mark) → text_with n (length taken) data_sent taken ≡ lines_of n taken ++ data_sent
text_all n data_sent taken =
    ap (text_with n (length taken) data_sent) (sym (append-nil taken))
    ∙ text_behind n (length taken) data_sent taken [] refl
    ∙ ap (λ (t : Text). lines_of n taken ++ t) (append-nil data_sent)

-- an end whose marks are told with data, as one of which no marks are told but these, by their lines
abbrev plain_end_of : (n : ℕ) (data_sent : Text) (taken : List Mark) (at : State) (request : Request)
    (f : EndOf n (text_with n (length taken) data_sent) at request) → AreFirst taken f.reach → EndOf n (lines_of n) at request
plain_end_of n data_sent taken at request f first = record {
  marks = f.marks;
  d = f.d;
  does_so = f.does_so;
  all = f.all;
  marks_are = f.marks_are;
  texts = f.texts;
  reach = taken;
  reach_first = first_then taken f.reach f.marks first f.reach_first;
  fronts = λ told its. by told its (f.fronts told (first_then told taken f.reach its first)) (cases_lt (length told) (length taken));
  next = f.next;
}
  where
    by : (told : List Mark) → AreFirst told taken → IsFrontOfReply n f.d f.texts told (text_with n (length taken) data_sent told)
        → (length told < length taken) ⊎ (length taken ≤ length told) → IsFrontOfReply n f.d f.texts told (lines_of n told)
    by told its front (inl less) = subst (IsFrontOfReply n f.d f.texts told) (text_before n (length taken) data_sent told less) front
    by told its front (inr all) =
        let same : told ≡ taken = all_first told taken its all in
        let text_is : text_with n (length taken) data_sent told ≡ lines_of n told ++ data_sent =
        ap (text_with n (length taken) data_sent) same ∙ text_all n data_sent taken ∙ ap (λ (ms : List Mark). lines_of n ms ++ data_sent) (sym same) in
        front_less n f.d f.texts told (lines_of n told) data_sent (subst (IsFrontOfReply n f.d f.texts told) text_is front)

-- ---- devices

held_still : (c : Cat) (old new : DiskState) (rows : Journal) → IsStill old new → IsHeld c old rows → IsHeld c new rows
held_still c old new rows still held = record {
  sound = held.sound;
  staged = held.staged;
  keeps = λ told.
      let was : IsTrue old.tells = subst IsTrue still.looks.tells told in
      subst (λ (t : Text). Keeps c rows t) (sym (still.looks.holds was)) (held.keeps was);
  made = held.made;
}

settled_still : (old new : DiskState) → IsTrue old.tells → IsStill old new → IsSettled old → IsSettled new
settled_still old new told still settled t image late left =
    settled t image (omega (arith, late, still.looks.last)) ((still.looks.left t image).0 left) ∙ sym (still.looks.holds told)

-- ---- the file

module _ {D A P K : Type 0} (disk : D → DiskState) (ambient : A → AmbientState) (plugin : P → StoreState) (sink : K → SinkState) (source : SourceState)
    (at : State) (request : Request) (before : Cat) (x : Command) (asked : IsAsked at request before x) (from mid : Seen D A P K) (y : Command)
    (rows : Journal) (taken : List Mark)
    (amid : IsAmid disk ambient plugin sink source (asked_setting at request before x (lines_of x.number)) from mid y rows taken) (untold : y.untold ≡ [])
    (main_last : (disk mid.outside.main).last ≤ mid.outside.moments) (new : Seen D A P K) where
  abbrev n : ℕ
  n = x.number

  abbrev at_old : World P
  at_old = world disk ambient plugin sink source from

  abbrev at_mid : World P
  at_mid = world disk ambient plugin sink source mid

  abbrev at_new : World P
  at_new = world disk ambient plugin sink source new

  main_told : IsTrue (disk from.outside.main).tells → IsTrue (disk mid.outside.main).tells
  main_told told = subst IsTrue (sym amid.passes.frame.main.tells) told

  sink_told : IsTrue (sink from.sink).tells → IsTrue (sink mid.sink).tells
  sink_told told = subst IsTrue (sym amid.passes.goes.tells) told

  number_is : y.number ≡ x.number
  number_is = ap (λ (c : Command). c.number) amid.command

  -- all marks that were taken are told
  told_is : amid.holds.told ≡ taken
  told_is =
      let none : amid.holds.fresh ≡ [] = lines_none n amid.holds.fresh (sym amid.holds.untold_is ∙ untold) in
      sym (amid.holds.taken_are ∙ ap (λ (ms : List Mark). amid.holds.told ++ ms) none ∙ append-nil amid.holds.told)

  on_main : IsOnMain at request before x amid.holds.cat taken
  on_main = subst (IsOnMain at request before x amid.holds.cat) told_is amid.holds.on_main

  shown_mid : IsTrue (sink from.sink).tells → (sink mid.sink).holds ≡ (sink from.sink).holds ++ lines_of n taken
  shown_mid told = amid.holds.shown told ∙ ap (λ (ms : List Mark). (sink from.sink).holds ++ lines_of n ms) told_is

  -- files that were known are known by the rows now
  known_now : IsTrue (disk from.outside.main).tells → (slot : ℕ) → IsKnownBy at_old before slot → IsKnownBy at_mid rows.cat slot
  known_now told slot known = record {
    settled = amid.holds.settled told known.settled;
    whole = amid.whole_now known.whole told known.settled;
    there = tells-after at_old at_mid (went_of disk plugin sink ⊥ ⊥ ambient source from mid amid.passes) slot known.there;
  }

  module _ (file : OldFile) (z : Command) (result : Result (Result ⊤ Failure) Ending) (step : SendsFile at_mid at_new rows.cat file y z result)
      (failed sink_failed : Type 0) (passes : CallsPass disk plugin sink failed sink_failed mid new) where
    -- What was sent is so where the files are known that were so before the request.
    pub sent_known : (count : ℕ)
        → SendsBytes (IsKnown at_old before) (record { size = file.size; digest = file.digest; before = count }) step.its_mark step.bytes
    sent_known count =
        sends_less (IsKnownBy at_mid rows.cat) (IsKnown at_old before) (λ slot known. known_now known.main slot (known_by at_old before slot known))
        (record { size = file.size; digest = file.digest; before = count }) step.its_mark step.bytes (step.sends count)

    -- What is true of the marks that were taken is so with its mark behind them, and with marks of deeds that ran behind it.
    pub sent_told_on : (rest : List Mark) → AreRan rest → IsTrue (disk from.outside.main).tells
        → AllByRecursion (IsToldOf (IsKnownBy at_old before) (length from.outside.stores.items)) (taken ++ (step.its_mark ∷ rest))
    sent_told_on rest ran told =
        let P : Mark → Type 0 = IsToldOf (IsKnownBy at_old before) (length from.outside.stores.items) in
        let its : P step.its_mark =
        subst (λ (k : ℕ). IsToldOf (IsKnownBy at_old before) k step.its_mark) amid.passes.frame.stores.count
        (told-less (IsKnownBy at_mid rows.cat) (IsKnownBy at_old before) (known_now told) (length mid.outside.stores.items) step.its_mark step.told_of) in
        all-append P taken (step.its_mark ∷ rest) (amid.marks.told_of told)
        (its, ran_told (IsKnownBy at_old before) (length from.outside.stores.items) rest ran)

    pub sent_caused_on : (rest : List Mark) → AreRan rest → AreCaused at_old at_new (taken ++ (step.its_mark ∷ rest))
    sent_caused_on rest ran =
        caused-then at_old at_mid at_new taken (step.its_mark ∷ rest) amid.passes.frame.stores.count amid.marks.caused
        (caused-then at_mid at_new at_new (step.its_mark ∷ []) rest passes.frame.stores.count step.caused
        (ran_caused at_new at_new rest (λ slot. omega arith) ran))

    abbrev data_sent : Text
    data_sent = data_lines n step.bytes

    abbrev text : List Mark → Text
    text = text_with n (length taken) data_sent

    -- a part of the data is shown
    part_sent : IsTrue (sink from.sink).tells → (shown : Text) → AddsPart (data_lines y.number step.bytes) (sink mid.sink).holds shown
        → AddsPart (text taken) (sink from.sink).holds shown
    part_sent told shown part =
        subst (λ (t : Text). AddsPart t (sink from.sink).holds shown) (sym (text_all n data_sent taken))
        (adds_behind (lines_of n taken) data_sent (sink from.sink).holds (sink mid.sink).holds shown (shown_mid told)
        (subst (λ (k : ℕ). AddsPart (data_lines k step.bytes) (sink mid.sink).holds shown) number_is part))

    left_mid : (t : ℕ) (main : Text) → (disk new.outside.main).left t main → (disk mid.outside.main).left t main
    left_mid t main left = (step.main.looks.left t main).0 left

    -- what a stop leaves from the sending on
    image_now : (f : EndOf n text at request) → AreFirst taken f.reach → IsTrue (disk from.outside.main).tells → IsTrue (sink from.sink).tells
        → IsSettled (disk from.outside.main) → IsSettled (sink from.sink) → (t : ℕ) (main shown : Text) → mid.outside.moments < t
        → (disk new.outside.main).left t main → (sink new.sink).left t shown
        → OneOf at before f.next n request f.d f.texts (sink from.sink).holds main shown
    image_now f first told s_told settled s_settled t main shown now left s_left =
        let same : main ≡ (disk mid.outside.main).holds =
        amid.holds.settled told settled t main (omega (arith, now, main_last)) (left_mid t main left) in
        one_image at request before x asked text f taken first amid.holds.cat on_main (sink from.sink).holds main shown
        (subst (λ (m : Text). StandsFor m amid.holds.cat) (sym same)
        (held_stands amid.holds.cat (disk mid.outside.main) rows amid.holds.held (main_told told)))
        (part_sent s_told shown (step.images (sink_told s_told) (amid.holds.sink_settled s_told s_settled) t shown now s_left))

    sent_safe : IsSafe disk ambient plugin sink source (asked_setting at request before x text) from new taken
    sent_safe = record {
      main = λ told settled t main c late left stands. amid.safe.main told settled t main c late (left_mid t main left) stands;
      whole = λ were told settled t main c late left stands.
          step.whole t c (amid.safe.whole were told settled t main c late (left_mid t main left) stands);
      images = λ f first told s_told settled s_settled t main shown late left s_left. elim (cases_lt mid.outside.moments t) [
        | inl now ↦ image_now f first told s_told settled s_settled t main shown now left s_left
        | inr early ↦ amid.safe.images (plain_end_of n data_sent taken at request f first) (first_all taken) told s_told settled s_settled t main shown
            late (left_mid t main left) (passes.goes.earlier t shown early s_left)
      ];
    }

    -- It may have been cut short there.
    pub sent_short : IsCutShort disk ambient plugin sink source
        (asked_setting at request before x (text_with x.number (length taken) (data_lines x.number step.bytes))) from new taken
    sent_short = record {
      marks = record {
        told_of = amid.marks.told_of;
        caused = caused-on at_old at_mid at_new taken (went_of disk plugin sink failed sink_failed ambient source mid new passes) amid.marks.caused;
        gave = λ told. subst (λ (ms : List Mark). Gave ms (ambient from.outside.ambient) (ambient new.outside.ambient)) (append-nil taken)
            (gave-then taken [] (ambient from.outside.ambient) (ambient mid.outside.ambient) (ambient new.outside.ambient) amid.marks.gave step.asked told);
      };
      shown = λ told. part_sent told (sink new.sink).holds (step.shown (sink_told told));
      safe = sent_safe;
    }

  -- A file was sent for the request: its mark was taken.
  module _ (file : OldFile) (z : Command) (ran : Result ⊤ Failure) (step : SendsFile at_mid at_new rows.cat file y z (Ok ran))
      (passes : CallsPass disk plugin sink ⊥ ⊥ mid new) where
    abbrev m : Mark
    m = step.its_mark

    abbrev sent : IsSentSo at_mid at_new rows.cat file y z m step.bytes ran
    sent = step.ends

    abbrev told_text : List Mark → Text
    told_text = text_with n (length taken) (data_lines n step.bytes)

    shown_new : IsTrue (sink from.sink).tells → (sink new.sink).holds ≡ (sink from.sink).holds ++ told_text taken
    shown_new told =
        sent.sink (sink_told told)
        ∙ (λ i. shown_mid told i ++ data_lines (number_is i) step.bytes)
        ∙ append_assoc (sink from.sink).holds (lines_of n taken) (data_lines n step.bytes)
        ∙ ap (λ (t : Text). (sink from.sink).holds ++ t) (sym (text_all n (data_lines n step.bytes) taken))

    sent_holds : HoldsSo disk ambient plugin sink source (asked_setting at request before x told_text) from new z.untold rows (taken ++ m ∷ [])
    sent_holds = record {
      told = taken;
      fresh = m ∷ [];
      taken_are = refl;
      untold_is = ap (λ (c : Command). c.untold) sent.command ∙ (λ i. untold i ++ mark_line (number_is i) m) ∙ sym (append-nil (mark_line n m));
      cat = amid.holds.cat;
      on_main = on_main;
      held = held_still amid.holds.cat (disk mid.outside.main) (disk new.outside.main) rows step.main amid.holds.held;
      numbers = amid.holds.numbers;
      plain = λ more. text_more n (length taken) (data_lines n step.bytes) taken more refl;
      shown = shown_new;
      settled = λ told settled.
          settled_still (disk mid.outside.main) (disk new.outside.main) (main_told told) step.main (amid.holds.settled told settled);
      sink_settled = λ told settled. sent.settled (sink_told told) (amid.holds.sink_settled told settled);
    }

    sent_command : z ≡ record x { marks = x.marks ++ (taken ++ m ∷ []); passed = z.passed; untold = z.untold }
    sent_command = λ i. record {
      run = (ap (λ (c : Command). c.run) sent.command ∙ ap (λ (c : Command). c.run) amid.command) i;
      number = (ap (λ (c : Command). c.number) sent.command ∙ number_is) i;
      user = (ap (λ (c : Command). c.user) sent.command ∙ ap (λ (c : Command). c.user) amid.command) i;
      line = (ap (λ (c : Command). c.line) sent.command ∙ ap (λ (c : Command). c.line) amid.command) i;
      marks = (ap (λ (c : Command). c.marks) sent.command
          ∙ ap (λ (c : Command). c.marks ++ m ∷ []) amid.command
          ∙ append_assoc x.marks taken (m ∷ [])) i;
      passed = z.passed;
      untold = z.untold;
    }

    pub sent_amid : IsAmid disk ambient plugin sink source
        (asked_setting at request before x (text_with x.number (length taken) (data_lines x.number step.bytes))) from new z rows
        (taken ++ step.its_mark ∷ [])
    sent_amid =
        let safe = sent_safe file z (Ok ran) step ⊥ ⊥ passes in
        record {
          command = sent_command;
          beside = beside_marks before rows.cat rows.cat taken (m ∷ []) amid.beside
              (beside_more rows.cat rows.cat 0 1 (omega arith) (beside_same rows.cat));
          holds = sent_holds;
          marks = record {
            told_of = sent_told_on file z (Ok ran) step ⊥ ⊥ passes [] tt;
            caused = sent_caused_on file z (Ok ran) step ⊥ ⊥ passes [] tt;
            gave = gave-then taken (m ∷ []) (ambient from.outside.ambient) (ambient mid.outside.ambient) (ambient new.outside.ambient) amid.marks.gave
                sent.gave;
          };
          whole_now = λ were told settled t late.
              step.whole t rows.cat (amid.whole_now were told settled t (omega (arith, late, passes.frame.drawn)));
          safe = record { main = safe.main; whole = safe.whole; images = λ f first. safe.images f (first_front taken (m ∷ []) f.reach first) };
          passes = passes_then disk plugin sink ⊥ ⊥ from mid new amid.passes passes;
        }
