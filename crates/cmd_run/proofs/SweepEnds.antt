-- How a sweep ends.
use Rattle.std.proofs.Common.{◌≡◌, inl, inr, ℕ, ◌<◌, ◌≤◌, List, [], ◌++◌, Ok, Err, None, IsTrue, map, refl, sym, ap, ◌∙◌, subst, arith}
use Rattle.std.specs.Prelude.{Result, ⊤, IsErrOf, OnOk}
use Rattle.std.proofs.lemmas.Bool.{cases_lt}
use Rattle.grid_outside.specs.Ambient.{AmbientState}
use Rattle.grid_outside.specs.Device.{IsSettled, EachPair}
use Rattle.grid_outside.specs.Disk.{DiskState}
use Rattle.grid_outside.specs.Files.{StoreState}
use Rattle.grid_outside.specs.Source.{SourceState}
use Rattle.grid_outside.specs.Sink.{SinkState, AddsPart}
use Rattle.grid_outside.specs.declared.outside.Outside.{Outside}
use Rattle.grid_model.specs.Names.{Text}
use Rattle.grid_model.specs.Rows.{Cat}
use Rattle.grid_model.specs.RowGrids.{grid_of}
use Rattle.grid_model.specs.Completing.{EndsByRows}
use Rattle.grid_model.specs.Replies.{end_line}
use Rattle.grid_model.specs.ReplyTexts.{ArePieces, reply_text}
use Rattle.grid_model.specs.Runs.{Request}
use Rattle.grid_model.specs.Orders.{sweeps}
use Rattle.grid_model.specs.Working.{well}
use Rattle.grid_model.specs.declared.marks.Mark.{Mark}
use Rattle.grid_model.specs.declared.replies.Reply.{Reply}
use Rattle.grid_journal.specs.Stands.{StandsEither, StandsFor}
use Rattle.file_laws.specs.Removals.{no_orphans}
use Rattle.grid_deed.specs.Frame.{StoresGo}
use Rattle.grid_deed.specs.Held.{IsHeld}
use Rattle.grid_deed.proofs.Keeping.{held_stands}
use Rattle.grid_headline.specs.Files.{IsKnown}
use Rattle.grid_headline.specs.Worlds.{World}
use Rattle.grid_headline.specs.Reads.{HasRules}
use Rattle.grid_headline.specs.Served.{whole}
use Rattle.count_laws.proofs.GivenNumbers.{none_few}
use Rattle.run_laws.specs.Steps.{ComesAfter, IsSweep, RequestStep, IsHandledWhole, IsLike, RemovesNoFile, OneOf, SureTexts, kept_so, not_kept, swept}
use Rattle.grid_model.specs.Checks.{first_fault, rules_faults}
use Rattle.grid_model.specs.Parsed.{rule_of}
use Rattle.grid_model.specs.Sessions.{State}
use Rattle.chain_core.specs.Seen.{rules_of}
use Rattle.chain_core.specs.declared.base.RuleBase.{RuleBase}
use Rattle.rule_parse.specs.Printed.{print_rules}
use Rattle.sess.specs.Places.{Places}
use Rattle.grid_deed.proofs.Wholes.{one_cat}
use Rattle.cmd_run.specs.declared.server.Server.{Server}
use Rattle.cmd_run.specs.declared.server.Ending.{Ending}
use Rattle.cmd_run.specs.declared.server.Ending.TheVariants.{Sink}
use Rattle.run_laws.specs.Around.{around}
use Rattle.cmd_run.specs.Answers.{IsTextPut, PutEnds}
use Rattle.cmd_run.specs.Fits.{state_by, state_of, FitsMain, AreUsers}
use Rattle.cmd_run.specs.Obeys.{HasNoneWaiting, LacksRoomAlone, Obeys, SaysOnly, handled}
use Rattle.cmd_run.specs.Sweeping.{ForgetEnds, ForgetsOrphans, StandsAsBefore, SweepsMain}
use Rattle.run_laws.proofs.OneMark.{caused_none}
use Rattle.cmd_run.proofs.Users.{state_behind}
use Rattle.cmd_run.proofs.Resting.{gave_same, none_of}
use Rattle.cmd_run.proofs.SayLemmas.{put_left}
use Rattle.cmd_run.proofs.SweepLemmas.{gone_like}
use Rattle.cmd_run.proofs.Users.{KeepsUsers, users_apply_all, users_stay}

-- ---- orphans were forgotten

module _ (from : ℕ) (main_old main_new : DiskState) (server after_server : Server) (fits : FitsMain main_old server)
    (sessions_same : after_server.sessions ≡ server.sessions) (rules_same : after_server.rules ≡ server.rules) where
  abbrev kept : Cat
  kept = server.store.cat

  module _ (done : ⊤) (forgets : ForgetsOrphans kept from main_old main_new (Ok done) after_server) where
    like : IsLike kept forgets.after
    like = gone_like forgets.gone kept forgets.after forgets.applied

    keeps : KeepsUsers kept forgets.after
    keeps = users_apply_all (no_orphans forgets.gone) kept forgets.after forgets.applied

    state_stays : state_of after_server ≡ state_of server
    state_stays = sym (
        state_behind kept forgets.after (rules_of server.rules) server.sessions (grid_of kept) keeps fits.users like.grid
        ∙ ap (λ (x : Places). state_by forgets.after (rules_of server.rules) x) (sym sessions_same)
        ∙ ap (λ (x : RuleBase). state_by forgets.after (rules_of x) after_server.sessions) (sym rules_same)
        ∙ ap (λ (x : Cat). state_by x (rules_of after_server.rules) after_server.sessions) (sym forgets.ends.1)
        )

    fits_still : FitsMain main_new after_server
    fits_still =
        let H : Cat → Type 0 = λ x. IsHeld x main_new after_server.store in
        let U : Cat → Type 0 = λ x. AreUsers x after_server.sessions in
        let V : Places → Type 0 = λ x. AreUsers forgets.after x in
        record {
          held = subst H (sym forgets.ends.1) forgets.ends.0;
          staged = forgets.ends.2;
          pending = ap (λ (x : Cat). x.pending) forgets.ends.1 ∙ like.pending ∙ fits.pending;
          rules = ap (λ (x : Cat). x.rules) forgets.ends.1 ∙ like.rules ∙ fits.rules ∙ ap (λ (x : RuleBase). print_rules (rules_of x)) (sym rules_same);
          checked = (let C : RuleBase → Type 0 = λ x. first_fault (rules_faults (map rule_of x.rules)) ≡ None in subst C (sym rules_same) fits.checked);
          users = subst U (sym forgets.ends.1) (subst V (sym sessions_same) (users_stay kept forgets.after server.sessions keeps fits.users));
        }

  -- the server stands for what it stood for
  pub stands_on : (result : Result ⊤ Ending) → ForgetsOrphans kept from main_old main_new result after_server
      → OnOk result (StandsAsBefore main_old main_new server after_server)
  stands_on (Ok done) forgets =
      let L : Cat → Type 0 = λ x. IsLike kept x in
      record {
        like = subst L (sym forgets.ends.1) (like done forgets);
        state = state_stays done forgets;
        fits = fits_still done forgets;
        settled = λ told
            settled. forgets.ends.3 told settled;
      }
  stands_on (Err e) forgets = tt

module _ (c : Cat) (from : ℕ) (old new : DiskState) (result : Result ⊤ Ending) (server : Server) (forgets : ForgetsOrphans c from old new result server) where
  abbrev Ends : Result ⊤ Ending → Type 0
  Ends r = ForgetEnds forgets.after old new r server

  -- room behind the log is all that runs out
  pub worn_forgot : LacksRoomAlone old new result
  worn_forgot what place is = subst Ends is forgets.ends

  pub not_sink_forgot : ¬ IsErrOf result Sink
  not_sink_forgot is = subst Ends is forgets.ends

-- ---- a request that sweeps

is_sweep : (request : Request) → ¬ RemovesNoFile request → IsSweep request
is_sweep (Ok (session, sweeps)) removes = tt
is_sweep (Ok (session, other)) removes = absurd (removes tt)
is_sweep (Err r) removes = absurd (removes tt)

module _ {D A P : Type 0} (disk : D → DiskState) (ambient : A → AmbientState) (plugin : P → StoreState) (source : SourceState) (o n : Outside D A P)
    (from : SinkState) (server after_server : Server) (number : ℕ) (request : Request)
    (ambient_same : n.ambient ≡ o.ambient) (go : StoresGo plugin o.moments o.stores.items n.stores.items) (sink_last : from.last ≤ o.moments)
    (swept_result : Result ⊤ Ending) (leaves : SweepsMain server.store.cat o.moments (disk o.main) (disk n.main) swept_result after_server.store.cat)
    (sweep : ¬ RemovesNoFile request) (s : SaysOnly (state_of server) request well (state_of server))
    (had : HasRules server.store.cat (rules_of server.rules)) where
  abbrev c : Cat
  c = server.store.cat

  abbrev old : World P
  old = around disk ambient plugin o from source

  abbrev pub new : SinkState → World P
  new to = around disk ambient plugin n to source

  abbrev text : Text
  text = reply_text number s.d.reply []

  -- all of it is sure
  abbrev texts : SureTexts
  texts = record { pieces = []; sure = text }

  text_is : text ≡ end_line number well
  text_is = ap (λ (r : Reply). reply_text number r []) s.reply_is

  marks_none : s.d.reply.marks ≡ []
  marks_none = ap (λ (r : Reply). r.marks) s.reply_is

  pieces_are : ArePieces (IsKnown old c) number s.d.sent 0 s.d.reply.marks []
  pieces_are = let Q : List Mark → Type 0 = λ ms. ArePieces (IsKnown old c) number s.d.sent 0 ms [] in subst Q (sym marks_none) tt

  rules_are : HasRules c s.d.state.rules
  rules_are = had ∙ ap (λ (x : State). print_rules x.rules) (sym s.state)

  later : EachPair (λ k before after. (plugin before).faults ≤ (plugin after).faults) o.stores.items n.stores.items
  later k before after was is = (go.later k before after was is).faults

  none_put : (sink : Text) → sink ≡ from.holds → AddsPart text from.holds sink
  none_put sink same = let Q : Text → Type 0 = λ x. AddsPart text from.holds x in subst Q (sym same) (none_of text from.holds)

  abbrev after : Cat
  after = leaves.after

  comes : ComesAfter c number request s.d after
  comes = swept (is_sweep request sweep) leaves.like leaves.gives marks_none s.grid rules_are

  abbrev One : Text → Text → Type 0
  One main sink = OneOf (state_of server) c after number request s.d texts from.holds main sink

  -- main has what was before it, and nothing is shown, or what is behind it
  image_of : (main sink : Text) → StandsEither c after main → sink ≡ from.holds → One main sink
  image_of main sink (inl before) same =
      let Q : Text → Type 0 = λ x. One main x in
      subst Q (sym same) (not_kept before (none_of text from.holds) refl)
  image_of main sink (inr behind) same = kept_so comes behind (none_put sink same)

  abbrev step_of : (to : SinkState) → (IsTrue from.tells → AddsPart text from.holds to.holds)
      → (IsTrue (disk o.main).tells → IsTrue from.tells → IsSettled (disk o.main) → IsSettled from → (t : ℕ) (main sink : Text) → o.moments < t →
      (disk n.main).left t main → to.left t sink → One main sink)
      → RequestStep old (new to) (state_of server) c number request
  step_of to shown images = record {
    marks = [];
    d = s.d;
    does_so = s.does_so;
    all = s.all;
    marks_are = marks_none;
    taken = [];
    first = record { rest = []; are = refl };
    told_of = λ told. tt;
    by_rows = λ clean. subst EndsByRows (sym (ap (λ (r : Reply). r.end) s.reply_is)) tt;
    texts = texts;
    are_sure = whole pieces_are refl;
    shown = λ told. record { part = shown told; few = omega arith };
    caused = caused_none old (new to) go.count later [] (λ slot. refl);
    gave = gave_same disk ambient plugin source o n ambient_same;
    next = after;
    keeps = leaves.gives.keeps;
    few = none_few c after leaves.gives;
    images = images;
  }

  -- it failed before the line was put
  pub cut_sweep : (e : Ending) → Obeys old (new from) server number request (Err e) after_server
  cut_sweep e = handled (step_of from (λ told. none_of text from.holds) (λ told sink_told settled sink_settled t main sink late main_left sink_left.
      image_of main sink (leaves.leaves told settled t main late main_left) (sink_settled t sink (omega (arith, late, sink_last)) sink_left))) tt

  module _ (mid : ℕ) (to : SinkState) (put : IsTextPut (end_line number well) mid from to) (drawn : o.moments ≤ mid)
      (its : StandsAsBefore (disk o.main) (disk n.main) server after_server) (tells : (disk n.main).tells ≡ (disk o.main).tells)
      (main_last : (disk n.main).last ≤ mid) (is_now : leaves.after ≡ after_server.store.cat) where
    line : IsTextPut text mid from to
    line = let Q : Text → Type 0 = λ x. IsTextPut x mid from to in subst Q (sym text_is) put

    stands_now : IsTrue (disk o.main).tells → StandsFor (disk n.main).holds after
    stands_now told =
        let S : Cat → Type 0 = λ x. StandsFor (disk n.main).holds x in
        subst S (sym is_now) (held_stands after_server.store.cat (disk n.main) after_server.store its.fits.held (subst IsTrue (sym tells) told))

    images : IsTrue (disk o.main).tells → IsTrue from.tells → IsSettled (disk o.main) → IsSettled from → (t : ℕ) (main sink : Text) → o.moments < t
        → (disk n.main).left t main → to.left t sink → One main sink
    images told sink_told settled sink_settled t main sink late main_left sink_left = elim (cases_lt mid t) [
      | inl now ↦
          let S : Text → Type 0 = λ x. StandsFor x after in
          kept_so comes (subst S (sym (its.settled told settled t main (omega (arith, main_last, now)) main_left)) (stands_now told))
          (put_left text mid t from to sink line sink_told sink_settled (omega (arith, sink_last, drawn)) now sink_left)
      | inr before ↦
          image_of main sink (leaves.leaves told settled t main late main_left)
          (sink_settled t sink (omega (arith, late, sink_last)) ((line.acts.earlier t sink (omega (arith, before))).0 sink_left))
    ]

    abbrev step : RequestStep old (new to) (state_of server) c number request
    step = step_of to (λ told. line.acts.holds told) images

    whole_after : (IsTrue from.tells → to.holds ≡ from.holds ++ end_line number well)
        → IsHandledWhole old (new to) (state_of server) c number request step after_server.store.cat (state_of after_server)
    whole_after all = record {
      state = s.state ∙ sym its.state;
      grid = refl;
      all_taken = refl;
      is_next = is_now;
      pieces_are = pieces_are;
      follows = (let P : Cat → Type 0 = λ x. ComesAfter c number request s.d x in subst P is_now comes);
      stands = λ told. held_stands after_server.store.cat (disk n.main) after_server.store its.fits.held (subst IsTrue (sym tells) told);
      text = λ told. all told ∙ ap (λ (t : Text). from.holds ++ t) (sym text_is);
      still = λ none_swept no_calls none same no_rules told. absurd (sweep none_swept);
      main_settled = its.settled;
      sink_settled = λ told settled. put.settled told;
    }

    -- the line was put, in whole or in part
    pub swept_then : (result : Result ⊤ Ending) → PutEnds (end_line number well) from to result → Obeys old (new to) server number request result after_server
    swept_then (Ok done) put_ends = handled step (whole_after put_ends, its.fits)
    swept_then (Err e) put_ends = handled step tt

-- no command is pending in what a stop leaves
pub none_waits_swept : (c now : Cat) (from : ℕ) (main_old main_new : DiskState) (result : Result ⊤ Ending) → c.pending ≡ None
    → SweepsMain c from main_old main_new result now → HasNoneWaiting from main_old main_new
none_waits_swept c now from main_old main_new result none its told settled t main d late left stands =
    by (its.leaves told settled t main late left)
  where
    by : StandsEither c its.after main → d.pending ≡ None
    by (inl before) = let P : Cat → Type 0 = λ x. x.pending ≡ None in subst P (sym (one_cat main c d before stands)) none
    by (inr behind) =
        let P : Cat → Type 0 = λ x. x.pending ≡ None in
        subst P (sym (one_cat main its.after d behind stands)) (its.like.pending ∙ none)
