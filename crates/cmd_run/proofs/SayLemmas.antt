-- A request that is answered with an end alone.
use Rattle.std.proofs.Common.{◌≡◌, ℕ, ◌+◌, ◌<◌, ◌≤◌, List, [], ◌++◌, Ok, Err, IsTrue, refl, sym, ap, ◌∙◌, subst, arith}
use Rattle.std.specs.Prelude.{Result, ⊤}
use Rattle.grid_outside.specs.Ambient.{AmbientState}
use Rattle.grid_outside.specs.Device.{IsSettled}
use Rattle.grid_outside.specs.Disk.{DiskState}
use Rattle.grid_outside.specs.Files.{StoreState}
use Rattle.grid_outside.specs.Source.{SourceState}
use Rattle.grid_outside.specs.Sink.{SinkState, AddsPart}
use Rattle.grid_outside.specs.declared.outside.Outside.{Outside}
use Rattle.grid_model.specs.Names.{Text}
use Rattle.grid_model.specs.ReplyTexts.{ArePieces, reply_text}
use Rattle.grid_model.specs.Runs.{Request}
use Rattle.grid_model.specs.Completing.{EndsByRows}
use Rattle.grid_model.specs.declared.marks.Mark.{Mark}
use Rattle.grid_model.specs.declared.replies.End.{End}
use Rattle.grid_model.specs.declared.replies.Reply.{Reply}
use Rattle.grid_journal.specs.Stands.{StandsFor}
use Rattle.grid_deed.specs.Held.{IsHeld}
use Rattle.grid_deed.proofs.Keeping.{held_stands}
use Rattle.grid_headline.specs.Worlds.{World}
use Rattle.grid_headline.specs.Files.{IsKnown}
use Rattle.grid_headline.specs.Reads.{HasRules}
use Rattle.grid_headline.specs.Served.{whole}
use Rattle.grid_model.specs.Sessions.{State}
use Rattle.rule_parse.specs.Printed.{print_rules}
use Rattle.count_laws.proofs.GivenNumbers.{gives_none, none_self}
use Rattle.run_laws.specs.Steps.{RequestStep, IsHandledWhole, OneOf, SureTexts, kept_so, unseen}
use Rattle.cmd_run.specs.declared.server.Server.{Server}
use Rattle.cmd_run.specs.declared.server.Ending.{Ending}
use Rattle.cmd_run.specs.declared.server.Ending.TheVariants as ending
use Rattle.run_laws.specs.Around.{around}
use Rattle.cmd_run.specs.Answers.{IsTextPut, PutEnds, said_lines}
use Rattle.cmd_run.specs.Fits.{state_of, FitsMain}
use Rattle.cmd_run.specs.Obeys.{Obeys, Says, handled, quiet}
use Rattle.cmd_run.proofs.Resting.{gave_none, gave_same, caused_same, stands_still}

-- ---- what was put of a text

-- what a stop leaves of the sink
pub put_left : (text : Text) (from t : ℕ) (old new : SinkState) (image : Text) → IsTextPut text from old new → IsTrue old.tells → IsSettled old
    → old.last ≤ from → from < t → new.left t image → AddsPart text old.holds image
put_left text from t old new image put told settled last late left =
    let step = put.acts.images told t image (omega (arith, late)) left in
    let P : Text → Type 0 = λ x. AddsPart text x image in
    subst P (settled (from + 1) step.0 (omega (arith, last)) step.1) step.2

-- ---- the request

module _ {D A P : Type 0} (disk : D → DiskState) (ambient : A → AmbientState) (plugin : P → StoreState) (source : SourceState) (o n : Outside D A P)
    (from to : SinkState) (before after : Server) (number : ℕ) (request : Request)
    (shown : Text) (rows : List (List Text)) (e : End) (main_same : n.main ≡ o.main) (ambient_same : n.ambient ≡ o.ambient) (stores_same : n.stores ≡ o.stores)
    (store_same : before.store ≡ after.store) (fits : FitsMain (disk o.main) after) (main_last : (disk o.main).last ≤ o.moments)
    (sink_last : from.last ≤ o.moments) where
  abbrev pub old : World P
  old = around disk ambient plugin o from source

  abbrev pub new : World P
  new = around disk ambient plugin n to source

  stood : IsTrue (disk o.main).tells → StandsFor (disk o.main).holds before.store.cat
  stood told =
      let S : _ → Type 0 = λ s. StandsFor (disk o.main).holds s.cat in
      subst S (sym store_same) (held_stands after.store.cat (disk o.main) after.store fits.held told)

  module _ (s : Says (state_of before) request shown rows e (state_of after)) where
    pub marks_none : s.d.reply.marks ≡ []
    marks_none = ap (λ (r : Reply). r.marks) s.reply_is

    abbrev pub text : Text
    text = reply_text number s.d.reply []

    pub text_is : text ≡ said_lines number shown rows e
    text_is = ap (λ (r : Reply). reply_text number r []) s.reply_is

    pub pieces_are : ArePieces (IsKnown old before.store.cat) number s.d.sent 0 s.d.reply.marks []
    pieces_are = let Q : List Mark → Type 0 = λ ms. ArePieces (IsKnown old before.store.cat) number s.d.sent 0 ms [] in subst Q (sym marks_none) tt

    -- all of it is sure
    abbrev texts : SureTexts
    texts = record { pieces = []; sure = text }

    rules_are : HasRules before.store.cat s.d.state.rules
    rules_are =
        let C : _ → Type 0 = λ j. HasRules j.cat s.d.state.rules in
        subst C (sym store_same) (fits.rules ∙ ap (λ (x : State). print_rules x.rules) (sym s.state))

    pub by_rows : EndsByRows s.d.reply.end
    by_rows = subst EndsByRows (sym (ap (λ (r : Reply). r.end) s.reply_is)) s.by_rows

    -- main still stands for the rows, and the sink has a part of the reply
    pub image_of : (t : ℕ) (main sink : Text) → IsTrue (disk o.main).tells → IsSettled (disk o.main) → o.moments < t → (disk n.main).left t main
        → AddsPart text from.holds sink → OneOf (state_of before) before.store.cat before.store.cat number request s.d texts from.holds main sink
    image_of t main sink told settled late main_left part =
        kept_so (unseen refl marks_none s.grid rules_are)
        (stands_still disk o.main n.main before.store.cat o.moments t main main_same main_last late settled (stood told) main_left) part

    abbrev pub step_of : IsTextPut (said_lines number shown rows e) o.moments from to → RequestStep old new (state_of before) before.store.cat number request
    step_of put_line =
        let put : IsTextPut text o.moments from to = (let Q : Text → Type 0 = λ t. IsTextPut t o.moments from to in subst Q (sym text_is) put_line) in
        record {
          marks = [];
          d = s.d;
          does_so = s.does_so;
          all = s.all;
          marks_are = marks_none;
          taken = [];
          first = record { rest = []; are = refl };
          told_of = λ told. tt;
          by_rows = λ clean. by_rows;
          texts = texts;
          are_sure = whole pieces_are refl;
          shown = λ told. record { part = put.acts.holds told; few = omega arith };
          caused = caused_same disk ambient plugin source o n from to stores_same;
          gave = gave_same disk ambient plugin source o n ambient_same;
          next = before.store.cat;
          keeps = (none_self before.store.cat).keeps;
          few = gives_none before.store.cat;
          images = λ told sink_told settled sink_settled t main sink late main_left sink_left.
              image_of t main sink told settled late main_left (put_left text o.moments t from to sink put sink_told sink_settled sink_last late sink_left);
        }

    pub fits_still : FitsMain (disk n.main) after
    fits_still = let F : D → Type 0 = λ m. FitsMain (disk m) after in subst F (sym main_same) fits

    pub whole_of : (put : IsTextPut (said_lines number shown rows e) o.moments from to)
        → (IsTrue from.tells → to.holds ≡ from.holds ++ said_lines number shown rows e)
        → IsHandledWhole old new (state_of before) before.store.cat number request (step_of put) after.store.cat (state_of after)
    whole_of put all = record {
      state = s.state;
      grid = refl;
      all_taken = refl;
      pieces_are = pieces_are;
      is_next = ap (λ x. x.cat) store_same;
      follows = unseen (sym (ap (λ x. x.cat) store_same)) marks_none s.grid rules_are;
      stands =
          λ told. (let S : D → Type 0 = λ m. StandsFor (disk m).holds after.store.cat in subst S (sym main_same)
          (held_stands after.store.cat (disk o.main) after.store fits.held told));
      text = λ told. all told ∙ ap (λ (t : Text). from.holds ++ t) (sym text_is);
      still = λ no_sweep no_calls none same no_rules told. ap (λ (m : D). (disk m).holds) main_same;
      main_settled = λ told settled. (let S : D → Type 0 = λ m. IsSettled (disk m) in subst S (sym main_same) settled);
      sink_settled = λ told settled. put.settled told;
    }

    pub said_so : (result : Result ⊤ Ending) → IsTextPut (said_lines number shown rows e) o.moments from to
        → PutEnds (said_lines number shown rows e) from to result → Obeys old new before number request result after
    said_so (Ok done) put ends = handled (step_of put) (whole_of put ends, fits_still)
    said_so (Err x) put ends = handled (step_of put) tt

-- nothing was said, and nothing was done
pub unsaid_by : {D A P : Type 0} (disk : D → DiskState) (ambient : A → AmbientState) (plugin : P → StoreState) (source : SourceState) (o : Outside D A P)
    (sink : SinkState) (before : Server) (number : ℕ) (request : Request) (after : Server) (e : Ending)
    → IsHeld before.store.cat (disk o.main) before.store → (disk o.main).last ≤ o.moments → sink.last ≤ o.moments
    → Obeys (around disk ambient plugin o sink source) (around disk ambient plugin o sink source) before number request (Err e) after
unsaid_by disk ambient plugin source o sink before number request after e held main_last sink_last =
    quiet e refl (record {
      sink = λ told. refl;
      gave = λ told. gave_none (ambient o.ambient) told;
      images = λ told sink_told settled sink_settled t main image late main_left sink_left. (
        stands_still disk o.main o.main before.store.cat o.moments t main refl main_last late settled
            (held_stands before.store.cat (disk o.main) before.store held told) main_left,
        sink_settled t image (omega (arith, late, sink_last)) sink_left,
      );
    })

-- for want of memory
pub unsaid : {D A P : Type 0} (disk : D → DiskState) (ambient : A → AmbientState) (plugin : P → StoreState) (source : SourceState) (o : Outside D A P)
    (sink : SinkState) (before : Server) (number : ℕ) (request : Request) (after : Server)
    → IsHeld before.store.cat (disk o.main) before.store → (disk o.main).last ≤ o.moments → sink.last ≤ o.moments
    → Obeys (around disk ambient plugin o sink source) (around disk ambient plugin o sink source) before number request (Err ending.Memory) after
unsaid disk ambient plugin source o sink before number request after held main_last sink_last =
    unsaid_by disk ambient plugin source o sink before number request after ending.Memory held main_last sink_last
