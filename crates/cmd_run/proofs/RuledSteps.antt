-- A request that sets rules, which are kept in one commit.
use Rattle.std.proofs.Common.{◌≡◌, ◌≢◌, ◌⊎◌, inl, inr, ℕ, ◌<◌, ◌≤◌, List, [], ◌++◌, IsTrue, refl, sym, ap, ◌∙◌, subst, arith}
use Rattle.std.proofs.lemmas.Bool.{cases_lt}
use Rattle.grid_outside.specs.Device.{IsSettled, Leaves}
use Rattle.grid_outside.specs.Sink.{AddsPart}
use Rattle.grid_model.specs.Names.{Text}
use Rattle.grid_model.specs.Rows.{Cat}
use Rattle.grid_model.specs.RowGrids.{grid_of}
use Rattle.grid_model.specs.Replies.{end_line}
use Rattle.grid_model.specs.ReplyTexts.{ArePieces, reply_text}
use Rattle.grid_model.specs.RuleText.{Rule}
use Rattle.grid_model.specs.Runs.{Request}
use Rattle.grid_model.specs.Sessions.{State}
use Rattle.grid_model.specs.Completing.{EndsByRows}
use Rattle.grid_model.specs.Working.{well}
use Rattle.grid_model.specs.declared.marks.Mark.{Mark}
use Rattle.grid_model.specs.declared.replies.Reply.{Reply}
use Rattle.grid_journal.specs.Stands.{StandsFor, StandsEither}
use Rattle.grid_headline.specs.Worlds.{World}
use Rattle.grid_headline.specs.Files.{IsKnown}
use Rattle.grid_headline.specs.Causes.{AreCaused}
use Rattle.grid_headline.specs.Reads.{HasRules}
use Rattle.grid_headline.specs.Served.{whole as all_sure}
use Rattle.rule_parse.specs.Printed.{print_rules}
use Rattle.run_laws.specs.Steps.{ComesAfter, RequestStep, IsHandledWhole, IsLeftBehind, Gave, OneOf, SureTexts, not_kept, kept_so, kept}
use Rattle.run_laws.specs.Went.{Rests}
use Rattle.cmd_run.specs.Answers.{IsTextPut}
use Rattle.cmd_run.specs.Rules.{BeginsToSet, ruled}
use Rattle.count_laws.proofs.GivenNumbers.{gives_alike}
use Rattle.cmd_run.proofs.Resting.{none_of}
use Rattle.cmd_run.proofs.RuledRows.{grid_ruled, keeps_numbers}
use Rattle.cmd_run.proofs.SayLemmas.{put_left}

module _ {B : Type 0} (old new : World B) (at : State) (c : Cat) (number : ℕ) (request : Request) (printed : Text) (rules : List Rule)
    (s : BeginsToSet at request rules) (printed_is : printed ≡ print_rules rules) (grid_is : grid_of c ≡ at.grid) (had : HasRules c at.rules)
    (some : 0 < c.numbers.next_vault) (caused : AreCaused old new []) (gave : IsTrue new.ambient.tells → Gave [] old.ambient new.ambient)
    (sink_last : old.sink.last ≤ old.moments) where
  abbrev pub after : Cat
  after = ruled number printed c

  pub marks_none : s.d.reply.marks ≡ []
  marks_none = ap (λ (r : Reply). r.marks) s.reply_is

  abbrev pub text : Text
  text = reply_text number s.d.reply []

  -- all of it is sure
  abbrev pub texts : SureTexts
  texts = record { pieces = []; sure = text }

  pub text_is : text ≡ end_line number well
  text_is = ap (λ (r : Reply). reply_text number r []) s.reply_is

  pub pieces_are : ArePieces (IsKnown old c) number s.d.sent 0 s.d.reply.marks []
  pieces_are = let Q : List Mark → Type 0 = λ ms. ArePieces (IsKnown old c) number s.d.sent 0 ms [] in subst Q (sym marks_none) tt

  pub rules_are : HasRules after s.d.state.rules
  rules_are = printed_is ∙ ap (λ (x : State). print_rules x.rules) (sym s.state)

  pub behind : IsLeftBehind c number s.d after
  behind = record {
    grid = grid_ruled number printed c some ∙ grid_is ∙ ap (λ (x : State). x.grid) (sym s.state);
    run = refl;
    last = refl;
    rules = rules_are;
    stores = refl;
    pending = refl;
    keeps = keeps_numbers number printed c;
  }

  -- no mark was told, so no file was made
  comes : ComesAfter c number request s.d after
  comes = kept behind (λ session order is makes some was. absurd (some marks_none))

  -- main stands for the rows before and the sink has nothing, or for those behind and it has a part
  abbrev pub Image : Text → Text → Type 0
  Image main sink = (StandsFor main c × (sink ≡ old.sink.holds)) ⊎ (StandsFor main after × AddsPart text old.sink.holds sink)

  pub image_of : (main sink : Text) → Image main sink → OneOf at c after number request s.d texts old.sink.holds main sink
  image_of main sink (inl (stands, same)) =
      let Q : Text → Type 0 = λ x. OneOf at c after number request s.d texts old.sink.holds main x in
      subst Q (sym same) (not_kept stands (none_of text old.sink.holds) refl)
  image_of main sink (inr (stands, part)) = kept_so comes stands part

  -- before the line is put main has either
  pub unsaid_image : (main sink : Text) → StandsEither c after main → sink ≡ old.sink.holds → Image main sink
  unsaid_image main sink (inl before) same = inl (before, same)
  unsaid_image main sink (inr later) same =
      inr (later, (let Q : Text → Type 0 = λ x. AddsPart text old.sink.holds x in subst Q (sym same) (none_of text old.sink.holds)))

  abbrev pub Images : Type 0
  Images = IsTrue old.main.tells → IsTrue old.sink.tells → IsSettled old.main → IsSettled old.sink → (t : ℕ) (main sink : Text)
      → old.moments < t → new.main.left t main → new.sink.left t sink → Image main sink

  abbrev pub step_of : (IsTrue old.sink.tells → AddsPart text old.sink.holds new.sink.holds) → Images → RequestStep old new at c number request
  step_of shown images = record {
    marks = [];
    d = s.d;
    does_so = s.does_so;
    all = s.all;
    marks_are = marks_none;
    taken = [];
    first = record { rest = []; are = refl };
    told_of = λ told. tt;
    by_rows = λ clean. subst EndsByRows (sym (ap (λ (r : Reply). r.end) s.reply_is)) tt;
    texts = texts;
    are_sure = all_sure pieces_are refl;
    shown = λ told. record { part = shown told; few = omega arith };
    caused = caused;
    gave = gave;
    next = after;
    keeps = behind.keeps;
    few = gives_alike c after refl refl;
    images = λ told sink_told settled sink_settled t main sink late main_left sink_left.
        image_of main sink (images told sink_told settled sink_settled t main sink late main_left sink_left);
  }

  module _ (leaves : IsTrue old.main.tells → IsSettled old.main → Leaves old.moments (StandsEither c after) new.main) where
    -- the keeping failed
    pub cut_short : Rests old.sink new.sink → RequestStep old new at c number request
    cut_short rests = step_of
        (λ told. let Q : Text → Type 0 = λ x. AddsPart text old.sink.holds x in subst Q (sym (rests.holds told)) (none_of text old.sink.holds))
        (λ told sink_told settled sink_settled t main sink late main_left sink_left.
        unsaid_image main sink (leaves told settled t main late main_left)
        (sink_settled t sink (omega (arith, late, sink_last)) (rests.left t sink sink_left)))

    -- all was kept, and the line was put as the moment after so many
    module _ (mid : ℕ) (put : IsTextPut (end_line number well) mid old.sink new.sink) (later : old.moments ≤ mid) (main_last : new.main.last ≤ mid)
        (stands : IsTrue old.main.tells → StandsFor new.main.holds after) (settled_new : IsTrue old.main.tells → IsSettled new.main) where
      pub line : IsTextPut text mid old.sink new.sink
      line = let Q : Text → Type 0 = λ x. IsTextPut x mid old.sink new.sink in subst Q (sym text_is) put

      pub images : Images
      images told sink_told settled sink_settled t main sink late main_left sink_left = by (cases_lt mid t)
        where
          by : (mid < t) ⊎ (t ≤ mid) → Image main sink
          by (inl now) =
              let Q : Text → Type 0 = λ x. StandsFor x after in
              inr (
                subst Q (sym (settled_new told t main (omega (arith, now, main_last)) main_left)) (stands told),
                put_left text mid t old.sink new.sink sink line sink_told sink_settled (omega (arith, sink_last, later)) now sink_left,
              )
          by (inr before) =
              unsaid_image main sink (leaves told settled t main late main_left)
              (sink_settled t sink (omega (arith, late, sink_last)) ((line.acts.earlier t sink (omega (arith, before))).0 sink_left))

      abbrev pub said : RequestStep old new at c number request
      said = step_of (λ told. line.acts.holds told) images

      -- where there were no rules and are none, they are printed as before
      pub still_none : at.rules ≡ [] → s.d.state.rules ≡ [] → printed ≡ c.rules
      still_none none no_rules =
          let rules_none : rules ≡ [] = ap (λ (x : State). x.rules) (sym s.state) ∙ no_rules in
          printed_is ∙ ap print_rules (rules_none ∙ sym none) ∙ sym had

      pub whole : printed ≢ c.rules → (end : State) → s.d.state ≡ end → grid_of after ≡ end.grid
          → (IsTrue old.sink.tells → new.sink.holds ≡ old.sink.holds ++ end_line number well) → IsHandledWhole old new at c number request said after end
      whole differs end state grid all = record {
        state = state;
        grid = grid;
        all_taken = refl;
        is_next = refl;
        pieces_are = pieces_are;
        follows = comes;
        stands = stands;
        text = λ told. all told ∙ ap (λ (t : Text). old.sink.holds ++ t) (sym text_is);
        still = λ no_sweep no_calls none same no_rules told. absurd (differs (still_none no_calls.1 no_rules));
        main_settled = λ told settled. settled_new told;
        sink_settled = λ told settled. put.settled told;
      }
