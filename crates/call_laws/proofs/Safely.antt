-- What a stop leaves at any moment, one call further.
use Rattle.std.proofs.Common.{◌≡◌, inl, inr, ℕ, ◌<◌, ◌≤◌, List, ◌++◌, Result, IsTrue, sym, ap, ◌∙◌, subst, append_assoc, arith}
use Rattle.std.specs.Prelude.{⊤}
use Rattle.std.proofs.lemmas.Bool.{cases_lt}
use Rattle.grid_outside.specs.Ambient.{AmbientState}
use Rattle.grid_outside.specs.Device.{IsSettled}
use Rattle.grid_outside.specs.Disk.{DiskState}
use Rattle.grid_outside.specs.Files.{StoreState}
use Rattle.grid_outside.specs.Sink.{AddsPart, SinkState}
use Rattle.grid_outside.specs.Source.{SourceState}
use Rattle.grid_model.specs.Names.{Text}
use Rattle.grid_model.specs.Rows.{Cat}
use Rattle.grid_model.specs.Meanings.{Meaning}
use Rattle.grid_model.specs.Doing.{Course, Did}
use Rattle.grid_model.specs.declared.calls.Call.{Call}
use Rattle.grid_model.specs.declared.marks.Mark.{Mark}
use Rattle.grid_model.specs.declared.refusal.Failure.{Failure}
use Rattle.grid_journal.specs.Journal.{Journal}
use Rattle.grid_journal.specs.Stands.{StandsFor}
use Rattle.grid_deed.specs.Safe.{AreWhole}
use Rattle.grid_deed.proofs.Keeping.{held_stands}
use Rattle.grid_deed.proofs.Wholes.{one_cat, whole_before}
use Rattle.grid_headline.specs.Stops.{AreFirst}
use Rattle.grid_headline.specs.Worlds.{World}
use Rattle.run_laws.specs.Passes.{CallsPass, Seen}
use Rattle.service_run.specs.declared.command.Command.{Command}
use Rattle.service_run.specs.declared.ending.Ending.{Ending}
use Rattle.service_run.specs.Steps.{IsStep, LeavesMain, OneOfStep, in_call, left_so, lines_of, noted_so, unseen}
use Rattle.call_laws.specs.Amid.{HoldsSo, IsAmid, IsSafe, IsSetting, MayCall, Setting, WereAllWhole, world}
use Rattle.call_laws.proofs.Rows.{first_front}
use Rattle.call_laws.proofs.Told.{adds_all, adds_behind, lines-append}

module _ {D A P K : Type 0} (disk : D → DiskState) (ambient : A → AmbientState) (plugin : P → StoreState) (sink : K → SinkState) (source : SourceState)
    {F : Type 0} (s : Setting F) (from : Seen D A P K) where
  -- the text of all marks is that of those that were told, and the lines of those that are still to be
  pub lines_taken : (at : Seen D A P K) (untold : Text) (rows : Journal) (taken : List Mark)
      → (h : HoldsSo disk ambient plugin sink source s from at untold rows taken)
      → s.text_of taken ≡ s.text_of h.told ++ lines_of s.start.number h.fresh
  lines_taken at untold rows taken h = ap s.text_of h.taken_are ∙ h.plain h.fresh

  -- what tells more marks behind all of them is their lines
  pub plain_taken : (at : Seen D A P K) (untold : Text) (rows : Journal) (taken : List Mark)
      → (h : HoldsSo disk ambient plugin sink source s from at untold rows taken)
      → (more : List Mark) → s.text_of (taken ++ more) ≡ s.text_of taken ++ lines_of s.start.number more
  plain_taken at untold rows taken h more =
      ap (λ (ms : List Mark). s.text_of (ms ++ more)) h.taken_are
      ∙ ap s.text_of (append_assoc h.told h.fresh more)
      ∙ h.plain (h.fresh ++ more)
      ∙ ap (λ (t : Text). s.text_of h.told ++ t) (lines-append s.start.number h.fresh more)
      ∙ sym (append_assoc (s.text_of h.told) (lines_of s.start.number h.fresh) (lines_of s.start.number more))
      ∙ ap (λ (t : Text). t ++ lines_of s.start.number more) (sym (lines_taken at untold rows taken h))

  -- where all that is still to be told is told
  pub told_all : (at : Seen D A P K) (untold : Text) (rows : Journal) (taken : List Mark)
      → (h : HoldsSo disk ambient plugin sink source s from at untold rows taken) → IsTrue (sink from.sink).tells
      → (sink at.sink).holds ++ untold ≡ (sink from.sink).holds ++ s.text_of taken
  told_all at untold rows taken h told =
      (λ i. h.shown told i ++ h.untold_is i)
      ∙ append_assoc (sink from.sink).holds (s.text_of h.told) (lines_of s.start.number h.fresh)
      ∙ ap (λ (t : Text). (sink from.sink).holds ++ t) (sym (lines_taken at untold rows taken h))

  module _ (is : IsSetting s) (mid new : Seen D A P K) (c : Call) (undo : List Call) (does : Course → Meaning Did) (y : Command) (rows : Journal)
      (taken : List Mark) (amid : IsAmid disk ambient plugin sink source s from mid y rows taken) (may : MayCall s rows.cat y taken does c undo)
      (main_last : (disk mid.outside.main).last ≤ mid.outside.moments) where
    abbrev at_old : World P
    at_old = world disk ambient plugin sink source from

    abbrev at_mid : World P
    at_mid = world disk ambient plugin sink source mid

    abbrev at_new : World P
    at_new = world disk ambient plugin sink source new

    abbrev holds : HoldsSo disk ambient plugin sink source s from mid y.untold rows taken
    holds = amid.holds

    pub main_told : IsTrue (disk from.outside.main).tells → IsTrue (disk mid.outside.main).tells
    main_told told = subst IsTrue (sym amid.passes.frame.main.tells) told

    pub sink_told : IsTrue (sink from.sink).tells → IsTrue (sink mid.sink).tells
    sink_told told = subst IsTrue (sym amid.passes.goes.tells) told

    -- all was whole by what main has
    pub whole_kept : WereAllWhole at_old s.found → IsTrue (disk from.outside.main).tells → IsSettled (disk from.outside.main) → (t : ℕ)
        → mid.outside.moments < t → AreWhole plugin t holds.cat mid.outside.stores.items
    whole_kept were told settled t late =
        amid.safe.whole were told settled t (disk mid.outside.main).holds holds.cat (omega (arith, late, amid.passes.frame.drawn))
        ((disk mid.outside.main).now (main_told told) t (omega (arith, late, main_last)))
        (held_stands holds.cat (disk mid.outside.main) rows holds.held (main_told told))

    -- a part of what was still to be told
    pub part_told : IsTrue (sink from.sink).tells → (shown : Text) → AddsPart y.untold (sink mid.sink).holds shown
        → AddsPart (s.text_of taken) (sink from.sink).holds shown
    part_told told shown part =
        subst (λ (t : Text). AddsPart t (sink from.sink).holds shown) (sym (lines_taken mid y.untold rows taken holds))
        (adds_behind (s.text_of holds.told) (lines_of s.start.number holds.fresh) (sink from.sink).holds (sink mid.sink).holds shown
        (holds.shown told)
        (subst (λ (t : Text). AddsPart t (sink mid.sink).holds shown) holds.untold_is part))

    module _ (z : Command) (after : Journal) (result : Result (Result ⊤ Failure) Ending) (failed sink_failed : Type 0)
        (passes : CallsPass disk plugin sink failed sink_failed mid new)
        (step : IsStep at_mid at_new holds.cat rows y c undo z after does result) where
      way_now : (main : Text) (d : Cat) → LeavesMain holds.cat rows.cat y c undo main → StandsFor main d → s.OnWay d
      way_now main d (left_so stands) its = subst s.OnWay (sym (one_cat main holds.cat d stands its)) (is.on_way holds.cat holds.told holds.on_main)
      way_now main d (noted_so cat noted stands) its = subst s.OnWay (sym (one_cat main cat d stands its)) (may.way_noted cat noted)

      image_now : (f : F) → AreFirst taken (s.marks_of f) → IsTrue (sink from.sink).tells → (main shown : Text)
          → OneOfStep does holds.cat rows.cat y c undo (sink mid.sink).holds main shown
          → s.OneOf f (sink from.sink).holds main shown
      image_now f first told main shown (unseen stands still) =
          let first_told = first_front holds.told holds.fresh (s.marks_of f) (subst (λ (ms : List Mark). AreFirst ms (s.marks_of f)) holds.taken_are first) in
          is.one_image f holds.told first_told holds.cat holds.on_main (sink from.sink).holds main shown stands
          (adds_all (s.text_of holds.told) (sink from.sink).holds shown (still ∙ holds.shown told))
      image_now f first told main shown (in_call cat noted waits stands part) =
          is.one_image f taken first cat (may.on_noted cat noted waits) (sink from.sink).holds main shown stands (part_told told shown part)

      pub safe_next : IsSafe disk ambient plugin sink source s from new taken
      safe_next = record {
        main = λ told settled t main d late left stands. elim (cases_lt mid.outside.moments t) [
          | inl now ↦ way_now main d (step.main (main_told told) (holds.settled told settled) t main now left) stands
          | inr before ↦ amid.safe.main told settled t main d late (passes.frame.main.earlier t main before left) stands
        ];
        whole = λ were told settled t main d late left stands. elim (cases_lt mid.outside.moments t) [
          | inl now ↦ step.whole (amid.whole_now were told settled) (main_told told) (holds.settled told settled) (whole_kept were told settled) t main d
              now left stands
          | inr before ↦ whole_before plugin t mid.outside.moments d mid.outside.stores.items new.outside.stores.items before passes.frame.stores
              (amid.safe.whole were told settled t main d late (passes.frame.main.earlier t main before left) stands)
        ];
        images = λ f first told s_told settled s_settled t main shown late left sink_left. elim (cases_lt mid.outside.moments t) [
          | inl now ↦ image_now f first s_told main shown
              (step.images (main_told told) (sink_told s_told) (holds.settled told settled) (holds.sink_settled s_told s_settled) t main shown now left
              sink_left)
          | inr before ↦ amid.safe.images f first told s_told settled s_settled t main shown late (passes.frame.main.earlier t main before left)
              (passes.goes.earlier t shown before sink_left)
        ];
      }
