-- A request with its point, from its start.
use Rattle.std.proofs.Common.{◌≡◌, ℕ, false, List, [], Option, Some, None, Err, refl, sym, ap, ◌∙◌, subst}
use Rattle.grid_outside.specs.Ambient.{AmbientState}
use Rattle.grid_outside.specs.Disk.{DiskState}
use Rattle.grid_outside.specs.Files.{StoreState}
use Rattle.grid_outside.specs.Sink.{SinkState}
use Rattle.grid_outside.specs.Source.{SourceState}
use Rattle.grid_model.specs.Names.{Text}
use Rattle.grid_model.specs.Grid.{Grid}
use Rattle.grid_model.specs.Rows.{Cat}
use Rattle.grid_model.specs.RowGrids.{grid_of}
use Rattle.grid_model.specs.Doing.{Course}
use Rattle.grid_model.specs.Points.{Point, post_name, pre_name}
use Rattle.grid_model.specs.Sessions.{State}
use Rattle.grid_model.specs.Working.{begun}
use Rattle.grid_model.specs.Runs.{Request}
use Rattle.grid_model.specs.declared.marks.Mark.{Mark}
use Rattle.grid_journal.specs.Journal.{Journal}
use Rattle.chain_core.specs.Moves.{next_named}
use Rattle.chain_core.specs.declared.frames.Frames.{Frames}
use Rattle.chain_laws.specs.Ending.{NamesComplete}
use Rattle.chain_run.specs.Places.{course_at}
use Rattle.grid_headline.specs.Files.{IsKnown}
use Rattle.point_laws.specs.Works.{DoneEnds, IsAskedSo, PreEnds, Work, WorksEndByRows, WorksSendBehind, WorksTakeInOrder, point_at}
use Rattle.run_laws.specs.Passes.{Seen}
use Rattle.service_run.specs.Commands.{place_by}
use Rattle.service_run.specs.declared.command.Command.{Command}
use Rattle.service_run.specs.declared.ending.Ending.TheVariants as ending
use Rattle.service_run.specs.Steps.{lines_of}
use Rattle.call_laws.specs.Amid.{IsAmid, world}
use Rattle.call_laws.proofs.Rounds.{short_amid}
use Rattle.rule_run.specs.Asked.{IsAsked, asked_setting}
use Rattle.rule_run.specs.Executing.{Executes}
use Rattle.rule_run.proofs.Handling.{cut_executes}
use Rattle.work_run.specs.Behind.{IsBehind, from_start, from_work}
use Rattle.work_run.specs.Works.{DoesSo}
use Rattle.work_run.proofs.Ends.{cut_before, does_marks}
use Rattle.work_run.proofs.Silent.{alone_some}
use Rattle.work_run.proofs.FromStart.{starts_end, starts_send}

-- neither name of the point has a rule
abbrev pub HasNone : State → Option Point → Type 0
HasNone at p = (q : Point) → p ≡ Some q → (next_named at.rules (pre_name q) 0 ≡ None) × (next_named at.rules (post_name q) 0 ≡ None)

alone : (at : State) (p : Option Point) → HasNone at p → (user : Text) (w : Work) (s : Course)
    → from_start at p user w s ≡ from_work at None user w s
alone at None none user w s = refl
alone at (Some p) none user w s = let its = none p refl in alone_some at p its.0 its.1 user w s

module _ (at : State) (request : Request) (before : Cat) (x : Command) (asked : IsAsked at request before x) (user : Text) (w : Work)
    (does_so : DoesSo at request user w) where
  -- it begins where the request does
  same_course : (marks : List Mark) → begun at.grid marks ≡ course_at (place_by before x) marks 0 false
  same_course marks i = record {
    grid = sym asked.grid i;
    marks = marks;
    taken = sym (ap (λ (z : Command). z.marks) asked.begun) i;
    begun = 0;
    passed = sym (ap (λ (z : Command). z.passed) asked.begun) i;
    stopped = false;
  }

  pub begins : IsBehind at request [] (place_by before x) 0 (from_start at (point_at at.grid user w) user w)
  begins later = does_so later ∙ ap (from_start at (point_at at.grid user w) user w) (same_course later)

  -- without rules of its point
  pub begins_alone : HasNone at (point_at at.grid user w) → IsBehind at request [] (place_by before x) 0 (from_work at None user w)
  begins_alone none later = begins later ∙ alone at (point_at at.grid user w) none user w (course_at (place_by before x) later 0 false)

  -- with its point
  pub begins_at : (p : Point) → point_at (grid_of before) user w ≡ Some p → (b : ℕ) → b ≡ 0
      → IsBehind at request [] (place_by before x) b (from_start at (Some p) user w)
  begins_at p is b none =
      let Q : Option Point → Type 0 = λ o. IsBehind at request [] (place_by before x) 0 (from_start at o user w) in
      let N : ℕ → Type 0 = λ n. IsBehind at request [] (place_by before x) n (from_start at (Some p) user w) in
      subst N (sym none) (subst Q (ap (λ (g : Grid). point_at g user w) (sym asked.grid) ∙ is) begins)

  -- there was no memory to begin
  module _ {D A P K : Type 0} (disk : D → DiskState) (ambient : A → AmbientState) (plugin : P → StoreState) (sink : K → SinkState) (source : SourceState)
      (from : Seen D A P K) (rows : Journal)
      (amid : IsAmid disk ambient plugin sink source (asked_setting at request before x (lines_of x.number)) from from x rows [])
      (names : NamesComplete) (pres : PreEnds) (ends : WorksEndByRows) (takes : WorksTakeInOrder) (sends : WorksSendBehind)
      (asked_so : IsAskedSo w) (m : Frames) (none : m.begun ≡ 0) (off : m.stopped ≡ false) where
    our_end : DoneEnds (λ later. from_start at (point_at at.grid user w) user w (course_at (place_by before x) later 0 false))
    our_end = starts_end names pres at user w m none off (place_by before x) (point_at at.grid user w)

    pub cut_first : (after : Journal) → Executes disk ambient plugin sink source at request before x from from (Err ending.Memory) after
    unfolding our_end
    cut_first after =
        cut_executes disk ambient plugin sink source at request before x asked (lines_of x.number) from from []
        (short_amid disk ambient plugin sink source (asked_setting at request before x (lines_of x.number)) from from x rows [] amid) refl our_end.rest
        our_end.ran
        (cut_before x.number at request (IsKnown (world disk ambient plugin sink source from) before) [] our_end.rest
        (record { rest = our_end.rest; are = refl })
        (does_marks at request user w does_so asked_so ends takes our_end.rest our_end.d (begins our_end.rest ∙ our_end.gives_so) our_end.all)
        (starts_send names pres at user w m none off (place_by before x) sends (point_at at.grid user w)))
        ending.Memory tt after
