-- A request that was cut short in front of its operation or its query, or in it.
use Rattle.std.proofs.Common.{◌≡◌, ℕ, false, List, [], ◌++◌, Option, None, Err, IsTrue, length, refl, sym, ap, ◌∙◌, subst, arith}
use Rattle.grid_outside.specs.Ambient.{AmbientState}
use Rattle.grid_outside.specs.Disk.{DiskState}
use Rattle.grid_outside.specs.Files.{StoreState}
use Rattle.grid_outside.specs.Sink.{SinkState}
use Rattle.grid_outside.specs.Source.{SourceState}
use Rattle.grid_outside.specs.declared.outside.Wear.TheVariants as wear
use Rattle.grid_model.specs.Names.{Text}
use Rattle.grid_model.specs.Rows.{Cat}
use Rattle.grid_model.specs.Points.{Point}
use Rattle.grid_model.specs.Sessions.{State}
use Rattle.grid_model.specs.Runs.{Request}
use Rattle.grid_model.specs.declared.calls.Call.{Call}
use Rattle.grid_model.specs.declared.deltas.Numbers.{Numbers}
use Rattle.grid_model.specs.declared.marks.Mark.{Mark}
use Rattle.grid_journal.specs.Journal.{Journal}
use Rattle.grid_journal.specs.Stands.{StandsFor}
use Rattle.grid_deed.proofs.Keeping.{held_stands}
use Rattle.grid_headline.specs.Files.{IsKnown}
use Rattle.chain_run.specs.Places.{course_at}
use Rattle.point_laws.specs.Works.{DoneEnds, IsAskedSo, SendsBehind, Work, WorkEnds, WorksEndByRows, WorksSendBehind, WorksTakeInOrder}
use Rattle.run_laws.specs.Passes.{Seen}
use Rattle.service_run.specs.Commands.{place_by}
use Rattle.service_run.specs.Steps.{IsWornSo, lines_of}
use Rattle.service_run.specs.declared.command.Command.{Command}
use Rattle.service_run.specs.declared.ending.Ending.{Ending}
use Rattle.service_run.specs.declared.ending.Ending.TheVariants as ending
use Rattle.call_laws.specs.Amid.{IsAmid, IsCutShort, world}
use Rattle.call_laws.proofs.Rounds.{short_amid}
use Rattle.rule_run.specs.Asked.{IsAsked, asked_setting}
use Rattle.rule_run.specs.Executing.{Executes, HasRunOut}
use Rattle.rule_run.proofs.Handling.{cut_executes}
use Rattle.work_run.specs.Behind.{IsBehind, from_work}
use Rattle.work_run.specs.Works.{DoesSo}
use Rattle.work_run.proofs.Ends.{cut_before, does_marks}

module _ {D A P K : Type 0} (disk : D → DiskState) (ambient : A → AmbientState) (plugin : P → StoreState) (sink : K → SinkState) (source : SourceState)
    (at : State) (request : Request) (before : Cat) (x : Command) (asked : IsAsked at request before x) (from : Seen D A P K) where
  -- the command has the marks of its calls alone
  pub marks_are : (text_of : List Mark → Text) (mid : Seen D A P K) (y : Command) (rows : Journal) (taken : List Mark)
      → IsAmid disk ambient plugin sink source (asked_setting at request before x text_of) from mid y rows taken → y.marks ≡ taken
  marks_are text_of mid y rows taken amid = ap (λ (z : Command). z.marks) amid.command ∙ ap (λ (z : Command). z.marks ++ taken) asked.begun

  -- what has run out in a call behind these
  module _ (mid : Seen D A P K) (y : Command) (rows : Journal) (taken : List Mark)
      (amid : IsAmid disk ambient plugin sink source (asked_setting at request before x (lines_of x.number)) from mid y rows taken) (new : Seen D A P K)
      (z : Command) (after : Journal) (call : Call) where
    told_mid : IsTrue (disk from.outside.main).tells → IsTrue (disk mid.outside.main).tells
    told_mid told = subst IsTrue (sym amid.passes.frame.main.tells) told

    pub worn_out : (e : Ending)
        → IsWornSo (world disk ambient plugin sink source mid) (world disk ambient plugin sink source new) amid.holds.cat rows y call [] z after e
        → HasRunOut disk ambient plugin sink source at request before x from new e
    worn_out (ending.Worn wear.Vaults place) worn = (
      worn.1,
      λ told. (
        amid.holds.cat,
        subst (λ (t : Text). StandsFor t amid.holds.cat) (sym (worn.2.looks.holds (told_mid told)))
            (held_stands amid.holds.cat (disk mid.outside.main) rows amid.holds.held (told_mid told)),
        ap (λ (n : Numbers). n.next_vault) (sym amid.holds.numbers) ∙ sym worn.0,
      ),
    )
    worn_out (ending.Worn wear.Log place) worn = (worn.0, λ told. worn.1 (told_mid told))
    worn_out (ending.Worn wear.Runs place) worn = worn
    worn_out ending.Disk worn = tt
    worn_out ending.Sink worn = tt
    worn_out ending.Memory worn = tt

  module _ (user : Text) (w : Work) (p : Option Point) (b : ℕ) (mid : Seen D A P K) (y : Command) (rows : Journal) (taken : List Mark)
      (amid : IsAmid disk ambient plugin sink source (asked_setting at request before x (lines_of x.number)) from mid y rows taken)
      (behind : IsBehind at request taken (place_by rows.cat y) b (from_work at p user w))
      (does_so : DoesSo at request user w) (asked_so : IsAskedSo w) (ends : WorksEndByRows) (takes : WorksTakeInOrder) (sends : WorksSendBehind)
      (works : WorkEnds) where
    -- where it comes to its end, with marks of deeds behind those that were taken
    our_end : DoneEnds (λ later. from_work at p user w (course_at (place_by rows.cat y) later b false))
    our_end = works at p user w (course_at (place_by rows.cat y) [] b false)

    send_so : SendsBehind (length taken) our_end.d
    send_so sent is =
        let its = sends at p user w (record { state = course_at (place_by rows.cat y) our_end.rest b false; failure = None }) our_end.d our_end.gives_so
        our_end.all sent is in (
          omega (
            arith,
            its.0,
            ap (λ (ms : List Mark). length ms)
                (marks_are (lines_of x.number) mid y rows taken amid),
          ),
          its.1,
        )

    pub short_executes : (new : Seen D A P K)
        → IsCutShort disk ambient plugin sink source (asked_setting at request before x (lines_of x.number)) from new taken
        → length new.outside.stores.items ≡ length from.outside.stores.items → (e : Ending)
        → HasRunOut disk ambient plugin sink source at request before x from new e
        → (after : Journal) → Executes disk ambient plugin sink source at request before x from new (Err e) after
    short_executes new short count e out after =
        cut_executes disk ambient plugin sink source at request before x asked (lines_of x.number) from new taken short count our_end.rest our_end.ran
        (cut_before x.number at request (IsKnown (world disk ambient plugin sink source from) before) taken (taken ++ our_end.rest)
        (record { rest = our_end.rest; are = refl })
        (does_marks at request user w does_so asked_so ends takes (taken ++ our_end.rest) our_end.d (behind our_end.rest ∙ our_end.gives_so) our_end.all)
        send_so) e out after

    -- nothing more was called
    pub cut_here : (after : Journal) → Executes disk ambient plugin sink source at request before x from mid (Err ending.Memory) after
    cut_here after =
        short_executes mid (short_amid disk ambient plugin sink source (asked_setting at request before x (lines_of x.number)) from mid y rows taken amid)
        amid.passes.frame.stores.count ending.Memory tt after
