-- A command whose calls were made, from the calls before them to what its end says: what any crate takes that ends a command by `finish`.
use Rattle.std.proofs.Common.{◌≡◌, ℕ, ◌+◌, ◌≤◌, List, [], ◌++◌, Result, Err, IsTrue, refl, sym, ap, subst, arith}
use Rattle.std.specs.List.{list_all}
use Rattle.std.specs.Prelude.{⊤, IsErrOf}
use Rattle.grid_outside.specs.Ambient.{AmbientState}
use Rattle.grid_outside.specs.Disk.{DiskState}
use Rattle.grid_outside.specs.Files.{StoreState}
use Rattle.grid_outside.specs.Sink.{SinkState}
use Rattle.grid_outside.specs.Source.{SourceState}
use Rattle.grid_model.specs.Deltas.{all_fit, mark as mark_parts, passed as passed_parts}
use Rattle.grid_model.specs.Names.{Text}
use Rattle.grid_model.specs.Rows.{Cat}
use Rattle.grid_model.specs.RowGrids.{grid_of}
use Rattle.grid_model.specs.Sessions.{State}
use Rattle.grid_model.specs.Runs.{Request}
use Rattle.grid_model.specs.declared.marks.Mark.{Mark}
use Rattle.grid_model.specs.declared.replies.End.{End}
use Rattle.grid_model.specs.declared.replies.Passed.{Passed}
use Rattle.grid_journal.specs.Journal.{Journal}
use Rattle.grid_deed.specs.Held.{IsHeld}
use Rattle.grid_deed.specs.Safe.{KeepBothWhole}
use Rattle.grid_deed.proofs.Frames.{frame_as}
use Rattle.grid_headline.specs.Files.{IsKnown}
use Rattle.run_laws.specs.Passes.{AreReady, CallsPass, Seen}
use Rattle.run_laws.specs.Steps.{HadNumbersFor}
use Rattle.service_run.specs.Steps.{lines_of}
use Rattle.service_run.specs.declared.command.Command.{Command}
use Rattle.service_run.specs.declared.ending.Ending.{Ending}
use Rattle.service_run.specs.declared.ending.Ending.TheVariants as ending
use Rattle.call_laws.specs.Amid.{IsAmid, world}
use Rattle.call_laws.specs.OneCall.{AreKeepable}
use Rattle.call_laws.proofs.Beginning.{amid_begun}
use Rattle.rule_run.specs.Asked.{IsAsked, asked_setting, not_noted}
use Rattle.rule_run.specs.Executing.{Executes}
use Rattle.rule_run.specs.Finishing.{Finishes, reply_of, rest_text}
use Rattle.rule_run.proofs.Handling.{IsWholeEnd, StaysSo, executes}
use Rattle.rule_run.proofs.Settings.{is_setting}

-- ---- before the call

-- a command that is begun may be kept
pub keepable_first : (x : Command) → x.marks ≡ [] → x.passed ≡ [] → AreKeepable x []
keepable_first x marks passed = record {
  marks = subst (λ (ms : List Mark). IsTrue (list_all (λ m. all_fit (mark_parts m)) ms)) (sym marks) refl;
  passed = subst (λ (ps : List Passed). IsTrue (list_all (λ p. all_fit (passed_parts p)) ps)) (sym passed) refl;
  calls = refl;
}

module _ {D A P K : Type 0} (disk : D → DiskState) (plugin : P → StoreState) (sink : K → SinkState) where
  -- fewer moments are left
  pub ready_less : (at : Seen D A P K) (more less : ℕ) → less ≤ more → AreReady disk plugin sink more at → AreReady disk plugin sink less at
  ready_less at more less le ready = record {
    outside = record { main_last = ready.outside.main_last; stores_last = ready.outside.stores_last; room = omega (arith, ready.outside.room, le) };
    sink_last = ready.sink_last;
  }

  -- so many are left behind calls
  pub ready_after : (failed sink_failed : Type 0) (a b : Seen D A P K) (more less : ℕ) → CallsPass disk plugin sink failed sink_failed a b
      → AreReady disk plugin sink more a → b.outside.moments + less ≤ a.outside.moments + more → AreReady disk plugin sink less b
  ready_after failed sink_failed a b more less passes ready within = record {
    outside = record {
      main_last = passes.frame.main_last ready.outside.main_last;
      stores_last = passes.frame.stores_last ready.outside.stores_last;
      room = omega (arith, ready.outside.room, within);
    };
    sink_last = passes.sink_last ready.sink_last;
  }

-- an error of one result, as that of another
err_as : {T U : Type 0} (e y : Ending) → IsErrOf {T = T} {E = Ending} (Err e) y → IsErrOf {T = U} {E = Ending} (Err e) y
err_as e y is = let same : e ≡ y = cc is in ap Err same

-- calls that failed so
pub passes_err : {T U D A P K : Type 0} (disk : D → DiskState) (plugin : P → StoreState) (sink : K → SinkState) (e : Ending) (a b : Seen D A P K)
    → CallsPass disk plugin sink (IsErrOf {T = T} {E = Ending} (Err e) ending.Disk) (IsErrOf {T = T} {E = Ending} (Err e) ending.Sink) a b
    → CallsPass disk plugin sink (IsErrOf {T = U} {E = Ending} (Err e) ending.Disk) (IsErrOf {T = U} {E = Ending} (Err e) ending.Sink) a b
passes_err {T} {U} disk plugin sink e a b passes = record {
  frame = frame_as disk plugin (IsErrOf {T = T} {E = Ending} (Err e) ending.Disk) (IsErrOf {T = U} {E = Ending} (Err e) ending.Disk)
      (record a.outside { ambient = b.outside.ambient }) b.outside (err_as e ending.Disk) (err_as e ending.Disk) passes.frame;
  sink_last = passes.sink_last;
  goes = passes.goes;
  sink_cause = λ f. passes.sink_cause (err_as e ending.Sink f);
}

-- ---- before any call

module _ {D A P K : Type 0} (disk : D → DiskState) (ambient : A → AmbientState) (plugin : P → StoreState) (sink : K → SinkState) (source : SourceState)
    (at : State) (request : Request) (before : Cat) (x : Command) (asked : IsAsked at request before x) (from : Seen D A P K) where
  -- before any call
  pub amid_first : (rows : Journal) → IsHeld before (disk from.outside.main) rows → rows.cat ≡ before → (more : ℕ) → AreReady disk plugin sink more from
      → IsAmid disk ambient plugin sink source (asked_setting at request before x (lines_of x.number)) from from x rows []
  amid_first rows held same more ready =
      amid_begun disk ambient plugin sink source (asked_setting at request before x (lines_of x.number)) from
      (is_setting at request before x asked (lines_of x.number)) (not_noted refl refl) rows held same more ready refl (λ marks. refl)

-- ---- ended

module _ {D A P K : Type 0} (disk : D → DiskState) (ambient : A → AmbientState) (plugin : P → StoreState) (sink : K → SinkState) (source : SourceState)
    (at : State) (request : Request) (before : Cat) (x : Command) (asked : IsAsked at request before x) (text_of : List Mark → Text)
    (from : Seen D A P K) where
  module _ (mid : Seen D A P K) (y : Command) (rows : Journal) (taken : List Mark)
      (amid : IsAmid disk ambient plugin sink source (asked_setting at request before x text_of) from mid y rows taken)
      (main_last : (disk mid.outside.main).last ≤ mid.outside.moments) (shown_rows : List (List Text)) (e : End)
      (new : Seen D A P K) (r : Result ⊤ Ending) (after : Journal) (failed sink_failed : Type 0)
      (passes : CallsPass disk plugin sink failed sink_failed mid new) (same : new.outside.ambient ≡ mid.outside.ambient)
      (finishes : (kept : Cat) → IsHeld kept (disk mid.outside.main) rows
      → Finishes (disk mid.outside.main) (disk new.outside.main) (sink mid.sink) (sink new.sink) kept mid.outside.moments y.number rows y
      (y.untold ++ rest_text y.number y.passed shown_rows e) r after)
      (wholes : (kept : Cat) → IsHeld kept (disk mid.outside.main) rows
      → KeepBothWhole plugin mid.outside.moments kept rows.cat (disk mid.outside.main) (disk new.outside.main) mid.outside.stores.items
      new.outside.stores.items) where
    -- `executes` of Handling over the clauses of `finish`, which was called behind the calls with these rows and this end.
    pub ended_so : (w : IsWholeEnd x.number text_of at request (IsKnown (world disk ambient plugin sink source from) before) taken)
        → w.d.reply ≡ reply_of taken y.passed shown_rows e
        → w.d.state ≡ record at { grid = grid_of rows.cat } → HadNumbersFor before request w.d
        → StaysSo at request before taken w.d (disk from.outside.main) (disk new.outside.main)
        → Executes disk ambient plugin sink source at request before x from new r after
    ended_so w reply state had still =
        let F : ℕ → Type 0 = λ n. Finishes (disk mid.outside.main) (disk new.outside.main) (sink mid.sink) (sink new.sink) amid.holds.cat mid.outside.moments
        n rows y (y.untold ++ rest_text n y.passed shown_rows e) r after in
        executes disk ambient plugin sink source at request before x asked text_of from mid y rows taken amid main_last shown_rows e w reply state had
        new r after (subst F (ap (λ (z : Command). z.number) amid.command) (finishes amid.holds.cat amid.holds.held)) failed sink_failed passes same
        (wholes amid.holds.cat amid.holds.held) still
