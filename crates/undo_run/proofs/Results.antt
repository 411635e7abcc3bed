-- How the recoveries end: all were run, or something ended it.
use Rattle.std.proofs.Common.{◌≡◌, ◌≤◌, true, List, [], ◌∷◌, ◌++◌, Ok, Err, IsTrue, length, refl, sym, ap, ◌∙◌, subst, append_assoc}
use Rattle.std.proofs.lemmas.List.{append-nil}
use Rattle.grid_outside.specs.Ambient.{AmbientState}
use Rattle.grid_outside.specs.Disk.{DiskState}
use Rattle.grid_outside.specs.Files.{StoreState}
use Rattle.grid_outside.specs.Sink.{SinkState}
use Rattle.grid_outside.specs.Source.{SourceState}
use Rattle.grid_outside.specs.declared.outside.Wear.TheVariants as wear
use Rattle.grid_model.specs.Names.{Text}
use Rattle.grid_model.specs.Rows.{Cat}
use Rattle.grid_model.specs.RowGrids.{user_name}
use Rattle.grid_model.specs.RuleText.{Rule}
use Rattle.grid_model.specs.Doing.{do_call}
use Rattle.grid_model.specs.Reopening.{of_state, reopened}
use Rattle.grid_model.specs.declared.calls.Call.{Call}
use Rattle.grid_model.specs.declared.deltas.Numbers.{Numbers}
use Rattle.grid_model.specs.declared.deltas.Pending.{Pending}
use Rattle.grid_model.specs.declared.marks.Mark.{Mark}
use Rattle.grid_model.specs.declared.marks.Mark.TheVariants.{Stop}
use Rattle.grid_journal.specs.Journal.{Journal}
use Rattle.grid_journal.specs.Stands.{StandsFor}
use Rattle.grid_deed.proofs.Keeping.{held_stands}
use Rattle.grid_headline.specs.Reads.{HasRules}
use Rattle.grid_headline.specs.Worlds.{World}
use Rattle.chain_run.specs.Places.{Place, course_at}
use Rattle.run_laws.specs.Passes.{CallsPass, Seen}
use Rattle.run_laws.specs.Undone.{Undone}
use Rattle.service_run.specs.Commands.{place_by}
use Rattle.service_run.specs.declared.command.Command.{Command}
use Rattle.service_run.specs.declared.ending.Ending.{Ending}
use Rattle.service_run.specs.declared.ending.Ending.TheVariants as ending
use Rattle.service_run.specs.Steps.{IsStep, IsWornSo}
use Rattle.call_laws.specs.Amid.{HoldsSo, IsCutShort, MayCall, world}
use Rattle.call_laws.proofs.Ran.{caused_on, told_on}
use Rattle.call_laws.proofs.Rounds.{cut_next, short_amid}
use Rattle.call_laws.proofs.Rows.{first_all}
use Rattle.call_laws.proofs.Safely.{told_all}
use Rattle.undo_run.specs.Undoing.{IsOut, Undoes, stopped_command}
use Rattle.undo_run.proofs.Completing.{completes}
use Rattle.undo_run.proofs.Noting.{may_call}
use Rattle.undo_run.proofs.Undoings.{AreAmid, GoesTo, undoings}

module _ {D A P K : Type 0} (disk : D → DiskState) (ambient : A → AmbientState) (plugin : P → StoreState) (sink : K → SinkState) (source : SourceState)
    (from : Seen D A P K) (found : Cat) (p : Pending) (rules : List Rule) (rules_are : HasRules found rules) where
  abbrev at_old : World P
  at_old = world disk ambient plugin sink source from

  -- ---- it was ended

  -- with these marks taken, and these recoveries left: those of deeds that run complete them
  undoes_cut : (at : Seen D A P K) (taken : List Mark) → length at.outside.stores.items ≡ length from.outside.stores.items
      → IsCutShort disk ambient plugin sink source (undoings found p) from at taken → (left : List Call) (q : Place) → GoesTo found taken left q
      → (e : Ending) → IsOut at_old (world disk ambient plugin sink source at) found p e → (y : Command) (after : Journal)
      → Undoes at_old (world disk ambient plugin sink source at) found p rules (Err e) y after
  undoes_cut at taken count short left q goes e out y after =
      let more = completes q.user left q in
      let undone : Undone found =
      record {
        rules = rules;
        rules_are = rules_are;
        report = taken ++ more.marks;
        opened = more.opened;
        opened_is = goes more.marks ∙ more.opened_is;
        opened_all = more.opened_all;
      } in
      record {
        undone = undone;
        rules_are = refl;
        taken = taken;
        first = record { rest = more.marks; are = refl };
        told_of = told_on disk ambient plugin sink source (undoings found p) from at taken more.marks short.marks more.clean;
        caused = caused_on disk ambient plugin sink source (undoings found p) from at taken more.marks short.marks more.clean count;
        gave = short.marks.gave;
        shown = short.shown;
        main = short.safe.main;
        whole = short.safe.whole;
        images = short.safe.images undone (record { rest = more.marks; are = refl });
        ends = out;
      }

  -- memory may end it where the recoveries are
  pub undoes_amid : (at : Seen D A P K) (left : List Call) (x : Command) (rows : Journal) (taken : List Mark)
      → AreAmid disk ambient plugin sink source from found p at left x rows taken → (y : Command) (after : Journal)
      → Undoes at_old (world disk ambient plugin sink source at) found p rules (Err ending.Memory) y after
  undoes_amid at left x rows taken are y after =
      undoes_cut at taken are.amid.passes.frame.stores.count (short_amid disk ambient plugin sink source (undoings found p) from at x rows taken are.amid) left
      (place_by rows.cat x) are.goes ending.Memory tt y after

  -- ---- all were run

  pub undoes_done : (at : Seen D A P K) (y : Command) (rows : Journal) (taken : List Mark)
      → AreAmid disk ambient plugin sink source from found p at [] y rows taken
      → Undoes at_old (world disk ambient plugin sink source at) found p rules (Ok tt) y rows
  undoes_done at y rows taken are =
      let amid = are.amid in
      let short = short_amid disk ambient plugin sink source (undoings found p) from at y rows taken amid in
      let undone : Undone found = record {
        rules = rules;
        rules_are = rules_are;
        report = taken;
        opened = of_state (course_at (place_by rows.cat y) [] 0 true);
        opened_is = ap (reopened found) (sym (append-nil taken)) ∙ are.goes [];
        opened_all = refl;
      } in
      record {
        undone = undone;
        rules_are = refl;
        taken = taken;
        first = first_all taken;
        told_of = amid.marks.told_of;
        caused = amid.marks.caused;
        gave = amid.marks.gave;
        shown = short.shown;
        main = amid.safe.main;
        whole = amid.safe.whole;
        images = amid.safe.images undone (first_all taken);
        ends = (
          amid.holds.cat,
          record {
            all = refl;
            command = amid.command ∙ ap (λ (ms : List Mark). record (stopped_command p) { marks = ms; passed = y.passed; untold = y.untold })
                (append_assoc p.marks (Stop ∷ []) taken);
            passed = refl;
            grid = refl;
            run = amid.beside.run;
            rules = amid.beside.rules;
            stores = amid.beside.stores;
            keeps = amid.beside.keeps;
            few = amid.beside.few;
            named = amid.beside.named;
            held = amid.holds.held;
            settled = amid.holds.settled;
            sink_settled = amid.holds.sink_settled;
            untold = told_all disk ambient plugin sink source (undoings found p) from at y.untold rows taken amid.holds;
            whole_now = amid.whole_now;
          },
        );
      }

  -- ---- a call was cut short

  module _ (mid new : Seen D A P K) (cs : List Call) (c : Call) (y : Command) (rows : Journal) (taken : List Mark)
      (are : AreAmid disk ambient plugin sink source from found p mid (cs ++ c ∷ []) y rows taken)
      (main_last : (disk mid.outside.main).last ≤ mid.outside.moments)
      (z : Command) (after : Journal) (e : Ending) (failed sink_failed : Type 0) (passes : CallsPass disk plugin sink failed sink_failed mid new) where
    abbrev at_mid : World P
    at_mid = world disk ambient plugin sink source mid

    abbrev at_new : World P
    at_new = world disk ambient plugin sink source new

    abbrev holds : HoldsSo disk ambient plugin sink source (undoings found p) from mid y.untold rows taken
    holds = are.amid.holds

    main_told : IsTrue (disk from.outside.main).tells → IsTrue (disk mid.outside.main).tells
    main_told told = subst IsTrue (sym are.amid.passes.frame.main.tells) told

    out_now : (e : Ending) → IsWornSo at_mid at_new holds.cat rows y c (cs ++ c ∷ []) z after e → IsOut at_old at_new found p e
    out_now (ending.Worn wear.Vaults place) worn = (
      worn.1,
      λ told. (
        holds.cat,
        subst (λ (t : Text). StandsFor t holds.cat) (sym (worn.2.looks.holds (main_told told)))
            (held_stands holds.cat (disk mid.outside.main) rows holds.held (main_told told)),
        ap (λ (n : Numbers). n.next_vault) (sym holds.numbers) ∙ sym worn.0,
      ),
    )
    out_now (ending.Worn wear.Log place) worn = (worn.0, λ told. worn.1 (main_told told))
    out_now (ending.Worn wear.Runs place) worn = worn
    out_now ending.Disk worn = tt
    out_now ending.Sink worn = tt
    out_now ending.Memory worn = tt

    may : MayCall (undoings found p) rows.cat y taken (do_call (user_name rows.cat y.user) c) c (cs ++ c ∷ [])
    may = may_call found p are.setting.user rows.cat y taken cs c are.amid.command are.amid.beside are.goes

    pub undoes_failed : IsStep at_mid at_new are.amid.holds.cat rows y c (cs ++ c ∷ []) z after (do_call (user_name rows.cat y.user) c) (Err e)
        → Undoes at_old at_new found p rules (Err e) z after
    undoes_failed step =
        undoes_cut new taken (passes.frame.stores.count ∙ are.amid.passes.frame.stores.count)
        (cut_next disk ambient plugin sink source (undoings found p) from are.setting mid new c (cs ++ c ∷ [])
        (do_call (user_name rows.cat y.user) c) y rows taken are.amid may main_last z after e failed sink_failed passes step)
        (cs ++ c ∷ []) (place_by rows.cat y) are.goes e (out_now e step.ends) z after
