-- A call of a request that is noted: main has the request pending there, where it waits.
use Rattle.std.proofs.Common.{◌≡◌, ◌+◌, List, ◌++◌, length, Ok, refl, sym, ap, ◌∙◌, subst}
use Rattle.grid_model.specs.Names.{Text}
use Rattle.grid_model.specs.Rows.{Cat}
use Rattle.grid_model.specs.RowGrids.{user_name}
use Rattle.grid_model.specs.Meanings.{Meaning, waits}
use Rattle.grid_model.specs.Doing.{Course, Did}
use Rattle.grid_model.specs.Sessions.{State}
use Rattle.grid_model.specs.Runs.{Request, does}
use Rattle.grid_model.specs.declared.calls.Call.{Call}
use Rattle.grid_model.specs.declared.marks.Mark.{Mark}
use Rattle.grid_headline.specs.Files.{NamesCall}
use Rattle.grid_headline.specs.Stops.{AreFirst}
use Rattle.count_laws.specs.GivenNumbers.{GivesFew}
use Rattle.run_laws.specs.Steps.{HasLine, IsAmid as IsAmidCommand, WaitsInDeed}
use Rattle.service_run.specs.Commands.{IsNoted, KeepsBeside, WaitsAt, noted_in, place_by, waiting_at}
use Rattle.service_run.specs.declared.command.Command.{Command}
use Rattle.call_laws.specs.Amid.{MayCall}
use Rattle.call_laws.proofs.Rows.{beside_then}
use Rattle.rule_run.specs.Asked.{IsAsked, IsOnMain, IsOnWay, asked_setting, noted}

module _ (at : State) (request : Request) (before : Cat) (x : Command) (asked : IsAsked at request before x)
    (text_of : List Mark → Text) (rows : Cat) (y : Command) (taken : List Mark) (call : Call)
    (undo : List Call) (command : y ≡ record x { marks = x.marks ++ taken; passed = y.passed; untold = y.untold })
    (beside : KeepsBeside before rows (length taken)) where
  -- it has the marks of its calls alone
  marks_are : y.marks ≡ taken
  marks_are = ap (λ (z : Command). z.marks) command ∙ ap (λ (z : Command). z.marks ++ taken) asked.begun

  user_is : y.user ≡ x.user
  user_is = ap (λ (z : Command). z.user) command

  module _ (c : Cat) (is_noted : IsNoted rows y call undo c) where
    all_beside : KeepsBeside before c (length taken + 1)
    all_beside = beside_then before rows c (length taken) 1 beside is_noted.beside

    -- numbers are given for its marks and one more
    few_noted : GivesFew before c (length y.marks + 1)
    few_noted = subst (λ (ms : List Mark). GivesFew before c (length ms + 1)) (sym marks_are) all_beside.few

    amid_command : IsAmidCommand before c
    amid_command = record { run = all_beside.run; last = all_beside.last; rules = all_beside.rules; stores = all_beside.stores; keeps = all_beside.keeps }

    names_call : NamesCall c.pending
    names_call = subst NamesCall (sym is_noted.pending) refl

    its_name : user_name c y.user ≡ asked.of.user
    its_name = ap (user_name c) user_is ∙ all_beside.names x.user asked.user ∙ asked.name

    way_noted : IsOnWay before x.line c
    way_noted = record {
      call = names_call;
      line_is = subst (HasLine x.line) (sym is_noted.pending) (ap (λ (z : Command). z.line) command);
      named = all_beside.named;
    }

    module _ (waits_so : does at request taken ≡ waits (record (waiting_at (place_by rows y) call) { undo = undo })) where
      waits_there : (r : Request) → r ≡ Ok (asked.session, asked.order) → does at r y.marks ≡ waits (record (waiting_at (place_by rows y) call) { undo = undo })
          → does at (Ok (asked.session, asked.order)) y.marks ≡ waits (record (waiting_at (place_by rows y) call) { undo = undo })
      waits_there r is w = subst (λ (q : Request). does at q y.marks ≡ waits (record (waiting_at (place_by rows y) call) { undo = undo })) is w

      in_deed : (marks : List Mark) → AreFirst taken marks → WaitsInDeed at x.number request marks c (noted_in y call undo)
      in_deed marks first = record {
        is = is_noted.pending;
        of_run = ap (λ (z : Command). z.run) command ∙ asked.run ∙ sym all_beside.run;
        number = ap (λ (z : Command). z.number) command;
        session = asked.session;
        order = asked.order;
        asks = asked.asks;
        of = asked.of;
        logged_in = asked.logged_in;
        name = its_name;
        waiting = record (waiting_at (place_by rows y) call) { undo = undo };
        waits_there = waits_there request asked.asks (ap (does at request) marks_are ∙ waits_so);
        running = refl;
        grid = is_noted.grid;
        taken = refl;
        passed = refl;
        undo = refl;
        kept = subst (λ (ms : List Mark). AreFirst ms marks) (sym marks_are) first;
      }

      on_noted : IsOnMain at request before x c taken
      on_noted = noted (noted_in y call undo) amid_command few_noted is_noted.pending (ap (λ (z : Command). z.line) command) marks_are names_call
          all_beside.named in_deed

  -- The call, which does this, may be made: where it waits, the request does, with all that a stop there has done.
  pub may_call : (doing : Course → Meaning Did)
      → (WaitsAt doing (place_by rows y) call → does at request taken ≡ waits (record (waiting_at (place_by rows y) call) { undo = undo }))
      → MayCall (asked_setting at request before x text_of) rows y taken doing call undo
  may_call doing waits_so = record { on_noted = λ c is_noted its. on_noted c is_noted (waits_so its); way_noted = way_noted }
