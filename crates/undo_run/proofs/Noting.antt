-- A call of the recoveries that is noted: they go on with all that are left, the running one among them.
use Rattle.std.proofs.Common.{◌≡◌, ℕ, ◌+◌, true, List, [], ◌∷◌, ◌++◌, length, Option, IsTrue, refl, sym, ap, ◌∙◌, subst, append_assoc, length-append, arith}
use Rattle.grid_model.specs.Applying.{is_user}
use Rattle.grid_model.specs.Rows.{Cat}
use Rattle.grid_model.specs.RowGrids.{user_name}
use Rattle.grid_model.specs.Doing.{do_call}
use Rattle.grid_model.specs.Reopening.{reopened, reopened_by, unwind}
use Rattle.grid_model.specs.declared.calls.Call.{Call}
use Rattle.grid_model.specs.declared.deltas.Pending.{Pending}
use Rattle.grid_model.specs.declared.marks.Mark.{Mark}
use Rattle.grid_model.specs.declared.marks.Mark.TheVariants.{Stop}
use Rattle.grid_headline.specs.Files.{NamesCall}
use Rattle.grid_headline.specs.Stops.{AreFirst}
use Rattle.count_laws.specs.GivenNumbers.{GivesFew}
use Rattle.run_laws.proofs.Recoveries.{first-behind}
use Rattle.service_run.specs.Commands.{IsNoted, KeepsBeside, WaitsAt, noted_in, place_by}
use Rattle.service_run.specs.declared.command.Command.{Command}
use Rattle.call_laws.specs.Amid.{MayCall}
use Rattle.call_laws.proofs.Rows.{beside_then}
use Rattle.undo_run.specs.Undoing.{IsOnTheWay, stopped_command}
use Rattle.undo_run.proofs.Completing.{stopped_again}
use Rattle.undo_run.proofs.Undoings.{GoesTo, IsOnMain, undoings}

module _ (found : Cat) (p : Pending) (user : IsTrue (is_user found p.user)) (rows : Cat) (y : Command) (taken : List Mark) (cs : List Call) (c : Call)
    (command : y ≡ record (stopped_command p) { marks = (p.marks ++ Stop ∷ []) ++ taken; passed = y.passed; untold = y.untold })
    (beside : KeepsBeside found rows (length taken)) (goes : GoesTo found taken (cs ++ c ∷ []) (place_by rows y)) where
  marks_are : y.marks ≡ p.marks ++ Stop ∷ taken
  marks_are = ap (λ (x : Command). x.marks) command ∙ append_assoc p.marks (Stop ∷ []) taken

  user_is : y.user ≡ p.user
  user_is = ap (λ (x : Command). x.user) command

  -- the user of the command is there, with the name
  its_user : IsTrue (is_user rows y.user)
  its_user = subst (λ (id : ℕ). IsTrue (is_user rows id)) (sym user_is) (beside.users p.user user)

  its_name : user_name rows y.user ≡ user_name found p.user
  its_name = ap (user_name rows) user_is ∙ beside.names p.user user

  module _ (cat : Cat) (noted : IsNoted rows y c (cs ++ c ∷ []) cat) where
    name_noted : user_name cat y.user ≡ user_name rows y.user
    name_noted = noted.beside.names y.user its_user

    all_beside : KeepsBeside found cat (length taken + 1)
    all_beside = beside_then found rows cat (length taken) 1 beside noted.beside

    -- for the kept marks of recoveries and their `Stop`
    few_noted : (d : List Mark) → p.marks ++ Stop ∷ d ≡ y.marks ++ Stop ∷ [] → GivesFew found cat (length d)
    few_noted d is =
        let count : length taken + 1 ≡ length d =
        omega (
          arith,
          ap length is,
          ap length marks_are,
          length-append p.marks (Stop ∷ d),
          length-append y.marks (Stop ∷ []),
          length-append p.marks (Stop ∷ taken),
        ) in
        subst (GivesFew found cat) count all_beside.few

    -- opening the catalogue that notes it goes on behind one `Stop` more
    goes_on : WaitsAt (do_call (user_name rows y.user) c) (place_by rows y) c → (w : List Mark) → reopened cat w ≡ reopened found ((taken ++ Stop ∷ []) ++ w)
    goes_on waits w =
        ap (λ (o : Option Pending). reopened_by cat o w) noted.pending
        ∙ (λ i. unwind (noted.grid i) (name_noted i) (cs ++ c ∷ []) y.marks y.passed w)
        ∙ sym (stopped_again (user_name rows y.user) cs c (place_by rows y) 0 true (waits 0).1 w 0 true)
        ∙ sym (goes (Stop ∷ w))
        ∙ ap (reopened found) (sym (append_assoc taken (Stop ∷ []) w))

    -- it has lost track of no file, and has the call
    way_noted : IsOnTheWay found cat
    way_noted = record { named = all_beside.named; call = λ call. subst NamesCall (sym noted.pending) refl }

    on_noted : WaitsAt (do_call (user_name rows y.user) c) (place_by rows y) c → IsOnMain found p cat taken
    on_noted waits = record {
      now = noted_in y c (cs ++ c ∷ []);
      pending = noted.pending;
      undoing = λ report first. record {
        of_run = ap (λ (x : Command). x.run) command;
        number = ap (λ (x : Command). x.number) command;
        line = ap (λ (x : Command). x.line) command;
        user = name_noted ∙ its_name;
        d = taken ++ Stop ∷ [];
        kept = sym (append_assoc p.marks (Stop ∷ taken) (Stop ∷ [])) ∙ ap (λ (ms : List Mark). ms ++ Stop ∷ []) (sym marks_are);
        same = goes_on waits;
        of_report = subst (λ (ms : List Mark). AreFirst ms (p.marks ++ Stop ∷ report)) (sym marks_are)
            (first-behind p.marks (Stop ∷ taken) (Stop ∷ report) (record { rest = first.rest; are = ap (λ (ms : List Mark). Stop ∷ ms) first.are }));
      };
      told_kept = record { rest = Stop ∷ []; are = ap (λ (ms : List Mark). ms ++ Stop ∷ []) marks_are };
      on_the_way = way_noted;
      run = all_beside.run;
      rules = all_beside.rules;
      stores = all_beside.stores;
      keeps = all_beside.keeps;
      few = few_noted;
    }

  -- each of them may be noted
  pub may_call : MayCall (undoings found p) rows y taken (do_call (user_name rows y.user) c) c (cs ++ c ∷ [])
  may_call = record { on_noted = on_noted; way_noted = way_noted }
