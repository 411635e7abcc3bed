-- What is planned of an operation is planned of a call that does it.
use Rattle.std.proofs.Common.{◌≡◌, List, [], Some, Ok, Err, refl, ap, ◌∙◌, inl}
use Rattle.grid_model.specs.Names.{Text, Path}
use Rattle.grid_model.specs.Grid.{Grid}
use Rattle.grid_model.specs.Rows.{Cat}
use Rattle.grid_model.specs.RowGrids.{grid_of}
use Rattle.grid_model.specs.Applying.{IsMade}
use Rattle.grid_model.specs.Refusing.{Or}
use Rattle.grid_model.specs.Meanings.{gives}
use Rattle.grid_model.specs.Deeds.{Act, Deed, changes, deed}
use Rattle.grid_model.specs.Doing.{did_well, do_act, do_operation, do_service}
use Rattle.grid_model.specs.Operations.Table.{Operation, chksum, copy, repl, row}
use Rattle.grid_model.specs.Services.{nothing}
use Rattle.grid_model.specs.declared.calls.Call.{Call}
use Rattle.grid_model.specs.declared.deltas.Delta.{Delta}
use Rattle.grid_model.specs.declared.plans.OldFile.{OldFile}
use Rattle.grid_model.specs.declared.plans.PlanError.{PlanError}
use Rattle.grid_model.specs.declared.plans.PlanError.TheVariants.{Refused, Memory}
use Rattle.file_laws.proofs.Turning.{turns_self}
use Rattle.plan_base.specs.Plans.{Changes, PlansChange}
use Rattle.plan_object.specs.ChksumPlans.{FindsChksum, MayChksum}
use Rattle.plan_object.specs.CopyPlans.{FindsCopy, MayCopy}
use Rattle.plan_object.specs.ReplPlans.{FindsRepl, MayRepl}
use Rattle.plan_object.proofs.CopyRows.{copy_is}
use Rattle.plan_object.proofs.ReplRows.{repl_is}
use Rattle.plan_service.specs.ServicePlans.{Does, MakesChanges, PlansDoing, TakesMark, error_by}
use Rattle.plan_service.specs.declared.plans.ServicePlan.TheVariants as plan

module _ (c : Cat) (user : Text) (call : Call) where
  -- an operation does what its row at the grid of the rows says
  does_row : (op : Operation) (x : Or Act) → row (grid_of c) user op ≡ x → Does c (do_operation call user op) (λ s. do_act call s x)
  does_row op x is = λ s at. ap (λ (g : Grid). do_act call s (row g user op)) at ∙ ap (do_act call s) is

  made_changes : (op : Operation) (deltas : List Delta) → Changes c user op deltas → MakesChanges c (do_operation call user op) deltas
  made_changes op deltas its = record {
    after = its.after;
    does = does_row op (Ok (changes (grid_of its.after))) its.row_is;
    applied = its.applied;
    spelled = its.spelled;
    still = its.still;
    turns = its.turns;
    names = its.names;
    numbers = its.numbers;
    pending = its.pending;
    rules = its.rules;
    stores = its.stores;
  }

  pub planned_changes : (op : Operation) (deltas : List Delta) → PlansChange c user op (Ok deltas) → PlansDoing c user call (do_operation call user op) (Ok (plan.Changes deltas))
  planned_changes op deltas its = made_changes op deltas its

  pub planned_none : (op : Operation) (why : PlanError) → PlansChange c user op (Err why) → PlansDoing c user call (do_operation call user op) (Err (error_by why))
  planned_none op (Refused r) is = does_row op (Err r) is
  planned_none op Memory is = tt

  -- nothing is done
  pub nothing_done : MakesChanges c (do_service call user (Some nothing)) []
  nothing_done = record {
    after = c;
    does = λ s at. ap (λ (g : Grid). gives (did_well (record s { grid = g }))) at;
    applied = refl;
    spelled = refl;
    still = inl refl;
    turns = turns_self [] [] c;
    names = λ slot name r is. (r, is);
    numbers = refl;
    pending = refl;
    rules = refl;
    stores = refl;
  }

  -- the deed of an operation
  takes_mark : (op : Operation) (d : Deed) → row (grid_of c) user op ≡ Ok (deed d) → TakesMark c call (do_operation call user op) (row (grid_of c) user op)
  takes_mark op d is = record { of = d; row_is = is; does = does_row op (Ok (deed d)) is }

  -- ---- repl

  pub planned_repl : (p : Path) (r : Text) (from : OldFile) → IsMade c → MayRepl c user p r from
      → PlansDoing c user call (do_operation call user (repl p r)) (Ok (plan.Repl p r from))
  planned_repl p r from made may = (takes_mark (repl p r) _ (repl_is c user p r made from may), may)

  pub no_repl : (p : Path) (r : Text) (why : PlanError) → FindsRepl c user p r (Err why) → PlansDoing c user call (do_operation call user (repl p r)) (Err (error_by why))
  no_repl p r (Refused e) is = does_row (repl p r) (Err e) is
  no_repl p r Memory is = tt

  -- ---- copy

  pub planned_copy : (a b : Path) (r : Text) (file : OldFile) → MayCopy c user a b r file
      → PlansDoing c user call (do_operation call user (copy a b r)) (Ok (plan.Copy a b r file))
  planned_copy a b r file may = (takes_mark (copy a b r) _ (copy_is c user a b r file may), may)

  pub no_copy : (a b : Path) (r : Text) (why : PlanError) → FindsCopy c user a b r (Err why)
      → PlansDoing c user call (do_operation call user (copy a b r)) (Err (error_by why))
  no_copy a b r (Refused e) is = does_row (copy a b r) (Err e) is
  no_copy a b r Memory is = tt

  -- ---- chksum

  pub planned_chksum : (p : Path) (files : List OldFile) → MayChksum c user p files → PlansDoing c user call (do_operation call user (chksum p)) (Ok (plan.Chksum p files))
  planned_chksum p files may = (takes_mark (chksum p) may.of may.row_is, may)

  pub no_chksum : (p : Path) (why : PlanError) → FindsChksum c user p (Err why) → PlansDoing c user call (do_operation call user (chksum p)) (Err (error_by why))
  no_chksum p (Refused e) is = does_row (chksum p) (Err e) is
  no_chksum p Memory is = tt
