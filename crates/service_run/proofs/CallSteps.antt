-- How a call ends that was planned.
use Rattle.std.proofs.Common.{◌≡◌, ℕ, List, Result, ap, subst, arith}
use Rattle.std.specs.Prelude.{⊤}
use Rattle.grid_outside.specs.Disk.{DiskState}
use Rattle.grid_outside.specs.Files.{StoreState}
use Rattle.grid_outside.specs.Sink.{SinkState}
use Rattle.grid_model.specs.Rows.{Cat}
use Rattle.grid_model.specs.RowGrids.{grid_of, user_name}
use Rattle.grid_model.specs.Meanings.{Meaning}
use Rattle.grid_model.specs.Doing.{Course, Did}
use Rattle.grid_model.specs.declared.calls.Call.{Call}
use Rattle.grid_model.specs.declared.deltas.Delta.{Delta}
use Rattle.grid_model.specs.declared.deltas.Numbers.{Numbers}
use Rattle.grid_model.specs.declared.refusal.Failure.{Failure}
use Rattle.plan_service.specs.ServicePlans.{MakesChanges, PlansCall}
use Rattle.plan_service.specs.declared.error.ServiceError.{ServiceError}
use Rattle.plan_service.specs.declared.plans.ServicePlan.{ServicePlan}
use Rattle.run_laws.specs.Passes.{AreReady, Seen}
use Rattle.grid_journal.specs.Journal.{Journal}
use Rattle.grid_headline.specs.Worlds.{World}
use Rattle.service_run.specs.declared.command.Command.{Command}
use Rattle.service_run.specs.declared.ending.Ending.{Ending}
use Rattle.service_run.specs.Changes.{LeadOn}
use Rattle.service_run.specs.Steps.{IsStep}
use Rattle.service_run.proofs.SameDoing.{step_as}

-- what was planned by rows that are the same, and came to this
pub planned_as : (c t : Cat) → t ≡ c → (user : ℕ) (call : Call) (planned one : Result ServicePlan ServiceError) → planned ≡ one → PlansCall t (user_name t user) call planned → PlansCall c (user_name c user) call one
planned_as c t same user call planned one is plans =
    let C : Cat → Type 0 = λ x. PlansCall x (user_name x user) call planned in
    let R : Result ServicePlan ServiceError → Type 0 = λ r. PlansCall c (user_name c user) call r in
    subst R is (subst C same plans)

-- changes that were planned lead on
pub leads_planned : (c : Cat) (doing : Course → Meaning Did) (deltas : List Delta) (m : MakesChanges c doing deltas) → LeadOn c deltas m.after
leads_planned c doing deltas m = record {
  applied = m.applied;
  spelled = m.spelled;
  turns = m.turns;
  keeps = record { rises = omega (arith, ap (λ (k : Numbers). k.next_vault) m.numbers); names = λ slot name row below named. m.names slot name row named };
  numbers = m.numbers;
  pending = m.pending;
  rules = m.rules;
  stores = m.stores;
}

-- what was done as something else is done as the call
pub step_doing : {B : Type 0} {old new : World B} {kept : Cat} {rows : Journal} {x : Command} {call : Call} {undo : List Call} {y : Command} {after : Journal} {one : Course → Meaning Did} (other : Course → Meaning Did) → ((s : Course) → s.grid ≡ grid_of rows.cat → other s ≡ one s)
    → (result : Result (Result ⊤ Failure) Ending) → IsStep old new kept rows x call undo y after one result → IsStep old new kept rows x call undo y after other result
step_doing {B} {old} {new} {kept} {rows} {x} {call} {undo} {y} {after} {one} other same = step_as old new kept rows x call undo y after one other same

-- ---- what it leaves of devices

module _ {D A P K : Type 0} (disk : D → DiskState) (plugin : P → StoreState) (state : K → SinkState) where
  -- a call that draws no moment is ready where one is that may draw many
  pub ready_still : (more : ℕ) (at : Seen D A P K) → AreReady disk plugin state more at → AreReady disk plugin state 0 at
  ready_still more at r = record { outside = record { main_last = r.outside.main_last; stores_last = r.outside.stores_last; room = omega (arith, r.outside.room) }; sink_last = r.sink_last }
