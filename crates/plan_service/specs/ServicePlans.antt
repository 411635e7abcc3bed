-- What a call of a micro-service does, by the rows: changes of rows, a deed, or its failure.
use Rattle.std.specs.Prelude.{◌≡◌, ◌≢◌, ◌⊎◌, ℕ, List, [], Option, Some, Result, Ok, Err, IsTrue}
use Rattle.std.specs.List.{list_all}
use Rattle.grid_model.specs.Names.{Text}
use Rattle.grid_model.specs.Rows.{Cat}
use Rattle.grid_model.specs.RowGrids.{grid_of}
use Rattle.grid_model.specs.Applying.{apply_all}
use Rattle.grid_model.specs.Whole.{Naming, Names}
use Rattle.grid_model.specs.Writable.{is_word}
use Rattle.grid_model.specs.Refusing.{Or}
use Rattle.grid_model.specs.Meanings.{Meaning, gives}
use Rattle.grid_model.specs.Deeds.{Act, Deed, deed}
use Rattle.grid_model.specs.Doing.{Course, Did, did_fail, did_well, do_call, take_mark}
use Rattle.grid_model.specs.Operations.Replicas.{chksum_row, copy_row, repl_row}
use Rattle.grid_model.specs.Operations.Table.{addmeta}
use Rattle.grid_model.specs.Services.{Service, operation}
use Rattle.grid_model.specs.declared.calls.Call.{Call}
use Rattle.grid_model.specs.declared.deltas.Delta.{Delta}
use Rattle.grid_model.specs.declared.plans.PlanError.{PlanError}
use Rattle.grid_model.specs.declared.plans.PlanError.TheVariants as why
use Rattle.grid_model.specs.declared.refusal.Failure.TheVariants.{Refused}
use Rattle.grid_journal.specs.Journal.{can_be_kept}
use Rattle.file_laws.specs.Plans.{Turns}
use Rattle.plan_object.specs.ChksumPlans.{MayChksum}
use Rattle.plan_object.specs.CopyPlans.{MayCopy}
use Rattle.plan_object.specs.ReplPlans.{MayRepl}
use Rattle.plan_service.specs.declared.error.ServiceError.{ServiceError}
use Rattle.plan_service.specs.declared.error.ServiceError.TheVariants as error
use Rattle.plan_service.specs.declared.plans.ServicePlan.{ServicePlan}
use Rattle.plan_service.specs.declared.plans.ServicePlan.TheVariants as plan

-- What is to be said of a thing from now on are words: no change of rows has other bytes. Of any other call nothing is asked.
abbrev pub AddsWords : Option Service → Type 0
AddsWords (Some (operation (addmeta t))) = IsTrue (is_word t.attribute) × IsTrue (is_word t.value) × IsTrue (is_word t.unit)
AddsWords other = Unit {0}

-- why a call fails that has no plan
abbrev pub error_by : PlanError → ServiceError
error_by (why.Refused r) = error.Failed (Refused r)
error_by why.Memory = error.Memory

-- what the one does with each course at the grid of the rows is what the other does
abbrev pub Does : Cat → (Course → Meaning Did) → (Course → Meaning Did) → Type 0
Does c one other = (s : Course) → s.grid ≡ grid_of c → one s ≡ other s

-- The changes do what is done: they lead from the rows to others, whose grid it leaves, and may be kept. They make another grid, or
-- there are none. Rows that were good stay so, each file that was named is named, and no other is; numbers, the command that is not
-- done, rules and stores are as they were.
pub record MakesChanges (c : Cat) (doing : Course → Meaning Did) (deltas : List Delta) : Type 0 where
  -- the catalogue after them
  pub after : Cat
  pub does : Does c doing (λ s. gives (did_well (record s { grid = grid_of after })))
  pub applied : apply_all c deltas ≡ Ok after
  pub spelled : IsTrue (list_all can_be_kept deltas)
  pub still : (deltas ≡ []) ⊎ (grid_of after ≢ grid_of c)
  pub turns : Turns [] [] c after
  pub names : (slot name : ℕ) (r : Naming) → Names after slot name r → (was : Naming) × Names c slot name was
  pub numbers : after.numbers ≡ c.numbers
  pub pending : after.pending ≡ c.pending
  pub rules : after.rules ≡ c.rules
  pub stores : after.stores ≡ c.stores

-- what is done is the deed of this row, which takes a mark
pub record TakesMark (c : Cat) (call : Call) (doing : Course → Meaning Did) (row : Or Act) : Type 0 where
  pub of : Deed
  pub row_is : row ≡ Ok (deed of)
  pub does : Does c doing (λ s. take_mark call s of s.marks)

-- what is planned, of what is done as this call of a user
abbrev pub PlansDoing : Cat → Text → Call → (Course → Meaning Did) → Result ServicePlan ServiceError → Type 0
PlansDoing c user call doing (Ok (plan.Changes deltas)) = MakesChanges c doing deltas
PlansDoing c user call doing (Ok (plan.Repl p resource from)) = TakesMark c call doing (repl_row (grid_of c) user p resource) × MayRepl c user p resource from
PlansDoing c user call doing (Ok (plan.Chksum p files)) = TakesMark c call doing (chksum_row (grid_of c) user p) × MayChksum c user p files
PlansDoing c user call doing (Ok (plan.Copy a b resource file)) =
    TakesMark c call doing (copy_row (grid_of c) user a b resource) × MayCopy c user a b resource file
PlansDoing c user call doing (Err (error.Failed f)) = Does c doing (λ s. gives (did_fail s f))
PlansDoing c user call doing (Err error.Memory) = Unit {0}

-- what is planned of a call of a user
abbrev pub PlansCall : Cat → Text → Call → Result ServicePlan ServiceError → Type 0
PlansCall c user call planned = PlansDoing c user call (do_call user call) planned
