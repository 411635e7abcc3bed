-- Which operations may need a number of a vault file, and what else is due of how a request ends.
use Rattle.std.proofs.Common.{◌≡◌, ℕ, ◌≤◌, Option, None, Some, Result, Err, sym, ap, ◌∙◌, subst, arith}
use Rattle.std.specs.Prelude.{⊤, IsErrOf}
use Rattle.grid_outside.specs.Disk.{DiskState}
use Rattle.grid_outside.specs.Sink.{SinkState}
use Rattle.grid_outside.specs.declared.outside.Wear.TheVariants as wear
use Rattle.grid_model.specs.Names.{Text}
use Rattle.grid_model.specs.Operations.Table.{Operation}
use Rattle.grid_model.specs.Orders.{works}
use Rattle.grid_model.specs.Rows.{Cat}
use Rattle.grid_journal.specs.Journal.{Journal}
use Rattle.run_laws.specs.Ends.{MakesFile}
use Rattle.service_run.specs.declared.command.Command.{Command}
use Rattle.service_run.specs.declared.ending.Ending.{Ending}
use Rattle.service_run.specs.declared.ending.Ending.TheVariants as ending
use Rattle.rule_run.specs.Finishing.{FinishEnds, Finishes}
use Rattle.work_run.specs.declared.after.After.{After}
use Rattle.work_run.specs.Pointed.{draws_by}

-- what needs memory alone needs none
pub never_worn : (e : Ending) (place : ℕ) → e ≡ ending.Worn wear.Vaults place → e ≡ ending.Memory → ⊥
never_worn e place one two = let both : ending.Worn wear.Vaults place ≡ ending.Memory = sym one ∙ two in absurd (cc both)

-- an error of one result, as that of another
pub error_as : {T U : Type 0} (e y : Ending) → IsErrOf {T = T} {E = Ending} (Err e) y → IsErrOf {T = U} {E = Ending} (Err e) y
error_as e y is = let same : e ≡ y = cc is in ap Err same

-- the operation is another one that makes files
pub makes_as : (op other : Operation) (count : ℕ) → op ≡ other → MakesFile (works other count) → MakesFile (works op count)
makes_as op other count is makes = subst (λ (o : Operation). MakesFile (works o count)) (sym is) makes

-- the end of a command needs none
pub ends_without : (main_old main_new : DiskState) (sink_old sink_new : SinkState) (kept : Cat) (from n : ℕ) (rows : Journal) (x : Command) (text : Text)
    (result : Result ⊤ Ending) (new : Journal) → Finishes main_old main_new sink_old sink_new kept from n rows x text result new → (place : ℕ)
    → result ≡ Err (ending.Worn wear.Vaults place) → ⊥
ends_without main_old main_new sink_old sink_new kept from n rows x text result new f place is =
    let ends = subst (λ (r : Result ⊤ Ending). FinishEnds main_old main_new sink_old sink_new f.left text r new) is f.ends in
    let no = ends.0 in absurd (cc no)

-- want of memory is no other error
pub memory_disk : {T : Type 0} → IsErrOf {T = T} {E = Ending} (Err ending.Memory) ending.Disk → ⊥
memory_disk is = cc is

pub memory_sink : {T : Type 0} → IsErrOf {T = T} {E = Ending} (Err ending.Memory) ending.Sink → ⊥
memory_sink is = cc is

pub memory_vaults : {T : Type 0} (place : ℕ) → IsErrOf {T = T} {E = Ending} (Err ending.Memory) (ending.Worn wear.Vaults place) → ⊥
memory_vaults place is = cc is

-- the end of a command is always within what is still to be drawn
pub draws_five : (each : ℕ) (a : Option After) → 5 ≤ draws_by each a
draws_five each None = omega arith
draws_five each (Some a) = omega arith
