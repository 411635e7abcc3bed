-- The mark of a file that was sent, and how its call came out.
use Rattle.std.specs.Prelude.{◌≡◌, ℕ, [], Result, Ok, Err, IsTrue}
use Rattle.grid_model.specs.declared.marks.Mark.{Mark}
use Rattle.grid_model.specs.declared.marks.Mark.TheVariants as mark
use Rattle.grid_model.specs.declared.plans.OldFile.{OldFile}
use Rattle.grid_model.specs.declared.refusal.Failure.{Failure}
use Rattle.grid_model.specs.declared.refusal.Failure.TheVariants.{Refused}
use Rattle.grid_model.specs.declared.refusal.Refusal.TheVariants as refusal
use Rattle.grid_vault.specs.declared.sent.Sent.{Sent}
use Rattle.grid_vault.specs.declared.sent.Sent.TheVariants.{Whole, Fault, Bad}
use Rattle.service_run.specs.declared.command.Command.{Command}
use Rattle.service_run.specs.Changes.{mark_fits, with_mark}

-- the mark of a file that was sent so, of this word and this time
abbrev pub sent_mark : ℕ → ℕ → Sent → Mark
sent_mark word now Whole = mark.Ran word now []
sent_mark word now (Fault slot parts) = mark.Fault slot parts
sent_mark word now (Bad slot len found parts) = mark.Bad slot len found parts

-- it ran, or failed so
abbrev pub sent_ran : OldFile → Sent → Result Unit Failure
sent_ran file Whole = Ok tt
sent_ran file (Fault slot parts) = Err (Refused (refusal.Fault slot))
sent_ran file (Bad slot len found parts) = Err (Refused (refusal.Damaged slot file.size file.digest len found))

-- The command took one mark more, which may be kept, and whose line is still to be told.
pub record TookMark (x y : Command) : Type 0 where
  pub m : Mark
  pub fits : IsTrue (mark_fits m)
  pub is : y ≡ with_mark x m
