-- One call of a command: a recovery that is run, and passed over where it fails, and what of the command may be kept.
use Rattle.std.specs.Prelude.{◌≡◌, ◌^◌, ◌<◌, List, [], ◌∷◌, ◌++◌, Option, Some, None, Result, Ok, Err, IsTrue, length}
use Rattle.std.specs.List.{list_all}
use Rattle.grid_model.specs.Rows.{Cat}
use Rattle.grid_model.specs.RowGrids.{user_name}
use Rattle.grid_model.specs.Deltas.{all_fit, call as call_parts, mark as mark_parts, passed as passed_parts, text as text_part, u32, u64}
use Rattle.grid_model.specs.Doing.{do_call}
use Rattle.grid_model.specs.Printing.{print_failure}
use Rattle.grid_model.specs.declared.calls.Call.{Call}
use Rattle.grid_model.specs.declared.refusal.Failure.{Failure}
use Rattle.grid_journal.specs.Journal.{Journal}
use Rattle.grid_headline.specs.Worlds.{World}
use Rattle.chain_core.specs.Answers.{failure_in}
use Rattle.service_run.specs.Steps.{IsStep}
use Rattle.service_run.specs.declared.command.Command.{Command}
use Rattle.service_run.specs.declared.ending.Ending.{Ending}
use Rattle.service_run.specs.declared.ending.Ending.TheVariants as ending

-- the command with the recovery passed over, where it failed
abbrev pub passed_over : Command → Call → Option Failure → Command
passed_over x c None = x
passed_over x c (Some f) = record x { passed = x.passed ++ record { call = c; failure = print_failure f } ∷ [] }

-- the failure may be kept as it is printed
abbrev pub IsShown : Option Failure → Type 0
IsShown None = Unit {0}
IsShown (Some f) = IsTrue (text_part (print_failure f)).fits

module _ {B : Type 0} (old new : World B) (kept : Cat) (rows : Journal) (x : Command) (call : Call) (undo : List Call) (after : Journal) where
  -- It was run for the user of the command, and this is the command behind it.
  pub record RunsOne (y : Command) : Type 0 where
    pub ran : Result Unit Failure
    pub left : Command
    pub step : IsStep old new kept rows x call undo left after (do_call (user_name rows.cat x.user) call) (Ok ran)
    pub over : y ≡ passed_over left call (failure_in ran)
    pub shown : IsShown (failure_in ran)

  -- it was cut short, or was run and there was no memory to note that it failed
  pub data IsCut (y : Command) : Ending → Type 0 where
    cut : {e : Ending} → IsStep old new kept rows x call undo y after (do_call (user_name rows.cat x.user) call) (Err e) → IsCut y e
    ran_out : (ran : Result Unit Failure) (left : Command)
        → IsStep old new kept rows x call undo left after (do_call (user_name rows.cat x.user) call) (Ok ran) → IsCut y ending.Memory

  -- how that ended: it was run, and failed so, if it did, or it was cut short
  abbrev pub RoundEnds : Result (Option Failure) Ending → Command → Type 0
  RoundEnds (Ok failure) y = (one : RunsOne y) × (failure ≡ failure_in one.ran)
  RoundEnds (Err e) y = IsCut y e

-- What is said of the command before any of its calls may be kept.
pub record IsKeepable (x : Command) : Type 0 where
  pub run : IsTrue (u64 x.run).fits
  pub number : IsTrue (u64 x.number).fits
  pub user : IsTrue (u32 x.user).fits
  pub line : IsTrue (text_part x.line).fits

-- The marks of the command, the recoveries that it passed over and those that are left may be kept.
pub record AreKeepable (x : Command) (left : List Call) : Type 0 where
  pub marks : IsTrue (list_all (λ m. all_fit (mark_parts m)) x.marks)
  pub passed : IsTrue (list_all (λ p. all_fit (passed_parts p)) x.passed)
  pub calls : IsTrue (list_all (λ c. all_fit (call_parts c)) left)

-- lists are as long as lists in memory can be
pub record AreShort (x : Command) (left : List Call) : Type 0 where
  pub marks : length x.marks < 2 ^ 64
  pub passed : length x.passed < 2 ^ 64
  pub calls : length left < 2 ^ 64
