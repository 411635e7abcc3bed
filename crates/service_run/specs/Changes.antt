-- Changes of rows that a call makes, and leaves to the next commit.
use Rattle.std.specs.Prelude.{◌≡◌, ◌++◌, ◌∷◌, [], Bool, List, Ok, IsTrue}
use Rattle.std.specs.List.{list_all}
use Rattle.grid_outside.specs.Disk.{DiskState}
use Rattle.grid_model.specs.Grid.{Grid}
use Rattle.grid_model.specs.Rows.{Cat}
use Rattle.grid_model.specs.RowGrids.{grid_of}
use Rattle.grid_model.specs.Applying.{apply_all}
use Rattle.grid_model.specs.Deltas.{all_fit, mark as mark_parts}
use Rattle.grid_model.specs.Meanings.{Meaning, gives}
use Rattle.grid_model.specs.Doing.{Course, Did, did_well}
use Rattle.grid_model.specs.Replies.{mark_line}
use Rattle.grid_model.specs.declared.deltas.Delta.{Delta}
use Rattle.grid_model.specs.declared.marks.Mark.{Mark}
use Rattle.grid_journal.specs.Journal.{Journal, can_be_kept}
use Rattle.grid_deed.specs.Held.{IsStaged}
use Rattle.file_laws.specs.Plans.{Turns}
use Rattle.grid_headline.specs.Numbers.{KeepsNumbers}
use Rattle.service_run.specs.declared.command.Command.{Command}

-- The changes lead from the one catalogue to the other, may be kept, and name the same files. Numbers, the command that is pending, rules
-- and stores are as before.
pub record LeadOn (c : Cat) (deltas : List Delta) (after : Cat) : Type 0 where
  pub applied : apply_all c deltas ≡ Ok after
  pub spelled : IsTrue (list_all can_be_kept deltas)
  pub turns : Turns [] [] c after
  pub keeps : KeepsNumbers c after
  pub numbers : after.numbers ≡ c.numbers
  pub pending : after.pending ≡ c.pending
  pub rules : after.rules ≡ c.rules
  pub stores : after.stores ≡ c.stores

-- Such changes lead from these rows to ones with this grid, and are staged: main has still the catalogue that it had.
pub record LedOn (kept c : Cat) (g : Grid) (main : DiskState) (new : Journal) : Type 0 where
  pub deltas : List Delta
  pub after : Cat
  pub leads : LeadOn c deltas after
  pub grid : grid_of after ≡ g
  pub staged : IsStaged kept after main new

-- What is done makes the grid of the one catalogue that of the other, and takes no mark.
abbrev pub MakesGridOf : Cat → Cat → (Course → Meaning Did) → Type 0
MakesGridOf c after does = (s : Course) → s.grid ≡ grid_of c → does s ≡ gives (did_well (record s { grid = grid_of after }))

-- whether a mark may be kept
abbrev pub mark_fits : Mark → Bool
mark_fits m = all_fit (mark_parts m)

-- the command with one mark more, whose line is still to be told
abbrev pub with_mark : Command → Mark → Command
with_mark x m = record x { marks = x.marks ++ m ∷ []; untold = x.untold ++ mark_line x.number m }
