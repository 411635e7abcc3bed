-- What a store of the catalogue holds in memory, and what main has beside it.
use Rattle.std.specs.Prelude.{◌≡◌, ℕ, ◌^◌, ◌<◌, [], Result, Ok, Err, IsTrue, ⊤}
use Rattle.grid_outside.specs.Device.{IsSettled, Leaves}
use Rattle.grid_outside.specs.Disk.{DiskState}
use Rattle.grid_outside.specs.declared.outside.Wear.TheVariants.{Log}
use Rattle.grid_model.specs.Names.{Text}
use Rattle.grid_model.specs.Rows.{Cat}
use Rattle.grid_model.specs.Applying.{IsMade, apply_all}
use Rattle.grid_journal.specs.Journal.{Journal, Keeps, ClosesAt}
use Rattle.grid_journal.specs.Stands.{StandsEither, StandsFor}
use Rattle.grid_journal.specs.declared.error.JournalError.{JournalError}
use Rattle.grid_journal.specs.declared.error.JournalError.TheVariants as journal

-- Main has this catalogue, which changes made, and the staged changes lead from it to the rows in memory.
pub record IsHeld (kept : Cat) (main : DiskState) (s : Journal) : Type 0 where
  pub sound : IsTrue s.sound
  pub staged : apply_all kept s.staged ≡ Ok s.cat
  pub keeps : IsTrue main.tells → Keeps kept s main.holds
  pub made : IsMade kept

-- Main and memory have this catalogue, with nothing staged or pending.
pub record IsKept (c : Cat) (main_old main_new : DiskState) (new : Journal) : Type 0 where
  pub held : IsHeld c main_new new
  pub cat : new.cat ≡ c
  pub staged : new.staged ≡ []
  pub settled : IsTrue main_old.tells → IsSettled main_new

-- how a commit ended that leads from the one catalogue to the other
abbrev pub CommitEnds : Cat → Cat → Journal → DiskState → DiskState → Result ⊤ JournalError → Journal → Type 0
CommitEnds kept after old main_old main_new (Ok done) new = IsKept after main_old main_new new
CommitEnds kept after old main_old main_new (Err journal.DiskFault) new = Unit {0}
CommitEnds kept after old main_old main_new (Err journal.Memory) new = IsTrue main_old.tells → StandsFor main_new.holds kept
CommitEnds kept after old main_old main_new (Err (journal.Worn what place)) new =
    (what ≡ Log) × (2 ^ 62 < place) × (IsTrue main_old.tells → ClosesAt main_new.holds place × StandsFor main_new.holds kept)
CommitEnds kept after old main_old main_new (Err other) new = ⊥

-- what a stop leaves of a commit that ended so: where it was refused, what was there
abbrev pub CommitLeaves : Cat → Cat → Result ⊤ JournalError → Text → Type 0
CommitLeaves kept after (Err journal.Memory) main = StandsFor main kept
CommitLeaves kept after (Err (journal.Worn what place)) main = StandsFor main kept
CommitLeaves kept after other main = StandsEither kept after main

-- Changes that lead from the one catalogue to the other were committed, or how far that came, from so many moments on.
pub record IsCommitted (kept after : Cat) (from : ℕ) (old : Journal) (main_old main_new : DiskState) (result : Result ⊤ JournalError) (new : Journal)
    : Type 0 where
  pub ends : CommitEnds kept after old main_old main_new result new
  pub leaves : IsTrue main_old.tells → IsSettled main_old → Leaves from (CommitLeaves kept after result) main_new

-- Main has the one catalogue still, and memory the other.
pub record IsStaged (kept after : Cat) (main : DiskState) (new : Journal) : Type 0 where
  pub held : IsHeld kept main new
  pub cat : new.cat ≡ after
