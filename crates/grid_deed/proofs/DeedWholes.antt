-- What the carrying out of a plan leaves of the stores, whatever catalogue a stop leaves of main.
use Rattle.std.proofs.Common.{◌≡◌, ℕ, ◌≤◌, List, [], Result, Ok, arith}
use Rattle.std.specs.Prelude.{⊤, All}
use Rattle.grid_outside.specs.Device.{EachMember, Span}
use Rattle.grid_outside.specs.Disk.{DiskState}
use Rattle.grid_outside.specs.Files.{StoreState}
use Rattle.grid_vault.specs.Vault.{IsAmong, WritesAmong, IsStableAt}
use Rattle.grid_model.specs.Names.{Text}
use Rattle.grid_model.specs.Rows.{Cat}
use Rattle.grid_model.specs.Whole.{IsNamed}
use Rattle.grid_model.specs.declared.plans.NewFile.{NewFile}
use Rattle.grid_journal.specs.Journal.{Journal}
use Rattle.grid_journal.specs.declared.error.JournalError.{JournalError}
use Rattle.grid_deed.specs.Frame.{Goes}
use Rattle.grid_deed.specs.Held.{IsCommitted}
use Rattle.file_laws.specs.Plans.{Turns}
use Rattle.grid_deed.specs.Safe.{KeepWhole, KeepBothWhole}
use Rattle.grid_deed.proofs.Frames.{goes_nowhere, stores_as, stores_went}
use Rattle.grid_deed.proofs.Wholes.{whole_turned, whole_turned_none, keep_commit, keep_more}
use Rattle.grid_deed.proofs.Touched.{keep_touched}

-- changes that lead on from the rows in memory were kept, or how far that came
pub keep_staged : {B : Type 0} (state : B → StoreState) (kept cat after : Cat) → Turns [] [] cat after → (from : ℕ) (old new : Journal) (main_old main_new : DiskState) (stores_old stores_new : List B) → stores_new ≡ stores_old
    → (result : Result ⊤ JournalError) → IsCommitted kept after from old main_old main_new result new → KeepBothWhole state from kept cat main_old main_new stores_old stores_new
keep_staged state kept cat after turns from old new main_old main_new stores_old stores_new same result c by_memory =
    keep_commit state from kept after old new main_old main_new result stores_old stores_new same c (λ t late w. whole_turned_none state t cat after stores_old turns (by_memory t late))

module _ {B : Type 0} (state : B → StoreState) (kept mid : Cat) (begins : Turns [] [] kept mid) (from : ℕ) (old middle : Journal) (main_old main_mid : DiskState) (stores_old stores_mid : List B) (same : stores_mid ≡ stores_old) where
  -- the first changes were kept, or how far that came
  pub keep_first : (result : Result ⊤ JournalError) → IsCommitted kept mid from old main_old main_mid result middle → KeepWhole state from kept main_old main_mid stores_old stores_mid
  keep_first result c = keep_commit state from kept mid old middle main_old main_mid result stores_old stores_mid same c (λ t late w. whole_turned_none state t kept mid stores_old begins w)

  module _ (c : IsCommitted kept mid from old main_old main_mid (Ok tt) middle) (tells : main_mid.tells ≡ main_old.tells) (at to : ℕ) (later : from ≤ at) (mid_last : main_mid.last ≤ at) (files : List NewFile) (touched : ℕ → Type 0) (stores_new : List B)
      (writes : Span state at to (WritesAmong files) touched stores_mid stores_new) (named : (slot name : ℕ) → IsAmong files slot name → IsNamed mid slot name) where
    -- the files were made, or how far that came, whichever stores were called
    pub keep_files : KeepWhole state from kept main_old main_mid stores_old stores_new
    keep_files =
        keep_more state from at kept mid middle main_old main_mid main_mid stores_old stores_mid stores_new later tells (λ told settled. c.ends.settled told) c.ends.held mid_last (goes_nowhere at main_mid) (stores_went state at to (WritesAmong files) touched stores_mid stores_new writes)
        (keep_first (Ok tt) c) (keep_touched state (WritesAmong files) touched files (λ k a b h. h) at to mid middle main_mid stores_mid stores_new c.ends.held mid_last writes named)

    -- the last changes were kept, or how far that came
    pub keep_last : (end : Cat) (body : Text) → Turns files body mid end → at ≤ to → EachMember (λ k store. (state store).last ≤ to) stores_new → All (IsStableAt state stores_new body) files
        → (main_new : DiskState) (new : Journal) (result : Result ⊤ JournalError) (stores_end : List B) → stores_end ≡ stores_new → Goes to main_mid main_new → IsCommitted mid end to middle main_mid main_new result new → KeepWhole state from kept main_old main_new stores_old stores_end
    keep_last end body turns later_still lasts stable main_new new result stores_end same_end goes again =
        keep_more state from to kept mid middle main_old main_mid main_new stores_old stores_new stores_end (omega (arith, later, later_still)) tells (λ told settled. c.ends.settled told) c.ends.held (omega (arith, mid_last, later_still)) goes (stores_as state to stores_new stores_end same_end)
        keep_files
        (keep_commit state to mid end middle new main_mid main_new result stores_new stores_end same_end again (λ t late w. whole_turned state t files body mid end stores_new turns (λ slot store is. omega (arith, lasts slot store is, late)) stable w))
