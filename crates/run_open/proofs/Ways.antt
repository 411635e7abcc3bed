-- How errors of recoveries and of a commit are those of an opening.
use Rattle.std.proofs.Common.{◌≡◌, false, [], Err, IsTrue, refl, sym, subst}
use Rattle.std.specs.Prelude.{IsErrOf}
use Rattle.grid_outside.specs.Disk.{DiskState}
use Rattle.grid_outside.specs.Source.{SourceState}
use Rattle.grid_outside.specs.declared.outside.Wear.TheVariants as wear
use Rattle.grid_model.specs.Rows.{Cat}
use Rattle.grid_journal.specs.Journal.{Journal}
use Rattle.grid_journal.specs.declared.error.JournalError.{JournalError}
use Rattle.grid_journal.specs.declared.error.JournalError.TheVariants as journal
use Rattle.grid_deed.specs.Held.{CommitEnds}
use Rattle.service_run.specs.declared.ending.Ending.{Ending}
use Rattle.service_run.specs.declared.ending.Ending.TheVariants as ending
use Rattle.run_open.specs.Errors.{error_by, error_of}
use Rattle.run_open.specs.Preparing.{OpenStops}
use Rattle.run_open.specs.declared.error.OpenError.{OpenError}
use Rattle.run_open.specs.declared.error.OpenError.TheVariants as error

-- any source, where nothing of it matters
pub no_source : SourceState
no_source = record { faults = 0; tells = false; left = [] }

pub disk_by : (e : Ending) → error_by e ≡ error.Disk → e ≡ ending.Disk
disk_by ending.Disk is = refl
disk_by ending.Sink is = absurd (cc is)
disk_by ending.Memory is = absurd (cc is)
disk_by (ending.Worn wear.Runs place) is = absurd (cc is)
disk_by (ending.Worn wear.Vaults place) is = absurd (cc is)
disk_by (ending.Worn wear.Log place) is = absurd (cc is)

pub sink_by : (e : Ending) → error_by e ≡ error.Sink → e ≡ ending.Sink
sink_by ending.Disk is = absurd (cc is)
sink_by ending.Sink is = refl
sink_by ending.Memory is = absurd (cc is)
sink_by (ending.Worn wear.Runs place) is = absurd (cc is)
sink_by (ending.Worn wear.Vaults place) is = absurd (cc is)
sink_by (ending.Worn wear.Log place) is = absurd (cc is)

pub disk_of : (e : JournalError) → error_of e ≡ error.Disk → e ≡ journal.DiskFault
disk_of journal.Memory is = absurd (cc is)
disk_of journal.DiskFault is = refl
disk_of (journal.Worn what place) is = absurd (cc is)
disk_of (journal.NotEmpty side len) is = absurd (cc is)
disk_of (journal.NotACatalogue side place) is = absurd (cc is)

pub not_sink : (e : JournalError) → error_of e ≡ error.Sink → ⊥
not_sink journal.Memory is = cc is
not_sink journal.DiskFault is = cc is
not_sink (journal.Worn what place) is = cc is
not_sink (journal.NotEmpty side len) is = cc is
not_sink (journal.NotACatalogue side place) is = cc is

-- the one error that it is
pub stops_as : {T : Type 0} (found : Cat) (main_old main_new : DiskState) (x e : OpenError) → OpenStops found main_old main_new x → IsErrOf {T = T} {E = OpenError} (Err x) e
    → OpenStops found main_old main_new e
stops_as found main_old main_new x e stops is = let same : x ≡ e = cc in subst (OpenStops found main_old main_new) same stops

-- a commit that failed
pub commit_stops : (found kept after : Cat) (old new : Journal) (main_first main_old main_new : DiskState) (e : JournalError) → main_old.tells ≡ main_first.tells
    → CommitEnds kept after old main_old main_new (Err e) new → OpenStops found main_first main_new (error_of e)
commit_stops found kept after old new main_first main_old main_new journal.Memory same ends = tt
commit_stops found kept after old new main_first main_old main_new journal.DiskFault same ends = tt
commit_stops found kept after old new main_first main_old main_new (journal.Worn what place) same ends =
    (ends.1, λ told. (ends.2 (subst IsTrue (sym same) told)).0)
commit_stops found kept after old new main_first main_old main_new (journal.NotEmpty side len) same ends = absurd ends
commit_stops found kept after old new main_first main_old main_new (journal.NotACatalogue side place) same ends = absurd ends
