-- A commit that notes a command, and the telling of what it has still to tell.
use Rattle.std.proofs.Common.{◌≡◌, inl, inr, ℕ, ◌<◌, ◌≤◌, ◌++◌, Ok, Err, IsTrue, refl, sym, ap, subst, arith}
use Rattle.std.specs.Prelude.{IsErrOf}
use Rattle.std.proofs.lemmas.Bool.{cases_lt}
use Rattle.std.proofs.lemmas.List.{append-nil}
use Rattle.grid_outside.specs.Device.{Between, IsSettled}
use Rattle.grid_outside.specs.Disk.{DiskState}
use Rattle.grid_outside.specs.Sink.{SinkState, AddsPart}
use Rattle.grid_outside.specs.declared.outside.Wear.TheVariants as wear
use Rattle.grid_outside.proofs.Spans.{since_settled}
use Rattle.grid_model.specs.Names.{Text}
use Rattle.grid_model.specs.Rows.{Cat}
use Rattle.grid_journal.specs.Journal.{Journal}
use Rattle.grid_journal.specs.Stands.{StandsFor, StandsEither}
use Rattle.grid_journal.specs.declared.error.JournalError.{JournalError}
use Rattle.grid_journal.specs.declared.error.JournalError.TheVariants as journal
use Rattle.grid_deed.specs.Held.{IsCommitted, CommitEnds}
use Rattle.grid_deed.proofs.Keeping.{held_stands, either_of}
use Rattle.service_run.specs.declared.ending.Ending.{Ending}
use Rattle.service_run.specs.declared.ending.Ending.TheVariants as ending
use Rattle.service_run.specs.Errors.{IsOfCommit, ending_of}
use Rattle.service_run.specs.Noting.{OneOfNote, unnoted, noted, IsOutOfRoom, IsNotedSo, NoteLeaves}

-- none of a text was added
pub adds_none : (text old : Text) → AddsPart text old old
adds_none text old = record { count = 0; within = omega arith; is = sym (append-nil old) }

-- ---- how a commit failed

pub of_commit : (c after : Cat) (old : Journal) (main_old main_new : DiskState) (e : JournalError) (new : Journal) → CommitEnds c after old main_old main_new (Err e) new → IsOfCommit e
of_commit c after old main_old main_new journal.Memory new ends = tt
of_commit c after old main_old main_new journal.DiskFault new ends = tt
of_commit c after old main_old main_new (journal.Worn what place) new ends = tt
of_commit c after old main_old main_new (journal.NotEmpty side len) new ends = ends
of_commit c after old main_old main_new (journal.NotACatalogue side place) new ends = ends

-- a disk's failure is that of the call
pub as_disk : {T U : Type 0} (e : JournalError) (x : Ending) → x ≡ ending_of e → IsErrOf {T = T} {E = JournalError} (Err e) journal.DiskFault → IsErrOf {T = U} {E = Ending} (Err x) ending.Disk
as_disk e x is fault = let same : e ≡ journal.DiskFault = cc in cc (is, ap ending_of same)

pub as_fault : {T U : Type 0} (e : JournalError) (x : Ending) → x ≡ ending_of e → IsErrOf {T = U} {E = Ending} (Err x) ending.Disk → IsErrOf {T = T} {E = JournalError} (Err e) journal.DiskFault
as_fault journal.Memory x is fault = absurd cc
as_fault journal.DiskFault x is fault = refl
as_fault (journal.Worn what place) x is fault = absurd cc
as_fault (journal.NotEmpty side len) x is fault = absurd cc
as_fault (journal.NotACatalogue side place) x is fault = absurd cc

-- and the sink has no part in it
pub not_sink : {U : Type 0} (e : JournalError) (x : Ending) → x ≡ ending_of e → IsErrOf {T = U} {E = Ending} (Err x) ending.Sink → ⊥
not_sink journal.Memory x is failed = cc
not_sink journal.DiskFault x is failed = cc
not_sink (journal.Worn what place) x is failed = cc
not_sink (journal.NotEmpty side len) x is failed = cc
not_sink (journal.NotACatalogue side place) x is failed = cc

-- what has run out is not the numbers of vault files
pub no_vaults : (main_old main_new : DiskState) (sink_old sink_new : SinkState) (e : Ending) → IsOutOfRoom main_old main_new sink_old sink_new e → (place : ℕ) → e ≡ ending.Worn wear.Vaults place → ⊥
no_vaults main_old main_new sink_old sink_new e out place is =
    let O : Ending → Type 0 = λ x. IsOutOfRoom main_old main_new sink_old sink_new x in
    let log : wear.Vaults ≡ wear.Log = (subst O is out).0 in
    cc

-- ---- what it leaves

module _ (kept after : Cat) (from : ℕ) (old : Journal) (main_old : DiskState) (sink_old : SinkState) (text : Text) (sink_last : sink_old.last ≤ from) where
  -- nothing was told yet
  untold_yet : (main sink : Text) → sink ≡ sink_old.holds → StandsEither kept after main → OneOfNote kept after text sink_old.holds main sink
  untold_yet main sink same (inl before) = unnoted before same
  untold_yet main sink same (inr behind) = noted behind (let P : Text → Type 0 = λ s. AddsPart text sink_old.holds s in subst P (sym same) (adds_none text sink_old.holds))

  room_of : (main_new : DiskState) (sink_new : SinkState) (e : JournalError) (new : Journal) → CommitEnds kept after old main_old main_new (Err e) new → IsOutOfRoom main_old main_new sink_old sink_new (ending_of e)
  room_of main_new sink_new journal.Memory new ends = tt
  room_of main_new sink_new journal.DiskFault new ends = tt
  room_of main_new sink_new (journal.Worn what place) new ends = (ends.0, ends.1, λ told. (ends.2 told).0)
  room_of main_new sink_new (journal.NotEmpty side len) new ends = absurd ends
  room_of main_new sink_new (journal.NotACatalogue side place) new ends = absurd ends

  -- the commit failed
  pub note_failed : (e : JournalError) (x : Ending) (main_new : DiskState) (new : Journal) → x ≡ ending_of e → IsCommitted kept after from old main_old main_new (Err e) new
      → IsNotedSo main_old main_new sink_old sink_old kept after from text (Err x) new
  note_failed e x main_new new is c =
      let R : Ending → Type 0 = λ y. IsNotedSo main_old main_new sink_old sink_old kept after from text (Err y) new in
      subst R (sym is) (record {
        ends = room_of main_new sink_old e new c.ends;
        leaves = record {
          shown = λ told. adds_none text sink_old.holds;
          main = λ told settled t main late left. either_of kept after (Err e) main (c.leaves told settled t main late left);
          images = λ told sink_told settled sink_settled t main sink late left sink_left.
              untold_yet main sink (sink_settled t sink (omega (arith, late, sink_last)) sink_left) (either_of kept after (Err e) main (c.leaves told settled t main late left));
        };
      })

  -- it was done, and then the text was told, or how far that came
  module _ (main_new : DiskState) (new : Journal) (c : IsCommitted kept after from old main_old main_new (Ok tt) new) (at to : ℕ) (later : from ≤ at) (mid_last : main_new.last ≤ at) (tells : main_new.tells ≡ main_old.tells)
      (sink_new : SinkState) (told : Between at to (AddsPart text) sink_old sink_new) where
    images_told : IsTrue main_old.tells → IsTrue sink_old.tells → IsSettled main_old → IsSettled sink_old → (t : ℕ) (main sink : Text) → from < t → main_new.left t main → sink_new.left t sink → OneOfNote kept after text sink_old.holds main sink
    images_told main_told sink_told settled sink_settled t main sink late left sink_left = elim (cases_lt at t) [
      | inl past ↦
          let S : Text → Type 0 = λ m. StandsFor m after in
          noted (subst S (sym (c.ends.settled main_told t main (omega (arith, mid_last, past)) left)) (held_stands after main_new new c.ends.held (subst IsTrue (sym tells) main_told)))
          (since_settled at to (AddsPart text) sink_old sink_new sink_told sink_settled (omega (arith, sink_last, later)) told t sink past sink_left)
      | inr before ↦
          untold_yet main sink (sink_settled t sink (omega (arith, late, sink_last)) ((told.earlier t sink before).0 sink_left)) (either_of kept after (Ok tt) main (c.leaves main_told settled t main late left))
    ]

    leaves_told : NoteLeaves main_old main_new sink_old sink_new kept after from text
    leaves_told = record { shown = told.holds; main = λ main_told settled t main late left. either_of kept after (Ok tt) main (c.leaves main_told settled t main late left); images = images_told }

    pub note_cut : IsNotedSo main_old main_new sink_old sink_new kept after from text (Err ending.Sink) new
    note_cut = record { ends = tt; leaves = leaves_told }

    pub note_done : (IsTrue sink_old.tells → sink_new.holds ≡ sink_old.holds ++ text) → (IsTrue sink_old.tells → IsSettled sink_old → IsSettled sink_new) → IsNotedSo main_old main_new sink_old sink_new kept after from text (Ok tt) new
    note_done all settles = record { ends = record { main = c.ends; sink = all; sink_settled = settles }; leaves = leaves_told }
