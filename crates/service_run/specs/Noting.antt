-- How a command is noted on main, and what it has still to tell is told.
use Rattle.std.specs.Prelude.{◌≡◌, ℕ, ◌^◌, ◌<◌, ◌++◌, Some, Result, Ok, Err, IsTrue, ⊤}
use Rattle.grid_outside.specs.Device.{IsSettled}
use Rattle.grid_outside.specs.Disk.{DiskState}
use Rattle.grid_outside.specs.Sink.{SinkState, AddsPart}
use Rattle.grid_outside.specs.declared.outside.Wear.TheVariants.{Log}
use Rattle.grid_model.specs.Names.{Text}
use Rattle.grid_model.specs.Rows.{Cat}
use Rattle.grid_model.specs.declared.deltas.Pending.{Pending}
use Rattle.grid_journal.specs.Journal.{Journal, ClosesAt}
use Rattle.grid_journal.specs.Stands.{StandsEither, StandsFor}
use Rattle.grid_deed.specs.Held.{IsKept}
use Rattle.service_run.specs.declared.ending.Ending.{Ending}
use Rattle.service_run.specs.declared.ending.Ending.TheVariants.{Worn}

-- these rows, where this command is pending
abbrev pub with_pending : Cat → Pending → Cat
with_pending c p = record c { pending = Some p }

-- What a stop leaves of main, and of the sink that had these bytes before: main has the one catalogue and nothing more is told, or it has
-- the other, and a front of the text is told.
pub data OneOfNote (kept after : Cat) (text shown main sink : Text) : Type 0 where
  unnoted : StandsFor main kept → sink ≡ shown → OneOfNote kept after text shown main sink
  noted : StandsFor main after → AddsPart text shown sink → OneOfNote kept after text shown main sink

module _ (main_old main_new : DiskState) (sink_old sink_new : SinkState) where
  -- main and memory have the catalogue, with nothing staged, and all of the text was told
  pub record IsTold (after : Cat) (text : Text) (new : Journal) : Type 0 where
    pub main : IsKept after main_old main_new new
    pub sink : IsTrue sink_old.tells → sink_new.holds ≡ sink_old.holds ++ text
    pub sink_settled : IsTrue sink_old.tells → IsSettled sink_old → IsSettled sink_new

  -- the room behind the log is all that may have run out
  abbrev pub IsOutOfRoom : Ending → Type 0
  IsOutOfRoom (Worn what place) = (what ≡ Log) × (2 ^ 62 < place) × (IsTrue main_old.tells → ClosesAt main_new.holds place)
  IsOutOfRoom other = Unit {0}

  -- how it ended
  abbrev pub NoteEnds : Cat → Text → Result ⊤ Ending → Journal → Type 0
  NoteEnds after text (Ok done) new = IsTold after text new
  NoteEnds after text (Err e) new = IsOutOfRoom e

  -- what of the text was shown, and what a stop leaves, of main alone and of both, from so many moments on
  pub record NoteLeaves (kept after : Cat) (from : ℕ) (text : Text) : Type 0 where
    pub shown : IsTrue sink_old.tells → AddsPart text sink_old.holds sink_new.holds
    pub main : IsTrue main_old.tells → IsSettled main_old → (t : ℕ) (main : Text) → from < t → main_new.left t main → StandsEither kept after main
    pub images : IsTrue main_old.tells → IsTrue sink_old.tells → IsSettled main_old → IsSettled sink_old → (t : ℕ) (main sink : Text)
        → from < t → main_new.left t main → sink_new.left t sink → OneOfNote kept after text sink_old.holds main sink

  -- Changes that lead from the one catalogue to the other were committed, and then the text was told, or how far that came, from so
  -- many moments on.
  pub record IsNotedSo (kept after : Cat) (from : ℕ) (text : Text) (result : Result ⊤ Ending) (new : Journal) : Type 0 where
    pub ends : NoteEnds after text result new
    pub leaves : NoteLeaves kept after from text
