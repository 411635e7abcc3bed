-- What main remembers at each moment: no command is pending, and what was named is named.
use Rattle.std.proofs.Common.{◌≡◌, inl, inr, ℕ, ◌≤◌, false, [], None, sym, subst}
use Rattle.std.specs.Prelude.{Result, ⊤, Option}
use Rattle.grid_outside.specs.Disk.{DiskState}
use Rattle.grid_outside.specs.Source.{SourceState}
use Rattle.grid_model.specs.Names.{Text}
use Rattle.grid_model.specs.Rows.{Cat}
use Rattle.grid_model.specs.declared.deltas.Pending.{Pending}
use Rattle.grid_journal.specs.Journal.{Journal}
use Rattle.grid_journal.specs.Stands.{StandsFor}
use Rattle.grid_deed.specs.Held.{IsHeld}
use Rattle.grid_deed.proofs.Keeping.{held_stands}
use Rattle.grid_deed.proofs.Wholes.{one_cat}
use Rattle.grid_headline.specs.Files.{KeepsNamed}
use Rattle.cmd_run.specs.declared.server.Server.{Server}
use Rattle.cmd_run.specs.declared.server.Ending.{Ending}
use Rattle.cmd_run.specs.Keeps.{IsKeptSo}
use Rattle.cmd_run.specs.Obeys.{HasNoneWaiting, IsNoted, NamesItsCall, Remembers, RemembersDeed}
use Rattle.cmd_run.proofs.Resting.{stands_still}

-- the text stands for a catalogue without a pending command, in which what was named is named
named_by : (main : Text) (before c d : Cat) → c.pending ≡ None → KeepsNamed before c → StandsFor main c → StandsFor main d
    → (d.pending ≡ None) × KeepsNamed before d
named_by main before c d none keeps stood other =
    let P : Cat → Type 0 = λ x. (x.pending ≡ None) × KeepsNamed before x in
    subst P (sym (one_cat main c d stood other)) (none, keeps)

-- where none is pending, none has another line
pub noted_none : (line : Text) (p : Option Pending) → p ≡ None → IsNoted line p
noted_none line p none = subst (IsNoted line) (sym none) (tt, tt)

pub names_none : (line : Text) (from : ℕ) (old new : DiskState) → HasNoneWaiting from old new → NamesItsCall line from old new
names_none line from old new none told settled t main c late left stands = noted_none line c.pending (none told settled t main c late left stands)

pub call_none : (line : Text) (before : Cat) (from : ℕ) (old new : DiskState) → Remembers before from old new → NamesItsCall line from old new
call_none line before from old new remembers told settled t main c late left stands =
    noted_none line c.pending (remembers told settled t main c late left stands).0

pub remembers_none : (line : Text) (before : Cat) (from : ℕ) (old new : DiskState) → Remembers before from old new → RemembersDeed line before from old new
remembers_none line before from old new remembers told settled t main c late left stands =
    let its = remembers told settled t main c late left stands in
    (noted_none line c.pending its.0, its.1)

pub call_of : (line : Text) (before : Cat) (from : ℕ) (old new : DiskState) → RemembersDeed line before from old new → NamesItsCall line from old new
call_of line before from old new remembers told settled t main c late left stands = (remembers told settled t main c late left stands).0

keeps_self : (c : Cat) → KeepsNamed c c
keeps_self c slot name is = is

-- main was not called
pub still_remembers : {D : Type 0} (disk : D → DiskState) (a b : D) (s : Journal) (from : ℕ) → b ≡ a → (disk a).last ≤ from → IsHeld s.cat (disk a) s
    → s.cat.pending ≡ None
    → Remembers s.cat from (disk a) (disk b)
still_remembers disk a b s from same last held none told settled t main d late left stands =
    named_by main s.cat s.cat d none (keeps_self s.cat) (stands_still disk a b s.cat from t main same last late settled
    (held_stands s.cat (disk a) s held told) left) stands

-- changes were kept, or not
pub kept_remembers : (kept after : Cat) (from : ℕ) (old new : DiskState) (r : Result ⊤ Ending) (server : Server) → kept.pending ≡ None → after.pending ≡ None
    → KeepsNamed kept after
    → IsKeptSo kept after from old new r server → Remembers kept from old new
kept_remembers kept after from old new r server none then_none keeps so told settled t main d late left stands =
    elim (so.leaves told settled t main late left) [
      | inl was ↦ named_by main kept kept d none (keeps_self kept) was stands
      | inr now ↦ named_by main kept after d then_none keeps now stands
    ]

-- a source of which nothing is known
abbrev pub no_source : SourceState
no_source = record { faults = 0; tells = false; left = [] }
