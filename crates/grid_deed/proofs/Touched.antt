-- What reading and writing files between two commits leaves of the stores.
use Rattle.std.proofs.Common.{◌≡◌, ℕ, ◌+◌, ◌≤◌, List, [], IsTrue, sym, subst, arith}
use Rattle.std.proofs.lemmas.Option.{slice_get_within}
use Rattle.grid_outside.specs.Device.{Span}
use Rattle.grid_outside.specs.Disk.{DiskState}
use Rattle.grid_outside.specs.Files.{Files, StoreState}
use Rattle.grid_outside.proofs.Spans.{at_place}
use Rattle.grid_vault.specs.Vault.{IsAmong, WritesAmong}
use Rattle.grid_vault.proofs.Writing.{Among-same}
use Rattle.grid_model.specs.Names.{Text}
use Rattle.grid_model.specs.Rows.{Cat}
use Rattle.grid_model.specs.Whole.{IsNamed}
use Rattle.grid_model.specs.declared.plans.NewFile.{NewFile}
use Rattle.grid_journal.specs.Journal.{Journal}
use Rattle.grid_journal.specs.Stands.{StandsFor}
use Rattle.grid_deed.specs.Held.{IsHeld}
use Rattle.grid_deed.specs.Safe.{KeepWhole}
use Rattle.file_laws.proofs.Members.{no_files}
use Rattle.grid_deed.proofs.Keeping.{held_stands}
use Rattle.grid_deed.proofs.Wholes.{one_cat, whole_of, written}

module _ {B : Type 0} (state : B → StoreState) (change : ℕ → Files → Files → Type 0) (touched : ℕ → Type 0) (files : List NewFile) (allows : (k : ℕ) (a b : Files) → change k a b → WritesAmong files k a b) where
  -- files were written that are named, if any, whichever stores were read
  pub keep_touched : (from to : ℕ) (c : Cat) (s : Journal) (main : DiskState) (old new : List B) → IsHeld c main s → main.last ≤ from → Span state from to change touched old new → ((slot name : ℕ) → IsAmong files slot name → IsNamed c slot name)
      → KeepWhole state from c main main old new
  keep_touched from to c s main old new held last span named told settled whole t image d late left stands =
      let P : Text → Type 0 = λ m. StandsFor m d in
      let here : StandsFor main.holds d = subst P (settled t image (omega (arith, late, last)) left) stands in
      whole_of state t c d new (one_cat main.holds c d (held_stands c main s held told) here) (record {
        rows = (whole t late).rows;
        files = λ slot store image is told left.
            let was = at_place old slot (omega (arith, slice_get_within new slot store is, span.count)) in
            let between = span.each slot was.0 store was.1 is in
            let told_before : IsTrue (state was.0).tells = subst IsTrue between.tells told in
            let step = between.images told_before t image late left in
            written files c slot step.0 image (named slot) (allows slot step.0 image step.2) ((whole (from + 1) (omega arith)).files slot was.0 step.0 was.1 told_before step.1);
      })

-- what stays the same
pub same_allows : (k : ℕ) (a b : Files) → b ≡ a → WritesAmong [] k a b
same_allows k a b same = let P : Files → Type 0 = λ f. WritesAmong [] k a f in subst P (sym same) (Among-same [] k a)

pub none_named : (c : Cat) (slot name : ℕ) → IsAmong [] slot name → IsNamed c slot name
none_named c slot name a = absurd (no_files slot name a)
