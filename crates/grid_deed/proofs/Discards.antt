-- What the removal of an orphan's file leaves, with that of its row.
use Rattle.std.proofs.Common.{◌≡◌, inl, inr, ℕ, zero, suc, ◌≤◌, List, [], ◌∷◌, slice_get, Some, Result, Ok, Err, IsTrue, refl, sym, ap, subst, eq-eqb, arith}
use Rattle.std.specs.Prelude.{⊤, filter, not, ◌==◌}
use Rattle.std.specs.List.{Contains}
use Rattle.std.proofs.lemmas.Bool.{cases_lt}
use Rattle.grid_outside.specs.Device.{IsSettled, Leaves, EachMember}
use Rattle.grid_outside.specs.Disk.{DiskState}
use Rattle.grid_outside.specs.Files.{StoreState}
use Rattle.grid_model.specs.Names.{Text}
use Rattle.grid_model.specs.Rows.{Cat}
use Rattle.grid_model.specs.Applying.{IsMade, apply, apply_all, where_fits}
use Rattle.grid_model.specs.declared.deltas.Delta.TheVariants as delta
use Rattle.grid_model.specs.declared.deltas.OrphanRow.{OrphanRow}
use Rattle.grid_model.specs.declared.plans.NewFile.{NewFile}
use Rattle.grid_journal.specs.Journal.{Journal}
use Rattle.grid_journal.specs.Stands.{StandsEither, StandsFor}
use Rattle.grid_journal.proofs.DeltaLemmas.{then_all}
use Rattle.grid_journal.specs.declared.error.JournalError.{JournalError}
use Rattle.grid_journal.specs.declared.error.JournalError.TheVariants as journal
use Rattle.grid_vault.specs.Vault.{RoseAt, RemovesOne, IsGoneAt}
use Rattle.grid_vault.specs.declared.fault.Fault.{Fault}
use Rattle.grid_vault.proofs.Writing.{all_of}
use Rattle.tables_laws.proofs.Rows.{any_from_in}
use Rattle.tables_laws.proofs.Numbered.{one_number}
use Rattle.tables_laws.proofs.Sound.{sound-made}
use Rattle.grid_deed.specs.Frame.{Goes}
use Rattle.grid_deed.specs.Held.{IsHeld, IsCommitted}
use Rattle.grid_deed.specs.Safe.{KeepWhole}
use Rattle.file_laws.specs.Removals.{Forgets, no_orphans}
use Rattle.grid_deed.specs.Deeds.{IsDiscarded}
use Rattle.grid_deed.proofs.Frames.{stores_as}
use Rattle.grid_deed.proofs.Keeping.{held_stands, either_of}
use Rattle.file_laws.proofs.Members.{in_of}
use Rattle.grid_deed.proofs.Wholes.{one_cat, whole_of, keep_commit, keep_more}
use Rattle.grid_deed.proofs.Sweeping.{keep_remove, whole_forgotten}
use Rattle.file_laws.proofs.Forgetting.{forgets_all}
use Rattle.grid_deed.proofs.DeedLemmas.{of_last}

-- ---- the row

module _ (c : Cat) (file : NewFile) (there : Contains c.orphans (record { vault = file.name; slot = file.slot })) where
  abbrev x : OrphanRow
  x = record { vault = file.name; slot = file.slot }

  abbrev pub without : Cat
  without = record c { orphans = filter (λ o. not (o.vault == file.name)) c.orphans }

  pub applied : apply_all c (no_orphans (file ∷ [])) ≡ Ok without
  applied =
      let one : apply c (delta.NoOrphan file.name) ≡ Ok without = ap (λ b. where_fits b 18 without) (any_from_in (λ (o : OrphanRow). o.vault == file.name) c.orphans x (in_of c.orphans x there) (eq-eqb file.name file.name refl)) in
      ap (then_all []) one

  pub forgets : IsMade c → (after : Cat) → apply_all c (no_orphans (file ∷ [])) ≡ Ok after → Forgets (file ∷ []) c after
  forgets made after e = forgets_all (file ∷ []) c after ((λ y here is. ap (λ (o : OrphanRow). o.slot) (one_number (λ (o : OrphanRow). o.vault) c.orphans y x (sound-made made.0 c made.1).cat.orphans.ordered here (in_of c.orphans x there) is)), tt) e

-- ---- main

module _ {B : Type 0} (plugin : B → StoreState) (c after : Cat) (file : NewFile) (from : ℕ) (main_old : DiskState) (s : Journal) (held : IsHeld c main_old s) (last : main_old.last ≤ from) (stores_old stores_new : List B) where
  still : IsTrue main_old.tells → IsSettled main_old → Leaves from (StandsEither c after) main_old
  still told settled t image late left = let P : Text → Type 0 = λ m. StandsFor m c in inl (subst P (sym (settled t image (omega (arith, late, last)) left)) (held_stands c main_old s held told))

  pub not_begun : IsDiscarded plugin c after file.slot from main_old main_old stores_old stores_new s (Err journal.Memory) s
  not_begun = record { ends = held_stands c main_old s held; leaves = still }

  pub not_removed : (fault : Fault) → fault.slot ≡ file.slot → RoseAt plugin fault.slot stores_old stores_new → IsDiscarded plugin c after file.slot from main_old main_old stores_old stores_new s (Ok (Some fault)) s
  not_removed fault slot rose = let R : ℕ → Type 0 = λ n. RoseAt plugin n stores_old stores_new in record { ends = (slot, subst R slot rose, refl); leaves = still }

  pub then_taken : (to : ℕ) (main_new : DiskState) (new : Journal) (result : Result ⊤ JournalError) → Goes to main_old main_new → IsCommitted c after to s main_old main_new result new → IsDiscarded plugin c after file.slot from main_old main_new stores_old stores_new s (of_last result) new
  then_taken to main_new new result goes again = by result again
    where
      leaves : (r : Result ⊤ JournalError) → IsCommitted c after to s main_old main_new r new → IsTrue main_old.tells → IsSettled main_old → Leaves from (StandsEither c after) main_new
      leaves r a told settled t image late left = elim (cases_lt to t) [
        | inl now ↦ either_of c after r image (a.leaves told settled t image now left)
        | inr le ↦ still told settled t image late (goes.earlier t image le left)
      ]

      by : (r : Result ⊤ JournalError) → IsCommitted c after to s main_old main_new r new → IsDiscarded plugin c after file.slot from main_old main_new stores_old stores_new s (of_last r) new
      by (Ok done) a = record { ends = a.ends; leaves = leaves (Ok done) a }
      by (Err e) a = record { ends = a.ends; leaves = leaves (Err e) a }

  -- ---- the stores

  pub keep_none : KeepWhole plugin from c main_old main_old stores_old stores_old
  keep_none told settled whole t image d late left stands =
      let P : Text → Type 0 = λ m. StandsFor m d in
      whole_of plugin t c d stores_old (one_cat main_old.holds c d (held_stands c main_old s held told) (subst P (settled t image (omega (arith, late, last)) left) stands)) (whole t late)

  module _ (there : Contains c.orphans (record { vault = file.name; slot = file.slot })) (to : ℕ) (later : from ≤ to) (removes : RemovesOne plugin from to file stores_old stores_new) where
    pub keep_removed : KeepWhole plugin from c main_old main_old stores_old stores_new
    keep_removed = keep_remove plugin from to c (sound-made held.made.0 c held.made.1) (record { vault = file.name; slot = file.slot }) (in_of c.orphans (record { vault = file.name; slot = file.slot }) there) file refl s main_old stores_old stores_new held last removes

    pub keep_taken : apply_all c (no_orphans (file ∷ [])) ≡ Ok after → EachMember (λ k store. (plugin store).last ≤ to) stores_new → IsGoneAt plugin stores_new file → (main_new : DiskState) (new : Journal) (result : Result ⊤ JournalError) (stores_end : List B) → stores_end ≡ stores_new → Goes to main_old main_new
        → IsCommitted c after to s main_old main_new result new → KeepWhole plugin from c main_old main_new stores_old stores_end
    keep_taken e lasts gone main_new new result stores_end same goes again =
        keep_more plugin from to c c s main_old main_old main_new stores_old stores_new stores_end later refl (λ told settled. settled) held (omega (arith, last, later)) goes (stores_as plugin to stores_new stores_end same) keep_removed
        (keep_commit plugin to c after s new main_old main_new result stores_new stores_end same again
        (λ t late w. whole_forgotten plugin t (file ∷ []) c after stores_new (forgets c file there held.made after e) (λ slot store is. omega (arith, lasts slot store is, late)) (all_of (IsGoneAt plugin stores_new) (file ∷ []) (λ i f is. one i f is)) w))
      where
        one : (i : ℕ) (f : NewFile) → slice_get (file ∷ []) i ≡ Some f → IsGoneAt plugin stores_new f
        one zero f is = let same_file : file ≡ f = cc in let P : NewFile → Type 0 = λ y. IsGoneAt plugin stores_new y in subst P same_file gone
        one (suc i) f is = absurd cc
