-- What the carrying out of a plan leaves of main.
use Rattle.std.proofs.Common.{◌≡◌, ◌≢◌, inl, inr, ℕ, ◌==◌, true, false, List, [], ◌∷◌, length, Option, Some, None, Result, Ok, Err, IsTrue, refl, sym, ap, ◌∙◌, subst, arith}
use Rattle.std.specs.Prelude.{⊤}
use Rattle.std.proofs.lemmas.Bool.{cases_lt}
use Rattle.grid_outside.specs.Device.{IsSettled, Leaves}
use Rattle.grid_outside.specs.Disk.{DiskState}
use Rattle.grid_outside.specs.Files.{StoreState}
use Rattle.grid_model.specs.Names.{Text}
use Rattle.grid_model.specs.Rows.{Cat}
use Rattle.grid_model.specs.Applying.{apply_all}
use Rattle.grid_model.specs.declared.deltas.Delta.{Delta}
use Rattle.grid_model.specs.declared.plans.NewFile.{NewFile}
use Rattle.grid_journal.specs.Journal.{Journal}
use Rattle.grid_journal.specs.Stands.{StandsEither}
use Rattle.grid_journal.specs.declared.error.JournalError.{JournalError}
use Rattle.grid_journal.specs.declared.error.JournalError.TheVariants as journal
use Rattle.grid_vault.specs.Vault.{HasSlot, RoseAt}
use Rattle.grid_vault.specs.declared.fault.Fault.{Fault}
use Rattle.grid_deed.specs.Frame.{Goes}
use Rattle.grid_deed.specs.Held.{IsKept, IsCommitted}
use Rattle.grid_deed.specs.Deeds.{StandsOne, IsDone}

-- a list without members
pub none_there : {X : Type 0} (rows : List X) → (length rows == 0) ≡ true → rows ≡ []
none_there [] is = refl
none_there (x ∷ rows) is = absurd (grind arith)

pub some_there : {X : Type 0} (rows : List X) → (length rows == 0) ≡ false → rows ≢ []
some_there rows is none = let empty : (length rows == 0) ≡ true = ap (λ x. length x == 0) none in absurd cc

-- where the last changes are none, the catalogue stays
pub none_more : (mid end : Cat) (after : List Delta) → after ≡ [] → apply_all mid after ≡ Ok end → end ≡ mid
none_more mid end after none applied = let both : Ok end ≡ Ok mid = sym applied ∙ ap (apply_all mid) none in cc

pub kept_as : (mid end : Cat) (main_old main_new : DiskState) (s : Journal) → end ≡ mid → IsKept mid main_old main_new s → IsKept end main_old main_new s
kept_as mid end main_old main_new s same k = let P : Cat → Type 0 = λ c. IsKept c main_old main_new s in subst P (sym same) k

-- the result of the last commit, as that of the deed
abbrev pub of_last : Result ⊤ JournalError → Result (Option Fault) JournalError
of_last (Ok done) = Ok None
of_last (Err e) = Err e

module _ {B : Type 0} (plugin : B → StoreState) (kept mid end : Cat) (files : List NewFile) (from : ℕ) (main_old : DiskState) (old : Journal) (stores_old stores_new : List B) (main_mid : DiskState) (middle : Journal) where
  -- the first commit failed
  pub first_failed : (e : JournalError) → IsCommitted kept mid from old main_old main_mid (Err e) middle → IsDone plugin kept mid end files from main_old main_mid stores_old stores_new (Err e) middle
  first_failed journal.Memory c = record { ends = λ told. inl (c.ends told); leaves = λ told settled t image late left. inl (c.leaves told settled t image late left) }
  first_failed journal.DiskFault c = record { ends = tt; leaves = λ told settled t image late left. inl (c.leaves told settled t image late left) }
  first_failed (journal.Worn what place) c = record { ends = (c.ends.0, c.ends.1, λ told. ((c.ends.2 told).0, inl (c.ends.2 told).1)); leaves = λ told settled t image late left. inl (c.leaves told settled t image late left) }
  first_failed (journal.NotEmpty side len) c = absurd c.ends
  first_failed (journal.NotACatalogue side place) c = absurd c.ends

  module _ (c : IsCommitted kept mid from old main_old main_mid (Ok tt) middle) where
    -- and then a store failed
    pub store_failed : (fault : Fault) → HasSlot files fault.slot → RoseAt plugin fault.slot stores_old stores_new → IsDone plugin kept mid end files from main_old main_mid stores_old stores_new (Ok (Some fault)) middle
    store_failed fault slot rose = record { ends = (slot, rose, c.ends); leaves = c.leaves }

    -- and there was no more to be kept
    pub no_more : end ≡ mid → IsDone plugin kept mid end files from main_old main_mid stores_old stores_new (Ok None) middle
    no_more same = record { ends = kept_as mid end main_old main_mid middle same c.ends; leaves = λ told settled t image late left. inl (c.leaves told settled t image late left) }

    -- and then the last changes were kept, or how far that came, after so many moments
    module _ (to : ℕ) (main_new : DiskState) (new : Journal) (tells : main_mid.tells ≡ main_old.tells) (goes : Goes to main_mid main_new) where
      mid_told : IsTrue main_old.tells → IsTrue main_mid.tells
      mid_told told = subst IsTrue (sym tells) told

      -- what is left, where this is left of the second commit
      by_time : (Q : Text → Type 0) → ((image : Text) → StandsEither kept mid image → Q image) → (IsTrue main_old.tells → IsSettled main_old → Leaves to Q main_new) → IsTrue main_old.tells → IsSettled main_old → Leaves from Q main_new
      by_time Q before after told settled t image late left = elim (cases_lt to t) [
        | inl now ↦ after told settled t image now left
        | inr le ↦ before image (c.leaves told settled t image late (goes.earlier t image le left))
      ]

      to_one : (image : Text) → StandsEither mid end image → StandsOne kept mid end image
      to_one image (inl s) = inl (inr s)
      to_one image (inr s) = inr s

      pub then_kept : (result : Result ⊤ JournalError) → IsCommitted mid end to middle main_mid main_new result new → IsDone plugin kept mid end files from main_old main_new stores_old stores_new (of_last result) new
      then_kept (Ok done) again = record {
        ends = record { held = again.ends.held; cat = again.ends.cat; staged = again.ends.staged; settled = λ told. again.ends.settled (mid_told told) };
        leaves = by_time (StandsOne kept mid end) (λ image s. inl s) (λ told settled t image now left. to_one image (again.leaves (mid_told told) (c.ends.settled told) t image now left));
      }
      then_kept (Err journal.DiskFault) again = record {
        ends = tt;
        leaves = by_time (StandsOne kept mid end) (λ image s. inl s) (λ told settled t image now left. to_one image (again.leaves (mid_told told) (c.ends.settled told) t image now left));
      }
      then_kept (Err journal.Memory) again = record {
        ends = λ told. inr (again.ends (mid_told told));
        leaves = by_time (StandsEither kept mid) (λ image s. s) (λ told settled t image now left. inr (again.leaves (mid_told told) (c.ends.settled told) t image now left));
      }
      then_kept (Err (journal.Worn what place)) again = record {
        ends = (again.ends.0, again.ends.1, λ told. ((again.ends.2 (mid_told told)).0, inr (again.ends.2 (mid_told told)).1));
        leaves = by_time (StandsEither kept mid) (λ image s. s) (λ told settled t image now left. inr (again.leaves (mid_told told) (c.ends.settled told) t image now left));
      }
      then_kept (Err (journal.NotEmpty side len)) again = absurd again.ends
      then_kept (Err (journal.NotACatalogue side place)) again = absurd again.ends
