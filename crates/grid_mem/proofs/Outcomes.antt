-- What Ok of a store's calls says of the file.
use Rattle.std.proofs.Common.{◌≡◌, ℕ, ◌+◌, ◌^◌, ◌<◌, true, false, Vec, List, [], ◌++◌, length, Option, Some, None, is_none, refl, ap, subst, ◌∙◌}
use Rattle.std.specs.declared.alloc.Global.{Global}
use Rattle.grid_outside.specs.Files.{File, Files, StoreState, file_at, unfinished, finished, Created, Appended, Finished, IsGone}
use Rattle.grid_mem.specs.declared.store_deed.StoreDeed.TheVariants.{Create, Append, Finish, Remove}
use Rattle.grid_mem.specs.CallLaws.{both, lt_of}
use Rattle.grid_mem.specs.FilesLaws.{at_same, at_removed}
use Rattle.grid_mem.specs.StoreCalls.{store_done, store_fits, is_begun, bytes_of}
use Rattle.grid_mem.proofs.FileLists.{open_mark}

none_of : {A : Type 0} (o : Option A) → is_none o ≡ true → o ≡ None
none_of None e = refl
none_of (Some x) e = absurd (cc e)

begun_of : (o : Option File) → is_begun o ≡ true → o ≡ unfinished (bytes_of o)
begun_of None e = absurd (cc e)
begun_of (Some f) e = λ i. Some (record { bytes = f.bytes; finished = open_mark f.finished e i })

pub created_of : (old new : Files) (name : ℕ) → store_fits old (Create name) ≡ true → new ≡ store_done old (Create name) → Created name old new
created_of old new name none is = record {
  absent = none_of (file_at old name) none;
  empty = ap (λ (fs : Files). file_at fs name) is ∙ at_same old name (record { bytes = []; finished = false });
}

pub appended_of : (old new : Files) (name : ℕ) (written : Vec ℕ Global) (bytes : List ℕ) → written.items ≡ bytes → store_fits old (Append name written) ≡ true → new ≡ store_done old (Append name written) → Appended name bytes old new
appended_of old new name written bytes same fits is =
    let parts = both _ _ fits in
    record {
      front = bytes_of (file_at old name);
      was = begun_of (file_at old name) parts.0;
      fits = subst (λ (xs : List ℕ). length (bytes_of (file_at old name)) + length xs < 2 ^ 61) same (lt_of _ _ parts.1);
      is = ap (λ (fs : Files). file_at fs name) is ∙ at_same old name (record { bytes = bytes_of (file_at old name) ++ written.items; finished = false }) ∙ ap (λ (xs : List ℕ). unfinished (bytes_of (file_at old name) ++ xs)) same;
    }

pub finished_of : (old new : StoreState) (name : ℕ) → store_fits old.holds (Finish name) ≡ true → new.holds ≡ store_done old.holds (Finish name)
    → ((t : ℕ) (image : Files) → new.last < t → new.left t image → file_at image name ≡ file_at new.holds name) → Finished name old new
finished_of old new name open_file is sure =
    let held_now : file_at new.holds name ≡ finished (bytes_of (file_at old.holds name)) = ap (λ (fs : Files). file_at fs name) is ∙ at_same old.holds name (record { bytes = bytes_of (file_at old.holds name); finished = true }) in
    record {
      bytes = bytes_of (file_at old.holds name);
      was = begun_of (file_at old.holds name) open_file;
      stable = record { held = held_now; left = λ t image late left. sure t image late left ∙ held_now };
    }

pub gone_of : (old new : StoreState) (name : ℕ) → new.holds ≡ store_done old.holds (Remove name)
    → ((t : ℕ) (image : Files) → new.last < t → new.left t image → file_at image name ≡ file_at new.holds name) → IsGone name new
gone_of old new name is sure =
    let held_now : file_at new.holds name ≡ None = ap (λ (fs : Files). file_at fs name) is ∙ at_removed old.holds name in
    record { held = held_now; left = λ t image late left. sure t image late left ∙ held_now }
