-- The calls of a store in memory: what they do to what is held, when they fit, and what a stop may leave of them.
use Rattle.std.specs.Prelude.{◌≡◌, ℕ, ◌+◌, ◌^◌, Bool, true, false, not, ◌&&◌, List, [], ◌++◌, length, nat_eq, nat_lt, Option, Some, None}
use Rattle.std.specs.Prelude.{is_none, ⊤, if◌then◌else◌}
use Rattle.std.specs.FinMap.{insert, remove}
use Rattle.grid_outside.specs.Files.{File, Files, file_at, Writes, Removes}
use Rattle.grid_outside.specs.StoreModel.{Known, exactly, MayBe, after_writing, after_removing}
use Rattle.grid_mem.specs.Calls.{History, Kind, known_at}
use Rattle.grid_mem.specs.declared.store_deed.StoreDeed.{StoreDeed}
use Rattle.grid_mem.specs.declared.store_deed.StoreDeed.TheVariants.{Create, Append, Finish, Remove}

-- the bytes of a file, if it is there
abbrev pub bytes_of : Option File → List ℕ
bytes_of None = []
bytes_of (Some f) = f.bytes

-- it is there and not finished
abbrev pub is_begun : Option File → Bool
is_begun None = false
is_begun (Some f) = not f.finished

-- the files with this one put in its place
abbrev pub with_file : Files → ℕ → List ℕ → Bool → Files
with_file files name bytes mark = insert files name (record { bytes = bytes; finished = mark })

-- the file takes these bytes more: it is there, not finished, and stays short
abbrev pub can_append : Files → ℕ → List ℕ → Bool
can_append files name bytes = is_begun (file_at files name) && nat_lt (length (bytes_of (file_at files name)) + length bytes) (2 ^ 61)

-- the files with these bytes at the end of that one
abbrev pub appended : Files → ℕ → List ℕ → Files
appended files name bytes = with_file files name (bytes_of (file_at files name) ++ bytes) false

-- the files after a deed that was done
abbrev pub store_done : Files → StoreDeed → Files
store_done files (Create name) = with_file files name [] false
store_done files (Append name written) = appended files name written.items
store_done files (Finish name) = with_file files name (bytes_of (file_at files name)) true
store_done files (Remove name) = remove files name

-- the file is in the state that the deed needs
abbrev pub store_fits : Files → StoreDeed → Bool
store_fits files (Create name) = is_none (file_at files name)
store_fits files (Append name written) = can_append files name written.items
store_fits files (Finish name) = is_begun (file_at files name)
store_fits files (Remove name) = true

-- it was done exactly where it fitted, and made that of the files, or nothing
pub record IsDoneIfFit (fits : Bool) (next old : Files) (done : Bool) (new : Files) : Type 0 where
  pub asked : done ≡ fits
  pub files : new ≡ (if fits then next else old)

-- a call that failed, and one whose file was not in the state that it needs, did nothing to what is held
abbrev pub store_after : Files → StoreDeed → Bool → Files
store_after files deed true = if store_fits files deed then store_done files deed else files
store_after files deed false = files

-- a call that was done fitted
abbrev pub call_fitted : Files → StoreDeed → Bool → Bool
call_fitted files deed true = store_fits files deed
call_fitted files deed false = true

-- what a deed may have done when a stop came
abbrev pub StoreMay : StoreDeed → Files → Files → Type 0
StoreMay (Create name) = Writes name
StoreMay (Append name written) = Writes name
StoreMay (Finish name) = Writes name
StoreMay (Remove name) = Removes name

-- once it was done, a finished file and a removed one are sure
abbrev pub StoreSure : StoreDeed → Bool → Files → Files → Type 0
StoreSure (Finish name) true files image = file_at image name ≡ file_at files name
StoreSure (Remove name) true files image = file_at image name ≡ file_at files name
StoreSure (Finish name) false files image = ⊤
StoreSure (Remove name) false files image = ⊤
StoreSure (Create name) done files image = ⊤
StoreSure (Append name written) done files image = ⊤

-- a store as a kind of device
abbrev pub store_kind : Kind StoreDeed Files
store_kind = record { after = store_after; fits = call_fitted; May = StoreMay; Sure = StoreSure }

-- the name that a deed is about
abbrev pub name_of : StoreDeed → ℕ
name_of (Create name) = name
name_of (Append name written) = name
name_of (Finish name) = name
name_of (Remove name) = name

-- what is known of the file that a deed is about, by the rules of a store; once a finish or a removal was done, the
-- file is as it is held
abbrev pub known_after : Bool → Option File → StoreDeed → Bool → Known → Known
known_after over file (Create name) done known = after_writing known
known_after over file (Append name written) done known = after_writing known
known_after over file (Finish name) done known = if over && done then exactly file else after_writing known
known_after over file (Remove name) done known = if over && done then exactly file else after_removing known

-- what is known of each file after a call that has begun
abbrev pub known_files_after : Bool → Files → StoreDeed → Bool → (ℕ → Known) → ℕ → Known
known_files_after over files deed done known name =
    if nat_eq name (name_of deed) then known_after over (file_at (store_after files deed done) name) deed done (known name) else known name

-- What is known of each file at the moment, of a store with this history.
abbrev pub known_files_at : ℕ → History StoreDeed Files → ℕ → Known
known_files_at moment history =
    known_at store_kind (λ over files call. known_files_after over files call.deed call.done) moment history.start history.calls
    (λ name. exactly (file_at history.start name))

-- a stop may leave of each file what is known of it
abbrev pub MayBeFiles : (ℕ → Known) → Files → Type 0
MayBeFiles known image = (name : ℕ) → MayBe (known name) (file_at image name)

-- an append of these bytes to this file
abbrev pub IsAppend : ℕ → List ℕ → StoreDeed → Type 0
IsAppend name bytes (Append other written) = (other ≡ name) × (written.items ≡ bytes)
IsAppend name bytes (Create other) = ⊥
IsAppend name bytes (Finish other) = ⊥
IsAppend name bytes (Remove other) = ⊥
