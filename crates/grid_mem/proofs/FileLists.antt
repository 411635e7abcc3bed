-- Lists of files and the files that they mean.
use Rattle.std.proofs.Common.{◌≡◌, ◌≢◌, inl, inr, ℕ, zero, suc, ◌+◌, ◌<◌, ◌==◌, Bool, true, false, not, List, [], ◌∷◌, ◌++◌, map, length, set, get_or, Option, Some, None, is_none, ◌&&◌, ◌^◌, nat_lt, Result, Ok, Err, OnErr, cond, if◌then◌else◌, arith, refl, sym, ap, ◌∙◌}
use Rattle.std.specs.Prelude.{position, filter}
use Rattle.std.specs.List.{position_from, AllZip}
use Rattle.std.specs.Ordering.{nat_cmp}
use Rattle.std.specs.FinMap.{insert, remove, empty, get-empty, get-from_entries, from_entries_push, from_entries, nat_cmp-IsAntisymmetric}
use Rattle.std.proofs.lemmas.Bool.Decides.{nat_tests}
use Rattle.std.proofs.lemmas.Cmp.{nat_cmp_total}
use Rattle.std.proofs.lemmas.List.{map-append}
use Rattle.std.proofs.lemmas.List.Quantifiers.{position-Some}
use Rattle.std.proofs.lemmas.Iterator.Adapters.{position_from-zero}
use Rattle.grid_outside.specs.Files.{File, Files, file_at}
use Rattle.grid_mem.specs.declared.mem_file.MemFile.{MemFile}
use Rattle.grid_mem.specs.MemFile.{file_of, entry_of, files_of, IsCopy}
use Rattle.grid_mem.specs.StoreCalls.{IsDoneIfFit, with_file, appended, can_append, is_begun, bytes_of}
use Rattle.grid_mem.specs.CallLaws.{both}
use Rattle.grid_outside.proofs.Spans.{nat_cases}
use Rattle.grid_mem.specs.FilesLaws.{at_same, at_other, at_removed, at_kept, same_files}

is_same : (a b : ℕ) → (a == b) ≡ true → a ≡ b
is_same a b e = grind (arith, nat_tests)

is_other : (a b : ℕ) → (a == b) ≡ false → b ≢ a
is_other a b e = grind (arith, nat_tests)

insert_twice : (files : Files) (name : ℕ) (f g : File) → insert files name g ≡ insert (insert files name f) name g
insert_twice files name f g = same_files _ _ (λ q. elim (nat_cases q name) [
  | inl e ↦ ap (file_at (insert files name g)) e ∙ at_same files name g ∙ sym (at_same (insert files name f) name g) ∙ sym (ap (file_at (insert (insert files name f) name g)) e)
  | inr other ↦ at_other files name q g other ∙ sym (at_other files name q f other) ∙ sym (at_other (insert files name f) name q g other)
])

insert_swap : (files : Files) (name other : ℕ) (f g : File) → name ≢ other → insert (insert files name f) other g ≡ insert (insert files other g) name f
insert_swap files name other f g apart = same_files _ _ (λ q. elim (nat_cases q name) [
  | inl e ↦
      ap (file_at (insert (insert files name f) other g)) e ∙ at_other (insert files name f) other name g apart ∙ at_same files name f
      ∙ sym (at_same (insert files other g) name f) ∙ sym (ap (file_at (insert (insert files other g) name f)) e)
  | inr not_name ↦ elim (nat_cases q other) [
    | inl e ↦
        ap (file_at (insert (insert files name f) other g)) e ∙ at_same (insert files name f) other g ∙ sym (at_same files other g)
        ∙ sym (at_other (insert files other g) name other f (λ e. apart (sym e))) ∙ sym (ap (file_at (insert (insert files other g) name f)) e)
    | inr not_other ↦
        at_other (insert files name f) other q g not_other ∙ at_other files name q f not_name
        ∙ sym (at_other files other q g not_other) ∙ sym (at_other (insert files other g) name q f not_name)
  ]
])

remove_inserted : (files : Files) (name : ℕ) (f : File) → remove files name ≡ remove (insert files name f) name
remove_inserted files name f = same_files _ _ (λ q. elim (nat_cases q name) [
  | inl e ↦ ap (file_at (remove files name)) e ∙ at_removed files name ∙ sym (at_removed (insert files name f) name) ∙ sym (ap (file_at (remove (insert files name f) name)) e)
  | inr other ↦ at_kept files name q other ∙ sym (at_other files name q f other) ∙ sym (at_kept (insert files name f) name q other)
])

remove_swap : (files : Files) (name other : ℕ) (f : File) → name ≢ other → insert (remove files name) other f ≡ remove (insert files other f) name
remove_swap files name other f apart = same_files _ _ (λ q. elim (nat_cases q name) [
  | inl e ↦
      ap (file_at (insert (remove files name) other f)) e ∙ at_other (remove files name) other name f apart ∙ at_removed files name
      ∙ sym (at_removed (insert files other f) name) ∙ sym (ap (file_at (remove (insert files other f) name)) e)
  | inr not_name ↦ elim (nat_cases q other) [
    | inl e ↦
        ap (file_at (insert (remove files name) other f)) e ∙ at_same (remove files name) other f ∙ sym (at_same files other f)
        ∙ sym (at_kept (insert files other f) name other (λ e. apart (sym e))) ∙ sym (ap (file_at (remove (insert files other f) name)) e)
    | inr not_other ↦
        at_other (remove files name) other q f not_other ∙ at_kept files name q not_name
        ∙ sym (at_other files other q f not_other) ∙ sym (at_kept (insert files other f) name q not_name)
  ]
])

remove_none : (name : ℕ) → empty {R = nat_cmp} ≡ remove (empty {X = File}) name
remove_none name = same_files _ _ (λ q. elim (nat_cases q name) [
  | inl e ↦ get-empty nat_cmp q ∙ sym (at_removed empty name) ∙ sym (ap (file_at (remove empty name)) e)
  | inr other ↦ sym (at_kept empty name q other)
])

-- this file has the name
abbrev pub has_name : ℕ → MemFile → Bool
has_name name file = file.name == name

find_first : (ms : List MemFile) (i : ℕ) (d : MemFile) (name : ℕ) → i < length ms → has_name name (get_or ms i d) ≡ true → ((k : ℕ) → k < i → has_name name (get_or ms k d) ≡ false)
    → file_at (files_of ms) name ≡ Some (file_of (get_or ms i d))
find_first [] i d name lt here earlier = absurd (omega arith)
find_first (m ∷ ms) zero d name lt here earlier = ap (file_at (files_of (m ∷ ms))) (sym (is_same m.name name here)) ∙ at_same (files_of ms) m.name (file_of m)
find_first (m ∷ ms) (suc i) d name lt here earlier =
    at_other (files_of ms) m.name name (file_of m) (is_other m.name name (earlier zero (omega arith))) ∙ find_first ms i d name (omega (arith, lt)) here (λ k less. earlier (suc k) (omega (arith, less)))

set_first : (ms : List MemFile) (i : ℕ) (d new : MemFile) (name : ℕ) → i < length ms → has_name name (get_or ms i d) ≡ true → ((k : ℕ) → k < i → has_name name (get_or ms k d) ≡ false)
    → new.name ≡ name → files_of (set ms i new) ≡ insert (files_of ms) name (file_of new)
set_first [] i d new name lt here earlier named = absurd (omega arith)
set_first (m ∷ ms) zero d new name lt here earlier named =
    ap (λ (n : ℕ). insert (files_of ms) n (file_of new)) named ∙ insert_twice (files_of ms) name (file_of m) (file_of new)
    ∙ ap (λ (n : ℕ). insert (insert (files_of ms) n (file_of m)) name (file_of new)) (sym (is_same m.name name here))
set_first (m ∷ ms) (suc i) d new name lt here earlier named =
    ap (λ (fs : Files). insert fs m.name (file_of m)) (set_first ms i d new name (omega (arith, lt)) here (λ k less. earlier (suc k) (omega (arith, less))) named)
    ∙ insert_swap (files_of ms) name m.name (file_of new) (file_of m) (is_other m.name name (earlier zero (omega arith)))

none_from : (ms : List MemFile) (i name : ℕ) → position_from (has_name name) i ms ≡ None → file_at (files_of ms) name ≡ None
none_from [] i name none = get-empty nat_cmp name
none_from (m ∷ ms) i name none =
    (elim (has_name name m) as (λ b. has_name name m ≡ b → cond b (Some i) (position_from (has_name name) (i + 1) ms) ≡ None → file_at (files_of (m ∷ ms)) name ≡ None) [
      | true ↦ λ is e. absurd (cc e)
      | false ↦ λ is e. at_other (files_of ms) m.name name (file_of m) (is_other m.name name is) ∙ none_from ms (i + 1) name e
    ]) refl none

-- no file has the name
pub at_no_place : (ms : List MemFile) (name : ℕ) → position (has_name name) ms ≡ None → file_at (files_of ms) name ≡ None
at_no_place ms name none = none_from ms 0 name (sym (position_from-zero (has_name name) ms) ∙ none)

-- the file at the place that was found for a name has the name
pub name_at_place : (ms : List MemFile) (name i : ℕ) (m : MemFile) → position (has_name name) ms ≡ Some i → m ≡ get_or ms i m → m.name ≡ name
name_at_place ms name i m found is = is_same m.name name (ap (has_name name) is ∙ (position-Some (has_name name) ms i m found).1)

-- the file at the first place with the name
pub at_place : (ms : List MemFile) (name i : ℕ) (d : MemFile) → position (has_name name) ms ≡ Some i → file_at (files_of ms) name ≡ Some (file_of (get_or ms i d))
at_place ms name i d is = let first = position-Some (has_name name) ms i d is in find_first ms i d name first.0 first.1 first.2

-- that file was changed
pub changed_at_place : (ms : List MemFile) (name i : ℕ) (d new : MemFile) → position (has_name name) ms ≡ Some i → new.name ≡ (get_or ms i d).name → files_of (set ms i new) ≡ insert (files_of ms) name (file_of new)
changed_at_place ms name i d new is named =
    let first = position-Some (has_name name) ms i d is in
    set_first ms i d new name first.0 first.1 first.2 (named ∙ is_same (get_or ms i d).name name first.1)

-- that file stayed as it was
pub same_at_place : (ms : List MemFile) (i : ℕ) (d new : MemFile) → entry_of new ≡ entry_of (get_or ms i d) → files_of (set ms i new) ≡ files_of ms
same_at_place [] i d new is = refl
same_at_place (m ∷ ms) zero d new is = ap (λ (e : ℕ × File). insert (files_of ms) e.0 e.1) is
same_at_place (m ∷ ms) (suc i) d new is = ap (λ (fs : Files). insert fs m.name (file_of m)) (same_at_place ms i d new is)

-- a file of a new name was added
pub added : (ms : List MemFile) (m : MemFile) → position (has_name m.name) ms ≡ None → files_of (ms ++ m ∷ []) ≡ insert (files_of ms) m.name (file_of m)
added ms m none =
    ap from_entries (map-append entry_of ms (m ∷ []))
    ∙ from_entries_push nat_cmp_total nat_cmp-IsAntisymmetric (map entry_of ms) m.name (file_of m) (sym (get-from_entries nat_cmp_total (map entry_of ms) m.name) ∙ at_no_place ms m.name none)

-- all files of the name were taken away
pub filtered : (ms : List MemFile) (name : ℕ) → files_of (filter (λ m. not (has_name name m)) ms) ≡ remove (files_of ms) name
filtered [] name = remove_none name
filtered (m ∷ ms) name =
    (elim (has_name name m) as (λ b. has_name name m ≡ b → files_of (cond (not b) (m ∷ filter (λ x. not (has_name name x)) ms) (filter (λ x. not (has_name name x)) ms)) ≡ remove (files_of (m ∷ ms)) name) [
      | true ↦ λ is. filtered ms name ∙ remove_inserted (files_of ms) name (file_of m) ∙ ap (λ (n : ℕ). remove (insert (files_of ms) n (file_of m)) name) (sym (is_same m.name name is))
      | false ↦ λ is. ap (λ (fs : Files). insert fs m.name (file_of m)) (filtered ms name) ∙ remove_swap (files_of ms) name m.name (file_of m) (is_other m.name name is)
    ]) refl

-- it was done, or its file was not in the state that it needs
pub was_done : (fits : Bool) (next old new : Files) → fits ≡ true → new ≡ next → IsDoneIfFit fits next old true new
was_done fits next old new fit is = record { asked = sym fit; files = is ∙ ap (λ (b : Bool). if b then next else old) (sym fit) }

pub was_refused : (fits : Bool) (next old new : Files) → fits ≡ false → new ≡ old → IsDoneIfFit fits next old false new
was_refused fits next old new fit is = record { asked = sym fit; files = is ∙ ap (λ (b : Bool). if b then next else old) (sym fit) }

-- some file has the name
pub some_named : (ms : List MemFile) (name i : ℕ) → position (has_name name) ms ≡ Some i → is_none (file_at (files_of ms) name) ≡ false
some_named [] name i is = absurd (cc is)
some_named (m ∷ ms) name i is = ap is_none (at_place (m ∷ ms) name i m is)

pub at_item : (ms : List MemFile) (name i : ℕ) (d : MemFile) → position (has_name name) ms ≡ Some i → d ≡ get_or ms i d → file_at (files_of ms) name ≡ Some (file_of d)
at_item ms name i d is item = at_place ms name i d is ∙ ap (λ (m : MemFile). Some (file_of m)) (sym item)

pub append_fits : (files : Files) (name : ℕ) (d : MemFile) (bytes : List ℕ) → file_at files name ≡ Some (file_of d) → can_append files name bytes ≡ (not d.finished && nat_lt (length d.bytes.items + length bytes) (2 ^ 61))
append_fits files name d bytes at = ap (λ (o : Option File). is_begun o && nat_lt (length (bytes_of o) + length bytes) (2 ^ 61)) at

pub append_absent : (files : Files) (name : ℕ) (bytes : List ℕ) → file_at files name ≡ None → can_append files name bytes ≡ false
append_absent files name bytes at = ap (λ (o : Option File). is_begun o && nat_lt (length (bytes_of o) + length bytes) (2 ^ 61)) at

pub open_mark : (b : Bool) → not b ≡ true → b ≡ false
open_mark true e = sym e
open_mark false e = refl

-- bytes were added at the end of the file at that place
pub append_done : (ms : List MemFile) (name i : ℕ) (d new : MemFile) (bytes : List ℕ) → position (has_name name) ms ≡ Some i → d ≡ get_or ms i d → can_append (files_of ms) name bytes ≡ true
    → new.name ≡ d.name → new.bytes.items ≡ d.bytes.items ++ bytes → new.finished ≡ d.finished → files_of (set ms i new) ≡ appended (files_of ms) name bytes
append_done ms name i d new bytes is item fits named same mark =
    let at = at_item ms name i d is item in
    let unfinished = open_mark d.finished (both _ _ (sym (append_fits (files_of ms) name d bytes at) ∙ fits)).0 in
    changed_at_place ms name i d new is (named ∙ ap (λ (m : MemFile). m.name) item)
    ∙ ap (insert (files_of ms) name) (λ j. record { bytes = (same ∙ ap (λ (o : Option File). bytes_of o ++ bytes) (sym at)) j; finished = (mark ∙ unfinished) j })

-- the file at that place was finished
pub finish_done : (ms : List MemFile) (name i : ℕ) (d new : MemFile) → position (has_name name) ms ≡ Some i → d ≡ get_or ms i d
    → new.name ≡ d.name → new.bytes.items ≡ d.bytes.items → new.finished ≡ true → files_of (set ms i new) ≡ with_file (files_of ms) name (bytes_of (file_at (files_of ms) name)) true
finish_done ms name i d new is item named same mark =
    changed_at_place ms name i d new is (named ∙ ap (λ (m : MemFile). m.name) item)
    ∙ ap (insert (files_of ms) name) (λ j. record { bytes = (same ∙ ap bytes_of (sym (at_item ms name i d is item))) j; finished = mark j })

pub on_err : {T E : Type 0} (r : Result T E) {P : Type 0} → P → OnErr r P
on_err (Ok t) p = tt
on_err (Err e) p = p

-- copies mean the same files
pub copies : (ms ns : List MemFile) → AllZip IsCopy ms ns → files_of ns ≡ files_of ms
copies [] [] same = refl
copies [] (n ∷ ns) same = absurd same
copies (m ∷ ms) [] same = absurd same
copies (m ∷ ms) (n ∷ ns) same = ap (λ (fs : Files). insert fs n.name (file_of n)) (copies ms ns same.1) ∙ ap (λ (e : ℕ × File). insert (files_of ms) e.0 e.1) same.0
