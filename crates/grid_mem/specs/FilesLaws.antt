-- The laws of files by their names. Proofs: no contract cites them.
use Rattle.std.specs.Ordering.{nat_cmp, eq_by_cmp}
use Rattle.std.specs.FinMap.{insert, remove, get, get-insert, get-remove, same_map, nat_cmp-IsAntisymmetric}
use Rattle.std.proofs.Common.{◌≡◌, ◌≢◌, ℕ, Bool, true, false, Some, None, cond, arith, ap, ◌∙◌}
use Rattle.std.proofs.lemmas.Bool.Decides.{nat_tests}
use Rattle.std.proofs.lemmas.Cmp.{nat_cmp_total}
use Rattle.grid_outside.specs.Files.{File, Files, file_at}

same_key : (name : ℕ) → eq_by_cmp nat_cmp name name ≡ true
same_key name = grind (arith, nat_tests)

other_key : (other name : ℕ) → other ≢ name → eq_by_cmp nat_cmp other name ≡ false
other_key other name not_same = grind (arith, nat_tests)

pub at_same : (files : Files) (name : ℕ) (f : File) → file_at (insert files name f) name ≡ Some f
at_same files name f = get-insert nat_cmp_total files name f name ∙ ap (λ (b : Bool). cond b (Some f) (get files name)) (same_key name)

pub at_other : (files : Files) (name other : ℕ) (f : File) → other ≢ name → file_at (insert files name f) other ≡ file_at files other
at_other files name other f not_same =
    get-insert nat_cmp_total files name f other ∙ ap (λ (b : Bool). cond b (Some f) (get files other)) (other_key other name not_same)

pub at_removed : (files : Files) (name : ℕ) → file_at (remove files name) name ≡ None
at_removed files name = get-remove nat_cmp_total files name name ∙ ap (λ (b : Bool). cond b None (get files name)) (same_key name)

pub at_kept : (files : Files) (name other : ℕ) → other ≢ name → file_at (remove files name) other ≡ file_at files other
at_kept files name other not_same = get-remove nat_cmp_total files name other ∙ ap (λ (b : Bool). cond b None (get files other)) (other_key other name not_same)

-- files that are alike at each name are equal
pub same_files : (a b : Files) → ((name : ℕ) → file_at a name ≡ file_at b name) → a ≡ b
same_files = same_map nat_cmp_total nat_cmp-IsAntisymmetric
