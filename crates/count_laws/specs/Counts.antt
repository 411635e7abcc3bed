-- How many rows, leaves and vault numbers there are: what changes leave of the leaves, and that rows are no more than numbers.
use Rattle.std.specs.Prelude.{◌≡◌, ℕ, ◌+◌, ◌*◌, ◌-◌, ◌≤◌, ◌==◌, List, length, Ok, IsTrue}
use Rattle.std.specs.List.{AllByRecursion, IsDistinct}
use Rattle.grid_model.specs.Rows.{Cat}
use Rattle.grid_model.specs.Applying.{IsMade, apply_all, is_leaf}
use Rattle.grid_model.specs.declared.deltas.Delta.{Delta}
use Rattle.grid_headline.specs.Numbers.{KeepsNumbers, AddsFew, leaf_count, row_count}

-- no change takes a leaf away
abbrev pub LeavesStay : Type 0
LeavesStay = (c : Cat) (deltas : List Delta) (after : Cat) → apply_all c deltas ≡ Ok after → leaf_count c ≤ leaf_count after

-- leaves that differ from one another are no more than there are leaves
abbrev pub LeavesAreFew : Type 0
LeavesAreFew = (c : Cat) (leaves : List ℕ) → AllByRecursion (λ id. IsTrue (is_leaf c id)) leaves → IsDistinct (λ (a b : ℕ). a == b) leaves
    → length leaves ≤ leaf_count c

-- where old numbers are not given again, there are at most as many more rows that name files as numbers were given since
abbrev pub RowsAreFew : Type 0
RowsAreFew = (c after : Cat) → IsMade after → KeepsNumbers c after → row_count after ≤ row_count c + (after.numbers.next_vault - c.numbers.next_vault)

-- and few more for so many marks, where few more numbers were given
abbrev pub FewByNumbers : Type 0
FewByNumbers = (c after : Cat) (marks : ℕ) → IsMade after → KeepsNumbers c after
    → after.numbers.next_vault ≤ c.numbers.next_vault + marks * leaf_count after → AddsFew c after marks
