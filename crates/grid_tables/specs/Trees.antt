-- Rows in a tree, each under its number.
use Rattle.std.specs.Prelude.{◌≡◌, ℕ, Bool, List}
use Rattle.std.specs.List.{AllByRecursion}
use Rattle.std.specs.Map.{values_of}
use Rattle.std.specs.declared.cmp.Ordering.{Ordering}
use Rattle.grid_model.specs.Rows.{IsTable}

-- each row stands under its number, and the rows are a table
pub record IsByNumber {X : Type 0} (number : X → ℕ) (cmp : X → X → Ordering) (fits : X → Bool) (entries : List (ℕ × X)) : Type 0 where
  pub keys : AllByRecursion (λ e. e.0 ≡ number e.1) entries
  pub table : IsTable cmp fits (values_of entries)
