-- Where a key belongs among rows in the order of their keys, and what stands there.
use Rattle.std.specs.Prelude.{◌≡◌, ℕ, ◌<◌, ◌≤◌, Bool, true, false, List, length, slice_index_or, Option, None, Some, Result, MatchResult}
use Rattle.std.specs.List.{HoldsAt}
use Rattle.std.specs.List.Sorted.{IsPartitionPoint}
use Rattle.std.specs.declared.cmp.Ordering.{Ordering}
use Rattle.std.specs.Ordering.{is_eq, is_gt, ordering_index}
use Rattle.std.specs.declared.cmp.Ordering.TheVariants.{Less, Equal, Greater}

-- at the row that has it, or behind all rows with smaller keys and before all with greater ones
abbrev pub IsPlace : {X : Type 0} → (X → Ordering) → List X → Result ℕ ℕ → Type 0
IsPlace {X} key rows place = MatchResult place
    (λ i. (i < length rows) × HoldsAt (λ r. key r ≡ Equal) rows i × ((k : ℕ) → k < i → HoldsAt (λ r. key r ≡ Greater) rows k))
    (λ i. (i ≤ length rows) × (i < length rows → HoldsAt (λ r. key r ≡ Less) rows i) × ((k : ℕ) → k < i → HoldsAt (λ r. key r ≡ Greater) rows k))

-- whether a row was found, and passes
abbrev pub passes : {X : Type 0} → (X → Bool) → Option X → Bool
passes test None = false
passes test (Some x) = test x

-- rows behind a key stand first, those at it next, and those before it last
abbrev pub Falls : {X : Type 0} → (X → Ordering) → List X → Type 0
Falls {X} key rows = (i j : ℕ) (d : X) → i ≤ j → j < length rows
    → ordering_index (key (slice_index_or rows j d)) ≤ ordering_index (key (slice_index_or rows i d))

-- so many rows from the front on are before a key
abbrev pub StartsAt : {X : Type 0} → (X → Ordering) → List X → ℕ → Type 0
StartsAt key rows count = IsPartitionPoint (λ r. is_gt (key r) ≡ true) (λ r. is_gt (key r) ≡ false) rows count

-- so many rows from the front on are at it
abbrev pub RowsAtFront : {X : Type 0} → (X → Ordering) → List X → ℕ → Type 0
RowsAtFront key rows count = IsPartitionPoint (λ r. is_eq (key r) ≡ true) (λ r. is_eq (key r) ≡ false) rows count
