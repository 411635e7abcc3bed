-- Rows in lists, one for each group of rows.
use Rattle.std.specs.Prelude.{◌≡◌, ℕ, length, Bool, List, [], ◌∷◌, ◌++◌, unwrap_or, Option, None, Some, filter, not, ◌⊎◌}
use Rattle.std.specs.List.{AllByRecursion}
use Rattle.std.specs.List.Sorted.{IsStrictlySortedBy}
use Rattle.std.specs.Map.{keys_of, lookup, remove_entry, set_value}
use Rattle.std.specs.BTreeMap.{insert_entry, is_at}
use Rattle.std.specs.Option.{IsSome}
use Rattle.std.specs.Ordering.{nat_cmp, ordering_then}
use Rattle.std.specs.Cmp.{IsTotalOrder, nat_cmp_total, on_total, then_total}
use Rattle.std.specs.declared.cmp.Ordering.TheVariants.{Less, Equal}
use Rattle.std.specs.declared.cmp.Ordering.{Ordering}
use Rattle.grid_model.specs.Rows.{IsTable, with_row}
use Rattle.grid_tables.specs.KeyOrders.{first_tie, rest_tie, number_whole}

-- the number of a group: first of the kind of an item, and then of the item
abbrev pub GroupId : Type 0
GroupId = ℕ × ℕ

abbrev pub group_id_cmp : GroupId → GroupId → Ordering
group_id_cmp a b = ordering_then (nat_cmp a.0 b.0) (nat_cmp a.1 b.1)

pub group_id_total : IsTotalOrder group_id_cmp
group_id_total = then_total (on_total (λ (p : GroupId). p.0) nat_cmp_total) (on_total (λ (p : GroupId). p.1) nat_cmp_total)

pub group_id_whole : (a b : GroupId) → group_id_cmp a b ≡ Equal → a ≡ b
group_id_whole a b e =
    let kind = number_whole a.0 b.0 (first_tie (nat_cmp a.0 b.0) (nat_cmp a.1 b.1) e) in
    let item = number_whole a.1 b.1 (rest_tie (nat_cmp a.0 b.0) (nat_cmp a.1 b.1) e) in
    λ i. (kind i, item i)

-- the list of a group
abbrev pub list_of_group : {X : Type 0} → GroupId → List (GroupId × List X) → List X
list_of_group group lists = unwrap_or (lookup (is_at (group_id_cmp group)) lists) []

-- the rows of all lists, in the order of their groups
abbrev pub rows_of_lists : {X : Type 0} → List (GroupId × List X) → List X
rows_of_lists [] = []
rows_of_lists (e ∷ lists) = e.1 ++ rows_of_lists lists

-- Each row stands in the list of its group, and the rows are a table.
pub record IsInGroups {X : Type 0} (group : X → GroupId) (cmp : X → X → Ordering) (fits : X → Bool) (lists : List (GroupId × List X)) : Type 0 where
  pub own : AllByRecursion (λ e. AllByRecursion (λ r. group r ≡ e.0) e.1) lists
  pub rising : IsStrictlySortedBy group_id_cmp (keys_of lists)
  pub table : IsTable cmp fits (rows_of_lists lists)

-- So many rows stand in the lists.
pub record AreCounted {X : Type 0} (group : X → GroupId) (cmp : X → X → Ordering) (fits : X → Bool) (lists : List (GroupId × List X)) (count : ℕ) : Type 0 where
  pub groups : IsInGroups group cmp fits lists
  pub counted : count ≡ length (rows_of_lists lists)

-- no group is below the only one
pub only_group : {P : Type 0} → group_id_cmp (0, 0) (0, 0) ≡ Less → P
only_group low = absurd (cc)

-- A row was put in the list of its group, or in a new one.
abbrev pub IsPutIn : {X : Type 0} → (X → X → Ordering) → GroupId → X → List (GroupId × List X) → List (GroupId × List X) → Type 0
IsPutIn cmp group row old new =
    ((lookup (is_at (group_id_cmp group)) old ≡ None) × (new ≡ insert_entry group_id_cmp old group (row ∷ [])))
    ⊎ (IsSome (lookup (is_at (group_id_cmp group)) old) × (new ≡ set_value (is_at (group_id_cmp group)) old (with_row cmp (list_of_group group old) row)))

-- The row with a key was taken out of the list of a group.
abbrev pub IsTakenOut : {X : Type 0} → (X → Bool) → GroupId → List (GroupId × List X) → List (GroupId × List X) → Type 0
IsTakenOut has_key group old new = new ≡ set_value (is_at (group_id_cmp group)) old (filter (λ r. not (has_key r)) (list_of_group group old))

-- Nothing changed, but for the list of a group in which nothing stood.
abbrev pub IsWithoutEmpty : {X : Type 0} → GroupId → List (GroupId × List X) → List (GroupId × List X) → Type 0
IsWithoutEmpty group old new = (new ≡ old) ⊎ ((list_of_group group old ≡ []) × (new ≡ remove_entry (is_at (group_id_cmp group)) old))
