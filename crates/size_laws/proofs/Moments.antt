-- What is small takes few moments, and how many a deed takes at most goes from one grid to another.
use Rattle.std.proofs.Common.{ℕ, ◌+◌, ◌*◌, ◌^◌, ◌≤◌, Bool, true, false, cond, List, [], ◌∷◌, length, arith}
use Rattle.std.specs.Prelude.{◌==◌, filter}
use Rattle.std.proofs.lemmas.Nat.{div_below, mul-le}
use Rattle.grid_model.specs.Limits.{object_size}
use Rattle.grid_model.specs.DataLines.{parts}
use Rattle.grid_model.specs.Grid.{Grid}
use Rattle.grid_model.specs.Rows.{Cat}
use Rattle.grid_model.specs.RowGrids.{grid_of}
use Rattle.grid_model.specs.Applying.{IsMade, is_storage}
use Rattle.grid_model.specs.declared.deltas.ResourceRow.{ResourceRow}
use Rattle.tables_laws.proofs.Rows.{in_from_all, in_from_find}
use Rattle.grid_model.specs.declared.deltas.ObjectRow.{ObjectRow}
use Rattle.size_laws.specs.Moments.{FilesTakeFew, FoundAreSmall, PartsAreFew}
use Rattle.size_laws.specs.Within.{IsWithin, TakesAtMost, few, many}
use Rattle.size_laws.proofs.SmallTables.{rows_are_small}

-- ---- at most so many

-- where the one grid is within the limits if the other is
pub takes_where : (g h : Grid) (n : ℕ) → (IsWithin g → IsWithin h) → TakesAtMost g n → TakesAtMost h n
takes_where g h n so (few w) = few (so w)
takes_where g h n so many = many

-- never more than many
pub takes_below : (g : Grid) (n : ℕ) → TakesAtMost g n → n ≤ 2 ^ 65
takes_below g n (few w) = omega arith
takes_below g n many = omega arith

-- never fewer than few
pub takes_some : (g : Grid) (n : ℕ) → TakesAtMost g n → 2 ^ 20 ≤ n
takes_some g n (few w) = omega arith
takes_some g n many = omega arith

-- what is never more than many, and few within the limits, is no more than a deed takes
pub takes_so : (g : Grid) (n drawn : ℕ) → drawn ≤ 2 ^ 65 → (IsWithin g → drawn ≤ 2 ^ 20) → TakesAtMost g n → drawn ≤ n
takes_so g n drawn never within (few w) = within w
takes_so g n drawn never within many = never

-- ---- parts and files

pub parts_are_few : PartsAreFew
parts_are_few size small =
    let below = div_below (size + 65535) 65536 257 (omega arith) (omega (arith, small)) in
    omega (arith, below)

kept_few : {X : Type 0} (p : X → Bool) (xs : List X) → length (filter p xs) ≤ length xs
kept_few p [] = omega arith
kept_few p (x ∷ xs) =
    let rest = kept_few p xs in
    elim (p x) as (λ b. length (cond b (x ∷ filter p xs) (filter p xs)) ≤ length (x ∷ xs)) [ true ↦ omega (arith, rest) | false ↦ omega (arith, rest) ]

pub files_take_few : FilesTakeFew
files_take_few c files size made w leaves small =
    let rows = (rows_are_small c made w).2 in
    let kept = kept_few (λ (r : ResourceRow). is_storage r.kind) c.resources in
    let parted = parts_are_few size small in
    let product = mul-le files (2 + parts size) 256 258 (omega (arith, rows, kept, leaves)) (omega (arith, parted)) in
    omega (arith, product)

-- the same whatever the grid, where it is never more than many
pub files_take : (c : Cat) (files size n : ℕ) → IsMade c → files * (2 + parts size) + 8 ≤ 2 ^ 65
    → files ≤ length (filter (λ (r : ResourceRow). is_storage r.kind) c.resources) → (IsWithin (grid_of c) → size ≤ object_size) → TakesAtMost (grid_of c) n
    → files * (2 + parts size) + 8 ≤ n
files_take c files size n made never leaves small most =
    takes_so (grid_of c) n (files * (2 + parts size) + 8) never (λ w. files_take_few c files size made w leaves (small w)) most

-- ---- rows

pub found_are_small : FoundAreSmall
found_are_small c id o made w found =
    in_from_all (λ (r : ObjectRow). r.size ≤ object_size) c.objects (rows_are_small c made w).1 o (in_from_find (λ r. r.id == id) c.objects o found).0
