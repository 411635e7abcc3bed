-- Which calls of a device are to fail.
use Rattle.std.specs.Prelude.{◌≡◌, ◌↔◌, ◌⊎◌, ℕ, ◌+◌, ◌-◌, ◌^◌, ◌==◌, min, Bool, List, Result, IsTrue, IsErr, OnOk, OnErr}
use Rattle.std.specs.List.{list_any}
use Rattle.grid_mem.specs.declared.schedule.Schedule.{Schedule}

-- The number of the next call, from 1. It stands still at its type's end.
abbrev pub next_number : Schedule → ℕ
next_number s = min (s.made + 1) (2 ^ 64 - 1)

-- whether the next call is to fail
abbrev pub is_listed : Schedule → Bool
is_listed s = list_any (λ number. number == next_number s) s.fails.items

-- no call was made, and those of these numbers are to fail
pub record IsFresh (fails : List ℕ) (s : Schedule) : Type 0 where
  pub listed : s.fails.items ≡ fails
  pub none : s.made ≡ 0

-- one call was counted
pub record Counts (old new : Schedule) : Type 0 where
  pub made : new.made ≡ next_number old
  pub fails : new.fails.items ≡ old.fails.items

-- one call was counted, and it failed if it was to fail
pub record FailsIfListed {T E : Type 0} (old new : Schedule) (result : Result T E) : Type 0 where
  pub counts : Counts old new
  pub listed : IsTrue (is_listed old) → IsErr result

-- one call was counted, and it failed exactly if it was to fail
pub record FailsAsListed {T E : Type 0} (old new : Schedule) (result : Result T E) : Type 0 where
  pub counts : Counts old new
  pub listed : IsErr result ↔ IsTrue (is_listed old)

-- one call was counted, and it failed exactly if it was to fail or for that cause
pub record FailsIfListedOr {T E : Type 0} (old new : Schedule) (cause : Type 0) (result : Result T E) : Type 0 where
  pub counts : Counts old new
  pub listed : IsTrue (is_listed old) → IsErr result
  pub caused : cause → IsErr result
  pub only : IsErr result → IsTrue (is_listed old) ⊎ cause

-- the count of faults rose by one where the call failed, up to its type's end, and stands where it was done
pub record CountsFaults {T E : Type 0} (before now : ℕ) (result : Result T E) : Type 0 where
  pub done : OnOk result (now ≡ before)
  pub failed : OnErr result (now ≡ min (before + 1) (2 ^ 64 - 1))
