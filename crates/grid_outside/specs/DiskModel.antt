-- The rules of a disk in whole words: what a stop may leave, by what was done since the last sync that answered Ok.
-- The rules are this project's own. A call that failed counts as one that was done, since it may have done any part.
-- That the steps `Torn`, `Cut` and `Same`, taken one after another, leave exactly this is proved over a record of
-- calls in the crate with the devices in memory.
use Rattle.std.specs.Prelude.{◌≡◌, ℕ, ◌+◌, ◌<◌, ◌≤◌, min, max, Bool, false, ◌&&◌, ◌||◌, List, [], ◌∷◌, length, slice_get, nat_le, nat_lt}
use Rattle.std.specs.List.{list_any}

-- what was done since the last sync that answered Ok
pub record Unsynced : Type 0 where
  -- the bytes at that sync
  pub synced : List ℕ
  -- the ranges that were written since, each by its first place and how many bytes
  pub written : List (ℕ × ℕ)
  -- the shortest and the longest length that the file may have had since
  pub shortest : ℕ
  pub longest : ℕ

-- this place may hold any byte: it was written since, or lies past the length at that sync
abbrev pub is_loose : Unsynced → ℕ → Bool
is_loose u k = nat_le (length u.synced) k || list_any (λ r. nat_le r.0 k && nat_lt k (r.0 + r.1)) u.written

-- A stop may leave these bytes: the file ends anywhere from the shortest to the longest length, and bytes that are
-- not loose stay.
pub record MayLeave (u : Unsynced) (image : List ℕ) : Type 0 where
  pub no_shorter : u.shortest ≤ length image
  pub no_longer : length image ≤ u.longest
  pub others_stay : (k : ℕ) → k < length image → is_loose u k ≡ false → slice_get image k ≡ slice_get u.synced k

-- after a sync that answered Ok nothing is loose below the end
abbrev pub synced_at : List ℕ → Unsynced
synced_at bytes = record { synced = bytes; written = []; shortest = length bytes; longest = length bytes }

-- a write, done or failed
abbrev pub after_write : ℕ → ℕ → Unsynced → Unsynced
after_write at n u = record u { written = (at, n) ∷ u.written; longest = max u.longest (at + n) }

-- a cut, done or failed
abbrev pub after_cut : ℕ → Unsynced → Unsynced
after_cut n u = record u { shortest = min u.shortest n }
