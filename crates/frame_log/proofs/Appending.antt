-- What a stop may leave of a disk in an append, whose writes are each synced.
use Rattle.std.proofs.Common.{◌≡◌, ℕ, ◌+◌, ◌≤◌, ⊎_elim, IsTrue, List, [], ◌∷◌, ◌++◌, length, arith, sym, subst, ap, ◌∙◌, length-append, length-drop}
use Rattle.grid_outside.specs.Device.{Between, IsSettled, Leaves}
use Rattle.grid_outside.specs.Disk.{DiskState, Holds, Torn}
use Rattle.grid_outside.proofs.Spans.{since_settled, either_stretch, widens, goes_on}
use Rattle.frame_log.proofs.Adding.{closed, behind, opening, opened, grown_log}
use Rattle.frame_log.proofs.Torn.{torn_wider, torn_on}
use Rattle.frame_log.specs.Extent.{Extent, IsLogOf, grown}
use Rattle.frame_log.specs.Log.{IsShort, IsOldOrNew, frames}

-- a log's closing gate stands before the end
pub gate_within : (log : Extent) (records : List (List ℕ)) (bytes : List ℕ) → IsLogOf log records bytes → log.gate + 1 ≤ length bytes
gate_within log records bytes of =
    let gate : log.gate ≡ log.base + length (frames records) = ap (λ (x : Extent). x.gate) of.extent in
    omega (arith, gate, length-drop log.base bytes, ap length of.is_log.is, length-append (frames records) (of.is_log.gate ∷ of.is_log.rest))

module _ (log : Extent) (gate : ℕ) (gate_is : log.gate ≡ gate) (body : List ℕ) (n : ℕ) (n_is : n ≡ length body + 9) (a b : ℕ) (old mid : DiskState) (first : Between a b (Torn (gate + 1) n) old mid) where
  -- the range of both writes
  pub first_span : Between a b (Torn log.gate (length body + 10)) old mid
  first_span = widens a b (Torn (gate + 1) n) (Torn log.gate (length body + 10)) old mid (torn_wider (gate + 1) n log.gate (length body + 10) (omega arith) (omega arith)) first

  module _ (records : List (List ℕ)) (short : IsShort body) (last : old.last ≤ a) (tells : IsTrue old.tells) (of : IsLogOf log records old.holds) where
    place : gate ≡ log.base + length (frames records)
    place = sym gate_is ∙ ap (λ (x : Extent). x.gate) of.extent

    -- until the first sync
    pub first_moments : IsSettled old → Leaves a (IsOldOrNew log.base records body old.holds) mid
    first_moments settled t image late left = behind log.base records body old.holds short of.is_log gate place n image (since_settled a b (Torn (gate + 1) n) old mid tells settled last first t image late left)

    pub first_holds : IsOldOrNew log.base records body old.holds mid.holds
    first_holds = behind log.base records body old.holds short of.is_log gate place n mid.holds (first.holds tells)

    module _ (c : ℕ) (new : DiskState) (second : Between b c (Torn gate 1) mid new) (held : Holds (gate + 1) (closed body) old.holds mid.holds) where
      pub both_moments : IsSettled old → IsSettled mid → Leaves a (IsOldOrNew log.base records body old.holds) new
      both_moments settled mid_settled t image late left =
          ⊎_elim
          (λ torn. behind log.base records body old.holds short of.is_log gate place n image torn)
          (λ torn. opening log.base records body old.holds short of.is_log gate place mid.holds held image torn)
          (either_stretch a b c (Torn (gate + 1) n) (Torn gate 1) old mid new tells settled last mid_settled first second t image late left)

      pub both_hold : IsOldOrNew log.base records body old.holds new.holds
      both_hold = opening log.base records body old.holds short of.is_log gate place mid.holds held new.holds (second.holds (subst IsTrue (sym first.tells) tells))

      pub added : Holds gate (1 ∷ []) mid.holds new.holds → IsLogOf (grown log (length body)) (records ++ body ∷ []) new.holds
      added is_open = grown_log log records body old.holds new.holds of (opened log.base records body old.holds short of.is_log gate place mid.holds held new.holds is_open)

  pub both_span : (c : ℕ) (new : DiskState) → a ≤ b → b ≤ c → Between b c (Torn gate 1) mid new → Between a c (Torn log.gate (length body + 10)) old new
  both_span c new ab bc second =
      let wide : Between b c (Torn log.gate (length body + 10)) mid new =
      widens b c (Torn gate 1) (Torn log.gate (length body + 10)) mid new (torn_wider gate 1 log.gate (length body + 10) (omega arith) (omega arith)) second in
      goes_on a b c (Torn log.gate (length body + 10)) (Torn log.gate (length body + 10)) (Torn log.gate (length body + 10)) old mid new ab bc (λ x y h. h) (torn_on log.gate (length body + 10)) first_span wide
