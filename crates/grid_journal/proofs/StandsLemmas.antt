-- What two disks stand for is one thing.
use Rattle.std.proofs.Common.{◌≡◌, ◌⊎◌, inl, inr, ℕ, List, Some, None, Result, Ok, Err, refl, ap, subst}
use Rattle.std.specs.Prelude.{Option, IsSome}
use Rattle.frame_log.specs.Log.{IsLog, IsBroken, log_of, no_log}
use Rattle.frame_log.specs.Extent.{placed}
use Rattle.frame_log.proofs.Reading.{reads_as_log, reads_as_none}
use Rattle.grid_model.specs.Names.{Text}
use Rattle.grid_model.specs.Rows.{Cat, empty_cat}
use Rattle.grid_model.specs.declared.grid.Side.{Side}
use Rattle.grid_model.specs.declared.grid.Side.TheVariants.{Main}
use Rattle.grid_journal.specs.Stands.{HasHead, NoHead, Replays, Stands, no_head, no_log as broken, no_catalogue, no_zone, stands}
use Rattle.grid_journal.proofs.HeadLemmas.{NoHead-unique, not_both}
use Rattle.grid_journal.proofs.ReplayLemmas.{Replays-same}
use Rattle.grid_journal.proofs.DeltaLemmas.{ok_same}

-- a log is one list of records, and then there is none broken off
one_log : (main : Text) (xs ys : List Text) → IsLog 16 xs main → IsLog 16 ys main → ys ≡ xs
one_log main xs ys a b = let e : log_of ys ≡ log_of xs = (reads_as_log 16 main xs a).only (log_of ys) b in cc

not_broken : (main : Text) (xs : List Text) (at : ℕ) → IsLog 16 xs main → IsBroken 16 at main → ⊥
not_broken main xs at a b = let e : no_log at ≡ log_of xs = (reads_as_log 16 main xs a).only (no_log at) b in cc

one_place : (main : Text) (m n : ℕ) → IsBroken 16 m main → IsBroken 16 n main → n ≡ m
one_place main m n a b = let e : no_log n ≡ no_log m = (reads_as_none 16 main m a).only (no_log n) b in cc

some_or_none : (o : Option Text) → IsSome o → o ≡ None → ⊥
some_or_none None some none = cc
some_or_none (Some x) some none = cc

-- of the same log the same is replayed
same_replay : (main : Text) (xs ys : List Text) (one other : Result Cat ℕ) → IsLog 16 xs main → IsLog 16 ys main
    → Replays empty_cat (placed 16 xs) one → Replays empty_cat (placed 16 ys) other → other ≡ one
same_replay main xs ys one other a b r s =
    let P : List Text → Type 0 = λ l. Replays empty_cat (placed 16 l) other in
    Replays-same r (subst P (one_log main xs ys a b) s)

when_no_zone : {other : Result Cat (Side × ℕ)} (c : Cat) → c.zone ≡ None
    → ((c.zone ≡ None) × (other ≡ Err (Main, 16))) ⊎ (IsSome c.zone × (other ≡ Ok c)) → other ≡ Err (Main, 16)
when_no_zone c none (inl found) = found.1
when_no_zone c none (inr found) = absurd (some_or_none c.zone found.0 none)

when_zone : {other : Result Cat (Side × ℕ)} (c : Cat) → IsSome c.zone
    → ((c.zone ≡ None) × (other ≡ Err (Main, 16))) ⊎ (IsSome c.zone × (other ≡ Ok c)) → other ≡ Ok c
when_zone c some (inl found) = absurd (some_or_none c.zone some found.0)
when_zone c some (inr found) = found.1

module _ {main spare : Text} where
  when_no_head : {other : Result Cat (Side × ℕ)} (at : ℕ) → NoHead main at → Stands main spare other → other ≡ Err (Main, at)
  when_no_head at h (no_head place k) = ap (λ n. Err (Main, n)) (NoHead-unique main at place h k)
  when_no_head at h (broken place k l) = absurd (not_both main at k h)
  when_no_head at h (no_catalogue records place k l r) = absurd (not_both main at k h)
  when_no_head at h (no_zone records c k l r z) = absurd (not_both main at k h)
  when_no_head at h (stands records c k l r z) = absurd (not_both main at k h)

  when_broken : {other : Result Cat (Side × ℕ)} (at : ℕ) → HasHead main → IsBroken 16 at main → Stands main spare other → other ≡ Err (Main, at)
  when_broken at h b (no_head place k) = absurd (not_both main place h k)
  when_broken at h b (broken place k l) = ap (λ n. Err (Main, n)) (one_place main at place b l)
  when_broken at h b (no_catalogue records place k l r) = absurd (not_broken main records at l b)
  when_broken at h b (no_zone records c k l r z) = absurd (not_broken main records at l b)
  when_broken at h b (stands records c k l r z) = absurd (not_broken main records at l b)

  when_fault : {other : Result Cat (Side × ℕ)} (xs : List Text) (at : ℕ) → HasHead main → IsLog 16 xs main → Replays empty_cat (placed 16 xs) (Err at)
      → Stands main spare other → other ≡ Err (Main, at)
  when_fault xs at h b r (no_head place k) = absurd (not_both main place h k)
  when_fault xs at h b r (broken place k l) = absurd (not_broken main xs place b l)
  when_fault xs at h b r (no_catalogue records place k l s) =
      let e : Err place ≡ Err at = same_replay main xs records (Err at) (Err place) b l r s in
      let n : place ≡ at = cc in
      ap (λ n. Err (Main, n)) n
  when_fault xs at h b r (no_zone records c k l s z) = let e : Ok c ≡ Err at = same_replay main xs records (Err at) (Ok c) b l r s in cc
  when_fault xs at h b r (stands records c k l s z) = let e : Ok c ≡ Err at = same_replay main xs records (Err at) (Ok c) b l r s in cc

  when_replayed : {other : Result Cat (Side × ℕ)} (xs : List Text) (c : Cat) → HasHead main → IsLog 16 xs main → Replays empty_cat (placed 16 xs) (Ok c)
      → Stands main spare other → ((c.zone ≡ None) × (other ≡ Err (Main, 16))) ⊎ (IsSome c.zone × (other ≡ Ok c))
  when_replayed xs c h b r (no_head place k) = absurd (not_both main place h k)
  when_replayed xs c h b r (broken place k l) = absurd (not_broken main xs place b l)
  when_replayed xs c h b r (no_catalogue records place k l s) = let e : Err place ≡ Ok c = same_replay main xs records (Ok c) (Err place) b l r s in cc
  when_replayed xs c h b r (no_zone records found k l s z) =
      let same = ok_same found c (same_replay main xs records (Ok c) (Ok found) b l r s) in
      let P : Cat → Type 0 = λ x. x.zone ≡ None in
      inl (subst P same z, refl)
  when_replayed xs c h b r (stands records found k l s z) =
      let same = ok_same found c (same_replay main xs records (Ok c) (Ok found) b l r s) in
      let P : Cat → Type 0 = λ x. IsSome x.zone in
      inr (subst P same z, ap (λ x. Ok x) same)

pub Stands-same : (main spare : Text) (one other : Result Cat (Side × ℕ)) → Stands main spare one → Stands main spare other → other ≡ one
Stands-same main spare one other (no_head place k) s = when_no_head place k s
Stands-same main spare one other (broken place k l) s = when_broken place k l s
Stands-same main spare one other (no_catalogue records place k l r) s = when_fault records place k l r s
Stands-same main spare one other (no_zone records c k l r z) s = when_no_zone c z (when_replayed records c k l r s)
Stands-same main spare one other (stands records c k l r z) s = when_zone c z (when_replayed records c k l r s)
