-- What opening a catalogue learns of main's bytes.
use Rattle.std.proofs.Common.{◌≡◌, inl, inr, ℕ, List, [], length, take, Ok, Err, sym, ap, subst, ◌∙◌, arith}
use Rattle.std.proofs.lemmas.Bool.{cases_lt}
use Rattle.std.proofs.Math.Seq.{take-length}
use Rattle.grid_outside.specs.Disk.{ReadsAt}
use Rattle.frame_log.specs.Log.{IsLog}
use Rattle.frame_log.specs.Extent.{Extent, IsLogOf, extent_of, placed, bodies}
use Rattle.grid_model.specs.Names.{Text}
use Rattle.grid_model.specs.Rows.{Cat, empty_cat}
use Rattle.grid_model.specs.Applying.{apply_all}
use Rattle.grid_model.specs.declared.grid.Side.{Side}
use Rattle.grid_model.specs.declared.grid.Side.TheVariants.{Main}
use Rattle.grid_journal.specs.declared.error.JournalError.{JournalError}
use Rattle.grid_journal.specs.declared.error.JournalError.TheVariants as error
use Rattle.grid_journal.specs.Journal.{Journal, Keeps}
use Rattle.grid_journal.specs.Stands.{HasHead, NoHead, Replays, Stands, no_catalogue, no_zone, stands}
use Rattle.grid_journal.specs.Replaying.{HasCatalogue, NoCatalogue, at_fault, no_zone as without_zone, IsUnread}
use Rattle.grid_journal.proofs.HeadLemmas.{take_take, same_head, same_fault}

-- ---- the head

-- what was read at the front has main's first bytes
front_read : (main buf : Text) (count : ℕ) → length buf ≡ 9 → ReadsAt main 0 count buf → take 9 (take count buf) ≡ take 9 main
front_read main buf count size reads = elim (cases_lt (length main) 9) [
  | inl short ↦
      let all : count ≡ length main = omega (arith, reads.count_is) in
      ap (take 9) (reads.same ∙ ap (λ n. take n main) all ∙ take-length main)
  | inr long ↦
      let nine : count ≡ 9 = omega (arith, reads.count_is) in
      ap (take 9) (reads.same ∙ ap (λ n. take n main) nine) ∙ take_take 9 9 main (omega arith)
]

pub head_read : (main buf : Text) (count : ℕ) → length buf ≡ 9 → ReadsAt main 0 count buf → HasHead (take count buf) → HasHead main
head_read main buf count size reads h = same_head 9 (omega arith) (take count buf) main (front_read main buf count size reads) h

pub fault_read : (main buf : Text) (count at : ℕ) → length buf ≡ 9 → ReadsAt main 0 count buf → NoHead (take count buf) at → NoHead main at
fault_read main buf count at size reads h = same_fault 9 (omega arith) (take count buf) main (front_read main buf count size reads) at h

-- ---- refusals

pub told_at : (main other : Text) (e : JournalError) (side : Side) (at place : ℕ) → e ≡ error.NotACatalogue Main place → e ≡ error.NotACatalogue side at
    → Stands main other (Err (Main, place)) → Stands main other (Err (side, at))
told_at main other e side at place is told h =
    let same : error.NotACatalogue Main place ≡ error.NotACatalogue side at = sym is ∙ told in
    let n : place ≡ at = cc in
    let s : Main ≡ side = cc in
    let P : ℕ → Type 0 = λ k. Stands main other (Err (Main, k)) in
    let Q : Side → Type 0 = λ k. Stands main other (Err (k, at)) in
    subst Q s (subst P n h)

pub unread_at : (main other : Text) (rs : List (ℕ × Text)) (e : JournalError) (side : Side) (at : ℕ) → HasHead main → rs ≡ placed 16 (bodies rs) → IsLog 16 (bodies rs) main
    → IsUnread rs e → e ≡ error.NotACatalogue side at → Stands main other (Err (side, at))
unread_at main other rs e side at head places log unread is = by (subst (IsUnread rs) is unread)
  where
    found : (place : ℕ) → NoCatalogue rs place → Stands main other (Err (Main, place))
    found place (at_fault r) =
        let P : List (ℕ × Text) → Type 0 = λ l. Replays empty_cat l (Err place) in
        no_catalogue (bodies rs) place head log (subst P places r)
    found place (without_zone c r none sixteen) =
        let P : List (ℕ × Text) → Type 0 = λ l. Replays empty_cat l (Ok c) in
        let Q : ℕ → Type 0 = λ k. Stands main other (Err (Main, k)) in
        subst Q (sym sixteen) (no_zone (bodies rs) c head log (subst P places r) none)

    by : (side ≡ Main) × NoCatalogue rs at → Stands main other (Err (side, at))
    by h = let Q : Side → Type 0 = λ k. Stands main other (Err (k, at)) in subst Q (sym h.0) (found at h.1)

-- ---- the catalogue

pub read_stands : (main other : Text) (rs : List (ℕ × Text)) (c : Cat) → HasHead main → rs ≡ placed 16 (bodies rs) → IsLog 16 (bodies rs) main → HasCatalogue rs c → Stands main other (Ok c)
read_stands main other rs c head places log found =
    let P : List (ℕ × Text) → Type 0 = λ l. Replays empty_cat l (Ok c) in
    stands (bodies rs) c head log (subst P places found.replays) found.zone

pub read_keeps : (main : Text) (rs : List (ℕ × Text)) (journal : Journal) → HasHead main → rs ≡ placed 16 (bodies rs) → IsLogOf journal.log (bodies rs) main → journal.log ≡ extent_of 16 (bodies rs)
    → HasCatalogue rs journal.cat → journal.staged ≡ [] → Keeps journal.cat journal main
read_keeps main rs journal head places log extent found empty =
    let P : List (ℕ × Text) → Type 0 = λ l. Replays empty_cat l (Ok journal.cat) in
    record {
      records = bodies rs;
      head = head;
      base = ap (λ (e : Extent). e.base) extent;
      log = log;
      replays = subst P places found.replays;
      zone = found.zone;
      staged = ap (apply_all journal.cat) empty;
    }
