-- Whether there is room for a run.
use Rattle.std.proofs.Common.{◌≡◌, ◌≢◌, ◌≤◌, ℕ, ◌+◌, ◌-◌, ◌^◌, List, length, refl, sym, ap, ◌∙◌, arith, IsTrue}
use Rattle.frame_log.specs.Log.{frames, log_of}
use Rattle.frame_log.proofs.Reading.{reads_as_log}
use Rattle.grid_outside.specs.Disk.{DiskState}
use Rattle.grid_model.specs.Names.{Text}
use Rattle.grid_journal.specs.Journal.{ClosesAt, Journal, Keeps}
use Rattle.grid_deed.proofs.Keeping.{closes_at}
use Rattle.run_open.specs.Preparing.{HasRoom}

-- a log closes at one place
one_close : (main : Text) (m n : ℕ) → ClosesAt main m → ClosesAt main n → m ≡ n
one_close main m n a b =
    let same : log_of b.records ≡ log_of a.records = (reads_as_log 16 main a.records a.log).only (log_of b.records) b.log in
    let records : b.records ≡ a.records = cc in
    a.place_is ∙ ap (λ (r : List (List ℕ)). 16 + length (frames r)) (sym records) ∙ sym b.place_is

-- there is a number, and the gate is not too far
pub room_of : (j : Journal) (main : DiskState) → j.cat.numbers.run ≢ 2 ^ 64 - 1 → j.log.gate ≤ 2 ^ 62 → (IsTrue main.tells → Keeps j.cat j main.holds) → HasRoom j.cat main
room_of j main run gate keeps = (
  run,
  λ told place closes.
      let same : place ≡ j.log.gate = one_close main.holds place j.log.gate closes (closes_at j.cat j main.holds j.log.gate refl (keeps told)) in
      omega (arith, same, gate),
)
