-- Which refusal of the log an answer came of.
use Rattle.std.proofs.Common.{◌≡◌, ℕ, Result, Err, sym, ◌∙◌}
use Rattle.grid_outside.specs.declared.outside.Wear.{Wear}
use Rattle.frame_log.specs.declared.error.LogError.{LogError}
use Rattle.frame_log.specs.declared.error.LogError.TheVariants as log
use Rattle.grid_model.specs.declared.grid.Side.{Side}
use Rattle.grid_model.specs.declared.grid.Side.TheVariants.{Main}
use Rattle.grid_journal.specs.Errors.{error_of}
use Rattle.grid_journal.specs.declared.error.JournalError.{JournalError}
use Rattle.grid_journal.specs.declared.error.JournalError.TheVariants as error

pub err_same : {T E : Type 0} (r : Result T E) (x y : E) → r ≡ Err x → r ≡ Err y → y ≡ x
err_same r x y one other = let e : Err y ≡ Err x = sym other ∙ one in cc

pub worn_from : (from : LogError) (e : JournalError) (what : Wear) (at : ℕ) → e ≡ error_of from → e ≡ error.Worn what at → from ≡ log.Worn what at
worn_from log.Memory e what at is worn = cc
worn_from log.DiskFault e what at is worn = cc
worn_from (log.Worn other place) e what at is worn = cc
worn_from (log.NotALog place) e what at is worn = cc

pub not_a_log_from : (from : LogError) (e : JournalError) (side : Side) (at : ℕ) → e ≡ error_of from → e ≡ error.NotACatalogue side at → (from ≡ log.NotALog at) × (side ≡ Main)
not_a_log_from log.Memory e side at is not = cc
not_a_log_from log.DiskFault e side at is not = cc
not_a_log_from (log.Worn other place) e side at is not = cc
not_a_log_from (log.NotALog place) e side at is not =
    let same : error.NotACatalogue side at ≡ error.NotACatalogue Main place = sym not ∙ is in
    let n : place ≡ at = cc in
    let s : side ≡ Main = cc in
    (cc, s)
