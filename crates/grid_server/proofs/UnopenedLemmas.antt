-- The status of a run that was not opened.
use Rattle.std.proofs.Common.{◌≡◌, ℕ, Result, Err, refl}
use Rattle.std.specs.Prelude.{⊤}
use Rattle.grid_model.specs.declared.grid.Side.{Side}
use Rattle.run_open.specs.declared.error.OpenError.{OpenError}
use Rattle.run_open.specs.declared.error.OpenError.TheVariants as error
use Rattle.grid_server.specs.RunEnds.{unopened}
use Rattle.grid_server.specs.Running.{EndsServing, IsNotBegun}
use Rattle.grid_server.specs.declared.status.Status.TheVariants as status

pub ends_unopened : (e : OpenError) → EndsServing (unopened e)
ends_unopened (error.Runs at) = tt
ends_unopened (error.Vaults at) = tt
ends_unopened (error.Log at) = tt
ends_unopened error.Disk = tt
ends_unopened error.Sink = tt
ends_unopened error.Memory = tt

pub unopened_not_begun : (e : OpenError) → IsNotBegun (unopened e)
unopened_not_begun (error.Runs at) = tt
unopened_not_begun (error.Vaults at) = tt
unopened_not_begun (error.Log at) = tt
unopened_not_begun error.Disk = tt
unopened_not_begun error.Sink = tt
unopened_not_begun error.Memory = tt

pub unopened_disk : (e : OpenError) → unopened e ≡ status.DiskFault → e ≡ error.Disk
unopened_disk (error.Runs at) is = absurd (cc is)
unopened_disk (error.Vaults at) is = absurd (cc is)
unopened_disk (error.Log at) is = absurd (cc is)
unopened_disk error.Disk is = refl
unopened_disk error.Sink is = absurd (cc is)
unopened_disk error.Memory is = absurd (cc is)

pub unopened_is_disk : (e : OpenError) → (let r : Result ⊤ OpenError = Err e in r ≡ Err error.Disk) → unopened e ≡ status.DiskFault
unopened_is_disk (error.Runs at) is = absurd (cc is)
unopened_is_disk (error.Vaults at) is = absurd (cc is)
unopened_is_disk (error.Log at) is = absurd (cc is)
unopened_is_disk error.Disk is = refl
unopened_is_disk error.Sink is = absurd (cc is)
unopened_is_disk error.Memory is = absurd (cc is)

pub unopened_sink : (e : OpenError) → unopened e ≡ status.SinkFault → e ≡ error.Sink
unopened_sink (error.Runs at) is = absurd (cc is)
unopened_sink (error.Vaults at) is = absurd (cc is)
unopened_sink (error.Log at) is = absurd (cc is)
unopened_sink error.Disk is = absurd (cc is)
unopened_sink error.Sink is = refl
unopened_sink error.Memory is = absurd (cc is)

-- it is no other status than these
pub unopened_not_source : (e : OpenError) → unopened e ≡ status.SourceFault → ⊥
unopened_not_source (error.Runs at) is = cc is
unopened_not_source (error.Vaults at) is = cc is
unopened_not_source (error.Log at) is = cc is
unopened_not_source error.Disk is = cc is
unopened_not_source error.Sink is = cc is
unopened_not_source error.Memory is = cc is

pub unopened_not_long : (e : OpenError) (taken : ℕ) → unopened e ≡ status.Long taken → ⊥
unopened_not_long (error.Runs at) taken is = cc is
unopened_not_long (error.Vaults at) taken is = cc is
unopened_not_long (error.Log at) taken is = cc is
unopened_not_long error.Disk taken is = cc is
unopened_not_long error.Sink taken is = cc is
unopened_not_long error.Memory taken is = cc is

pub unopened_not_stores : (e : OpenError) (had given : ℕ) → unopened e ≡ status.Stores had given → ⊥
unopened_not_stores (error.Runs at) had given is = cc is
unopened_not_stores (error.Vaults at) had given is = cc is
unopened_not_stores (error.Log at) had given is = cc is
unopened_not_stores error.Disk had given is = cc is
unopened_not_stores error.Sink had given is = cc is
unopened_not_stores error.Memory had given is = cc is

pub unopened_not_refused : (e : OpenError) (side : Side) (place : ℕ) → unopened e ≡ status.NotACatalogue side place → ⊥
unopened_not_refused (error.Runs at) side place is = cc is
unopened_not_refused (error.Vaults at) side place is = cc is
unopened_not_refused (error.Log at) side place is = cc is
unopened_not_refused error.Disk side place is = cc is
unopened_not_refused error.Sink side place is = cc is
unopened_not_refused error.Memory side place is = cc is
