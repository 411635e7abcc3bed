-- Devices that rest.
use Rattle.std.proofs.Common.{◌≡◌, ◌≤◌, refl, sym, subst, arith}
use Rattle.grid_outside.specs.Device.{DeviceState, Looks}
use Rattle.run_laws.specs.Went.{Rests}

module _ {C : Type 0} where
  pub rests_same : (s : DeviceState C) → Rests s s
  rests_same s = record { faults = omega arith; tells = refl; last = refl; holds = λ told. refl; left = λ t image left. left }

  -- of a device that is the same
  pub rests_where : {M : Type 0} (state : M → DeviceState C) (a b : M) → b ≡ a → Rests (state a) (state b)
  rests_where {M = M} state a b e = let P : M → Type 0 = λ m. Rests (state a) (state m) in subst P (sym e) (rests_same (state a))

  -- of a device that is the same afterwards
  pub rests_on : {M : Type 0} (state : M → DeviceState C) (old : DeviceState C) (a b : M) → b ≡ a → Rests old (state a) → Rests old (state b)
  rests_on {M = M} state old a b same rests = let P : M → Type 0 = λ m. Rests old (state m) in subst P (sym same) rests

  -- one that was only looked at
  pub looked_rests : (old new : DeviceState C) → Looks old new → old.faults ≤ new.faults → Rests old new
  looked_rests old new looks later = record { faults = later; tells = looks.tells; last = looks.last; holds = looks.holds; left = λ t image left. (looks.left t image).0 left }
