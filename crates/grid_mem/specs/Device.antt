-- What a new device is.
use Rattle.std.specs.Prelude.{◌≡◌, IsTrue}
use Rattle.grid_outside.specs.Device.{DeviceState}

-- it tells, it holds these contents, and no call was made and none failed
pub record IsNew {C : Type 0} (contents : C) (s : DeviceState C) : Type 0 where
  pub tells : IsTrue s.tells
  pub holds : s.holds ≡ contents
  pub last : s.last ≡ 0
  pub faults : s.faults ≡ 0
