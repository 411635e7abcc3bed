-- What calls of all that is around a run leave of it, whatever they were for.
use Rattle.std.specs.Prelude.{◌≡◌, ℕ, ◌≤◌, Some, length, slice_get, IsTrue}
use Rattle.grid_outside.specs.Device.{DeviceState, EachMember}
use Rattle.grid_deed.specs.Frame.{Goes}
use Rattle.grid_headline.specs.Worlds.{World}

-- nothing of the device was called but what changes nothing: a stop leaves nothing that it could not leave before
pub record Rests {C : Type 0} (old new : DeviceState C) : Type 0 where
  pub faults : old.faults ≤ new.faults
  pub tells : new.tells ≡ old.tells
  pub last : new.last ≡ old.last
  pub holds : IsTrue old.tells → new.holds ≡ old.holds
  pub left : (t : ℕ) (image : C) → new.left t image → old.left t image

module _ {B : Type 0} (old new : World B) where
  -- the stores of one slot, before and after
  pub record StoreGoes (slot : ℕ) (before after : B) : Type 0 where
    pub goes : Goes old.moments (old.plugin before) (new.plugin after)

  -- Calls of all devices but spare and the source, one after another: moments rise, no device was given one that was not drawn, no
  -- count of faults fell, and a stop at a moment that was drawn before leaves nothing that it could not leave before.
  pub record Went : Type 0 where
    pub drawn : old.moments ≤ new.moments
    pub main : Goes old.moments old.main new.main
    pub sink : Goes old.moments old.sink new.sink
    pub spare : Rests old.spare new.spare
    pub count : length new.stores ≡ length old.stores
    pub stores : (slot : ℕ) (before after : B) → slice_get old.stores slot ≡ Some before → slice_get new.stores slot ≡ Some after
        → StoreGoes slot before after

  -- no store was called but by what changes nothing
  abbrev pub StoresRest : Type 0
  StoresRest = (slot : ℕ) (before after : B) → slice_get old.stores slot ≡ Some before → slice_get new.stores slot ≡ Some after
      → Rests (old.plugin before) (new.plugin after)

-- no device was given a moment that is not drawn
pub record AreInOrder {B : Type 0} (w : World B) : Type 0 where
  pub main_last : w.main.last ≤ w.moments
  pub spare_last : w.spare.last ≤ w.moments
  pub sink_last : w.sink.last ≤ w.moments
  pub stores_last : EachMember (λ k store. (w.plugin store).last ≤ w.moments) w.stores
