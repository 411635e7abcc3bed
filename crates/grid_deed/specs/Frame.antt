-- What calls of the outside leave of it, whatever they were for.
use Rattle.std.specs.Prelude.{◌≡◌, ◌⊎◌, ℕ, ◌+◌, ◌^◌, ◌<◌, ◌≤◌, List, [], ◌∷◌, ◌++◌, length, IsTrue}
use Rattle.grid_outside.specs.Device.{DeviceState, EachMember, EachPair}
use Rattle.grid_outside.specs.Disk.{DiskState}
use Rattle.grid_outside.specs.Fault.{Rose}
use Rattle.grid_outside.specs.Files.{StoreState}
use Rattle.grid_outside.specs.declared.outside.Outside.{Outside}
use Rattle.frame_log.specs.Log.{IsLog, frames}
use Rattle.grid_model.specs.Names.{Text}

-- The calls of a device since so many moments were drawn: a stop at one of these leaves nothing that it could not leave
-- before.
pub record Goes {C : Type 0} (from : ℕ) (old new : DeviceState C) : Type 0 where
  pub faults : old.faults ≤ new.faults
  pub tells : new.tells ≡ old.tells
  pub earlier : (t : ℕ) (image : C) → t ≤ from → new.left t image → old.left t image

-- There are as many stores as before, no count of faults fell, and a stop within the first so many moments leaves nothing
-- of a store that it could not leave before. Of what a store holds nothing is said.
pub record StoresGo {B : Type 0} (state : B → StoreState) (from : ℕ) (old new : List B) : Type 0 where
  pub count : length new ≡ length old
  pub later : EachPair (λ k before after. Goes from (state before) (state after)) old new

-- records were added to a log, and the gate of the last of them stands at this place
pub record AddsTo (old new : Text) (place : ℕ) : Type 0 where
  pub records : List (List ℕ)
  pub log_old : IsLog 16 records old
  pub more : List (List ℕ)
  pub body : List ℕ
  pub log : IsLog 16 ((records ++ more) ++ body ∷ []) new
  pub place_is : place ≡ 16 + length (frames (records ++ more))

-- the disk holds what it held, or records were added to its log, the last of them where there was room: at a gate up to 2^62
abbrev pub AddsInRoom : DiskState → DiskState → Type 0
AddsInRoom old new = IsTrue old.tells → (new.holds ≡ old.holds) ⊎ ((place : ℕ) × (place ≤ 2 ^ 62) × AddsTo old.holds new.holds place)

module _ {D A P : Type 0} (disk : D → DiskState) (plugin : P → StoreState) where
  -- no device was given a moment that is not drawn, and so many more can be drawn
  pub record IsReady (more : ℕ) (outside : Outside D A P) : Type 0 where
    pub main_last : (disk outside.main).last ≤ outside.moments
    pub stores_last : EachMember (λ k store. (plugin store).last ≤ outside.moments) outside.stores.items
    pub room : outside.moments + more < 2 ^ 128

  -- Calls of main and the stores, one after another: moments rise, no device was given one that was not drawn, no count of
  -- faults fell, a stop at a moment that was drawn before leaves what it left, spare was not asked, and records were added to
  -- the log on main where there was room, unless main failed.
  pub record Frame (failed : Type 0) (old new : Outside D A P) : Type 0 where
    pub drawn : old.moments ≤ new.moments
    pub main_last : (disk old.main).last ≤ old.moments → (disk new.main).last ≤ new.moments
    pub stores_last : EachMember (λ k store. (plugin store).last ≤ old.moments) old.stores.items
        → EachMember (λ k store. (plugin store).last ≤ new.moments) new.stores.items
    pub main : Goes old.moments (disk old.main) (disk new.main)
    pub stores : StoresGo plugin old.moments old.stores.items new.stores.items
    pub spare : new.spare ≡ old.spare
    pub ambient : new.ambient ≡ old.ambient
    pub cause : failed → Rose (disk old.main).faults (disk new.main).faults
    pub in_room : (¬ failed) → AddsInRoom (disk old.main) (disk new.main)
