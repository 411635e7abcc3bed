-- Room for objects and their access.
use Rattle.std.specs.Prelude.{◌≡◌, ℕ, ◌+◌, true, false, Result, Ok, Err, nat_le, ⊤}
use Rattle.grid_model.specs.MapLists.{size}
use Rattle.grid_model.specs.Names.{Text, Path}
use Rattle.grid_model.specs.Limits.{object_size}
use Rattle.grid_model.specs.Grid.{Grid}
use Rattle.grid_model.specs.Operations.Common.{with_new_item}
use Rattle.grid_model.specs.Operations.Objects.{room_for, room_for_new}
use Rattle.grid_model.specs.declared.plans.PlanError.{PlanError}
use Rattle.grid_model.specs.declared.plans.PlanError.TheVariants.{Refused, Memory}
use Rattle.grid_model.specs.declared.refusal.Refusal.TheVariants.{TooLarge}

-- an object may have so many bytes, or it is too large
abbrev pub FitsSize : ℕ → Result ⊤ PlanError → Type 0
FitsSize len (Ok x) = nat_le len object_size ≡ true
FitsSize len (Err (Refused r)) = (nat_le len object_size ≡ false) × (r ≡ TooLarge object_size)
FitsSize len (Err Memory) = ⊥

-- there is room for a new object of the user at p in c, or why there is none
abbrev pub FindsRoomNew : Grid → Text → Path → Path → Result ⊤ PlanError → Type 0
FindsRoomNew g user c p (Ok x) = room_for_new false (size g.objects + 1) (size (with_new_item g user c p)) ≡ Ok tt
FindsRoomNew g user c p (Err (Refused r)) = room_for_new false (size g.objects + 1) (size (with_new_item g user c p)) ≡ Err r
FindsRoomNew g user c p (Err Memory) = Unit {0}

-- there is room for an object of the user at p in c with so many bytes, or why there is none
abbrev pub FindsRoom : Grid → Text → Path → Path → ℕ → Result ⊤ PlanError → Type 0
FindsRoom g user c p len (Ok x) = room_for g user c p len ≡ Ok tt
FindsRoom g user c p len (Err (Refused r)) = room_for g user c p len ≡ Err r
FindsRoom g user c p len (Err Memory) = Unit {0}
