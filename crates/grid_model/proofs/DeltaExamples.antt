-- Spellings of changes, by computation.
use Rattle.std.proofs.Common.{◌≡◌, true, false, [], ◌∷◌, refl}
use Rattle.grid_model.specs.Deltas.{SpellsDeltas, delta_fits, four_bytes, eight_bytes}
use Rattle.grid_model.specs.declared.deltas.Delta.TheVariants.{NoPending, Member, Rules, Zone, Collection, Resource, Entry, NoEntry, Orphan}
use Rattle.grid_model.specs.declared.grid.ResourceKind.TheVariants.{Storage}
use Rattle.grid_model.specs.declared.grid.Level.TheVariants.{Null, Own}
use Rattle.grid_model.specs.declared.grid.ItemKind.TheVariants as kind

-- no bytes are no changes
pub no_changes : SpellsDeltas [] []
no_changes = record { fit = refl; bytes_are = refl }

-- 0x15 is the one that clears what is pending
pub cleared : SpellsDeltas (0x15 ∷ []) (NoPending ∷ [])
cleared = record { fit = refl; bytes_are = refl }

-- a user in a group
pub member : SpellsDeltas (3 ∷ 0 ∷ 0 ∷ 0 ∷ 7 ∷ 0 ∷ 0 ∷ 1 ∷ 2 ∷ []) (Member (record { group = 7; user = 258 }) ∷ [])
unfolding four_bytes
member = record { fit = refl; bytes_are = refl }

-- a zone of one name and two stores, and rules of a newline alone
pub zone_and_rules : SpellsDeltas (1 ∷ 0 ∷ 0 ∷ 0 ∷ 0 ∷ 0 ∷ 0 ∷ 0 ∷ 1 ∷ 0x61 ∷ 2 ∷ 16 ∷ 0 ∷ 0 ∷ 0 ∷ 0 ∷ 0 ∷ 0 ∷ 0 ∷ 1 ∷ 0x0A ∷ []) (Zone (0x61 ∷ []) 2 ∷ Rules (0x0A ∷ []) ∷ [])
unfolding eight_bytes
zone_and_rules = record { fit = refl; bytes_are = refl }

-- an empty collection below `/` that hands its entries on
collection : SpellsDeltas (5 ∷ 0 ∷ 0 ∷ 0 ∷ 0 ∷ 0 ∷ 0 ∷ 0 ∷ 9 ∷ 0 ∷ 0 ∷ 0 ∷ 0 ∷ 0 ∷ 0 ∷ 0 ∷ 0 ∷ 0 ∷ 0 ∷ 0 ∷ 0 ∷ 0 ∷ 0 ∷ 0 ∷ 1 ∷ 0x7A ∷ 1 ∷ [])
    (Collection (record { id = 9; parent = 0; name = 0x7A ∷ []; inherit = true }) ∷ [])
unfolding eight_bytes
collection = record { fit = refl; bytes_are = refl }

-- a leaf that is down, below the resource 1
resource : SpellsDeltas (15 ∷ 0 ∷ 0 ∷ 0 ∷ 2 ∷ 0 ∷ 0 ∷ 0 ∷ 0 ∷ 0 ∷ 0 ∷ 0 ∷ 1 ∷ 0x64 ∷ 1 ∷ 3 ∷ 0 ∷ 0 ∷ 0 ∷ 0 ∷ 1 ∷ 0 ∷ 0 ∷ 0 ∷ 7 ∷ [])
    (Resource (record { id = 2; name = 0x64 ∷ []; kind = Storage; slot = 3; up = false; parent = 1; place = 7 }) ∷ [])
unfolding eight_bytes four_bytes
resource = record { fit = refl; bytes_are = refl }

-- own for the user 1 at an object
entry : SpellsDeltas (13 ∷ 1 ∷ 0 ∷ 0 ∷ 0 ∷ 0 ∷ 0 ∷ 0 ∷ 0 ∷ 7 ∷ 0 ∷ 0 ∷ 0 ∷ 1 ∷ 3 ∷ []) (Entry (record { kind = kind.Object; id = 7; user = 1; level = Own }) ∷ [])
unfolding eight_bytes four_bytes
entry = record { fit = refl; bytes_are = refl }

-- ---- what has no spelling

-- null is not given
no_level : delta_fits (Entry (record { kind = kind.Object; id = 7; user = 1; level = Null })) ≡ false
unfolding eight_bytes four_bytes
no_level = refl

-- a resource gives no access
no_access : delta_fits (NoEntry kind.Resource 7 1) ≡ false
unfolding eight_bytes four_bytes
no_access = refl

-- a newline stands in the rules alone
no_newline : delta_fits (Zone (0x0A ∷ []) 2) ≡ false
unfolding eight_bytes
no_newline = refl

-- a slot has one byte
no_slot : delta_fits (Orphan (record { vault = 1; slot = 256 })) ≡ false
unfolding eight_bytes
no_slot = refl
