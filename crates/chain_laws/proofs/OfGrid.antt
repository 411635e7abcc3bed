-- What a row refuses is of the grid, and not of a mark.
use Rattle.std.proofs.Common.{ℕ, ◌+◌, Bool, true, false, List, Option, Some, None, Ok, Err, length}
use Rattle.std.specs.Prelude.{⊤, nat_le}
use Rattle.grid_model.specs.Maps.{has}
use Rattle.grid_model.specs.MapLists.{size}
use Rattle.grid_model.specs.Names.{Text, Path, parent}
use Rattle.grid_model.specs.Grid.{Grid}
use Rattle.grid_model.specs.Levels.{may}
use Rattle.grid_model.specs.Limits.{object_size}
use Rattle.grid_model.specs.Trees.{Resources, possible, is_any}
use Rattle.grid_model.specs.Bounds.{most, within}
use Rattle.grid_model.specs.Refusing.{Or, ◌>>=◌, unless, refuse, there}
use Rattle.grid_model.specs.Deeds.{Act, changes}
use Rattle.grid_model.specs.Completing.{IsOfGrid}
use Rattle.grid_model.specs.Operations.Common.{collection_above, resource_there, needs, is_taken, with_new_item}
use Rattle.grid_model.specs.Operations.Collections.{mkdir_row, with_collection}
use Rattle.grid_model.specs.Operations.Objects.{close_row, put_row, room_for, room_for_new, may_put, may_stand, writes}
use Rattle.grid_model.specs.declared.grid.Mode.{Mode}
use Rattle.grid_model.specs.declared.grid.Level.TheVariants.{Write}
use Rattle.grid_model.specs.declared.refusal.What.{What}
use Rattle.grid_model.specs.declared.refusal.What.TheVariants.{Collections, Objects, Access}
use Rattle.grid_model.specs.declared.refusal.Refusal.{Refusal}
use Rattle.grid_model.specs.declared.refusal.Refusal.TheVariants as refusal

-- it is there, or refused by the grid
abbrev pub OfGrid : {A : Type 0} → Or A → Type 0
OfGrid (Ok a) = Unit {0}
OfGrid (Err r) = IsOfGrid r

pub then_of : {A B : Type 0} (x : Or A) (f : A → Or B) → OfGrid x → ((a : A) → OfGrid (f a)) → OfGrid (x >>= f)
then_of (Ok a) f first next = next a
then_of (Err r) f first next = first

pub unless_of : (b : Bool) (r : Refusal) → IsOfGrid r → OfGrid (unless b r)
unless_of true r is = tt
unless_of false r is = is

pub refuse_of : (b : Bool) (r : Refusal) → IsOfGrid r → OfGrid (refuse b r)
refuse_of true r is = is
refuse_of false r is = tt

pub there_of : {A : Type 0} (o : Option A) (r : Refusal) → IsOfGrid r → OfGrid (there o r)
there_of None r is = is
there_of (Some a) r is = tt

pub within_of : (what : What) (n : ℕ) → OfGrid (within what n)
within_of what n = unless_of (nat_le n (most what)) (refusal.TooMany what (most what)) tt

pub above_of : (g : Grid) (p : Path) → OfGrid (collection_above g p)
above_of g p =
    then_of (there (parent p) refusal.Exists) (λ c. unless (has g.collections c) refusal.NoCollection >>= (λ _. Ok c)) (there_of (parent p) refusal.Exists tt)
    (λ c. then_of (unless (has g.collections c) refusal.NoCollection) (λ _. Ok c) (unless_of (has g.collections c) refusal.NoCollection tt) (λ _. tt))

module _ (g : Grid) (user : Text) (p : Path) where
  abbrev made : Path → Grid
  made c = with_collection g user c p

  abbrev room_collections : Path → Or ⊤
  room_collections c = within Collections (size (made c).collections)

  abbrev room_access : Path → Or ⊤
  room_access c = within Access (size (made c).access)

  abbrev changed : Path → Or Act
  changed c = Ok (changes (made c))

  abbrev then_access : Path → Or Act
  then_access c = room_access c >>= (λ _. changed c)

  abbrev then_room : Path → Or Act
  then_room c = room_collections c >>= (λ _. then_access c)

  abbrev then_free : Path → Or Act
  then_free c = refuse (is_taken g p) refusal.Exists >>= (λ _. then_room c)

  pub mkdir_of : OfGrid (mkdir_row g user p)
  mkdir_of =
      then_of (collection_above g p) (λ c. needs g user c Write >>= (λ _. then_free c)) (above_of g p) (λ c.
      then_of (needs g user c Write) (λ _. then_free c) (unless_of (may g user c Write) refusal.NoAccess tt) (λ _.
      then_of (refuse (is_taken g p) refusal.Exists) (λ _. then_room c) (refuse_of (is_taken g p) refusal.Exists tt) (λ _.
      then_of (room_collections c) (λ _. then_access c) (within_of Collections (size (made c).collections)) (λ _.
      then_of (room_access c) (λ _. changed c) (within_of Access (size (made c).access)) (λ _. tt)))))

new_of : (b : Bool) (objects entries : ℕ) → OfGrid (room_for_new b objects entries)
new_of true objects entries = tt
new_of false objects entries = then_of (within Objects objects) (λ _. within Access entries) (within_of Objects objects) (λ _. within_of Access entries)

pub room_of : (g : Grid) (user : Text) (c p : Path) (len : ℕ) → OfGrid (room_for g user c p len)
room_of g user c p len =
    then_of (room_for_new (has g.objects p) (size g.objects + 1) (size (with_new_item g user c p)))
    (λ _. unless (nat_le len object_size) (refusal.TooLarge object_size))
    (new_of (has g.objects p) (size g.objects + 1) (size (with_new_item g user c p)))
    (λ _. unless_of (nat_le len object_size) (refusal.TooLarge object_size) tt)

module _ (g : Grid) (user : Text) (p : Path) (r : Text) (mode : Mode) (body : List ℕ) where
  abbrev done : Path → Or Act
  done c = room_for g user c p (length body) >>= (λ _. Ok (writes g.resources g user c p r body))

  abbrev targeted : Path → Or Act
  targeted c = unless (is_any (possible g.resources r)) refusal.NoTarget >>= (λ _. done c)

  abbrev standing : Path → Or Act
  standing c = unless (may_stand g p mode) refusal.Exists >>= (λ _. targeted c)

  abbrev allowed : Path → Or Act
  allowed c = unless (may_put g user c p) refusal.NoAccess >>= (λ _. standing c)

  pub put_of : OfGrid (put_row g user p r mode body)
  put_of =
      then_of (collection_above g p) (λ c. resource_there g r >>= (λ _. allowed c)) (above_of g p) (λ c.
      then_of (resource_there g r) (λ _. allowed c) (unless_of (has g.resources r) refusal.NoResource tt) (λ _.
      then_of (unless (may_put g user c p) refusal.NoAccess) (λ _. standing c) (unless_of (may_put g user c p) refusal.NoAccess tt) (λ _.
      then_of (unless (may_stand g p mode) refusal.Exists) (λ _. targeted c) (unless_of (may_stand g p mode) refusal.Exists tt) (λ _.
      then_of (unless (is_any (possible g.resources r)) refusal.NoTarget) (λ _. done c)
      (unless_of (is_any (possible g.resources r)) refusal.NoTarget tt) (λ _.
      then_of (room_for g user c p (length body)) (λ _. Ok (writes g.resources g user c p r body)) (room_of g user c p (length body)) (λ _. tt))))))

  -- the same of an upload, over the tree of resources with which it was opened
  module _ (tree : Resources) where
    abbrev closed : Path → Or Act
    closed c = room_for g user c p (length body) >>= (λ _. Ok (writes tree g user c p r body))

    abbrev closes : Path → Or Act
    closes c = unless (may_stand g p mode) refusal.Exists >>= (λ _. closed c)

    pub close_of : OfGrid (close_row tree g user p r mode body)
    close_of =
        then_of (collection_above g p) (λ c. unless (may_put g user c p) refusal.NoAccess >>= (λ _. closes c)) (above_of g p) (λ c.
        then_of (unless (may_put g user c p) refusal.NoAccess) (λ _. closes c) (unless_of (may_put g user c p) refusal.NoAccess tt) (λ _.
        then_of (unless (may_stand g p mode) refusal.Exists) (λ _. closed c) (unless_of (may_stand g p mode) refusal.Exists tt) (λ _.
        then_of (room_for g user c p (length body)) (λ _. Ok (writes tree g user c p r body)) (room_of g user c p (length body)) (λ _. tt))))
