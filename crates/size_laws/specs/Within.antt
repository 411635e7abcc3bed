-- The grid within the limits: nothing of it is larger than it may be, and there are no more resources than there may be.
use Rattle.std.specs.Prelude.{◌≡◌, ℕ, ◌^◌, ◌≤◌, List}
use Rattle.std.specs.List.{AllByRecursion}
use Rattle.grid_model.specs.Names.{Path}
use Rattle.grid_model.specs.MapLists.{size}
use Rattle.grid_model.specs.Grid.{Grid, Object, Replica}
use Rattle.grid_model.specs.Limits.{object_size}
use Rattle.grid_model.specs.Bounds.{most}
use Rattle.grid_model.specs.Meanings.{Meaning, Waiting, gives, waits}
use Rattle.grid_model.specs.Deeds.{Touch, reading}
use Rattle.grid_model.specs.declared.refusal.What.TheVariants.{Resources}

-- no replica of these is larger than an object may be
abbrev pub AreSmall : List (ℕ × Replica) → Type 0
AreSmall es = AllByRecursion (λ (e : ℕ × Replica). e.1.size ≤ object_size) es

-- neither the object nor a replica of it is larger than an object may be
pub record IsSmall (o : Object) : Type 0 where
  pub size : o.size ≤ object_size
  pub replicas : AreSmall o.replicas.entries

-- The grid is within the limits: each object is small, and there are no more resources than there may be.
pub record IsWithin (g : Grid) : Type 0 where
  pub objects : AllByRecursion (λ (e : Path × Object). IsSmall e.1) g.objects.entries
  pub resources : size g.resources ≤ most Resources

-- no replica that a deed reads for its checksum is larger than an object may be
abbrev pub ReadsSmall : Touch → Type 0
ReadsSmall (reading read slots) = AreSmall read
ReadsSmall other = Unit {0}

-- What it gives has a grid within the limits, and so has the place at which it waits.
pub record EndsWithin {A : Type 0} (grid_in : A → Grid) (m : Meaning A) : Type 0 where
  pub given : (x : A) → m ≡ gives x → IsWithin (grid_in x)
  pub waiting : (w : Waiting) → m ≡ waits w → IsWithin w.grid

-- how many moments a deed takes at most: few over a grid that is within the limits
pub data TakesAtMost (g : Grid) : ℕ → Type 0 where
  few : IsWithin g → TakesAtMost g (2 ^ 20)
  many : TakesAtMost g (2 ^ 65)
