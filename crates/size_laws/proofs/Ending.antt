-- What is within the limits goes through one meaning after another.
use Rattle.std.proofs.Common.{Bool, true, false, List, refl, subst}
use Rattle.grid_model.specs.Grid.{Grid}
use Rattle.grid_model.specs.Meanings.{Meaning, gives, waits, unfit, ◌>>=◌, behind, mapped}
use Rattle.grid_model.specs.declared.calls.Call.{Call}
use Rattle.size_laws.specs.Within.{IsWithin, EndsWithin}

-- what it gives and where it waits, by what it is
abbrev pub Ends : {A : Type 0} → (A → Grid) → Meaning A → Type 0
Ends at (gives x) = IsWithin (at x)
Ends at (waits w) = IsWithin w.grid
Ends at unfit = Unit {0}

pub ends_next : {A B : Type 0} (at : A → Grid) (to : B → Grid) (m : Meaning A) (f : A → Meaning B) → Ends at m → ((x : A) → IsWithin (at x) → Ends to (f x))
    → Ends to (m >>= f)
ends_next at to (gives x) f h each = each x h
ends_next at to (waits w) f h each = h
ends_next at to unfit f h each = tt

pub ends_mapped : {A B : Type 0} (at : A → Grid) (to : B → Grid) (f : A → B) (m : Meaning A) → Ends at m → ((x : A) → IsWithin (at x) → IsWithin (to (f x)))
    → Ends to (mapped f m)
ends_mapped at to f (gives x) h each = each x h
ends_mapped at to f (waits w) h each = h
ends_mapped at to f unfit h each = tt

pub ends_behind : {A : Type 0} (at : A → Grid) (cs : List Call) (m : Meaning A) → Ends at m → Ends at (behind cs m)
ends_behind at cs (gives x) h = h
ends_behind at cs (waits w) h = h
ends_behind at cs unfit h = tt

pub ends_either : {A : Type 0} (at : A → Grid) (b : Bool) (m n : Meaning A) → Ends at m → Ends at n → Ends at (elim b [ true ↦ m | false ↦ n ])
ends_either at true m n h k = h
ends_either at false m n h k = k

pub ends_within : {A : Type 0} (at : A → Grid) (m : Meaning A) → Ends at m → EndsWithin at m
ends_within at m h = record { given = λ x e. subst (Ends at) e h; waiting = λ w e. subst (Ends at) e h }

pub ends_of : {A : Type 0} (at : A → Grid) (m : Meaning A) → EndsWithin at m → Ends at m
ends_of at (gives x) ends = ends.given x refl
ends_of at (waits w) ends = ends.waiting w refl
ends_of at unfit ends = tt
