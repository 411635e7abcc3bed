-- Looks at a disk, one after another.
use Rattle.std.proofs.Common.{◌≡◌, ℕ, List, IsTrue, Option, Some, Result, Err, sym, subst, ◌∙◌}
use Rattle.std.specs.Option.{IfSome}
use Rattle.grid_outside.specs.Device.{Looks}
use Rattle.grid_outside.specs.Disk.{DiskState}

pub looks_on : (old mid new : DiskState) → Looks old mid → Looks mid new → Looks old new
looks_on old mid new one two = record {
  last = two.last ∙ one.last;
  tells = two.tells ∙ one.tells;
  holds = λ tells. two.holds (subst IsTrue (sym one.tells) tells) ∙ one.holds tells;
  left = λ t image. ((λ x. (one.left t image).0 ((two.left t image).0 x)), (λ x. (two.left t image).1 ((one.left t image).1 x)));
}

-- what is said of the bytes after a look is said of those before it
pub before_look : (P : List ℕ → Type 0) (old new : DiskState) → Looks old new → (IsTrue new.tells → P new.holds) → IsTrue old.tells → P old.holds
before_look P old new looks after tells = subst P (looks.holds tells) (after (subst IsTrue (sym looks.tells) tells))

-- what is said of the value in a `Some`
pub at_some : {A : Type 0} {o : Option A} (P : A → Type 0) (x : A) → o ≡ Some x → IfSome o P → P x
at_some P x e h = subst (λ o. IfSome o P) e h

-- the error that a `?` passed on
pub passed_on : {T E : Type 0} (r : Result T E) (x y e : E) → r ≡ Err x → x ≡ y → r ≡ Err e → y ≡ e
passed_on r x y e one same two = cc
