-- What was not refused: each thing that was asked for is there.
use Rattle.std.proofs.Common.{◌≡◌, ℕ, ◌≤◌, Bool, true, false, Option, Some, None, Ok, Err, refl, subst}
use Rattle.std.specs.Prelude.{⊤, nat_le}
use Rattle.std.proofs.lemmas.Bool.{leb-true}
use Rattle.grid_model.specs.Bounds.{most, within}
use Rattle.grid_model.specs.Refusing.{Or, ◌>>=◌, unless, there}
use Rattle.grid_model.specs.declared.refusal.Refusal.{Refusal}
use Rattle.grid_model.specs.declared.refusal.Refusal.TheVariants.{TooMany}
use Rattle.grid_model.specs.declared.refusal.What.{What}

-- the first thing that was asked for is there, and all others behind it
pub ok_of : {A B : Type 0} (m : Or A) (f : A → Or B) (y : B) → m >>= f ≡ Ok y → (x : A) × (m ≡ Ok x) × (f x ≡ Ok y)
ok_of (Ok x) f y e = (x, refl, e)
ok_of (Err r) f y e = absurd cc

pub ok_there : {A : Type 0} (v : Option A) (r : Refusal) (x : A) → there v r ≡ Ok x → v ≡ Some x
ok_there None r x e = absurd cc
ok_there (Some y) r x e = cc

pub ok_unless : (b : Bool) (r : Refusal) (x : ⊤) → unless b r ≡ Ok x → b ≡ true
ok_unless true r x e = refl
ok_unless false r x e = absurd cc

pub ok_within : (what : What) (n : ℕ) (x : ⊤) → within what n ≡ Ok x → n ≤ most what
ok_within what n x e = leb-true n (most what) (ok_unless (nat_le n (most what)) (TooMany what (most what)) x e)

-- what holds of the one holds of the other
pub ok_such : {A : Type 0} (P : A → Type 0) (x y : A) → ◌≡◌ {A = Or A} (Ok x) (Ok y) → P x → P y
ok_such P x y e its = let same : x ≡ y = cc in subst P same its
