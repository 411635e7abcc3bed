-- What is left by a call that may fail.
use Rattle.std.proofs.Common.{◌≡◌, Bool, true, false, refl, sym, subst}
use Rattle.std.specs.Prelude.{not, Result, Ok, Err, OnOk, OnErr}

-- what is so of both outcomes is so of what is left
pub left_by : {A E X : Type 0} (P : X → Type 0) (result : Result A E) (new good bad : X) → OnOk result (new ≡ good) → OnErr result (new ≡ bad) → P good → P bad → P new
left_by P (Ok x) new good bad put failed kept left = subst P (sym put) kept
left_by P (Err e) new good bad put failed kept left = subst P (sym failed) left

pub none_so : (b : Bool) → not b ≡ true → b ≡ false
none_so true e = absurd (cc)
none_so false e = refl

pub some_so : (b : Bool) → not b ≡ false → b ≡ true
some_so true e = refl
some_so false e = absurd (cc)
