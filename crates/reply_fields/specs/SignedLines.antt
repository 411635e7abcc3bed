-- Numbers of 64 bits that may be negative, at the end of a line.
use Rattle.std.specs.Prelude.{◌≡◌, ℕ, suc, ◌^◌, ◌<◌, [], ◌∷◌, ◌++◌, ℤ, pos, negsuc, decimal}
use Rattle.grid_model.specs.Names.{Text}

-- the number in decimal, with a `-` before it where it is negative, and a newline
pub data IsSignedLine : Text → ℤ → Type 0 where
  at_least_zero : {text : Text} {n : ℕ} → n < 2 ^ 63 → text ≡ decimal n ++ 0x0A ∷ [] → IsSignedLine text (pos n)
  below_zero : {text : Text} {n : ℕ} → n < 2 ^ 63 → text ≡ 0x2D ∷ decimal (suc n) ++ 0x0A ∷ [] → IsSignedLine text (negsuc n)
