-- The numbers that texts of `fail` tell.
use Rattle.std.specs.Prelude.{◌≡◌, ℕ, suc, ◌<◌, ◌^◌, ℤ, pos, negsuc, List, [], ◌∷◌}
use Rattle.std.specs.Fmt.{decimal, signed_decimal}
use Rattle.grid_model.specs.Values.{number_value}
use Rattle.grid_model.specs.Chains.{code_of}
use Rattle.chain_core.specs.Answers.{IsInt64}

-- the code of a number
abbrev pub code_for : ℤ → ℤ
code_for z = code_of (number_value z ∷ [])

-- a text that is the number's decimal form tells its code
abbrev pub TellsNatural : List ℕ → ℤ → Type 0
TellsNatural digits code = (n : ℕ) → n < 2 ^ 64 → digits ≡ decimal n → code_for (pos n) ≡ code

-- the same behind a minus
abbrev pub TellsNegative : List ℕ → ℤ → Type 0
TellsNegative digits code = (n : ℕ) → n < 2 ^ 63 → digits ≡ decimal (suc n) → code_for (negsuc n) ≡ code

-- the same with a sign or without
abbrev pub TellsNumber : List ℕ → ℤ → Type 0
TellsNumber text code = (z : ℤ) → IsInt64 z → text ≡ signed_decimal z → code_for z ≡ code
