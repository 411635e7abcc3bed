-- How files are told apart, which a fact about them in a struct needs.
use Rattle.std.specs.Prelude.{◌≡◌, ℕ, Bool, List, refl}
use Rattle.std.specs.Coded.{Coded, Coded-set, code_by, coded×, coded_ℕ, coded_bool, coded_list}
use Rattle.std.specs.FinMap.{code}
use Rattle.grid_outside.specs.Files.{File, Files}

-- a file is stored as the pair of its fields
abbrev pub file_code : Coded File
file_code =
    code_by (List ℕ × Bool) (coded× (coded_list coded_ℕ) coded_bool) (λ f. (f.bytes, f.finished)) (λ p. record { bytes = p.0; finished = p.1 }) (λ _. refl)

-- two proofs that files are equal are equal
pub files_prop : (a b : Files) → IsProp (a ≡ b)
files_prop a b = Coded-set (code coded_ℕ file_code) a b
