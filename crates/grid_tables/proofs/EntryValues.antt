-- The value of an entry is among the values.
use Rattle.std.proofs.Common.{◌≡◌, sym, ap, arith, ℕ, ◌<◌, List, [], ◌∷◌, length, Some}
use Rattle.std.specs.Prelude.{zero, suc, slice_get, slice_index_or, unwrap_or}
use Rattle.std.specs.Map.{values_of}

pub value_at : {K X : Type 0} (entries : List (K × X)) (k : ℕ) (entry : K × X) → slice_get entries k ≡ Some entry
    → (k < length (values_of entries)) × (entry.1 ≡ slice_index_or (values_of entries) k entry.1)
value_at [] k entry at = absurd (cc at)
value_at (e ∷ entries) zero entry at = (omega arith, sym (ap (λ o. (unwrap_or o entry).1) at))
value_at (e ∷ entries) (suc k) entry at = let found = value_at entries k entry at in (omega (arith, found.0), found.1)
