-- The bytes of printed digests, place by place.
use Rattle.std.specs.Prelude.{◌≡◌, ℕ, ◌<◌, ◌≤◌, Bool, true, false, length, slice_index, codes, nat_lt, ◌==◌, if◌then◌else◌}
use Rattle.std.specs.List.{list_any}
use Rattle.base64.specs.Alphabets.{standard}
use Rattle.grid_model.specs.Names.{Text}

-- a symbol of base64
abbrev pub is_symbol : ℕ → Bool
is_symbol byte = list_any (λ s. s == byte) standard.symbols

-- one whose last two bits are zero
abbrev pub is_last_symbol : ℕ → Bool
is_last_symbol byte = list_any (λ s. s == byte) (codes "AEIMQUYcgkosw048")

-- The byte may stand at this place: in the prefix, among the 43 symbols, or as the padding.
abbrev pub may_stand_in_digest : ℕ → ℕ → Bool
may_stand_in_digest place byte =
    if nat_lt place 5 then byte == slice_index (codes "sha2:") place
    else if nat_lt place 47 then is_symbol byte
    else if nat_lt place 48 then is_last_symbol byte
    else byte == 0x3D

-- so many bytes may stand at the front of a printed digest, and the next one may not
pub record HasDigestFront (rest : Text) (n : ℕ) : Type 0 where
  pub within : n ≤ length rest
  pub most : n ≤ 49
  pub each : (i : ℕ) → i < n → may_stand_in_digest i (slice_index rest i) ≡ true
  pub ends : n < 49 → n < length rest → may_stand_in_digest n (slice_index rest n) ≡ false
