-- Digests (SHA-256, FIPS 180-4) and how they are printed.
use Rattle.std.specs.Prelude.{◌≡◌, ℕ, ◌<◌, true, List, ◌++◌, codes, length, slice_index}
use Rattle.sha2.specs.Sha256.{sha256}
use Rattle.base64.specs.Rfc4648.{encode}
use Rattle.base64.specs.Alphabets.{standard}
use Rattle.grid_model.specs.Names.{Text}

-- what SHA-256 gives of some bytes (FIPS 180-4, section 6.2): its 32 bytes in order
abbrev pub Digest : Type 0
Digest = List ℕ

-- these are so many bytes, and this is their digest
pub record HasDigest (count : ℕ) (d : Digest) (bytes : List ℕ) : Type 0 where
  pub size : length bytes ≡ count
  pub digest : sha256 bytes ≡ d

-- it is 32 numbers below 256
pub record IsDigest (d : Digest) : Type 0 where
  pub length_is : length d ≡ 32
  pub bytes : (i : ℕ) → slice_index d i < 256

-- `sha2:` and the padded base64 of the digest, in the standard alphabet (RFC 4648, section 4), as iRODS writes
-- checksums (iRODS documentation)
abbrev pub checksum : Digest → Text
checksum d = codes "sha2:" ++ encode standard.symbols 0x3D true d

-- the text spells the digest
pub record SpellsDigest (text : Text) (digest : Digest) : Type 0 where
  pub is_digest : IsDigest digest
  pub text_is : text ≡ checksum digest
