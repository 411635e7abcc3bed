-- The fields of reply lines, each with the byte that ends it.
use Rattle.std.specs.Prelude.{◌≡◌, ℕ, ◌≤◌, [], ◌∷◌, ◌++◌, decimal}
use Rattle.grid_model.specs.Names.{Text}
use Rattle.grid_model.specs.Digests.{Digest, IsDigest, checksum}

-- a number in decimal, which is at most this one
pub record IsField (most end : ℕ) (text : Text) (number : ℕ) : Type 0 where
  pub most_is : number ≤ most
  pub is : text ≡ decimal number ++ end ∷ []

-- a digest as it is printed
pub record IsDigestField (end : ℕ) (text : Text) (digest : Digest) : Type 0 where
  pub is_digest : IsDigest digest
  pub is : text ≡ checksum digest ++ end ∷ []

-- a value as it is printed
pub record IsPrinted {A : Type 0} (print : A → Text) (end : ℕ) (text : Text) (value : A) : Type 0 where
  pub is : text ≡ print value ++ end ∷ []
