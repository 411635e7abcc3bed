-- What the files of a store are to a catalogue: each good replica has its file, and no file is lost track of. Both
-- rules are this project's own; a checksum is the SHA-256 of FIPS 180-4.
use Rattle.std.specs.Prelude.{◌≡◌, ℕ, List, Option, Some, option_map, IsTrue}
use Rattle.std.specs.List.{AllByRecursion, Contains}
use Rattle.grid_outside.specs.Files.{File, Files, file_at, finished}
use Rattle.grid_model.specs.Digests.{HasDigest}
use Rattle.grid_model.specs.Rows.{Cat, object, resource}
use Rattle.grid_model.specs.declared.deltas.ObjectRow.{ObjectRow}
use Rattle.grid_model.specs.declared.deltas.ReplicaRow.{ReplicaRow}
use Rattle.grid_model.specs.declared.deltas.OrphanRow.{OrphanRow}

-- the slot of the store behind the leaf with this id
abbrev pub leaf_slot : Cat → ℕ → Option ℕ
leaf_slot c id = option_map (λ r. r.slot) (resource c id)

-- the size and the digest of a replica are those of its object
pub record IsLikeObject (c : Cat) (r : ReplicaRow) : Type 0 where
  pub row : ObjectRow
  pub there : object c r.object ≡ Some row
  pub size : r.size ≡ row.size
  pub digest : r.digest ≡ row.digest

-- each replica marked good has them
abbrev pub HasGoodRows : Cat → Type 0
HasGoodRows c = AllByRecursion (λ r. IsTrue r.good → IsLikeObject c r) c.replicas

-- it is a finished file with so many bytes and this digest
pub record IsFinishedAs (size : ℕ) (digest : List ℕ) (file : Option File) : Type 0 where
  pub bytes : List ℕ
  pub is : file ≡ finished bytes
  pub has : HasDigest size digest bytes

-- a row that may name a file
pub data Naming : Type 0 where
  by_replica : ReplicaRow → Naming
  by_orphan : OrphanRow → Naming

-- the row is there, and names the file of this number in this slot
abbrev pub Names : Cat → ℕ → ℕ → Naming → Type 0
Names c slot name (by_replica r) = Contains c.replicas r × (r.vault ≡ name) × (leaf_slot c r.leaf ≡ Some slot)
Names c slot name (by_orphan o) = Contains c.orphans o × (o.vault ≡ name) × (o.slot ≡ slot)

-- one row names it, and no other
pub record IsNamed (c : Cat) (slot name : ℕ) : Type 0 where
  pub row : Naming
  pub names : Names c slot name row
  pub only : (other : Naming) → Names c slot name other → other ≡ row

-- The files of the store in this slot: that of each good replica there is finished with its size and digest, and each
-- file is named.
pub record IsWhole (c : Cat) (slot : ℕ) (files : Files) : Type 0 where
  pub good : AllByRecursion (λ r. IsTrue r.good → leaf_slot c r.leaf ≡ Some slot → IsFinishedAs r.size r.digest (file_at files r.vault)) c.replicas
  pub accounted : (name : ℕ) (file : File) → file_at files name ≡ Some file → IsNamed c slot name
