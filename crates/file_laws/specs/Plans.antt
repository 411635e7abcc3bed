-- Which changes of the catalogue may go with the making of files. The rules are this project's own.
use Rattle.std.specs.Prelude.{◌≡◌, ◌≢◌, ℕ, ◌<◌, Bool, true, false, All, List, [], Some, Ok, IsTrue}
use Rattle.std.specs.List.{AllByRecursion, Contains, list_all}
use Rattle.grid_model.specs.Digests.{HasDigest}
use Rattle.grid_model.specs.Names.{Text}
use Rattle.grid_model.specs.Rows.{Cat}
use Rattle.grid_model.specs.Applying.{apply_all}
use Rattle.grid_model.specs.Whole.{leaf_slot, HasGoodRows, IsNamed}
use Rattle.grid_model.specs.declared.deltas.Delta.{Delta}
use Rattle.grid_model.specs.declared.deltas.Delta.TheVariants as delta
use Rattle.grid_model.specs.declared.deltas.ReplicaRow.{ReplicaRow}
use Rattle.grid_model.specs.declared.plans.NewFile.{NewFile}
use Rattle.grid_model.specs.declared.plans.OldFile.{OldFile}
use Rattle.grid_model.specs.declared.plans.Plan.{Plan}
use Rattle.grid_journal.specs.Journal.{can_be_kept}
use Rattle.grid_vault.specs.Copying.{AreNamedApart}
use Rattle.grid_vault.specs.Vault.{IsAmong}

-- a good replica in this slot has the same file as this one, of the same size and digest
pub record HadFile (c : Cat) (slot : ℕ) (r : ReplicaRow) : Type 0 where
  pub row : ReplicaRow
  pub there : Contains c.replicas row
  pub good : IsTrue row.good
  pub slot_is : leaf_slot c row.leaf ≡ Some slot
  pub vault_is : row.vault ≡ r.vault
  pub size_is : row.size ≡ r.size
  pub digest_is : row.digest ≡ r.digest

-- the file of a good replica was a good one's before, or is one of these that were made of this body
pub data HasFile (c : Cat) (made : List NewFile) (body : Text) (slot : ℕ) (r : ReplicaRow) : Type 0 where
  old_file : HadFile c slot r → HasFile c made body slot r
  new_file : IsAmong made slot r.vault → HasDigest r.size r.digest body → HasFile c made body slot r

-- The one catalogue may take the place of the other where these files were made of this body: each file that one row named is
-- named by one row, each good replica has its file, and good replicas are as their objects.
pub record Turns (made : List NewFile) (body : Text) (c d : Cat) : Type 0 where
  pub rows : HasGoodRows c → HasGoodRows d
  pub good : (slot : ℕ) → AllByRecursion (λ r. IsTrue r.good → leaf_slot d r.leaf ≡ Some slot → HasFile c made body slot r) d.replicas
  pub named : (slot name : ℕ) → IsNamed c slot name → IsNamed d slot name

-- The plan may be carried out where main has the first catalogue and memory the second, over so many stores, with this body:
-- its first changes make a row for each file that is to be made, and its last ones are in order once these files are there.
pub record IsPlan (kept cat : Cat) (stores : ℕ) (plan : Plan) (body : Text) : Type 0 where
  -- the catalogue after the first changes, and after the last ones
  pub mid : Cat
  pub end : Cat
  pub first : apply_all cat plan.before ≡ Ok mid
  pub then : apply_all mid plan.after ≡ Ok end
  pub spelled_first : IsTrue (list_all can_be_kept plan.before)
  pub spelled_then : IsTrue (list_all can_be_kept plan.after)
  pub slots : All (λ f. f.slot < stores) plan.files
  pub begins : Turns [] [] kept mid
  pub named : (slot name : ℕ) → IsAmong plan.files slot name → IsNamed mid slot name
  pub ends : Turns plan.files body mid end

-- The plan may be carried out where main has the first catalogue and memory the second, over so many stores, with this file that
-- is copied: its first changes make a row for each file that is to be made, and its last ones are in order once these files, if
-- there are any, have bytes of the recorded size and digest.
pub record IsCopyPlan (kept cat : Cat) (stores : ℕ) (plan : Plan) (from : OldFile) : Type 0 where
  -- the catalogue after the first changes, and after the last ones
  pub mid : Cat
  pub end : Cat
  pub first : apply_all cat plan.before ≡ Ok mid
  pub then : apply_all mid plan.after ≡ Ok end
  pub spelled_first : IsTrue (list_all can_be_kept plan.before)
  pub spelled_then : IsTrue (list_all can_be_kept plan.after)
  pub slots : All (λ f. f.slot < stores) plan.files
  pub apart : AreNamedApart plan.files
  pub other : ¬ IsAmong plan.files from.slot from.name
  pub begins : Turns [] [] kept mid
  pub named : (slot name : ℕ) → IsAmong plan.files slot name → IsNamed mid slot name
  pub ends : (body : Text) → (plan.files ≢ [] → HasDigest from.size from.digest body) → Turns plan.files body mid end

-- whether a change is of rows that name no file
abbrev pub names_no_file : Delta → Bool
names_no_file (delta.Object r) = false
names_no_file (delta.NoObject id) = false
names_no_file (delta.Replica r) = false
names_no_file (delta.NoReplica object number) = false
names_no_file (delta.Resource r) = false
names_no_file (delta.Orphan r) = false
names_no_file (delta.NoOrphan vault) = false
names_no_file other = true
