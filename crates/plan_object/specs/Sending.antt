-- The file that a get reads.
use Rattle.std.specs.Prelude.{◌≡◌, IsTrue, Option, Some, Result, Ok, Err}
use Rattle.std.specs.List.{Contains}
use Rattle.grid_model.specs.Names.{Text, Path}
use Rattle.grid_model.specs.Rows.{Cat, object}
use Rattle.grid_model.specs.RowGrids.{grid_of, object_of}
use Rattle.grid_model.specs.Trees.{candidates}
use Rattle.grid_model.specs.Whole.{leaf_slot}
use Rattle.grid_model.specs.Operations.Replicas.{Source, first_of, got}
use Rattle.grid_model.specs.declared.deltas.ObjectRow.{ObjectRow}
use Rattle.grid_model.specs.declared.deltas.ReplicaRow.{ReplicaRow}
use Rattle.grid_model.specs.declared.plans.OldFile.{OldFile}
use Rattle.grid_model.specs.declared.refusal.Refusal.{Refusal}

-- The file that a get reads is that of a good replica which the rows name, with what its object records.
pub record Sends (c : Cat) (user : Text) (p : Path) (asked : Option Text) (file : OldFile) : Type 0 where
  pub from : Source
  pub is : got (grid_of c) user p asked ≡ Ok from
  pub number : file.number ≡ from.number
  pub slot : file.slot ≡ from.slot
  pub size : file.size ≡ from.object.size
  pub digest : file.digest ≡ from.object.digest
  -- the row that names the file
  pub row : ReplicaRow
  pub there : Contains c.replicas row
  pub good : IsTrue row.good
  pub vault_is : row.vault ≡ file.name
  pub slot_is : leaf_slot c row.leaf ≡ Some file.slot
  -- the row of its object
  pub object_row : ObjectRow
  pub of_object : object c row.object ≡ Some object_row
  pub size_row : file.size ≡ object_row.size
  pub digest_row : file.digest ≡ object_row.digest

-- The file is that of the first replica that a get of this object reads, which the rows name.
pub record ReadsFirst (c : Cat) (o : ObjectRow) (asked : Option Text) (file : OldFile) : Type 0 where
  pub is : first_of (grid_of c) (object_of c o) (candidates (grid_of c).resources (object_of c o) asked)
      ≡ Ok (record { object = object_of c o; number = file.number; slot = file.slot })
  pub size : file.size ≡ o.size
  pub digest : file.digest ≡ o.digest
  pub row : ReplicaRow
  pub there : Contains c.replicas row
  pub of_object : row.object ≡ o.id
  pub good : IsTrue row.good
  pub vault_is : row.vault ≡ file.name
  pub slot_is : leaf_slot c row.leaf ≡ Some file.slot

-- what looking for that file gives
abbrev pub FindsFile : Cat → ObjectRow → Option Text → Result OldFile Refusal → Type 0
FindsFile c o asked (Ok file) = ReadsFirst c o asked file
FindsFile c o asked (Err refusal) = first_of (grid_of c) (object_of c o) (candidates (grid_of c).resources (object_of c o) asked) ≡ Err refusal

-- what planning a get gives: the file, or why it is refused
abbrev pub PlansGet : Cat → Text → Path → Option Text → Result OldFile Refusal → Type 0
PlansGet c user p asked (Ok file) = Sends c user p asked file
PlansGet c user p asked (Err refusal) = got (grid_of c) user p asked ≡ Err refusal
