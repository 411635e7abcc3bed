-- The row of a new resource.
use Rattle.std.specs.Prelude.{◌≡◌, ℕ, ◌<◌, true, false, IsTrue}
use Rattle.grid_model.specs.Names.{Text}
use Rattle.grid_model.specs.Rows.{Cat, has_resource}
use Rattle.grid_model.specs.Operations.Resources.{can_stand_at}
use Rattle.grid_model.specs.declared.deltas.Delta.TheVariants as delta
use Rattle.grid_model.specs.declared.deltas.ResourceRow.{ResourceRow}
use Rattle.grid_model.specs.declared.grid.ResourceKind.{ResourceKind}
use Rattle.grid_journal.specs.Journal.{can_be_kept}

-- the slot may be had by a resource of this kind, and it is the one that the row has
pub record IsSlotFor (c : Cat) (kind : ResourceKind) (slot own : ℕ) : Type 0 where
  pub fits : can_stand_at kind slot c.stores ≡ true
  pub is : own ≡ slot

-- it has the name, the kind and the slot, and an id that none has, is up and has no parent
pub record IsResourceFor (c : Cat) (name : Text) (kind : ResourceKind) (slot : ℕ) (r : ResourceRow) : Type 0 where
  pub some_id : 0 < r.id
  pub fresh : has_resource c r.id ≡ false
  pub row_is : r ≡ record { id = r.id; name = name; kind = kind; slot = slot; up = true; parent = 0; place = 0 }
  pub spelled : IsTrue (can_be_kept (delta.Resource r))
