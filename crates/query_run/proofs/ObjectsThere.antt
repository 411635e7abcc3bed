-- An object that is found is there.
use Rattle.std.proofs.Common.{◌≡◌, ◌==◌, ℕ, true, Some}
use Rattle.grid_model.specs.Rows.{Cat, object, has_object}
use Rattle.grid_model.specs.declared.deltas.ObjectRow.{ObjectRow}
use Rattle.tables_laws.proofs.Rows.{in_from_find, any_from_in}

pub object_is_there : (c : Cat) (id : ℕ) (o : ObjectRow) → object c id ≡ Some o → has_object c id ≡ true
object_is_there c id o found =
    let its = in_from_find (λ (x : ObjectRow). x.id == id) c.objects o found in
    any_from_in (λ (x : ObjectRow). x.id == id) c.objects o its.0 its.1
