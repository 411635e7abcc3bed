-- Collections by themselves.
use Rattle.std.specs.Prelude.{◌==◌, Bool, true, false, length}
use Rattle.grid_model.specs.Names.{is_name}
use Rattle.grid_model.specs.declared.deltas.CollectionRow.{CollectionRow}

-- `/` has no name, and each other collection has one
abbrev pub is_whole_collection : CollectionRow → Bool
is_whole_collection r = elim (r.id == 0) [ true ↦ length r.name == 0 | false ↦ is_name r.name ]
