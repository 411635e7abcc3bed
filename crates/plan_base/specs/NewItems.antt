-- The access that a new item is made with, as changes of rows (iRODS Primer, access control and inheritance).
use Rattle.std.specs.Prelude.{ℕ, Bool, true, false, not, ◌==◌, List, [], ◌∷◌, ◌++◌, map, filter, option_map, unwrap_or}
use Rattle.grid_model.specs.Rows.{Cat, collection, access_of}
use Rattle.grid_model.specs.declared.deltas.Delta.{Delta}
use Rattle.grid_model.specs.declared.deltas.Delta.TheVariants as delta
use Rattle.grid_model.specs.declared.deltas.EntryRow.{EntryRow}
use Rattle.grid_model.specs.declared.grid.ItemKind.{ItemKind}
use Rattle.grid_model.specs.declared.grid.ItemKind.TheVariants as kind
use Rattle.grid_model.specs.declared.grid.Level.TheVariants.{Own}

-- the collection with this id hands its access on
abbrev pub hands_on : Cat → ℕ → Bool
hands_on c id = unwrap_or (option_map (λ r. r.inherit) (collection c id)) false

-- the entries that it hands on
abbrev pub handed_rows : Cat → ℕ → List EntryRow
handed_rows c id = elim (hands_on c id) [ true ↦ access_of c kind.Collection id | false ↦ [] ]

-- these entries, for an item of this kind and id
abbrev pub handed_to : ItemKind → ℕ → List EntryRow → List Delta
handed_to k id rows = map (λ (e : EntryRow). delta.Entry (record e { kind = k; id = id })) rows

-- the changes that give access at a new item in the collection: what is handed on to others, and own for who makes it
abbrev pub new_entries : Cat → ℕ → ℕ → ItemKind → ℕ → List Delta
new_entries c user collection k id =
    handed_to k id (filter (λ e. not (e.user == user)) (handed_rows c collection))
    ++ delta.Entry (record { kind = k; id = id; user = user; level = Own }) ∷ []
