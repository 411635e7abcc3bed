-- The changes that take the metadata and the access of an item away.
use Rattle.std.specs.Prelude.{ℕ, List, ◌++◌, map}
use Rattle.grid_model.specs.Rows.{Cat, triples_of, access_of}
use Rattle.grid_model.specs.declared.deltas.Delta.{Delta}
use Rattle.grid_model.specs.declared.deltas.Delta.TheVariants as delta
use Rattle.grid_model.specs.declared.deltas.EntryRow.{EntryRow}
use Rattle.grid_model.specs.declared.deltas.TripleRow.{TripleRow}
use Rattle.grid_model.specs.declared.grid.ItemKind.{ItemKind}

abbrev pub no_triples : List TripleRow → List Delta
no_triples rows = map (λ t. delta.NoTriple t) rows

abbrev pub no_entries : List EntryRow → List Delta
no_entries rows = map (λ (e : EntryRow). delta.NoEntry e.kind e.id e.user) rows

-- all that is said of the item, and then all access that it gives
abbrev pub forgotten : Cat → ItemKind → ℕ → List Delta
forgotten c k id = no_triples (triples_of c k id) ++ no_entries (access_of c k id)
