use Rattle.std.proofs.Common.{◌≡◌, ◌==◌, true, sym, ap, ◌∙◌, subst}
use Rattle.std.specs.Prelude.{not, ◌&&◌}
use Rattle.std.specs.List.{list_any}
use Rattle.grid_model.specs.Applying.{collection_fits}
use Rattle.grid_model.specs.Rows.{Cat, IsTable, collection_cmp}
use Rattle.grid_model.specs.declared.deltas.CollectionRow.{CollectionRow}
use Rattle.grid_tables.specs.Indexes.{is_placed}
use Rattle.grid_tables.specs.Roots.{is_whole_collection}
use Rattle.grid_tables.proofs.Finding.{free_collection}
use Rattle.grid_tables.proofs.tables.Tables.apply_collection.Goals as goal

pub put-requires-clause-free : goal.put-requires-clause-free
put-requires-clause-free c =
    let fits : collection_fits c.args.self.now c.args.row ≡ true = sym c.collection_fits.ensures ∙ c.if-not-collection_fits.false in
    ap (λ (t : Cat). list_any (λ o. is_placed (λ (x : CollectionRow). x.parent) (λ x. x.name) c.args.row.parent c.args.row.name o && not (o.id == c.args.row.id)) t.collections) c.self.view_is
    ∙ free_collection c.args.self.now c.args.row (subst (λ (t : Cat). IsTable collection_cmp is_whole_collection t.collections) c.self.view_is c.len-count.ensures.table) fits
