use Rattle.std.proofs.Common.{◌<◌, ◌≤◌, length, sym, ap, ◌∙◌, subst, arith}
use Rattle.std.specs.List.Sorted.{IsStrictlySortedBy}
use Rattle.grid_model.specs.Rows.{Cat, collection_cmp}
use Rattle.grid_model.specs.declared.deltas.CollectionRow.{CollectionRow}
use Rattle.grid_tables.specs.Descending.{is_found}
use Rattle.grid_tables.specs.Indexes.{IsPlacedOnce}
use Rattle.grid_tables.proofs.Descending.{path_is, nowhere}
use Rattle.grid_tables.proofs.tables.Tables.located.Goals as goal

pub returns-then-count-names : goal.returns-then-count-names
returns-then-count-names c = λ id.
    let rows = ap (λ (t : Cat). length t.collections) c.self.view_is in
    let many : length c.args.self.now.collections ≤ length c.args.names.now = omega (arith, rows, c.len-count.ensures.len) in
    nowhere c.args.self.now c.args.names.now many id

pub returns : goal.returns
returns c = λ id.
    let rows = ap (λ (t : Cat). length t.collections) c.self.view_is in
    let few : length c.args.names.now < length c.args.self.now.collections = omega (arith, rows, c.len-count.ensures.len) in
    let sorted = subst (λ (t : Cat). IsStrictlySortedBy collection_cmp t.collections) c.self.view_is c.len-count.ensures.table.ordered in
    let once = subst (λ (t : Cat). IsPlacedOnce (λ (r : CollectionRow). r.parent) (λ r. r.name) t.collections) c.self.view_is c.len-count.ensures.once in
    path_is c.args.self.now sorted once c.args.names.now id few ∙ ap (λ o. is_found o id) (sym c.descend.ensures)
