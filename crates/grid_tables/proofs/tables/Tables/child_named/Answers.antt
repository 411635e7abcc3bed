use Rattle.std.proofs.Common.{ℕ, List, Option, sym, ap, ◌∙◌}
use Rattle.std.specs.Prelude.{find, option_map}
use Rattle.grid_model.specs.Rows.{Cat}
use Rattle.grid_model.specs.Applying.{is_child_named}
use Rattle.grid_model.specs.declared.deltas.CollectionRow.{CollectionRow}
use Rattle.grid_tables.proofs.Finding.{no_child, root_only, child_found}
use Rattle.grid_tables.proofs.tables.Tables.child_named.Goals as goal

abbrev ids_of : ℕ → List ℕ → Cat → Option ℕ
ids_of parent name t = option_map (λ r. r.id) (find (λ r. is_child_named parent name r) t.collections)

pub returns-then-row-eq0 : goal.returns-then-row-eq0
returns-then-row-eq0 c =
    sym (ap (option_map (λ (r : CollectionRow). r.id)) (root_only c.self.inside.collections c.len-count.ensures.once c.args.parent c.args.name.now c.in-Some.row.now c.in-Some.ensures.row c.if-row-eq0.true))
    ∙ ap (ids_of c.args.parent c.args.name.now) c.self.view_is

pub returns-else-row-eq0 : goal.returns-else-row-eq0
returns-else-row-eq0 c =
    sym (ap (option_map (λ (r : CollectionRow). r.id)) (child_found c.self.inside.collections c.len-count.ensures.once c.args.parent c.args.name.now c.in-Some.row.now c.in-Some.ensures.row c.if-row-eq0.false))
    ∙ ap (ids_of c.args.parent c.args.name.now) c.self.view_is

pub returns-in-None : goal.returns-in-None
returns-in-None c =
    sym (ap (option_map (λ (r : CollectionRow). r.id)) (no_child c.self.inside.collections c.len-count.ensures.once c.args.parent c.args.name.now c.in-None.ensures.row))
    ∙ ap (ids_of c.args.parent c.args.name.now) c.self.view_is
