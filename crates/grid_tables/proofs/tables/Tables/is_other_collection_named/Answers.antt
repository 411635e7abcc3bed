use Rattle.std.proofs.Common.{◌≡◌, ◌==◌, ℕ, ap, ◌∙◌, sym}
use Rattle.std.specs.Prelude.{not, ◌&&◌}
use Rattle.std.specs.List.{list_any}
use Rattle.grid_model.specs.Names.{Text, same_text}
use Rattle.grid_model.specs.Rows.{Cat}
use Rattle.grid_model.specs.Applying.{is_child_named}
use Rattle.grid_model.specs.declared.deltas.CollectionRow.{CollectionRow}
use Rattle.grid_tables.specs.Indexes.{is_placed}
use Rattle.grid_tables.proofs.Finding.{any_alike, other_first}
use Rattle.grid_tables.proofs.tables.Tables.is_other_collection_named.Goals as goal

as_other : (parent : ℕ) (name : Text) (id : ℕ) (inside now : Cat) → inside ≡ now → list_any (λ r. is_placed (λ (r : CollectionRow). r.parent) (λ r. r.name) parent name r && (not (r.id == id) && not (r.id == 0))) inside.collections
    ≡ list_any (λ o. not (o.id == id) && is_child_named parent name o) now.collections
as_other parent name id inside now view =
    any_alike _ _ (λ (r : CollectionRow). other_first (r.parent == parent) (not (r.id == 0)) (same_text r.name name) (not (r.id == id))) inside.collections
    ∙ ap (λ (t : Cat). list_any (λ o. not (o.id == id) && is_child_named parent name o) t.collections) view

pub returns-in-Some : goal.returns-in-Some
returns-in-Some c = c.is_other_child.ensures ∙ sym (c.in-Some.ensures.alone (λ r. not (r.id == c.args.id) && not (r.id == 0))) ∙ as_other c.args.parent c.args.name.now c.args.id _ _ c.self.view_is

pub returns-in-None : goal.returns-in-None
returns-in-None c = sym (c.in-None.ensures.alone (λ r. not (r.id == c.args.id) && not (r.id == 0))) ∙ as_other c.args.parent c.args.name.now c.args.id _ _ c.self.view_is
