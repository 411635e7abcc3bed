use Rattle.std.proofs.Common.{◌≡◌, ◌==◌, ℕ, ap, ◌∙◌, sym}
use Rattle.std.specs.Prelude.{not, ◌&&◌}
use Rattle.std.specs.List.{list_any}
use Rattle.grid_model.specs.Names.{Text, same_text}
use Rattle.grid_model.specs.Rows.{Cat}
use Rattle.grid_model.specs.Applying.{is_child_named}
use Rattle.grid_model.specs.declared.deltas.CollectionRow.{CollectionRow}
use Rattle.grid_tables.specs.Indexes.{is_placed}
use Rattle.grid_tables.proofs.Finding.{any_alike, last_first}
use Rattle.grid_tables.proofs.tables.Tables.has_collection_named.Goals as goal

as_child : (parent : ℕ) (name : Text) (inside now : Cat) → inside ≡ now → list_any (λ r. is_placed (λ (r : CollectionRow). r.parent) (λ r. r.name) parent name r && not (r.id == 0)) inside.collections
    ≡ list_any (λ r. is_child_named parent name r) now.collections
as_child parent name inside now view =
    any_alike _ _ (λ (r : CollectionRow). last_first (r.parent == parent) (same_text r.name name) (not (r.id == 0))) inside.collections
    ∙ ap (λ (t : Cat). list_any (λ r. is_child_named parent name r) t.collections) view

pub returns-in-Some : goal.returns-in-Some
returns-in-Some c = sym (c.in-Some.ensures.alone (λ r. not (r.id == 0))) ∙ as_child c.args.parent c.args.name.now _ _ c.self.view_is

pub returns-in-None : goal.returns-in-None
returns-in-None c = sym (c.in-None.ensures.alone (λ r. not (r.id == 0))) ∙ as_child c.args.parent c.args.name.now _ _ c.self.view_is
