use Rattle.std.proofs.Common.{◌≡◌, ◌==◌, ℕ, ap, ◌∙◌, sym}
use Rattle.std.specs.Prelude.{not, ◌&&◌}
use Rattle.std.specs.List.{list_any}
use Rattle.grid_model.specs.Names.{Text}
use Rattle.grid_model.specs.Rows.{Cat}
use Rattle.grid_model.specs.Applying.{is_object_named}
use Rattle.grid_model.specs.declared.deltas.ObjectRow.{ObjectRow}
use Rattle.grid_tables.specs.Indexes.{is_placed}
use Rattle.grid_tables.proofs.Finding.{any_alike, turned}
use Rattle.grid_tables.proofs.tables.Tables.is_other_object_named.Goals as goal

as_other : (parent : ℕ) (name : Text) (id : ℕ) (inside now : Cat) → inside ≡ now → list_any (λ r. is_placed (λ (r : ObjectRow). r.collection) (λ r. r.name) parent name r && not (r.id == id)) inside.objects
    ≡ list_any (λ o. not (o.id == id) && is_object_named parent name o) now.objects
as_other parent name id inside now view =
    any_alike _ _ (λ (r : ObjectRow). turned (is_object_named parent name r) (not (r.id == id))) inside.objects
    ∙ ap (λ (t : Cat). list_any (λ o. not (o.id == id) && is_object_named parent name o) t.objects) view

pub returns-in-Some : goal.returns-in-Some
returns-in-Some c = sym (c.in-Some.ensures.alone (λ r. not (r.id == c.args.id))) ∙ as_other c.args.parent c.args.name.now c.args.id _ _ c.self.view_is

pub returns-in-None : goal.returns-in-None
returns-in-None c = sym (c.in-None.ensures.alone (λ r. not (r.id == c.args.id))) ∙ as_other c.args.parent c.args.name.now c.args.id _ _ c.self.view_is
