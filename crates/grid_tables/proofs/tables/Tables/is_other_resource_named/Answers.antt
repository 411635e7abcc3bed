use Rattle.std.proofs.Common.{◌==◌, sym, ap, ◌∙◌}
use Rattle.std.specs.Prelude.{not, ◌&&◌}
use Rattle.std.specs.List.{list_any}
use Rattle.std.specs.Ordering.{is_eq}
use Rattle.grid_model.specs.Names.{same_text, text_cmp}
use Rattle.grid_model.specs.Rows.{Cat}
use Rattle.grid_model.proofs.Comparing.{text_cmp_total}
use Rattle.grid_model.specs.declared.deltas.ResourceRow.{ResourceRow}
use Rattle.grid_tables.specs.Probes.{tied}
use Rattle.grid_tables.proofs.KeyLookUps.{any_alike, and_turned}
use Rattle.grid_tables.proofs.tables.Tables.is_other_resource_named.Goals as goal

pub returns : goal.returns
returns c =
    c.has_other_id.ensures ∙ c.at.ensures.any (λ k. not (k.id == c.args.id))
    ∙ sym (any_alike (λ (o : ResourceRow). not (o.id == c.args.id) && same_text o.name c.args.name.now) (λ o. is_eq (text_cmp c.args.name.now o.name) && not (o.id == c.args.id)) c.self.inside.resources
    (λ o. and_turned (not (o.id == c.args.id)) (same_text o.name c.args.name.now) (is_eq (text_cmp c.args.name.now o.name)) (tied text_cmp_total c.args.name.now o.name)))
    ∙ ap (λ (d : Cat). list_any (λ o. not (o.id == c.args.id) && same_text o.name c.args.name.now) d.resources) c.self.view_is
