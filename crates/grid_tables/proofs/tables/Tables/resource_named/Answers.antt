use Rattle.std.proofs.Common.{refl, ap, ◌∙◌}
use Rattle.std.specs.Prelude.{find, option_map}
use Rattle.grid_model.specs.Names.{same_text}
use Rattle.grid_model.specs.Rows.{Cat, resource_cmp}
use Rattle.grid_model.specs.declared.deltas.ResourceRow.{ResourceRow}
use Rattle.grid_tables.specs.declared.index_key.NamedId.{NamedId}
use Rattle.grid_tables.proofs.KeyLookUps.{first_named}
use Rattle.grid_tables.proofs.tables.Tables.resource_named.Goals as goal

pub returns-in-Some : goal.returns-in-Some
returns-in-Some c =
    ap (option_map (λ (k : NamedId). k.id)) c.in-Some.ensures.2
    ∙ first_named (λ (r : ResourceRow). r.id) (λ r. r.name) resource_cmp (λ a b. refl) c.args.name.now c.self.inside.resources c.as_slice-rows.ensures.table.ordered c.in-Some.ensures.0 c.in-Some.ensures.1
    ∙ ap (λ (d : Cat). option_map (λ r. r.id) (find (λ r. same_text r.name c.args.name.now) d.resources)) c.self.view_is

pub returns-in-None : goal.returns-in-None
returns-in-None c =
    ap (option_map (λ (k : NamedId). k.id)) c.in-None.ensures.2
    ∙ first_named (λ (r : ResourceRow). r.id) (λ r. r.name) resource_cmp (λ a b. refl) c.args.name.now c.self.inside.resources c.as_slice-rows.ensures.table.ordered c.in-None.ensures.0 c.in-None.ensures.1
    ∙ ap (λ (d : Cat). option_map (λ r. r.id) (find (λ r. same_text r.name c.args.name.now) d.resources)) c.self.view_is
