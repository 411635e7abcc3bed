use Rattle.std.proofs.Common.{subst}
use Rattle.std.specs.Prelude.{filter}
use Rattle.grid_model.specs.Names.{same_text, text_cmp}
use Rattle.grid_model.specs.Rows.{Cat}
use Rattle.grid_model.proofs.Comparing.{text_cmp_total}
use Rattle.grid_tables.specs.IndexKeys.{AreKeysOf}
use Rattle.grid_tables.specs.KeyOrders.{valued_of, valued_cmp}
use Rattle.grid_tables.specs.Probes.{tied}
use Rattle.grid_tables.proofs.KeyLookUps.{keys_alike}
use Rattle.grid_tables.proofs.tables.Tables.items_with.Goals as goal

pub returns : goal.returns
returns c =
    subst (λ (d : Cat). AreKeysOf valued_of valued_cmp (filter (λ t. same_text t.attribute c.args.attribute.now) d.triples) c.at.result) c.self.view_is
    (keys_alike valued_of valued_cmp (λ t. text_cmp c.args.attribute.now t.attribute) (λ t. same_text t.attribute c.args.attribute.now)
    (λ t. tied text_cmp_total c.args.attribute.now t.attribute) c.self.inside.triples c.at.result c.at.ensures.keys)
